-- Texts as parts between separators.
use Rattle.std.specs.Prelude.{◌≡◌, ◌≢◌, ℕ, ◌+◌, ◌==◌, List, slice_index}
use Rattle.std.specs.List.{slice_split}
use Rattle.ip_match.specs.Addresses.{colon}

-- the parts of a text between the separators, one more than there are separators
abbrev pub parts_of : ℕ → List ℕ → List (List ℕ)
parts_of separator text = slice_split (λ byte. byte == separator) text

-- no colon stands right behind another
abbrev pub HasNoGap : List ℕ → Type 0
HasNoGap text = (k : ℕ) → slice_index text k ≡ colon → slice_index text (k + 1) ≢ colon
