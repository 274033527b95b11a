-- The places of the rules that have a text in a column, counted from 0 and rising.
use Rattle.std.specs.Prelude.{ℕ, ◌+◌, ◌<◌, Bool, false, List, [], ◌∷◌, length, All, if◌then◌else◌, slice_get}
use Rattle.std.specs.Option.{option_map_or}
use Rattle.std.specs.Str.{bytes_eq}
use Rattle.policy_table.specs.Tables.{Fields}

-- the rule has this text in the column
abbrev pub has_text : ℕ → List ℕ → Fields → Bool
has_text column text rule = option_map_or (bytes_eq text) (slice_get rule column) false

-- the places of the rules with the text, where the first rule stands at this place
abbrev pub places_from : ℕ → ℕ → List ℕ → List Fields → List ℕ
places_from first column text [] = []
places_from first column text (rule ∷ rules) =
    if has_text column text rule then first ∷ places_from (first + 1) column text rules else places_from (first + 1) column text rules

-- the places of the rules with the text
abbrev pub places_of : ℕ → List ℕ → List Fields → List ℕ
places_of column text rules = places_from 0 column text rules

-- each rule has the column
abbrev pub HaveColumn : ℕ → List Fields → Type 0
HaveColumn column rules = All (λ (rule : Fields). column < length rule) rules

-- the rule at a place has this text in the column
abbrev pub has_text_at : ℕ → List ℕ → List Fields → ℕ → Bool
has_text_at column text rules place = option_map_or (has_text column text) (slice_get rules place) false
