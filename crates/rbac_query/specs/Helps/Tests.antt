-- The tests by which rules are kept.
use Rattle.std.specs.Prelude.{◌≡◌, ℕ, Bool, true, ◌&&◌, ◌||◌, List, [], Option, Some, None, get_or}
use Rattle.std.specs.Borrow.{Bor}
use Rattle.std.specs.List.{list_any}
use Rattle.std.specs.Str.{bytes_eq}
use Rattle.policy_table.specs.Tables.{Fields}

-- the references show just these texts
abbrev pub tells : List (Bor (List ℕ)) → List (List ℕ) → Type 0
tells keys texts = (text : List ℕ) → list_any (λ (key : Bor (List ℕ)). bytes_eq text key.now) keys ≡ list_any (bytes_eq text) texts

-- the text is the name or is shown
abbrev pub is_in : List ℕ → List (Bor (List ℕ)) → List ℕ → Bool
is_in name roles text = bytes_eq name text || list_any (λ (key : Bor (List ℕ)). bytes_eq text key.now) roles

-- the rule has the domain in the column, where there are both
abbrev pub is_of : Option ℕ → Option (List ℕ) → Fields → Bool
is_of (Some column) (Some domain) rule = bytes_eq domain (get_or rule column [])
is_of (Some column) None rule = true
is_of None domain rule = true

-- the rule's subject is the name or is shown, and the rule is of the domain
abbrev pub is_counted : List ℕ → List (Bor (List ℕ)) → ℕ → Option ℕ → Option (List ℕ) → Fields → Bool
is_counted name roles subject column domain rule = is_in name roles (get_or rule subject []) && is_of column domain rule
