-- Names that are nearly written right.
use Rattle.std.specs.Prelude.{ℕ, ◌==◌, ◌||◌, Bool, true, false, List, [], ◌∷◌, Option, codes, find, map, if◌then◌else◌}
use Rattle.std.specs.Str.{bytes_eq}
use Rattle.matcher_read.specs.Calls.{functions, name_of}

-- no byte, and one
abbrev pub is_empty : List ℕ → Bool
is_empty [] = true
is_empty (byte ∷ bytes) = false

abbrev pub is_one : List ℕ → Bool
is_one [] = false
is_one (byte ∷ bytes) = is_empty bytes

-- in texts whose first bytes differ, and behind which these stand, one byte is put in, taken away or another
abbrev pub is_near_rest : (text behind other others : List ℕ) → Bool
is_near_rest text behind other others = bytes_eq behind others || bytes_eq text others || bytes_eq behind other

-- one byte is put in, taken away or another
abbrev pub is_near : List ℕ → List ℕ → Bool
is_near [] other = is_one other
is_near (byte ∷ bytes) [] = is_empty bytes
is_near (byte ∷ bytes) (next ∷ others) = if byte == next then is_near bytes others else is_near_rest (byte ∷ bytes) bytes (next ∷ others) others

-- the functions of matchers
abbrev pub called_names : List (List ℕ)
called_names = map name_of functions

-- the first of these names that a text nearly is
abbrev pub near_name : List ℕ → List (List ℕ) → Option (List ℕ)
near_name text names = find (is_near text) names

-- the sections of a model
abbrev pub section_names : List (List ℕ)
section_names = codes "request_definition" ∷ codes "policy_definition" ∷ codes "role_definition" ∷ codes "policy_effect" ∷ codes "matchers" ∷ []
