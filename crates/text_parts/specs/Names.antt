-- Identifiers (Casbin, model syntax).
use Rattle.std.specs.Prelude.{ℕ, ◌==◌, ◌||◌, ◌&&◌, Bool, false, List, [], ◌∷◌}
use Rattle.std.specs.Char.{is_ascii_alphabetic, is_ascii_alphanumeric}
use Rattle.std.specs.List.{list_all}

-- a letter of ASCII or `_`
abbrev pub is_letter : ℕ → Bool
is_letter byte = is_ascii_alphabetic byte || byte == 95

-- a letter, a digit or `_`
abbrev pub is_word : ℕ → Bool
is_word byte = is_ascii_alphanumeric byte || byte == 95

-- a letter or `_`, and then letters, digits or `_`
abbrev pub is_identifier : List ℕ → Bool
is_identifier [] = false
is_identifier (first ∷ others) = is_letter first && list_all is_word others
