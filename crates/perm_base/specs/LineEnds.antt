-- Texts without line ends, as the fields of a rule are.
use Rattle.std.specs.Prelude.{◌≡◌, ℕ, ◌<◌, ◌^◌, ◌==◌, Bool, false, ◌||◌, List, length}
use Rattle.std.specs.List.{list_any}

-- the byte is CR or LF
abbrev pub is_line_end : ℕ → Bool
is_line_end byte = byte == 13 || byte == 10

-- the text holds CR or LF
abbrev pub has_line_end : List ℕ → Bool
has_line_end text = list_any is_line_end text

-- fewer than 2^32 texts, none of which holds CR or LF
pub record AreFields (fields : List (List ℕ)) : Type 0 where
  pub few : length fields < 2 ^ 32
  pub whole_lines : list_any has_line_end fields ≡ false
