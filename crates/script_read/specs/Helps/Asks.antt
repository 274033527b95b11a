-- The line of a request as it mostly stands: it begins with its word and a blank.
use Rattle.std.specs.Prelude.{◌≡◌, ◌<◌, ◌+◌, ℕ, Bool, true, List, ◌∷◌, ◌++◌, codes, length}
use Rattle.std.specs.List.{list_all}
use Rattle.std.specs.Str.{bytes_eq}
use Rattle.script_read.specs.Helps.Checked.{AreChecked}
use Rattle.script_read.specs.ItemLines.{ArePassed, items_from}
use Rattle.script_read.specs.Lines.{word_of}
use Rattle.text_parts.specs.Numbered.{Line, text_lines}

-- a line begins with `ask` and a blank
pub record BeginsAsk (line : List ℕ) : Type 0 where
  pub rest : List ℕ
  pub is : line ≡ codes "ask " ++ rest

-- the first line of a text does, and this stands behind it
pub record IsAskedLine (text line after : List ℕ) : Type 0 where
  pub lines : text_lines text ≡ line ∷ text_lines after
  pub begins : BeginsAsk line
  pub shorter : length after < length text

-- it is the line of a request
abbrev pub is_asked : Line → Bool
is_asked line = bytes_eq (word_of line.text) (codes "ask")

-- lines of requests stand in front of others
pub record AreBehindAsked (lines others : List Line) : Type 0 where
  pub asked : List Line
  pub parts : lines ≡ asked ++ others
  pub are_asked : list_all is_asked asked ≡ true

-- so many requests stand in front of a text that was checked, and this stands behind them
pub record AreAskedBefore (json : Bool) (number count : ℕ) (text after : List ℕ) : Type 0 where
  pub passed : ArePassed count (items_from json number text) (items_from json (number + count) after)
  pub checked : AreChecked json (number + count) after
