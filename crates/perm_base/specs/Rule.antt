-- Which fault keeps texts from being a rule.
use Rattle.std.specs.Prelude.{◌≡◌, ℕ, ◌+◌, List, position, Option, Some, option_map}
use Rattle.perm_base.specs.LineEnds.{has_line_end}
use Rattle.perm_base.specs.declared.rule.RuleFault.{RuleFault}
use Rattle.perm_base.specs.declared.rule.RuleFault.TheVariants.{LineEnd}

-- the first of the texts that holds CR or LF, counted from 1
abbrev pub line_end_of : List (List ℕ) → Option ℕ
line_end_of fields = option_map (λ (at : ℕ). at + 1) (position has_line_end fields)

-- the fault names that text
abbrev pub IsFirstLineEnd : List (List ℕ) → RuleFault → Type 0
IsFirstLineEnd fields (LineEnd field) = line_end_of fields ≡ Some field
