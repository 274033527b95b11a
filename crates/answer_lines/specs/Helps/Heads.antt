-- The line of a verdict up to its rule or its fault.
use Rattle.std.specs.Prelude.{ℕ, List, ◌++◌, Option, codes, decimal}
use Rattle.policy_table.specs.Tables.{Fields}
use Rattle.effect_fold.specs.declared.fault.Fault.{Fault}
use Rattle.answer_lines.specs.LineText.{fault_text, place_text, rule_text}

-- a word, a version, and the place of a row or that there is none
abbrev pub head_text : List ℕ → ℕ → Option ℕ → List ℕ
head_text word version row = word ++ decimal version ++ codes " " ++ place_text row

-- and with the rule that stands there
abbrev pub judged_text : List ℕ → ℕ → Option ℕ → Option Fields → List ℕ
judged_text word version row rule = word ++ decimal version ++ codes " " ++ rule_text row rule

-- or with why the evaluation failed
abbrev pub failed_text : ℕ → Option ℕ → Fault → List ℕ
failed_text version row failed = codes "fault @" ++ decimal version ++ codes " " ++ place_text row ++ codes " " ++ fault_text failed
