-- The lines of an edit's changes, sign by sign.
use Rattle.std.specs.Prelude.{ℕ, List, [], ◌∷◌, ◌++◌, codes}
use Rattle.std.specs.Option.{option_map_or}
use Rattle.perm_base.specs.FieldLine.{printed}
use Rattle.perm_base.specs.TableNames.{name_of}
use Rattle.perm_base.specs.declared.shapes.TableId.{TableId}
use Rattle.policy_table.specs.Tables.{Fields}

-- the line of a rule behind a sign; a table without a name has none
abbrev pub signed_lines : List ℕ → TableId → Fields → List (List ℕ)
signed_lines sign table rule = option_map_or (λ (name : List ℕ). (sign ++ printed (name ∷ rule)) ∷ []) (name_of table) []

-- a further line of an answer
abbrev pub further_line : List ℕ → List ℕ
further_line line = codes "\n  " ++ line
