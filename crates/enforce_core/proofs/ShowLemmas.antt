-- Rules by their numbers, and their texts.
use Rattle.std.proofs.Common.{◌≡◌, ℕ, ◌-◌, Bool, List, Option, None, option_map, slice_get, sym, ap, ◌∙◌}
use Rattle.std.specs.Prelude.{if◌then◌else◌}
use Rattle.std.proofs.lemmas.Bool.{eq-eqb, ne_eqb}
use Rattle.perm_base.specs.FieldLine.{printed}
use Rattle.perm_base.specs.declared.shapes.TableId.TheVariants.{P}
use Rattle.policy_table.specs.Tables.{Fields, Policy, rows}
use Rattle.enforce_core.specs.Shown.{rule_of_number, rule_text}

-- none has the number 0
pub text_zero : (policy : Policy) (row : ℕ) → row ≡ 0 → None ≡ rule_text policy row
text_zero policy row zeroth = ap (λ (b : Bool). option_map printed (if b then None else slice_get (rows policy P) (row - 1))) (sym (eq-eqb row 0 zeroth))

-- another number has the rule at its place
rule_there : (policy : Policy) (row : ℕ) (found : Option Fields) → (row ≡ 0 → ⊥) → found ≡ slice_get (rows policy P) (row - 1) → found ≡ rule_of_number policy row
rule_there policy row found some is = is ∙ ap (λ (b : Bool). if b then None else slice_get (rows policy P) (row - 1)) (sym (ne_eqb row 0 some))

pub text_there : (policy : Policy) (row : ℕ) (found : Option Fields) (text : Option (List ℕ)) → (row ≡ 0 → ⊥) → found ≡ slice_get (rows policy P) (row - 1) → text ≡ option_map printed found → text ≡ rule_text policy row
text_there policy row found text some is told = told ∙ ap (option_map printed) (rule_there policy row found some is)
