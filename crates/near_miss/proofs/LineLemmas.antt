-- What stands at a place of the lists that lines are made of.
use Rattle.std.proofs.Common.{◌≡◌, ℕ, zero, suc, List, [], ◌∷◌, Some, None, refl, ap}
use Rattle.std.specs.Prelude.{slice_get}
use Rattle.std.specs.List.{slice_index_or}
use Rattle.model_conf.specs.ModelText.{ModelParts}
use Rattle.policy_table.specs.Tables.{Fields}
use Rattle.near_miss.specs.Lines.{part_texts}

pub text_there : (parts : List ModelParts) (at : ℕ) (part : ModelParts) → slice_get parts at ≡ Some part → slice_index_or (part_texts parts) at [] ≡ part.matcher_text
text_there [] at part e = absurd cc
text_there (p ∷ ps) zero part e = let same : p ≡ part = cc in ap (λ (m : ModelParts). m.matcher_text) same
text_there (p ∷ ps) (suc at) part e = text_there ps at part e

pub text_nowhere : (parts : List ModelParts) (at : ℕ) → slice_get parts at ≡ None → slice_index_or (part_texts parts) at [] ≡ []
text_nowhere [] at e = refl
text_nowhere (p ∷ ps) zero e = absurd cc
text_nowhere (p ∷ ps) (suc at) e = text_nowhere ps at e

pub rule_there : (rules : List Fields) (at : ℕ) (rule : Fields) → slice_get rules at ≡ Some rule → slice_index_or rules at [] ≡ rule
rule_there [] at rule e = absurd cc
rule_there (r ∷ rs) zero rule e = cc
rule_there (r ∷ rs) (suc at) rule e = rule_there rs at rule e

pub rule_nowhere : (rules : List Fields) (at : ℕ) → slice_get rules at ≡ None → slice_index_or rules at [] ≡ []
rule_nowhere [] at e = refl
rule_nowhere (r ∷ rs) zero e = absurd cc
rule_nowhere (r ∷ rs) (suc at) e = rule_nowhere rs at e
