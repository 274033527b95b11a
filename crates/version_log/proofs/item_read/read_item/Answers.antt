use Rattle.std.proofs.Common.{◌≡◌, ◌∷◌, rules}
use Rattle.perm_base.specs.declared.shapes.TableId.{TableId}
use Rattle.policy_table.specs.Tables.{Fields}
use Rattle.version_log.specs.EditText.{sign_byte}
use Rattle.version_log.specs.Helps.Items.{IsSpelled}
use Rattle.version_log.proofs.SpellingLemmas.{signed_nothing}
use Rattle.version_log.proofs.item_read.read_item.Goals as goal

pub returns-in-None : goal.returns-in-None
returns-in-None c = λ utf8.
    let none : (table : TableId) (rule : Fields) → ¬ (IsSpelled c.in-Some.text.now table rule) = search rules in
    let parts : c.args.line.now ≡ sign_byte c.in-Some.sign ∷ 32 ∷ c.in-Some.text.now = search rules in
    signed_nothing c.args.line.now c.in-Some.text.now c.in-Some.sign parts none
