use Rattle.std.proofs.Common.{not, rules}
use Rattle.policy_table.specs.Tables.{Fields, rows, stands}
use Rattle.policy_table.specs.declared.change.Change.TheVariants.{Insert}
use Rattle.edit_calls.proofs.EditLemmas.{unless_none}
use Rattle.edit_calls.proofs.edits.EditMaker.add_absent.Goals as goal

pub returns : goal.returns
returns c =
    unless_none (λ (rule : Fields). not (stands rule (rows c.args.self.now.tables.now.policy c.args.table))) (Insert c.args.table) _ _ _ _ (search rules) (search rules) c.unless_empty.ensures
