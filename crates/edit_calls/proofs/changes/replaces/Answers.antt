use Rattle.std.proofs.Common.{[], refl, rules, arith}
use Rattle.std.proofs.lemmas.Option.{slice_get_read}
use Rattle.policy_table.specs.Tables.{Fields}
use Rattle.policy_table.specs.declared.change.Change.TheVariants.{Replace}
use Rattle.edit_calls.proofs.EditLemmas.{made_next}
use Rattle.edit_calls.proofs.changes.replaces.Goals as goal

pub loop-pair-preserved : goal.loop-pair-preserved
loop-pair-preserved c =
    let i = c.loop-pair.pair-index in
    let here = slice_get_read c.args.pairs.now _ i c.pair-item.result refl (omega arith) c.pair-item.is in
    made_next _ i _ here (λ (pair : Fields × Fields). Replace c.args.table pair.0 pair.1) [] _ _ c.loop-pair.invariant (search rules)
