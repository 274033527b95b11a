use Rattle.std.proofs.Common.{◌+◌, ◌∙◌, List, ap, arith, sym}
use Rattle.std.proofs.lemmas.List.{take_all}
use Rattle.policy_table.specs.Tables.{Fields}
use Rattle.role_graph.specs.Groups.{times}
use Rattle.role_graph.specs.Helps.Edits.{standing}
use Rattle.role_graph.proofs.removal.remove_all.Goals as goal

pub loop-at-init : goal.loop-at-init
loop-at-init c = (omega arith, λ one. omega arith)

pub remove_run-requires-clause-stand : goal.remove_run-requires-clause-stand
remove_run-requires-clause-stand c = λ row. omega (arith, c.requires.stand row, c.loop-at.invariant.1 row)

pub loop-at-preserved : goal.loop-at-preserved
loop-at-preserved c = (c.in_ok-at.ensures.further.1, λ one. c.in_ok-at.ensures.rows one ∙ c.loop-at.invariant.1 one)

pub returns : goal.returns
returns c = λ row.
    ap (λ (rows : List Fields). standing c.args.links.now c.loop-at.edits row + times row rows) (sym (take_all c.loop-at.at c.args.rows.now c.loop-at-test.false)) ∙ c.loop-at.invariant.1 row
