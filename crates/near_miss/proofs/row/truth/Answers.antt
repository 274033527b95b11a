use Rattle.std.proofs.Common.{Err, map}
use Rattle.perm_value.specs.Seen.{datum}
use Rattle.policy_state.specs.States.{tables}
use Rattle.near_miss.specs.Misses.{case_at}
use Rattle.near_miss.proofs.RowLemmas.{value_used}
use Rattle.near_miss.proofs.row.truth.Goals as goal

pub returns-in-Err-Fault-clause-used : goal.returns-in-Err-Fault-clause-used
returns-in-Err-Fault-clause-used g c =
    value_used (case_at c.args.asking.now.state.now.shapes (tables c.args.asking.now.state.now) (map datum c.args.asking.now.request.now) c.args.row.now c.model.result.now) c.code.result.now.ops
    (g.P.Finder.refusals c.args.finder.now) (g.P.Finder.refusals c.run.new.finder) (Err c.in-Err-Fault.field-0) c.in-Err-Fault.ensures.value
