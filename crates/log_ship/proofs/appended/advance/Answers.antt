use Rattle.std.proofs.Common.{◌+◌, ◌≤◌, List, length, sym, subst, arith}
use Rattle.log_ship.proofs.WaitLemmas.{run_shorter}
use Rattle.policy_table.specs.declared.change.Change.{Change}
use Rattle.log_ship.proofs.appended.advance.Goals as goal

pub drop_front-requires : goal.drop_front-requires
drop_front-requires c =
    let short : length c.run-run.result.now ≤ length c.args.waiting.now = subst (λ (l : List (List Change)). length l ≤ length c.args.waiting.now) (sym c.run-run.ensures) (run_shorter (c.version.result + 1) c.args.waiting.now) in
    omega (arith, short, c.min.ensures)
