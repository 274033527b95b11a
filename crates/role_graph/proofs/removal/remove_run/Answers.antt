use Rattle.std.proofs.Common.{sym, take}
use Rattle.role_graph.specs.Groups.{times}
use Rattle.role_graph.specs.Helps.Edits.{counted_rows, standing}
use Rattle.role_graph.proofs.Removals.{run_removed, run_stands}
use Rattle.role_graph.proofs.removal.remove_run.Goals as goal

pub count_run-requires-clause-user : goal.count_run-requires-clause-user
count_run-requires-clause-user c = sym c.user_at-user.ensures

pub remove_counted-requires : goal.remove_counted-requires
remove_counted-requires c = run_stands c.args.links.now c.args.edits.now c.args.rows.now c.args.from c.in_ok-to.to c.user_at-user.result.now c.count_run.new.gone c.requires.stand c.in_ok-to.ensures

pub returns-clause-further : goal.returns-clause-further
returns-clause-further c = (c.in_ok-to.ensures.further, c.in_ok-to.ensures.within)

pub returns-clause-rows : goal.returns-clause-rows
returns-clause-rows c = λ one.
    run_removed (standing c.args.links.now c.remove_counted.new.self one) (standing c.args.links.now c.args.edits.now one) (times one (take c.in_ok-to.to c.args.rows.now)) (times one (take c.args.from c.args.rows.now))
    (counted_rows c.user_at-user.result.now c.count_run.new.gone one) (c.in_ok-remove_counted.ensures one) (c.in_ok-to.ensures.counts one)
