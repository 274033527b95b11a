use Rattle.live_rounds.proofs.MergingLemmas.{replies_out, run_asked, run_other}
use Rattle.live_rounds.proofs.round_lines.print_run.Goals as goal

pub returns-then-run : goal.returns-then-run
returns-then-run c =
    run_asked c.print_some.result c.args.run.asks c.args.run.count c.args.number c.args.asked.now c.print_some.new.self c.args.others.now c.args.lines.now c.print_some.new.lines c.if-run.true c.print_some.ensures

pub returns : goal.returns
returns c =
    let said = c.print_some-2.ensures in
    let takes = replies_out c.print_some-2.result c.args.run.count c.args.number c.args.others.now c.print_some-2.new.self c.args.lines.now c.print_some-2.new.lines c.requires said.taken said.most said.some said.numbers in
    run_other c.print_some-2.result c.args.run.asks c.args.run.count c.args.number c.args.others.now c.print_some-2.new.self c.args.asked.now c.args.lines.now c.print_some-2.new.lines c.if-run.false takes
