use Rattle.demo_run.proofs.TextLemmas.{summed}
use Rattle.demo_run.proofs.counts.summary.Goals as goal

pub returns : goal.returns
returns c =
    summed c.args.count c.args.tally.items c.args.tally.counts c.new-text.result c.push_head.new.text c.push_verdicts.new.text c.push_truths.new.text c.new-text.ensures.bytes c.in_ok-push_head.ensures c.in_ok-push_verdicts.ensures c.in_ok-push_truths.ensures
