use Rattle.std.proofs.Common.{arith}
use Rattle.std.specs.Prelude.{false}
use Rattle.std.proofs.lemmas.Result.{IfOk-weaker}
use Rattle.live_rounds.proofs.RoundsLemmas.{used_alike}
use Rattle.live_rounds.proofs.RunLemmas.{used_first}
use Rattle.script_read.specs.Script.{IsScript}
use Rattle.demo_run.proofs.DemoLemmas.{none_workers, others_stay, script_tally, tally_shared}
use Rattle.demo_run.proofs.demo.tally_of.Goals as goal

-- on one thread, by the first finder
pub returns-then-workers-eq0-clause-lines : goal.returns-then-workers-eq0-clause-lines
returns-then-workers-eq0-clause-lines g c =
    IfOk-weaker c.plain_tally.result _ _ (λ tally has. none_workers c.args.workers c.args.session.program _ _ _ _ tally c.if-workers-eq0.true c.as_str-text.ensures.value has) c.plain_tally.ensures.plain

pub returns-then-workers-eq0-clause-used : goal.returns-then-workers-eq0-clause-used
returns-then-workers-eq0-clause-used g c = used_first g.P.Finder.refusals c.args.finders.now.items c.args.finders.now.items _ _ c.plain_tally.new.finder (used_alike _) c.index_mut.ensures.value c.plain_tally.ensures.used

pub returns-then-workers-eq0-clause-alone : goal.returns-then-workers-eq0-clause-alone
returns-then-workers-eq0-clause-alone g c = λ none. others_stay c.args.finders.now.items c.plain_tally.new.finder

-- with workers
pub run_shared-requires-clause-checked : goal.run_shared-requires-clause-checked
run_shared-requires-clause-checked g c = λ lifetimes outlive. rw c.as_str-text.ensures.value c.requires.checked

pub returns-in-Ok-clause-lines : goal.returns-in-Ok-clause-lines
returns-in-Ok-clause-lines g c =
    let says : IsScript false c.as_str-text.result.now c.requires.checked.0 = rw c.as_str-text.ensures.value c.requires.checked.1 in
    let all = c.in-Ok.ensures.shared c.requires.checked.0 says in
    script_tally c.args.workers c.args.session.program _ _ _ _ c.run_shared.new.to c.as_str-text.ensures.value
    (tally_shared c.args.workers c.args.session.program _ _ c.as_str-text.result.now c.requires.checked.0 all.are.refused all.lines c.none-tally.result c.run_shared.new.to (omega (arith, c.if-workers-eq0.false)) says all.are.shared c.none-tally.ensures.items c.none-tally.ensures.counts all.taken)

pub returns-in-Ok-clause-alone : goal.returns-in-Ok-clause-alone
returns-in-Ok-clause-alone g c = λ none. absurd (omega (arith, none, c.if-workers-eq0.false))

pub returns-clause-alone : goal.returns-clause-alone
returns-clause-alone g c = λ none. absurd (omega (arith, none, c.if-workers-eq0.false))
