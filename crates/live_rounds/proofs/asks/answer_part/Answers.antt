use Rattle.std.proofs.Common.{ℕ, arith, drop, subst}
use Rattle.regex_gate.proofs.CallerLemmas.{used_none}
use Rattle.live_rounds.proofs.AskedLemmas.{all_kept_are}
use Rattle.live_rounds.specs.Helps.Asked.{AddsAnswered}
use Rattle.live_rounds.specs.Requests.{requests}
use Rattle.live_rounds.specs.Stretches.{items_of}
use Rattle.live_rounds.proofs.asks.answer_part.Goals as goal

-- as many are kept as there are requests
pub returns-then-skipped-part-clause-shared : goal.returns-then-skipped-part-clause-shared
returns-then-skipped-part-clause-shared g c = all_kept_are c.args.program.now c.args.state.now _ (requests (items_of c.args.part.now)) c.args.kept (omega (arith, c.if-skipped-part.true, c.len-skipped.ensures, c.requires.counted.requests))

pub returns-clause-shared : goal.returns-clause-shared
returns-clause-shared g c =
    subst (λ (n : ℕ). AddsAnswered c.args.program.now c.args.state.now (g.P.Finder.refusals c.args.finder.now) (g.P.Finder.refusals c.answer_left.new.finder) (drop n (requests (items_of c.args.part.now))) c.args.kept c.answer_left.new.asked) c.len-skipped.ensures c.in_ok-answer_left.ensures.added

pub returns-then-skipped-part-clause-used : goal.returns-then-skipped-part-clause-used
returns-then-skipped-part-clause-used g c = used_none _
