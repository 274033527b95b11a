use Rattle.std.proofs.Common.{◌≡◌, ◌++◌, ◌∷◌, [], List, ap, arith, refl, ◌∙◌}
use Rattle.answer_lines.specs.Printed.{PrintedAnswer, printed_answer}
use Rattle.regex_gate.proofs.CallerLemmas.{used_then}
use Rattle.live_rounds.proofs.AskedLemmas.{asking_first, asking_next, asking_past, asking_skip, asking_uses}
use Rattle.live_rounds.proofs.ItemLemmas.{told_other}
use Rattle.live_rounds.specs.Stretches.{items_of}
use Rattle.script_read.specs.ItemLines.{said}
use Rattle.script_read.specs.Readings.{request_read}
use Rattle.script_read.specs.Said.{asks}
use Rattle.live_rounds.proofs.asks.answer_left.Goals as goal

pub loop-first-init : goal.loop-first-init
loop-first-init g c = asking_first c.args.program.now c.args.state.now (items_of c.args.part.now) (g.P.Finder.refusals c.args.finder.now) c.args.skipped c.args.asked.now (said c.again-rest.result) (ap said c.again-rest.ensures)

-- an item that is no request
pub loop-first-preserved-in_default-first : goal.loop-first-preserved-in_default-first
loop-first-preserved-in_default-first g c =
    let off = c.in-Some.ensures.some in
    asking_past c.args.program.now c.args.state.now (items_of c.args.part.now) (g.P.Finder.refusals c.args.finder.now) c.args.skipped c.args.asked.now (said c.loop-first.rest) (said c.next_told.new.self) off.item (g.P.Finder.refusals c.loop-first.finder) c.loop-first.left c.loop-first.asked
    off.parts c.loop-first.invariant (told_other c.in-Some.first off.item off.holds c.in_default-first.not-Request)

-- a request that is skipped
pub loop-first-preserved-then-left-gt0 : goal.loop-first-preserved-then-left-gt0
loop-first-preserved-then-left-gt0 g c =
    let off = c.in-Some.ensures.some in
    let asked : off.item ≡ asks (request_read c.in-Request.request.json c.in-Request.request.line.now) = rw c.in-Request.is at off.holds in
    asking_skip c.args.program.now c.args.state.now (items_of c.args.part.now) (g.P.Finder.refusals c.args.finder.now) c.args.skipped c.args.asked.now (said c.loop-first.rest) (said c.next_told.new.self) off.item (g.P.Finder.refusals c.loop-first.finder) c.loop-first.left c.loop-first.asked
    off.parts c.loop-first.invariant _ _ asked (omega (arith, c.if-left-gt0.true)) refl

-- one that is answered
pub loop-first-preserved : goal.loop-first-preserved
loop-first-preserved g c =
    let off = c.in-Some.ensures.some in
    let asked : off.item ≡ asks (request_read c.in-Request.request.json c.in-Request.request.line.now) = rw c.in-Request.is at off.holds in
    let told = c.in_ok-print_asked.ensures.added in
    asking_next c.args.program.now c.args.state.now (items_of c.args.part.now) (g.P.Finder.refusals c.args.finder.now) c.args.skipped c.args.asked.now (said c.loop-first.rest) (said c.next_told.new.self) off.item (g.P.Finder.refusals c.loop-first.finder) c.loop-first.left c.loop-first.asked
    off.parts c.loop-first.invariant _ (g.P.Finder.refusals c.print_asked.new.finder) c.print_asked.new.replies told.reply _ asked (omega (arith, c.if-left-gt0.false)) told.answered refl (told.added ∙ ap (λ (l : List PrintedAnswer). l ++ printed_answer told.reply ∷ []) c.expect.ensures)

pub returns-in_err-print_asked-clause-used : goal.returns-in_err-print_asked-clause-used
returns-in_err-print_asked-clause-used g c =
    used_then (g.P.Finder.refusals c.args.finder.now) (g.P.Finder.refusals c.loop-first.finder) (g.P.Finder.refusals c.print_asked.new.finder)
    (asking_uses c.args.program.now c.args.state.now (items_of c.args.part.now) (g.P.Finder.refusals c.args.finder.now) c.args.skipped c.args.asked.now (said c.loop-first.rest) (g.P.Finder.refusals c.loop-first.finder) c.loop-first.left c.loop-first.asked c.loop-first.invariant) c.print_asked.ensures.used
