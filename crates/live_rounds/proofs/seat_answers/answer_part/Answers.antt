use Rattle.std.proofs.Common.{◌≡◌, ◌++◌, ◌∷◌, [], List, ap, ◌∙◌}
use Rattle.answer_lines.specs.Printed.{PrintedAnswer}
use Rattle.regex_gate.proofs.CallerLemmas.{used_none, used_then}
use Rattle.live_rounds.proofs.ItemLemmas.{told_other}
use Rattle.live_rounds.proofs.ServedLemmas.{serving_first, serving_next, serving_past, serving_shut, serving_uses}
use Rattle.live_rounds.specs.Stretches.{items_of}
use Rattle.script_read.specs.ItemLines.{said}
use Rattle.script_read.specs.Readings.{request_read}
use Rattle.script_read.specs.Said.{asks}
use Rattle.live_rounds.proofs.seat_answers.answer_part.Goals as goal

pub loop-first-init : goal.loop-first-init
loop-first-init g c = serving_first c.args.program.now g.J.Naming.shapes g.J.Naming.opening (items_of c.args.part.now) (g.P.Finder.refusals c.args.finder.now) c.args.seat.now (said c.again-left.result) c.in_ok-replies.replies (ap said c.again-left.ensures) c.in_ok-replies.ensures.none

-- an item that is no request
pub loop-first-preserved-in_default-first : goal.loop-first-preserved-in_default-first
loop-first-preserved-in_default-first g c =
    let off = c.in-Some.ensures.some in
    serving_past c.args.program.now g.J.Naming.shapes g.J.Naming.opening (items_of c.args.part.now) (g.P.Finder.refusals c.args.finder.now) c.args.seat.now (said c.loop-first.left) (said c.next_told.new.self) off.item (g.P.Finder.refusals c.loop-first.finder) c.loop-first.seat c.loop-first.replies
    off.parts c.loop-first.invariant (told_other c.in-Some.first off.item off.holds c.in_default-first.not-Request)

-- a request
pub loop-first-preserved : goal.loop-first-preserved
loop-first-preserved g c =
    let off = c.in-Some.ensures.some in
    let asked : off.item ≡ asks (request_read c.in-Request.asked.json c.in-Request.asked.line.now) = rw c.in-Request.is at off.holds in
    let told = c.in-Ok.ensures.served in
    serving_next c.args.program.now g.J.Naming.shapes g.J.Naming.opening (items_of c.args.part.now) (g.P.Finder.refusals c.args.finder.now) c.args.seat.now (said c.loop-first.left) (said c.next_told.new.self) off.item (g.P.Finder.refusals c.loop-first.finder) c.loop-first.seat c.loop-first.replies
    off.parts c.loop-first.invariant _ (g.P.Finder.refusals c.answer_asked.new.finder) c.answer_asked.new.seat c.answer_asked.new.replies told.reply asked told.served (told.added ∙ ap (λ (l : List PrintedAnswer). l ++ told.reply ∷ []) c.expect.ensures)

-- an entry was refused
pub returns-in-Err-Shut-clause-served : goal.returns-in-Err-Shut-clause-served
returns-in-Err-Shut-clause-served g c =
    let stopped = c.answer_asked.ensures.shut (rw c.in-Err-Shut.field-0-is at c.in-Err-Shut.is) in
    let kept : c.answer_asked.new.replies ≡ c.loop-first.replies = let same : c.answer_asked.new.replies ≡ c.expect.new.self = rw c.in-Err-Shut.is at c.answer_asked.ensures.same in same ∙ c.expect.ensures in
    serving_shut c.args.program.now g.J.Naming.shapes g.J.Naming.opening (items_of c.args.part.now) (g.P.Finder.refusals c.args.finder.now) c.args.seat.now (said c.loop-first.left) (g.P.Finder.refusals c.loop-first.finder)
    (g.P.Finder.refusals c.answer_asked.new.finder) c.loop-first.seat c.answer_asked.new.seat c.loop-first.replies c.answer_asked.new.replies stopped.1 stopped.0 kept c.loop-first.invariant

-- ---- the finder

-- it was not asked where there is no memory for the replies
pub returns-in_err-replies-clause-used : goal.returns-in_err-replies-clause-used
returns-in_err-replies-clause-used g c = used_none _

pub returns-in-Err-Shut-clause-used : goal.returns-in-Err-Shut-clause-used
returns-in-Err-Shut-clause-used g c =
    used_then (g.P.Finder.refusals c.args.finder.now) (g.P.Finder.refusals c.loop-first.finder) (g.P.Finder.refusals c.answer_asked.new.finder)
    (serving_uses c.args.program.now g.J.Naming.shapes g.J.Naming.opening (items_of c.args.part.now) (g.P.Finder.refusals c.args.finder.now) c.args.seat.now (said c.loop-first.left) _ _ _ c.loop-first.invariant) c.answer_asked.ensures.used

pub returns-in-Err-NoMemory-clause-used : goal.returns-in-Err-NoMemory-clause-used
returns-in-Err-NoMemory-clause-used g c =
    used_then (g.P.Finder.refusals c.args.finder.now) (g.P.Finder.refusals c.loop-first.finder) (g.P.Finder.refusals c.answer_asked.new.finder)
    (serving_uses c.args.program.now g.J.Naming.shapes g.J.Naming.opening (items_of c.args.part.now) (g.P.Finder.refusals c.args.finder.now) c.args.seat.now (said c.loop-first.left) _ _ _ c.loop-first.invariant) c.answer_asked.ensures.used
