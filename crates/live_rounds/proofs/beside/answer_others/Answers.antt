use Rattle.std.proofs.Common.{◌≡◌, ◌++◌, ◌∷◌, [], Bool, List, ap, arith, length, length-append, rules, sym, ◌∙◌}
use Rattle.desk_session.proofs.CallerLemmas.{on_err_of}
use Rattle.live_rounds.proofs.BesideLemmas.{AreDoneUpTo, built_asked, done_all, done_first, done_passed, done_still, kinds_all, turn_done, turn_dropped, turn_stopped}
use Rattle.script_read.specs.ItemLines.{IsBuiltAs, IsTakenOff, said}
use Rattle.script_read.specs.Said.{Said}
use Rattle.live_rounds.proofs.beside.answer_others.Goals as goal

pub loop-replies-init : goal.loop-replies-init
loop-replies-init g c =
    done_passed g.J.Naming.shapes g.J.Naming.opening (said c.args.items.now) c.args.admin.now (said c.again-left.result) (said c.pass_requests.new.left) c.args.admin.now c.new-replies.result c.new-kinds.result.items c.pass_requests.new.kinds.items
    (done_first g.J.Naming.shapes g.J.Naming.opening (said c.args.items.now) c.args.admin.now (said c.again-left.result) c.new-replies.result c.new-kinds.result.items (ap said c.again-left.ensures) c.new-replies.ensures c.new-kinds.ensures.items)
    c.in_ok-pass_requests.ensures

-- nothing was done yet
pub returns-in_err-pass_requests-clause-stopped : goal.returns-in_err-pass_requests-clause-stopped
returns-in_err-pass_requests-clause-stopped g c =
    on_err_of c.from_residual.result (done_still g.J.Naming.shapes g.J.Naming.opening (said c.args.items.now) c.args.admin.now (said c.again-left.result) c.args.admin.now c.new-replies.result c.new-kinds.result.items
    (done_first g.J.Naming.shapes g.J.Naming.opening (said c.args.items.now) c.args.admin.now (said c.again-left.result) c.new-replies.result c.new-kinds.result.items (ap said c.again-left.ensures) c.new-replies.ensures c.new-kinds.ensures.items))

pub answer_built-requires-clause-kind : goal.answer_built-requires-clause-kind
answer_built-requires-clause-kind g c = λ lifetimes outlive.
    let first : IsTakenOff (IsBuiltAs c.in-Some.built) (said c.loop-replies.left) (said c.next_built.new.self) = rw c.in-Some.is at c.in_ok-built.ensures.some in
    (first.item, first.holds)

pub loop-replies-preserved : goal.loop-replies-preserved
loop-replies-preserved g c =
    let first : IsTakenOff (IsBuiltAs c.in-Some.built) (said c.loop-replies.left) (said c.next_built.new.self) = rw c.in-Some.is at c.in_ok-built.ensures.some in
    let pushed : c.push.new.self.items ≡ c.loop-replies.kinds.items ++ c.is_built_asked-asks.result ∷ [] = search rules in
    let turned : AreDoneUpTo g.J.Naming.shapes g.J.Naming.opening (said c.args.items.now) c.args.admin.now (said c.next_built.new.self) c.answer_built.new.admin c.answer_built.new.replies c.push.new.self.items
    = turn_done g.J.Naming.shapes g.J.Naming.opening (said c.args.items.now) c.args.admin.now (said c.loop-replies.left) (said c.next_built.new.self) first.item c.loop-replies.admin c.answer_built.new.admin c.loop-replies.replies c.answer_built.new.replies c.loop-replies.kinds.items c.push.new.self.items first.parts c.loop-replies.invariant
    (pushed ∙ ap (λ (b : Bool). c.loop-replies.kinds.items ++ b ∷ []) (c.is_built_asked-asks.ensures ∙ sym (built_asked c.in-Some.built first.item first.holds))) (c.in_ok-answer_built.ensures.done first.item first.holds) in
    done_passed g.J.Naming.shapes g.J.Naming.opening (said c.args.items.now) c.args.admin.now (said c.next_built.new.self) (said c.pass_requests-in-Some.new.left) c.answer_built.new.admin c.answer_built.new.replies c.push.new.self.items c.pass_requests-in-Some.new.kinds.items turned
    c.in_ok-pass_requests-2.ensures

-- fewer items are left
pub loop-replies-smaller : goal.loop-replies-smaller
loop-replies-smaller g c =
    let first : IsTakenOff (IsBuiltAs c.in-Some.built) (said c.loop-replies.left) (said c.next_built.new.self) = rw c.in-Some.is at c.in_ok-built.ensures.some in
    let over = c.in_ok-pass_requests-2.ensures.passed in
    omega (arith, ap (λ (l : List Said). length l) first.parts, ap (λ (l : List Said). length l) over.parts, length-append over.passed (said c.pass_requests-in-Some.new.left))

pub returns-in_err-built-clause-stopped : goal.returns-in_err-built-clause-stopped
returns-in_err-built-clause-stopped g c =
    on_err_of c.from_residual-in_err-built.result (done_still g.J.Naming.shapes g.J.Naming.opening (said c.args.items.now) c.args.admin.now (said c.loop-replies.left) c.loop-replies.admin c.loop-replies.replies c.loop-replies.kinds.items c.loop-replies.invariant)

pub returns-in_err-answer_built-clause-stopped : goal.returns-in_err-answer_built-clause-stopped
returns-in_err-answer_built-clause-stopped g c =
    let first : IsTakenOff (IsBuiltAs c.in-Some.built) (said c.loop-replies.left) (said c.next_built.new.self) = rw c.in-Some.is at c.in_ok-built.ensures.some in
    on_err_of c.from_residual-in_err-answer_built.result
    (turn_stopped g.J.Naming.shapes g.J.Naming.opening (said c.args.items.now) c.args.admin.now (said c.loop-replies.left) (said c.next_built.new.self) first.item c.loop-replies.admin c.answer_built.new.admin c.loop-replies.replies c.loop-replies.kinds.items first.parts c.loop-replies.invariant
    (c.in_err-answer_built.ensures.stopped first.item first.holds))

-- it was done, and its kind is not kept
pub returns-in_err-push-clause-stopped : goal.returns-in_err-push-clause-stopped
returns-in_err-push-clause-stopped g c =
    let first : IsTakenOff (IsBuiltAs c.in-Some.built) (said c.loop-replies.left) (said c.next_built.new.self) = rw c.in-Some.is at c.in_ok-built.ensures.some in
    on_err_of c.from_residual-in_err-push.result
    (turn_dropped g.J.Naming.shapes g.J.Naming.opening (said c.args.items.now) c.args.admin.now (said c.loop-replies.left) (said c.next_built.new.self) first.item c.loop-replies.admin c.answer_built.new.admin c.loop-replies.replies c.answer_built.new.replies c.loop-replies.kinds.items first.parts c.loop-replies.invariant
    (c.in_ok-answer_built.ensures.done first.item first.holds))

-- it was done, and the kinds of the requests behind it are not kept
pub returns-in_err-pass_requests-2-clause-stopped : goal.returns-in_err-pass_requests-2-clause-stopped
returns-in_err-pass_requests-2-clause-stopped g c =
    let first : IsTakenOff (IsBuiltAs c.in-Some.built) (said c.loop-replies.left) (said c.next_built.new.self) = rw c.in-Some.is at c.in_ok-built.ensures.some in
    on_err_of c.from_residual-in_err-pass_requests-2.result
    (turn_dropped g.J.Naming.shapes g.J.Naming.opening (said c.args.items.now) c.args.admin.now (said c.loop-replies.left) (said c.next_built.new.self) first.item c.loop-replies.admin c.answer_built.new.admin c.loop-replies.replies c.answer_built.new.replies c.loop-replies.kinds.items first.parts c.loop-replies.invariant
    (c.in_ok-answer_built.ensures.done first.item first.holds))

pub returns-clause-done : goal.returns-clause-done
returns-clause-done g c =
    let none = (rw c.in_default.is at c.in_ok-built.ensures.none).0 in
    record {
      beside = done_all g.J.Naming.shapes g.J.Naming.opening (said c.args.items.now) c.args.admin.now (said c.loop-replies.left) c.loop-replies.admin c.loop-replies.replies c.loop-replies.kinds.items none c.loop-replies.invariant;
      kinds_are = kinds_all g.J.Naming.shapes g.J.Naming.opening (said c.args.items.now) c.args.admin.now (said c.loop-replies.left) c.loop-replies.admin c.loop-replies.replies c.loop-replies.kinds.items none c.loop-replies.invariant;
    }
