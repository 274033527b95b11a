use Rattle.std.proofs.Common.{◌≡◌, ◌+◌, ℕ, Bool, List, ap, arith, length, length-append, rules, subst, sym, ◌∙◌}
use Rattle.std.specs.Prelude.{cond}
use Rattle.live_rounds.proofs.ItemLemmas.{told_asked, told_end}
use Rattle.live_rounds.proofs.PassingLemmas.{IsPassing, cond_few, passing_few, passing_first, passing_last, passing_many, passing_more}
use Rattle.desk_session.specs.Steps.{is_request}
use Rattle.live_rounds.specs.Helps.Passed.{IsPassed}
use Rattle.script_read.specs.ItemLines.{said}
use Rattle.script_read.specs.Said.{Said}
use Rattle.live_rounds.proofs.stretch.pass_round.Goals as goal

-- an item that ends the round
pub returns-then-is_end : goal.returns-then-is_end
returns-then-is_end c =
    let off = c.in-Some.ensures.some in
    let next : c.in-Some-checked_add.more ≡ c.loop-first.count + 1 = search rules in
    subst (λ (k : ℕ). IsPassed k c.loop-first.requests (said c.args.rest.now) (said c.next_told.new.self)) (sym next)
    (passing_last c.loop-first.count c.loop-first.requests (said c.args.rest.now) (said c.loop-first.rest) (said c.next_told.new.self) off.item c.loop-first.invariant off.parts (told_end c.in-Some.first off.item off.holds ∙ sym c.is_end.ensures ∙ c.if-is_end.true))

-- there are no more requests than items
pub overflow_add-requests : goal.overflow_add-requests
overflow_add-requests c =
    let few = passing_few c.loop-first.count c.loop-first.requests (said c.args.rest.now) (said c.loop-first.rest) c.loop-first.invariant in
    let one : c.from-requests.result ≡ cond c.is_asked.result 1 0 = search rules in
    let next : c.in-Some-checked_add.more ≡ c.loop-first.count + 1 = search rules in
    omega (arith, few, one, cond_few c.is_asked.result, next, c.checked_add.type_inv, c.in-Some-checked_add.is)

pub overflow_add-requests-in-Some : goal.overflow_add-requests-in-Some
overflow_add-requests-in-Some c =
    let few = passing_few c.loop-first.count c.loop-first.requests (said c.args.rest.now) (said c.loop-first.rest) c.loop-first.invariant in
    let one : c.from-requests.result ≡ cond c.is_asked.result 1 0 = search rules in
    let next : c.in-Some-checked_add.more ≡ c.loop-first.count + 1 = search rules in
    omega (arith, few, one, cond_few c.is_asked.result, next, c.checked_add.type_inv, c.in-Some-checked_add.is, c.pass_asked-asked.ensures.few)

pub loop-first-init : goal.loop-first-init
loop-first-init c = passing_first c.pass_asked-requests.result (said c.args.rest.now) (said c.pass_asked-requests.new.self) c.pass_asked-requests.ensures.passed

-- fewer items are left
pub loop-first-smaller : goal.loop-first-smaller
loop-first-smaller c =
    let off = c.in-Some.ensures.some in
    let passed = c.pass_asked-asked.ensures.passed in
    omega (arith, ap (λ (l : List Said). length l) off.parts, ap (λ (l : List Said). length l) passed.parts, length-append passed.passed (said c.pass_asked-asked.new.self))

pub loop-first-preserved : goal.loop-first-preserved
loop-first-preserved c =
    let off = c.in-Some.ensures.some in
    let next : c.in-Some-checked_add.more ≡ c.loop-first.count + 1 = search rules in
    let one : c.from-requests.result ≡ cond c.is_asked.result 1 0 = search rules in
    let more : c.loop-first.requests + c.from-requests.result ≡ c.loop-first.requests + cond (is_request off.item) 1 0
    = ap (λ (k : ℕ). c.loop-first.requests + k) (one ∙ ap (λ (b : Bool). cond b 1 0) (c.is_asked.ensures ∙ sym (told_asked c.in-Some.first off.item off.holds))) in
    let mid : IsPassing c.in-Some-checked_add.more (c.loop-first.requests + c.from-requests.result) (said c.args.rest.now) (said c.next_told.new.self)
    = subst (λ (k : ℕ). IsPassing k (c.loop-first.requests + c.from-requests.result) (said c.args.rest.now) (said c.next_told.new.self)) (sym next)
    (passing_more c.loop-first.count c.loop-first.requests (said c.args.rest.now) (said c.loop-first.rest) (said c.next_told.new.self) off.item c.loop-first.invariant off.parts _ (told_end c.in-Some.first off.item off.holds ∙ sym c.is_end.ensures ∙ c.if-is_end.false) more) in
    passing_many c.in-Some-checked_add.more (c.loop-first.requests + c.from-requests.result) c.pass_asked-asked.result (said c.args.rest.now) (said c.next_told.new.self) (said c.pass_asked-asked.new.self) mid c.pass_asked-asked.ensures.passed
