use Rattle.std.proofs.Common.{◌≡◌, ◌+◌, ℕ, Bool, List, ap, arith, length, length-append, rules, subst, sym, ◌∙◌}
use Rattle.std.specs.Prelude.{cond}
use Rattle.desk_session.specs.Steps.{is_request}
use Rattle.live_rounds.proofs.ItemLemmas.{told_asked}
use Rattle.live_rounds.proofs.PassingLemmas.{IsGoneTo, cond_few, gone_first, gone_many, gone_more}
use Rattle.live_rounds.specs.Stretches.{items_of}
use Rattle.script_read.specs.ItemLines.{ArePassed, said}
use Rattle.script_read.specs.Said.{Said}
use Rattle.live_rounds.proofs.shares.behind.Goals as goal

pub loop-found-init : goal.loop-found-init
loop-found-init c =
    let passed : ArePassed c.pass_asked-found.result (items_of c.args.items.now) (said c.pass_asked-found.new.self) = subst (λ (l : List Said). ArePassed c.pass_asked-found.result l (said c.pass_asked-found.new.self)) (ap said c.again-rest.ensures) c.pass_asked-found.ensures.passed in
    (gone_first c.pass_asked-found.result (items_of c.args.items.now) (said c.pass_asked-found.new.self) passed, c.pass_asked-found.ensures.few)

pub loop-found-preserved : goal.loop-found-preserved
loop-found-preserved c =
    let off = c.in-Some.ensures.some in
    let passed = c.pass_asked-asked.ensures.passed in
    let one : c.from-found.result ≡ cond c.is_asked.result 1 0 = search rules in
    let more : c.loop-found.found + c.from-found.result ≡ c.loop-found.found + cond (is_request off.item) 1 0
    = ap (λ (k : ℕ). c.loop-found.found + k) (one ∙ ap (λ (b : Bool). cond b 1 0) (c.is_asked.ensures ∙ sym (told_asked c.in-Some.first off.item off.holds))) in
    let mid : IsGoneTo (c.loop-found.count + 1) (c.loop-found.found + c.from-found.result) (items_of c.args.items.now) (said c.next_told.new.self)
    = gone_more c.loop-found.count c.loop-found.found _ (items_of c.args.items.now) (said c.loop-found.rest) (said c.next_told.new.self) off.item c.loop-found.invariant.0 off.parts more in (
      gone_many (c.loop-found.count + 1) (c.loop-found.found + c.from-found.result) c.pass_asked-asked.result (items_of c.args.items.now) (said c.next_told.new.self) (said c.pass_asked-asked.new.self) mid passed,
      omega (arith, one, cond_few c.is_asked.result, c.loop-found-test.true, c.pass_asked-asked.ensures.few),
    )

-- fewer items are left
pub loop-found-smaller : goal.loop-found-smaller
loop-found-smaller c =
    let off = c.in-Some.ensures.some in
    let passed = c.pass_asked-asked.ensures.passed in
    omega (arith, ap (λ (l : List Said). length l) off.parts, ap (λ (l : List Said). length l) passed.parts, length-append passed.passed (said c.pass_asked-asked.new.self))
