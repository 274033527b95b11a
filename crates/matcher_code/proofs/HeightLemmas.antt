-- Heights of the stack along code.
use Rattle.std.proofs.Common.{arith, ◌≡◌, ℕ, ◌+◌, ◌-◌, ◌≤◌, suc, zero, Bool, true, false, nat_le, max, List, [], ◌∷◌, ◌++◌, length, take, drop, Option, Some, None, slice_get, refl, sym, ap, ◌∙◌}
use Rattle.std.proofs.lemmas.List.{length-take-le, take_more}
use Rattle.std.proofs.lemmas.Option.{get_or_from_slice_get, slice_get_within}
use Rattle.std.proofs.Math.Seq.{take-add}
use Rattle.matcher_code.specs.Rules.{finds, leaves, height_behind, height_behind_all, height_at, height_or_none, greatest_from, greatest_height}
use Rattle.matcher_code.specs.declared.op.Op.{Op}
use Rattle.matcher_code.specs.declared.op.Instruction.{Instruction}
use Rattle.matcher_code.specs.declared.op.Instruction.TheVariants as i

-- behind a front and what follows it
pub behind_append : (height : Option ℕ) (front back : List Op) → height_behind_all height (front ++ back) ≡ height_behind_all (height_behind_all height front) back
behind_append height [] back = refl
behind_append height (op ∷ front) back = behind_append (height_behind op.instruction height) front back

-- once operands lacked, there is no height
pub behind_lost : (ops : List Op) → height_behind_all None ops ≡ None
behind_lost [] = refl
behind_lost (op ∷ ops) = behind_lost ops

-- the front of a list up to behind an element
pub take_next : {X : Type 0} (xs : List X) (at : ℕ) (x : X) → slice_get xs at ≡ Some x → take (at + 1) xs ≡ take at xs ++ x ∷ []
take_next xs at x found = take_more xs at x (slice_get_within xs at x found) ∙ ap (λ (y : _). take at xs ++ y ∷ []) (get_or_from_slice_get xs at x x found)

-- the height behind an instruction
pub height_next : (ops : List Op) (at : ℕ) (op : Op) → slice_get ops at ≡ Some op → height_at ops (at + 1) ≡ height_behind op.instruction (height_at ops at)
height_next ops at op found = ap (height_behind_all (Some 0)) (take_next ops at op found) ∙ behind_append (Some 0) (take at ops) (op ∷ [])

-- once it is lost, it stays so
pub height_stays_lost : (ops : List Op) (at to : ℕ) → at ≤ to → height_at ops at ≡ None → height_at ops to ≡ None
height_stays_lost ops at to behind lost =
    let more : to ≡ at + (to - at) = omega (arith, behind) in
    ap (height_at ops) more ∙ ap (height_behind_all (Some 0)) (take-add at (to - at) ops) ∙ behind_append (Some 0) (take at ops) (take (to - at) (drop at ops))
    ∙ ap (λ (h : Option ℕ). height_behind_all h (take (to - at) (drop at ops))) lost ∙ behind_lost (take (to - at) (drop at ops))

-- behind one instruction the stack is higher by one at most
pub behind_one : (instruction : Instruction) (height next : ℕ) → height_behind instruction (Some height) ≡ Some next → next ≤ height + 1
behind_one instruction height next is = go (nat_le (finds instruction) height) refl
  where
    one : (given : Instruction) → leaves given ≤ 1
    one (i.SkipFalse to) = omega arith
    one (i.SkipTrue to) = omega arith
    one _ = omega arith

    go : (enough : Bool) → nat_le (finds instruction) height ≡ enough → next ≤ height + 1
    go true has = let so : Some (height - finds instruction + leaves instruction) ≡ Some next = rw has at is in omega (arith, one instruction, (let same : height - finds instruction + leaves instruction ≡ next = cc in same))
    go false has = absurd (let so : None ≡ Some next = rw has at is in cc)

-- behind so many instructions it is higher by so much at most
behind_all_bound : (height : ℕ) (ops : List Op) (next : ℕ) → height_behind_all (Some height) ops ≡ Some next → next ≤ height + length ops
behind_all_bound height [] next is = let same : height ≡ next = cc in omega (arith, same)
behind_all_bound height (op ∷ ops) next is = go (height_behind op.instruction (Some height)) refl is (λ between. behind_all_bound between ops next)
  where
    go : (one : Option ℕ) → height_behind op.instruction (Some height) ≡ one → height_behind_all one ops ≡ Some next
        → ((between : ℕ) → height_behind_all (Some between) ops ≡ Some next → next ≤ between + length ops) → next ≤ height + suc (length ops)
    go None lost is rest = absurd (let so : None ≡ Some next = sym (behind_lost ops) ∙ is in cc)
    go (Some between) one is rest = omega (arith, behind_one op.instruction height between one, rest between is)

-- the height at a place is at most the place
pub height_bound : (ops : List Op) (at height : ℕ) → at ≤ length ops → height_at ops at ≡ Some height → height ≤ at
height_bound ops at height within is = omega (arith, behind_all_bound 0 (take at ops) height is, length-take-le at ops within)

-- the greatest height of instructions and one more
greatest_append : (height : Option ℕ) (ops : List Op) (op : Op) → greatest_from height (ops ++ op ∷ []) ≡ max (greatest_from height ops) (height_or_none (height_behind_all height (ops ++ op ∷ [])))
greatest_append height [] op = refl
greatest_append height (first ∷ ops) op =
    ap (max (height_or_none height)) (greatest_append (height_behind first.instruction height) ops op)
    ∙ between (height_or_none height) (greatest_from (height_behind first.instruction height) ops) (height_or_none (height_behind_all height (first ∷ ops ++ op ∷ [])))
  where
    between : (a b d : ℕ) → max a (max b d) ≡ max (max a b) d
    between a b d = omega arith

pub greatest_next : (ops : List Op) (at : ℕ) (op : Op) (height : ℕ) → slice_get ops at ≡ Some op → height_at ops (at + 1) ≡ Some height
    → greatest_height (take (at + 1) ops) ≡ max (greatest_height (take at ops)) height
greatest_next ops at op height found is =
    ap greatest_height (take_next ops at op found) ∙ greatest_append (Some 0) (take at ops) op
    ∙ ap (λ (h : Option ℕ). max (greatest_height (take at ops)) (height_or_none h)) (ap (height_behind_all (Some 0)) (sym (take_next ops at op found)) ∙ is)

within_from : (begin : Option ℕ) (ops : List Op) (at height : ℕ) → height_behind_all begin (take at ops) ≡ Some height → height ≤ greatest_from begin ops
within_from begin [] zero height is = let same : height ≡ height_or_none begin = sym (ap height_or_none is) in omega (arith, same)
within_from begin [] (suc at) height is = let same : height ≡ height_or_none begin = sym (ap height_or_none is) in omega (arith, same)
within_from begin (op ∷ ops) zero height is = let same : height ≡ height_or_none begin = sym (ap height_or_none is) in omega (arith, same)
within_from begin (op ∷ ops) (suc at) height is = omega (arith, within_from (height_behind op.instruction begin) ops at height is)

-- no height is above the greatest
pub height_within : (ops : List Op) (at height : ℕ) → height_at ops at ≡ Some height → height ≤ greatest_height ops
height_within ops at height is = within_from (Some 0) ops at height is
