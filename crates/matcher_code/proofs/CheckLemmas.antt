-- How the checker goes along code.
use Rattle.std.proofs.Common.{arith, ◌≡◌, ◌≢◌, ◌⊎◌, inl, inr, ℕ, ◌+◌, ◌<◌, ◌≤◌, ◌==◌, Bool, true, false, nat_le, nat_lt, max, List, length, Option, Some, None, option_map, slice_get, refl, sym, ap, subst, ◌∙◌}
use Rattle.std.proofs.lemmas.Bool.{and_parts, and_from, cases_lt, eq-eqb, eqb-false, eqb-true, ltb-true, ltb-false, leb-true}
use Rattle.std.proofs.lemmas.Option.{slice_get_past}
use Rattle.matcher_code.specs.Helps.Checks.{IsClear, IsKnown, IsWalked, clash_with, earlier_of}
use Rattle.matcher_code.specs.Rules.{KeepsRules, IsVerified, finds, height_behind, height_at, height_landing, is_right, jump, lies_behind, names_rightly}
use Rattle.matcher_code.specs.declared.height_walk.Known.{Known}
use Rattle.matcher_code.specs.declared.height_walk.Walk.{Walk}
use Rattle.matcher_code.specs.declared.op.Op.{Op}
use Rattle.matcher_code.specs.declared.op.Instruction.{Instruction}
use Rattle.matcher_code.specs.declared.op.Instruction.TheVariants as i
use Rattle.matcher_code.proofs.HeightLemmas.{greatest_next, height_next}

-- what stands at a place is right by its parts
right_parts : (columns policy_columns at size : ℕ) (op : Op) (height : ℕ) → is_right columns policy_columns at size (Some op) (Some height) ≡ true
    → (nat_le (finds op.instruction) height ≡ true) × (names_rightly columns policy_columns at size op.instruction ≡ true)
right_parts columns policy_columns at size op height right = and_parts (nat_le (finds op.instruction) height) (names_rightly columns policy_columns at size op.instruction) right

-- what stands at a place that keeps the rules
pub kept_parts : (ops : List Op) (columns policy_columns at : ℕ) (op : Op) (height : ℕ) → KeepsRules ops columns policy_columns at → slice_get ops at ≡ Some op → height_at ops at ≡ Some height
    → (nat_le (finds op.instruction) height ≡ true) × (names_rightly columns policy_columns at (length ops) op.instruction ≡ true)
kept_parts ops columns policy_columns at op height keeps there is =
    right_parts columns policy_columns at (length ops) op height
    (subst (λ (o : Option Op). is_right columns policy_columns at (length ops) o (Some height) ≡ true) there
    (subst (λ (h : Option ℕ). is_right columns policy_columns at (length ops) (slice_get ops at) h ≡ true) is keeps.right))

found_height : (instruction : Instruction) (height next : ℕ) → height_behind instruction (Some height) ≡ Some next → nat_le (finds instruction) height ≡ true
found_height instruction height next is = go (nat_le (finds instruction) height) refl
  where
    go : (enough : Bool) → nat_le (finds instruction) height ≡ enough → nat_le (finds instruction) height ≡ true
    go true has = has
    go false has = absurd (let so : None ≡ Some next = rw has at is in cc)

-- no clash is seen at a place or before it
pub clear_at : (ops : List Op) (columns policy_columns at : ℕ) (walk : Walk) → IsWalked ops columns policy_columns at walk → walk.clash ≢ Some at → IsClear walk.clash at
clear_at ops columns policy_columns at walk so free place is =
    let other : at ≢ place = λ same. free (is ∙ ap Some (sym same)) in
    omega (arith, (so.clash place is).0, other)

-- a place that keeps the rules, being passed
pub keeps_here : (ops : List Op) (columns policy_columns at : ℕ) (walk : Walk) (op : Op) (next : ℕ) → IsWalked ops columns policy_columns at walk → slice_get ops at ≡ Some op
    → walk.clash ≢ Some at → names_rightly columns policy_columns at (length ops) op.instruction ≡ true → height_behind op.instruction (Some walk.height) ≡ Some next
    → KeepsRules ops columns policy_columns at
keeps_here ops columns policy_columns at walk op next so there free names on = record {
  right = subst (λ (h : Option ℕ). is_right columns policy_columns at (length ops) (slice_get ops at) h ≡ true) (sym so.height)
      (subst (λ (o : Option Op). is_right columns policy_columns at (length ops) o (Some walk.height) ≡ true) (sym there)
      (and_from (nat_le (finds op.instruction) walk.height) (names_rightly columns policy_columns at (length ops) op.instruction) (found_height op.instruction walk.height next on) names));
  landing = λ from other less found lands. so.jumps from at walk.height other less (omega arith) found lands so.height (clear_at ops columns policy_columns at walk so free) ∙ sym so.height;
}

-- the places before the next one keep the rules
kept_more : (ops : List Op) (columns policy_columns at : ℕ) → ((before : ℕ) → before < at → KeepsRules ops columns policy_columns before) → KeepsRules ops columns policy_columns at
    → (before : ℕ) → before < at + 1 → KeepsRules ops columns policy_columns before
kept_more ops columns policy_columns at kept here before less = go (cases_lt before at)
  where
    go : (before < at) ⊎ (at ≤ before) → KeepsRules ops columns policy_columns before
    go (inl earlier) = kept before earlier
    go (inr later) = let same : at ≡ before = omega (arith, less, later) in subst (KeepsRules ops columns policy_columns) same here

-- past an instruction that jumps nowhere
pub walked_plain : (ops : List Op) (columns policy_columns at : ℕ) (walk : Walk) (op : Op) (next : ℕ) → IsWalked ops columns policy_columns at walk → slice_get ops at ≡ Some op
    → walk.clash ≢ Some at → names_rightly columns policy_columns at (length ops) op.instruction ≡ true → height_behind op.instruction (Some walk.height) ≡ Some next
    → jump op.instruction ≡ None
    → IsWalked ops columns policy_columns (at + 1) (record walk { height = next; greatest = max walk.greatest next })
walked_plain ops columns policy_columns at walk op next so there free names on stays =
    let height : height_at ops (at + 1) ≡ Some next = height_next ops at op there ∙ ap (height_behind op.instruction) so.height ∙ on in
    record {
      height = height;
      kept = kept_more ops columns policy_columns at so.kept (keeps_here ops columns policy_columns at walk op next so there free names on);
      greatest = ap (λ (n : ℕ). max n next) so.greatest ∙ sym (greatest_next ops at op next there height);
      known = so.known;
      clash = λ place is. (omega (arith, clear_at ops columns policy_columns at walk so free place is), (so.clash place is).1, (so.clash place is).2);
      jumps = λ from to reached other less behind found lands is clear. go from to reached other less behind found lands is clear (cases_lt from at);
    }
  where
    go : (from to reached : ℕ) (other : Op) → from < at + 1 → at + 1 ≤ to → slice_get ops from ≡ Some other → jump other.instruction ≡ Some to → height_at ops to ≡ Some reached → IsClear walk.clash to
        → (from < at) ⊎ (at ≤ from) → option_map (height_landing other.instruction) (height_at ops from) ≡ Some reached
    go from to reached other less behind found lands is clear (inl earlier) = so.jumps from to reached other earlier (omega (arith, behind)) found lands is clear
    go from to reached other less behind found lands is clear (inr later) =
        let same : from ≡ at = omega (arith, less, later) in
        let one : Some other ≡ Some op = sym found ∙ ap (slice_get ops) same ∙ there in
        let one_op : other ≡ op = cc in
        absurd (let never : Some to ≡ None = sym lands ∙ ap (λ (o : Op). jump o.instruction) one_op ∙ stays in cc)

-- a clash is one that was seen before, or that of the jump that is seen now
clash_cases : (clash : Option ℕ) (to : ℕ) (height : Option ℕ) (landing place : ℕ) → clash_with clash to height landing ≡ Some place
    → (clash ≡ Some place) ⊎ ((place ≡ to) × ((reached : ℕ) × (height ≡ Some reached) × (reached ≢ landing)))
clash_cases clash to None landing place is = inl is
clash_cases clash to (Some reached) landing place is = go (reached == landing) refl
  where
    earlier : (seen : Option ℕ) → Some (earlier_of seen to) ≡ Some place → (seen ≡ Some place) ⊎ (place ≡ to)
    earlier None same = inr (let one : to ≡ place = cc in sym one)
    earlier (Some other) same = before (nat_lt other to) refl
      where
        before : (less : Bool) → nat_lt other to ≡ less → (Some other ≡ Some place) ⊎ (place ≡ to)
        before true has = inl (let one : Some other ≡ Some place = rw has at same in one)
        before false has = inr (let one : Some to ≡ Some place = rw has at same in let two : to ≡ place = cc in sym two)

    with_ne : reached ≢ landing → (clash ≡ Some place) ⊎ (place ≡ to) → (clash ≡ Some place) ⊎ ((place ≡ to) × ((r : ℕ) × (Some reached ≡ Some r) × (r ≢ landing)))
    with_ne ne (inl seen) = inl seen
    with_ne ne (inr here) = inr (here, (reached, refl, ne))

    go : (same : Bool) → (reached == landing) ≡ same → (clash ≡ Some place) ⊎ ((place ≡ to) × ((r : ℕ) × (Some reached ≡ Some r) × (r ≢ landing)))
    go true has = inl (let one : clash ≡ Some place = rw has at is in one)
    go false has = with_ne (eqb-false reached landing has) (earlier clash (let one : Some (earlier_of clash to) ≡ Some place = rw has at is in one))

-- what is clear with a further jump was so before
clear_before : (clash : Option ℕ) (place : ℕ) (height : Option ℕ) (landing to : ℕ) → IsClear (clash_with clash place height landing) to → IsClear clash to
clear_before clash place None landing to clear = clear
clear_before clash place (Some reached) landing to clear = go (reached == landing) refl
  where
    earlier : (seen : Option ℕ) → IsClear (Some (earlier_of seen place)) to → IsClear seen to
    earlier None free other is = absurd cc
    earlier (Some first) free other is = before (nat_lt first place) refl
      where
        before : (less : Bool) → nat_lt first place ≡ less → to < other
        before true has = let one : IsClear (Some first) to = rw has at free in one other is
        before false has =
            let one : IsClear (Some place) to = rw has at free in
            let same : first ≡ other = cc in
            omega (arith, one place refl, ltb-false first place has, same)

    go : (same : Bool) → (reached == landing) ≡ same → IsClear clash to
    go true has = let one : IsClear clash to = rw has at clear in one
    go false has = earlier clash (let one : IsClear (Some (earlier_of clash place)) to = rw has at clear in one)

-- where a jump comes to a place that is clear with it, the heights are the same
clear_same : (clash : Option ℕ) (to : ℕ) (reached landing : ℕ) → IsClear (clash_with clash to (Some reached) landing) to → landing ≡ reached
clear_same clash to reached landing clear = go (reached == landing) refl
  where
    not_behind : (seen : Option ℕ) → earlier_of seen to ≤ to
    not_behind None = omega arith
    not_behind (Some first) = before (nat_lt first to) refl
      where
        before : (less : Bool) → nat_lt first to ≡ less → earlier_of (Some first) to ≤ to
        before true has = rw has (omega (arith, ltb-true first to has))
        before false has = rw has (omega arith)

    go : (same : Bool) → (reached == landing) ≡ same → landing ≡ reached
    go true has = sym (eqb-true reached landing has)
    go false has = absurd (let one : IsClear (Some (earlier_of clash to)) to = rw has at clear in omega (arith, one (earlier_of clash to) refl, not_behind clash))

-- a jump that is named rightly goes on
jump_ahead : (columns policy_columns at size : ℕ) (instruction : Instruction) (to : ℕ) → names_rightly columns policy_columns at size instruction ≡ true → jump instruction ≡ Some to → lies_behind at size to ≡ true
jump_ahead columns policy_columns at size (i.SkipFalse place) to names is = let same : place ≡ to = cc in subst (λ (p : ℕ). lies_behind at size p ≡ true) same names
jump_ahead columns policy_columns at size (i.SkipTrue place) to names is = let same : place ≡ to = cc in subst (λ (p : ℕ). lies_behind at size p ≡ true) same names
jump_ahead columns policy_columns at size (i.Member place) to names is = let same : place ≡ to = cc in subst (λ (p : ℕ). lies_behind at size p ≡ true) same names
jump_ahead columns policy_columns at size _ to names is = absurd cc

pub jump_lies : (columns policy_columns at size : ℕ) (instruction : Instruction) (to : ℕ) → names_rightly columns policy_columns at size instruction ≡ true → jump instruction ≡ Some to → (at < to) × (to ≤ size)
jump_lies columns policy_columns at size instruction to names is =
    let parts = and_parts (nat_lt at to) (nat_le to size) (jump_ahead columns policy_columns at size instruction to names is) in
    (ltb-true at to parts.0, leb-true to size parts.1)

-- past one that jumps
pub walked_jump : (ops : List Op) (columns policy_columns at : ℕ) (walk : Walk) (op : Op) (next to : ℕ) (known : Known) → IsWalked ops columns policy_columns at walk → slice_get ops at ≡ Some op
    → walk.clash ≢ Some at → names_rightly columns policy_columns at (length ops) op.instruction ≡ true → height_behind op.instruction (Some walk.height) ≡ Some next
    → jump op.instruction ≡ Some to → known.place ≡ to → IsKnown ops known
    → IsWalked ops columns policy_columns (at + 1) (record { height = next; greatest = max walk.greatest next; clash = clash_with walk.clash known.place known.height (height_landing op.instruction walk.height); known = known })
walked_jump ops columns policy_columns at walk op next to known so there free names on lands_at place is_known =
    let height : height_at ops (at + 1) ≡ Some next = height_next ops at op there ∙ ap (height_behind op.instruction) so.height ∙ on in
    record {
      height = height;
      kept = kept_more ops columns policy_columns at so.kept (keeps_here ops columns policy_columns at walk op next so there free names on);
      greatest = ap (λ (n : ℕ). max n next) so.greatest ∙ sym (greatest_next ops at op next there height);
      known = is_known;
      clash = λ seen is. clashes seen (clash_cases walk.clash known.place known.height (height_landing op.instruction walk.height) seen is);
      jumps = λ from other_to reached other less behind found lands is clear. go from other_to reached other less behind found lands is clear (cases_lt from at);
    }
  where
    landing : ℕ
    landing = height_landing op.instruction walk.height

    ahead : (at < to) × (to ≤ length ops)
    ahead = jump_lies columns policy_columns at (length ops) op.instruction to names lands_at

    lands_so : option_map (height_landing op.instruction) (height_at ops at) ≡ Some (height_landing op.instruction walk.height)
    lands_so = ap (option_map (height_landing op.instruction)) so.height

    breaks : (reached : ℕ) → known.height ≡ Some reached → reached ≢ height_landing op.instruction walk.height → ¬ (KeepsRules ops columns policy_columns to)
    breaks reached is other keeps =
        let one : Some (height_landing op.instruction walk.height) ≡ Some reached = sym lands_so ∙ keeps.landing at op ahead.0 there lands_at ∙ ap (height_at ops) (sym place) ∙ is_known ∙ is in
        other (let two : reached ≡ height_landing op.instruction walk.height = cc in two)

    clashes : (seen : ℕ) → (walk.clash ≡ Some seen) ⊎ ((seen ≡ known.place) × ((reached : ℕ) × (known.height ≡ Some reached) × (reached ≢ height_landing op.instruction walk.height)))
        → (at + 1 ≤ seen) × (seen ≤ length ops) × ¬ (KeepsRules ops columns policy_columns seen)
    clashes seen (inl before) = (omega (arith, clear_at ops columns policy_columns at walk so free seen before), (so.clash seen before).1, (so.clash seen before).2)
    clashes seen (inr now) =
        let same : seen ≡ to = now.0 ∙ place in
        (omega (arith, same, ahead.0), omega (arith, same, ahead.1), subst (λ (p : ℕ). ¬ (KeepsRules ops columns policy_columns p)) (sym same) (breaks now.1.0 now.1.1 now.1.2))

    go : (from other_to reached : ℕ) (other : Op) → from < at + 1 → at + 1 ≤ other_to → slice_get ops from ≡ Some other → jump other.instruction ≡ Some other_to → height_at ops other_to ≡ Some reached
        → IsClear (clash_with walk.clash known.place known.height (height_landing op.instruction walk.height)) other_to
        → (from < at) ⊎ (at ≤ from) → option_map (height_landing other.instruction) (height_at ops from) ≡ Some reached
    go from other_to reached other less behind found lands is clear (inl earlier) =
        so.jumps from other_to reached other earlier (omega (arith, behind)) found lands is (clear_before walk.clash known.place known.height (height_landing op.instruction walk.height) other_to clear)
    go from other_to reached other less behind found lands is clear (inr later) =
        let same : from ≡ at = omega (arith, less, later) in
        let one : Some other ≡ Some op = sym found ∙ ap (slice_get ops) same ∙ there in
        let one_op : other ≡ op = cc in
        let two : Some other_to ≡ Some to = sym lands ∙ ap (λ (o : Op). jump o.instruction) one_op ∙ lands_at in
        let one_to : other_to ≡ to = cc in
        let known_is : known.height ≡ Some reached = sym is_known ∙ ap (height_at ops) (place ∙ sym one_to) ∙ is in
        let at_one : IsClear (clash_with walk.clash known.place (Some reached) (height_landing op.instruction walk.height)) other_to = subst (λ (h : Option ℕ). IsClear (clash_with walk.clash known.place h (height_landing op.instruction walk.height)) other_to) known_is clear in
        let at_place : IsClear (clash_with walk.clash known.place (Some reached) (height_landing op.instruction walk.height)) known.place = subst (IsClear (clash_with walk.clash known.place (Some reached) (height_landing op.instruction walk.height))) (one_to ∙ sym place) at_one in
        ap (λ (o : Op). option_map (height_landing o.instruction) (height_at ops from)) one_op ∙ ap (λ (p : ℕ). option_map (height_landing op.instruction) (height_at ops p)) same ∙ lands_so
        ∙ ap Some (clear_same walk.clash known.place reached (height_landing op.instruction walk.height) at_place)

pub end_right : (ops : List Op) (columns policy_columns height : ℕ) → height_at ops (length ops) ≡ Some height
    → is_right columns policy_columns (length ops) (length ops) (slice_get ops (length ops)) (height_at ops (length ops)) ≡ (height == 1)
end_right ops columns policy_columns height is =
    ap (λ (o : Option Op). is_right columns policy_columns (length ops) (length ops) o (height_at ops (length ops))) (slice_get_past ops (length ops) (omega arith))
    ∙ ap (λ (h : Option ℕ). is_right columns policy_columns (length ops) (length ops) None h) is

pub end_verified : (ops : List Op) (columns policy_columns : ℕ) (walk : Walk) → IsWalked ops columns policy_columns (length ops) walk → walk.clash ≢ Some (length ops) → walk.height ≡ 1 → IsVerified ops columns policy_columns
end_verified ops columns policy_columns walk so free one = record { each = λ at within. go at within (cases_lt at (length ops)) }
  where
    end : KeepsRules ops columns policy_columns (length ops)
    end = record {
      right = end_right ops columns policy_columns walk.height so.height ∙ eq-eqb walk.height 1 one;
      landing = λ from other less found lands. so.jumps from (length ops) walk.height other less (omega arith) found lands so.height (clear_at ops columns policy_columns (length ops) walk so free) ∙ sym so.height;
    }

    go : (at : ℕ) → at ≤ length ops → (at < length ops) ⊎ (length ops ≤ at) → KeepsRules ops columns policy_columns at
    go at within (inl less) = so.kept at less
    go at within (inr more) = let same : length ops ≡ at = omega (arith, within, more) in subst (KeepsRules ops columns policy_columns) same end
