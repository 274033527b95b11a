-- What packets of a history do to a follower that holds a front of it.
use Rattle.std.proofs.Common.{◌≡◌, ℕ, ◌+◌, ◌<◌, ◌≤◌, Bool, true, false, ◌||◌, ◌⊎◌, inl, inr, eqb, List, [], ◌∷◌, length, take, Ok, Err, refl, sym, ap, subst, ◌∙◌, arith, true≢false}
use Rattle.std.specs.List.{AllByRecursion}
use Rattle.std.proofs.lemmas.Bool.{eqb-false, ne_eqb}
use Rattle.edit_calls.specs.Admitted.{admits}
use Rattle.log_ship.proofs.AppendLemmas.{more_versions, same_itself, same_version}
use Rattle.log_ship.proofs.HonestLemmas.{IsLater, IsNext, all_appended, comes, follows_same, more_history, more_stands, next_admitted, told_of}
use Rattle.log_ship.proofs.TakeLemmas.{advanced_kept, fresh_is, waiting_kept}
use Rattle.log_ship.proofs.WaitLemmas.{all_drop, all_put, gap_missing, run_waits}
use Rattle.log_ship.specs.Followers.{Following, Held, IsSame, version_of}
use Rattle.log_ship.specs.Honest.{AppliesLeast, Follows, IsFair, IsHistory, IsHonest, IsLeastLeft, IsNumbered, has_come}
use Rattle.log_ship.specs.Taken.{IsAnswer, TakeAnswer, Takes, TakesAll, after_answer, appended, behind_next, left_behind, may_come, put, run_from, take_answer, waits, with_edits}
use Rattle.log_ship.specs.declared.packet.Packet.{Packet}
use Rattle.log_ship.specs.declared.taken.Taken.TheVariants.{Repeated, Waiting, Applied}
use Rattle.log_ship.specs.declared.taken.TakeRefused.TheVariants.{TooFar, Malformed, Misfit, NoMemory}
use Rattle.perm_base.specs.declared.shapes.Shapes.{Shapes}
use Rattle.policy_state.specs.States.{StandsFor, tables}
use Rattle.policy_table.specs.Tables.{Policy}
use Rattle.policy_table.specs.declared.change.Change.{Change}

module _ (opening : Policy) (history : List (List Change)) (before now : Following) (packet : Packet) (are : IsHistory before.state.shapes opening history) (holds : Follows opening history before) (honest : IsHonest history packet) where
  -- the follower with an edit that waits
  waits_more : IsLater before packet.number honest.edit → Follows opening history (record before { waiting = put (record { number = packet.number; edit = honest.edit }) before.waiting })
  waits_more later = record {
    kept = waiting_kept before packet.number honest.edit (put (record { number = packet.number; edit = honest.edit }) before.waiting) holds.kept (fresh_is before packet.number honest.edit later.fresh later.comes) later.apart refl;
    stands = holds.stands;
    waiting = all_put (λ (held : Held). IsNumbered history held.number held.edit) (record { number = packet.number; edit = honest.edit }) before.waiting honest.is holds.waiting;
  }

  -- the follower with edits that are appended
  holds_more : (version : ℕ) → IsNext before packet.number honest.edit version → Follows opening history (record { state = with_edits (appended before honest.edit) before.state; waiting = left_behind before honest.edit })
  holds_more version next =
      let count : version_of before + length (appended before honest.edit) ≡ version_of (record { state = with_edits (appended before honest.edit) before.state; waiting = left_behind before honest.edit }) = sym (more_versions before.state (appended before honest.edit)) in
      record {
        kept = advanced_kept before honest.edit (length (appended before honest.edit)) (with_edits (appended before honest.edit) before.state) (left_behind before honest.edit) holds.kept
            (record { counted = refl; state_is = same_itself (with_edits (appended before honest.edit) before.state); waiting_is = refl }) packet.number next.next;
        stands = subst (λ (n : ℕ). StandsFor (with_edits (appended before honest.edit) before.state) opening (take n history)) count
            (subst (StandsFor (with_edits (appended before honest.edit) before.state) opening) (more_history before.state.shapes opening history are before refl holds packet.number honest.edit honest.is next.next)
            (more_stands before.state opening (take (version_of before) history) (appended before honest.edit) holds.stands));
        waiting = all_drop (λ (held : Held). IsNumbered history held.number held.edit) _ before.waiting holds.waiting;
      }

  stepped : (result : TakeAnswer) → take_answer before packet.number (Ok honest.edit) ≡ result → IsSame (after_answer result (record { number = packet.number; edit = honest.edit }) before) now → Follows opening history now × IsFair result
  stepped (Ok Repeated) told after = (follows_same opening history before now after holds, tt)
  stepped (Ok Waiting) told after = (follows_same opening history _ now after (waits_more (told_of before packet.number honest.edit (Ok Waiting) told)), tt)
  stepped (Ok (Applied version)) told after = (follows_same opening history _ now after (holds_more version (told_of before packet.number honest.edit (Ok (Applied version)) told)), tt)
  stepped (Err (TooFar version)) told after = (follows_same opening history before now after holds, tt)
  stepped (Err (Malformed line)) told after = absurd (told_of before packet.number honest.edit (Err (Malformed line)) told)
  stepped (Err Misfit) told after = by (told_of before packet.number honest.edit (Err Misfit) told)
    where
      by : (may_come before.state.shapes packet.number honest.edit ≡ false) ⊎ ((packet.number ≡ version_of before + 1) × (admits before.state.shapes (tables before.state) honest.edit ≡ false)) → Follows opening history now × IsFair (Err Misfit)
      by (inl not_come) = absurd (true≢false (sym (comes before.state.shapes opening history are before refl holds packet.number honest.edit honest.is) ∙ not_come))
      by (inr next) = absurd (true≢false (sym (next_admitted before.state.shapes opening history are before refl holds packet.number honest.edit honest.is next.0) ∙ next.1))
  stepped (Err NoMemory) told after = (follows_same opening history before now after holds, tt)

  pub step : (result : TakeAnswer) → Takes before packet result now → Follows opening history now × IsFair result
  step result takes = by result (takes.answer (Ok honest.edit) honest.text) (takes.after (Ok honest.edit) honest.text)
    where
      by : (r : TakeAnswer) → IsAnswer (take_answer before packet.number (Ok honest.edit)) r → IsSame (after_answer r (record { number = packet.number; edit = honest.edit }) before) now → Follows opening history now × IsFair r
      by (Ok taken) told after = stepped (Ok taken) told after
      by (Err (TooFar version)) told after = stepped (Err (TooFar version)) told after
      by (Err (Malformed line)) told after = stepped (Err (Malformed line)) told after
      by (Err Misfit) told after = stepped (Err Misfit) told after
      by (Err NoMemory) told after = (follows_same opening history before now after holds, tt)

  pub shapes_stay : (result : TakeAnswer) → Takes before packet result now → now.state.shapes ≡ before.state.shapes
  shapes_stay result takes = by result (takes.after (Ok honest.edit) honest.text)
    where
      by : (r : TakeAnswer) → IsSame (after_answer r (record { number = packet.number; edit = honest.edit }) before) now → now.state.shapes ≡ before.state.shapes
      by (Ok Repeated) after = after.state.shapes
      by (Ok Waiting) after = after.state.shapes
      by (Ok (Applied version)) after = after.state.shapes
      by (Err refused) after = after.state.shapes

  -- the least version whose next number has not come
  least_left : (version : ℕ) → IsNext before packet.number honest.edit version → IsLeastLeft before packet.number version
  least_left version next = record {
    from = omega (arith, next.counted);
    none = none_come (ne_eqb packet.number (version + 1) (λ e. absurd (omega (arith, e, next.next, count)))) missing;
    least = λ other from until. by other from until (eqb packet.number (other + 1)) refl;
  }
    where
      count : version ≡ (version_of before + 1) + length (behind_next before)
      count = omega (arith, next.counted, ap (λ (l : List (List Change)). length l) (all_appended before.state.shapes opening history are before refl holds packet.number honest.edit honest.is next.next))

      missing : waits (version + 1) before.waiting ≡ false
      missing =
          let two : (version_of before + 1) + 1 ≡ version_of before + 2 = omega arith in
          let sum : ((version_of before + 1) + 1) + length (run_from ((version_of before + 1) + 1) before.waiting) ≡ version + 1 = omega (arith, count, ap (λ (n : ℕ). length (run_from n before.waiting)) two) in
          subst (λ (n : ℕ). waits n before.waiting ≡ false) sum (gap_missing (version_of before + 1) before.waiting holds.kept.rises)

      none_come : eqb packet.number (version + 1) ≡ false → waits (version + 1) before.waiting ≡ false → has_come before packet.number (version + 1) ≡ false
      none_come one other = rw (one, other) refl

      by : (other : ℕ) → version_of before ≤ other → other < version → (b : Bool) → eqb packet.number (other + 1) ≡ b → (b || waits (other + 1) before.waiting) ≡ true
      by other from until true e = refl
      by other from until false e =
          let apart = eqb-false packet.number (other + 1) e in
          run_waits (version_of before + 2) before.waiting (other + 1) (omega (arith, apart, next.next, from)) (omega (arith, until, count))

  pub applies_least : (result : TakeAnswer) → Takes before packet result now → AppliesLeast before packet result now
  applies_least result takes = by result (takes.answer (Ok honest.edit) honest.text) (takes.after (Ok honest.edit) honest.text)
    where
      by : (r : TakeAnswer) → IsAnswer (take_answer before packet.number (Ok honest.edit)) r → IsSame (after_answer r (record { number = packet.number; edit = honest.edit }) before) now → AppliesLeast before packet r now
      by (Ok Repeated) told after = tt
      by (Ok Waiting) told after = tt
      by (Ok (Applied version)) told after =
          let next : IsNext before packet.number honest.edit version = told_of before packet.number honest.edit (Ok (Applied version)) told in (
            same_version (with_edits (appended before honest.edit) before.state) now.state after.state ∙ more_versions before.state (appended before honest.edit) ∙ sym next.counted,
            least_left version next,
          )
      by (Err refused) told after = tt

-- all packets of a list
pub all_steps : (opening : Policy) (history : List (List Change)) (before now : Following) (packets : List Packet) (results : List TakeAnswer) → IsHistory before.state.shapes opening history → Follows opening history before
    → AllByRecursion (IsHonest history) packets → TakesAll before packets results now → Follows opening history now × AllByRecursion IsFair results
all_steps opening history before now [] [] are holds honest taken = (follows_same opening history before now taken holds, tt)
all_steps opening history before now [] (result ∷ results) are holds honest taken = absurd taken
all_steps opening history before now (packet ∷ packets) [] are holds honest taken = absurd taken
all_steps opening history before now (packet ∷ packets) (result ∷ results) are holds honest taken =
    let one = step opening history before taken.0 packet are holds honest.0 result taken.1 in
    let shapes : taken.0.state.shapes ≡ before.state.shapes = shapes_stay opening history before taken.0 packet are holds honest.0 result taken.1 in
    let rest = all_steps opening history taken.0 now packets results (subst (λ (s : Shapes). IsHistory s opening history) (sym shapes) are) one.0 honest.1 taken.2 in
    (rest.0, (one.1, rest.1))
