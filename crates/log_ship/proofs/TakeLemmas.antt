-- What becomes of a packet, and what a follower keeps.
use Rattle.std.proofs.Common.{◌≡◌, ◌≢◌, ℕ, zero, suc, ◌+◌, ◌<◌, ◌≤◌, ◌⊎◌, inl, inr, Bool, true, false, cond, List, [], ◌∷◌, ◌++◌, append-nil, drop, length, min, Ok, Err, refl, sym, ap, subst, ◌∙◌, arith}
use Rattle.std.specs.Prelude.{nat_le, nat_lt}
use Rattle.std.specs.List.{AllByRecursion, list_all}
use Rattle.std.proofs.lemmas.Bool.{and_parts, leb-true, leb-false, lt-ltb, ltb-false, ltb-true, ne_eqb, or_parts}
use Rattle.std.proofs.lemmas.Bool.Decides.{Decides-eqb}
use Rattle.std.proofs.lemmas.List.{nil_from_length}
use Rattle.edit_calls.specs.Admitted.{admits}
use Rattle.log_ship.proofs.AppendLemmas.{admitted_shorter, more_versions, same_itself, same_version}
use Rattle.log_ship.proofs.WaitLemmas.{all_drop, all_put, put_first, rises_gap, rises_lower, rises_put, rises_run, run_few}
use Rattle.log_ship.specs.Followers.{Following, Held, IsFollowing, IsSame, IsSameState, Rises, version_of}
use Rattle.log_ship.specs.Helps.Looks.{IsLook, IsNew}
use Rattle.log_ship.specs.Helps.Waits.{next_front, next_run}
use Rattle.log_ship.specs.Taken.{IsAnswer, Reads, TakeAnswer, Takes, TextReading, admitted, after_answer, appended, behind_next, edit_answer, edit_read, is_repeated, left_behind, may_come, most_ahead, put, rules_may_stand, run_from, take_answer, text_answer, waits, with_edits}
use Rattle.log_ship.specs.declared.packet.Packet.{Packet}
use Rattle.log_ship.specs.declared.taken.Taken.TheVariants.{Repeated, Waiting, Applied}
use Rattle.log_ship.specs.declared.taken.TakeRefused.{TakeRefused}
use Rattle.log_ship.specs.declared.taken.TakeRefused.TheVariants.{TooFar, Malformed, Misfit}
use Rattle.policy_state.specs.States.{State, tables}
use Rattle.policy_table.specs.Changes.{edited, replay}
use Rattle.policy_table.specs.declared.change.Change.{Change}
use Rattle.version_log.specs.EditText.{IsEditFault, IsEditText}
use Rattle.version_log.specs.Log.{most_versions, versions}
use Rattle.version_log.specs.declared.edit_fault.EditFault.{EditFault}
use Rattle.version_log.specs.declared.edit_fault.EditFault.TheVariants as fault
use Rattle.version_log.proofs.CallerLemmas.{edit_once, no_edit, one_fault}

-- ---- one reading of a text

pub reading_once : (text : List ℕ) (one other : TextReading) → Reads text one → Reads text other → one ≡ other
reading_once text (Ok edit) (Ok other) a b = ap (λ (e : List Change). Ok e) (edit_once text edit other a b)
reading_once text (Ok edit) (Err line) a b = absurd (no_edit text (fault.Malformed line) edit b a)
reading_once text (Err line) (Ok edit) a b = absurd (no_edit text (fault.Malformed line) edit a b)
reading_once text (Err line) (Err other) a b = let same : fault.Malformed line ≡ fault.Malformed other = one_fault text (fault.Malformed line) (fault.Malformed other) a b in let lines : line ≡ other = cc in ap (λ (n : ℕ). Err n) lines

pub some_reading : (text : List ℕ) → ((changes : List Change) × IsEditText text changes) ⊎ ((told : EditFault) × IsEditFault text told) → (reading : TextReading) × Reads text reading
some_reading text (inl is) = (Ok is.0, is.1)
some_reading text (inr bad) = by bad.0 bad.1
  where
    by : (told : EditFault) → IsEditFault text told → (reading : TextReading) × Reads text reading
    by (fault.Malformed line) is = (Err line, is)
    by fault.NoMemory is = absurd is

-- ---- answers where nothing is taken

pub repeated_answer : (follower : Following) (number : ℕ) (reading : TextReading) → is_repeated follower number ≡ true → take_answer follower number reading ≡ Ok Repeated
repeated_answer follower number reading is = rw is refl

-- not repeated, and not too far
module _ (follower : Following) (number : ℕ) (fresh : is_repeated follower number ≡ false) where
  pub far_answer : (reading : TextReading) → version_of follower + most_ahead < number → take_answer follower number reading ≡ Err (TooFar (version_of follower))
  far_answer reading far = rw (fresh, lt-ltb (version_of follower + most_ahead) number far) refl

  pub near_answer : (reading : TextReading) → number ≤ version_of follower + most_ahead → take_answer follower number reading ≡ text_answer follower number reading
  near_answer reading near = rw (fresh, near_test) refl
    where
      near_test : nat_lt (version_of follower + most_ahead) number ≡ false
      near_test = by (nat_lt (version_of follower + most_ahead) number) refl
        where
          by : (b : Bool) → nat_lt (version_of follower + most_ahead) number ≡ b → b ≡ false
          by true e = absurd (omega (arith, near, ltb-true (version_of follower + most_ahead) number e))
          by false e = refl

pub misfit_answer : (follower : Following) (number : ℕ) (edit : List Change) → may_come follower.state.shapes number edit ≡ false → edit_answer follower number edit ≡ Err Misfit
misfit_answer follower number edit is = rw is refl

-- ---- looks

pub look_far : (follower : Following) (packet : Packet) → is_repeated follower packet.number ≡ false → version_of follower + most_ahead < packet.number → IsLook follower packet (Err (TooFar (version_of follower)))
look_far follower packet fresh far = λ reading reads. far_answer follower packet.number fresh reading far

pub look_malformed : (follower : Following) (packet : Packet) (line : ℕ) → is_repeated follower packet.number ≡ false → packet.number ≤ version_of follower + most_ahead → IsEditFault packet.text (fault.Malformed line) → IsLook follower packet (Err (Malformed line))
look_malformed follower packet line fresh near is = λ reading reads.
    near_answer follower packet.number fresh reading near ∙ ap (text_answer follower packet.number) (reading_once packet.text reading (Err line) reads is)

pub look_misfit : (follower : Following) (packet : Packet) (edit : List Change) → is_repeated follower packet.number ≡ false → packet.number ≤ version_of follower + most_ahead → IsEditText packet.text edit
    → may_come follower.state.shapes packet.number edit ≡ false → IsLook follower packet (Err Misfit)
look_misfit follower packet edit fresh near is not_fit = λ reading reads.
    near_answer follower packet.number fresh reading near ∙ ap (text_answer follower packet.number) (reading_once packet.text reading (Ok edit) reads is) ∙ misfit_answer follower packet.number edit not_fit

-- ---- from a look to an answer

pub itself : (follower : Following) → IsSame follower follower
itself follower = record { state = same_itself follower.state; waiting = refl }

pub takes_repeated : (follower : Following) (packet : Packet) → is_repeated follower packet.number ≡ true → Takes follower packet (Ok Repeated) follower
takes_repeated follower packet is = record { answer = λ reading reads. repeated_answer follower packet.number reading is; after = λ reading reads. itself follower }

pub takes_refused : (follower : Following) (packet : Packet) (refused : TakeRefused) → IsLook follower packet (Err refused) → Takes follower packet (Err refused) follower
takes_refused follower packet refused look = record { answer = look; after = λ reading reads. itself follower }

pub takes_new : (before now : Following) (packet : Packet) (edit : List Change) (result : TakeAnswer) → IsNew before packet edit → IsAnswer (edit_answer before packet.number edit) result
    → IsSame (after_answer result (record { number = packet.number; edit = edit }) before) now → Takes before packet result now
takes_new before now packet edit result new answer after = record {
  answer = λ reading reads. subst (λ (a : TakeAnswer). IsAnswer a result) (sym (near_answer before packet.number new.fresh reading new.near ∙ ap (text_answer before packet.number) (same reading reads))) answer;
  after = λ reading reads. subst (λ (r : TextReading). IsSame (after_answer result (record { number = packet.number; edit = edit_read r }) before) now) (sym (same reading reads)) after;
}
  where
    same : (reading : TextReading) → Reads packet.text reading → reading ≡ Ok edit
    same reading reads = reading_once packet.text reading (Ok edit) reads new.text

-- ---- an edit that is new

pub record IsFresh (follower : Following) (number : ℕ) (edit : List Change) : Type 0 where
  pub above : version_of follower < number
  pub apart : waits number follower.waiting ≡ false
  pub few : number ≤ most_versions

pub fresh_is : (follower : Following) (number : ℕ) (edit : List Change) → is_repeated follower number ≡ false → may_come follower.state.shapes number edit ≡ true → IsFresh follower number edit
fresh_is follower number edit fresh comes =
    let parts = or_parts (nat_le number (version_of follower)) (waits number follower.waiting) fresh in
    record {
      above = leb-false number (version_of follower) parts.0;
      apart = parts.1;
      few = leb-true number most_versions (and_parts (nat_le number most_versions) (list_all (rules_may_stand follower.state.shapes) edit) comes).0;
    }

-- it waits
pub waiting_answer : (follower : Following) (number : ℕ) (edit : List Change) → may_come follower.state.shapes number edit ≡ true → number ≢ version_of follower + 1 → edit_answer follower number edit ≡ Ok Waiting
waiting_answer follower number edit comes apart = rw (comes, ne_eqb number (version_of follower + 1) apart) refl

pub waiting_same : (before : Following) (held : Held) (waiting : List Held) → waiting ≡ put held before.waiting → IsSame (after_answer (Ok Waiting) held before) (record { state = before.state; waiting = waiting })
waiting_same before held waiting is = record { state = same_itself before.state; waiting = is }

pub waiting_kept : (before : Following) (number : ℕ) (edit : List Change) (waiting : List Held) → IsFollowing before → IsFresh before number edit → number ≢ version_of before + 1
    → waiting ≡ put (record { number = number; edit = edit }) before.waiting → IsFollowing (record { state = before.state; waiting = waiting })
waiting_kept before number edit waiting kept fresh apart is =
    let held : Held = record { number = number; edit = edit } in
    subst (λ (w : List Held). IsFollowing (record { state = before.state; waiting = w })) (sym is) (record {
      rises = rises_put (version_of before + 1) held before.waiting (omega (arith, fresh.above, apart)) fresh.apart kept.rises;
      few = all_put (λ (h : Held). h.number ≤ most_versions) held before.waiting fresh.few kept.few;
    })

-- ---- it is the next one

module _ (before : Following) (number : ℕ) (edit : List Change) (kept : IsFollowing before) (next : number ≡ version_of before + 1) where
  pub in_front : put (record { number = number; edit = edit }) before.waiting ≡ record { number = number; edit = edit } ∷ before.waiting
  in_front = put_first (version_of before + 1) (record { number = number; edit = edit }) before.waiting (omega (arith, next)) kept.rises

  pub run_is : next_run before.state (put (record { number = number; edit = edit }) before.waiting) ≡ edit ∷ behind_next before
  run_is =
      ap (run_from (version_of before + 1)) in_front
      ∙ ap (λ (b : Bool). cond b (edit ∷ run_from ((version_of before + 1) + 1) before.waiting) []) ((Decides-eqb number (version_of before + 1)).1 next)
      ∙ ap (λ (n : ℕ). edit ∷ run_from n before.waiting) (omega arith)

  pub front_is : next_front before.state (put (record { number = number; edit = edit }) before.waiting) ≡ appended before edit
  front_is = ap (admitted before.state.shapes (tables before.state)) run_is

  pub run_fits : number ≤ most_versions → versions before.state.log + length (next_run before.state (put (record { number = number; edit = edit }) before.waiting)) ≤ most_versions
  run_fits few =
      let sizes : length (next_run before.state (put (record { number = number; edit = edit }) before.waiting)) ≡ length (edit ∷ behind_next before) = ap (λ (l : List (List Change)). length l) run_is in
      let behind = run_few (version_of before + 2) before.waiting (omega (arith, few, next)) kept.few in
      omega (arith, sizes, behind)

  -- the edits that wait as they were
  pub taken_back : (waiting : List Held) → waiting ≡ drop 1 (put (record { number = number; edit = edit }) before.waiting) → waiting ≡ before.waiting
  taken_back waiting is = is ∙ ap (drop 1) in_front

  -- what is left of them
  left_of : (waiting : List Held) → waiting ≡ drop (min (length (next_front before.state (put (record { number = number; edit = edit }) before.waiting)) + 1) (length (next_run before.state (put (record { number = number; edit = edit }) before.waiting)))) (put (record { number = number; edit = edit }) before.waiting)
      → waiting ≡ left_behind before edit
  left_of waiting is =
      let count : min (length (next_front before.state (put (record { number = number; edit = edit }) before.waiting)) + 1) (length (next_run before.state (put (record { number = number; edit = edit }) before.waiting))) ≡ suc (min (length (appended before edit)) (length (behind_next before)))
      = omega (arith, ap (λ (l : List (List Change)). length l) front_is, ap (λ (l : List (List Change)). length l) run_is) in
      is ∙ ap (λ (n : ℕ). drop n (put (record { number = number; edit = edit }) before.waiting)) count
      ∙ ap (drop (suc (min (length (appended before edit)) (length (behind_next before))))) in_front

  few_left : (waiting : List Held) → waiting ≡ left_behind before edit → AllByRecursion (λ (h : Held). h.number ≤ most_versions) waiting
  few_left waiting is = subst (AllByRecursion (λ (h : Held). h.number ≤ most_versions)) (sym is) (all_drop (λ (h : Held). h.number ≤ most_versions) (min (length (appended before edit)) (length (behind_next before))) before.waiting kept.few)

  -- the numbers that are left rise from above the next one
  rises_left : 0 < length (appended before edit) → Rises ((version_of before + length (appended before edit)) + 1) (left_behind before edit)
  rises_left some = by (nat_lt (length (behind_next before)) (length (appended before edit))) refl
    where
      at : (version_of before + 1) + 1 ≡ version_of before + 2
      at = omega arith

      by : (b : Bool) → nat_lt (length (behind_next before)) (length (appended before edit)) ≡ b → Rises ((version_of before + length (appended before edit)) + 1) (left_behind before edit)
      by false e =
          let le : length (appended before edit) ≤ length (behind_next before) = ltb-false (length (behind_next before)) (length (appended before edit)) e in
          let count : min (length (appended before edit)) (length (behind_next before)) ≡ length (appended before edit) = omega (arith, le) in
          let within : length (appended before edit) ≤ length (run_from ((version_of before + 1) + 1) before.waiting) = subst (λ (n : ℕ). length (appended before edit) ≤ length (run_from n before.waiting)) (sym at) le in
          let sum : (version_of before + 1) + length (appended before edit) ≡ (version_of before + length (appended before edit)) + 1 = omega arith in
          subst (λ (n : ℕ). Rises ((version_of before + length (appended before edit)) + 1) (drop n before.waiting)) (sym count)
          (subst (λ (n : ℕ). Rises n (drop (length (appended before edit)) before.waiting)) sum (rises_run (version_of before + 1) before.waiting (length (appended before edit)) kept.rises within))
      by true e =
          let more : length (behind_next before) < length (appended before edit) = ltb-true (length (behind_next before)) (length (appended before edit)) e in
          let most = admitted_shorter before.state.shapes (tables before.state) (edit ∷ behind_next before) in
          let count : min (length (appended before edit)) (length (behind_next before)) ≡ length (behind_next before) = omega (arith, more) in
          let sum : ((version_of before + 1) + 1) + length (behind_next before) ≡ (version_of before + length (appended before edit)) + 1 = omega (arith, more, most) in
          let gap : Rises (((version_of before + 1) + 1) + length (behind_next before)) (drop (length (behind_next before)) before.waiting)
          = subst (λ (n : ℕ). Rises (((version_of before + 1) + 1) + length (run_from n before.waiting)) (drop (length (run_from n before.waiting)) before.waiting)) at (rises_gap (version_of before + 1) before.waiting kept.rises) in
          subst (λ (n : ℕ). Rises ((version_of before + length (appended before edit)) + 1) (drop n before.waiting)) (sym count)
          (subst (λ (n : ℕ). Rises n (drop (length (behind_next before)) before.waiting)) sum gap)

  -- ---- memory ran out

  pub refused_same : (state : State) (waiting : List Held) → IsSameState before.state state → waiting ≡ drop 1 (put (record { number = number; edit = edit }) before.waiting) → IsSame before (record { state = state; waiting = waiting })
  refused_same state waiting same is = record { state = same; waiting = taken_back waiting is }

-- what waits and what is appended where an edit that is the next one was put among those that wait, and those were advanced
pub record IsAdvanced (before : Following) (edit : List Change) (count : ℕ) (state : State) (waiting : List Held) : Type 0 where
  pub counted : count ≡ length (appended before edit)
  pub state_is : IsSameState (with_edits (appended before edit) before.state) state
  pub waiting_is : waiting ≡ left_behind before edit

pub advanced_is : (before : Following) (number : ℕ) (edit : List Change) (count : ℕ) (state : State) (waiting : List Held) → IsFollowing before → number ≡ version_of before + 1
    → count ≡ length (next_front before.state (put (record { number = number; edit = edit }) before.waiting))
    → IsSameState (with_edits (next_front before.state (put (record { number = number; edit = edit }) before.waiting)) before.state) state
    → waiting ≡ drop (min (length (next_front before.state (put (record { number = number; edit = edit }) before.waiting)) + 1) (length (next_run before.state (put (record { number = number; edit = edit }) before.waiting)))) (put (record { number = number; edit = edit }) before.waiting)
    → IsAdvanced before edit count state waiting
advanced_is before number edit count state waiting kept next counted state_is waiting_is =
    let front : next_front before.state (put (record { number = number; edit = edit }) before.waiting) ≡ appended before edit = front_is before number edit kept next in
    record {
      counted = counted ∙ ap (λ (l : List (List Change)). length l) front;
      state_is = subst (λ (l : List (List Change)). IsSameState (with_edits l before.state) state) front state_is;
      waiting_is = left_of before number edit kept next waiting waiting_is;
    }

module _ (before : Following) (edit : List Change) (count : ℕ) (state : State) (waiting : List Held) (kept : IsFollowing before) (done : IsAdvanced before edit count state waiting) where
  pub version_now : versions state.log ≡ version_of before + length (appended before edit)
  version_now = same_version (with_edits (appended before edit) before.state) state done.state_is ∙ more_versions before.state (appended before edit)

  pub advanced_kept : (number : ℕ) → number ≡ version_of before + 1 → IsFollowing (record { state = state; waiting = waiting })
  advanced_kept number next =
      let rises : Rises ((version_of before + length (appended before edit)) + 1) (left_behind before edit) = by (length (appended before edit)) refl in
      record {
        rises = subst (λ (n : ℕ). Rises (n + 1) waiting) (sym version_now) (subst (Rises ((version_of before + length (appended before edit)) + 1)) (sym done.waiting_is) rises);
        few = few_left before number edit kept next waiting done.waiting_is;
      }
    where
      by : (m : ℕ) → length (appended before edit) ≡ m → Rises ((version_of before + length (appended before edit)) + 1) (left_behind before edit)
      by zero e =
          let none : min (length (appended before edit)) (length (behind_next before)) ≡ 0 = omega (arith, e) in
          subst (λ (n : ℕ). Rises ((version_of before + length (appended before edit)) + 1) (drop n before.waiting)) (sym none) (rises_lower ((version_of before + length (appended before edit)) + 1) (version_of before + 1) before.waiting (omega (arith, e)) kept.rises)
      by (suc m) e = rises_left before number edit kept next (omega (arith, e))

  -- none is admitted
  pub misfit_told : (number : ℕ) → number ≡ version_of before + 1 → may_come before.state.shapes number edit ≡ true → count ≡ 0 → edit_answer before number edit ≡ Err Misfit
  misfit_told number next comes none = by (admits before.state.shapes (tables before.state) edit) refl
    where
      by : (b : Bool) → admits before.state.shapes (tables before.state) edit ≡ b → edit_answer before number edit ≡ Err Misfit
      by true e =
          let some : length (appended before edit) ≡ length (edit ∷ admitted before.state.shapes (edited edit (tables before.state)) (behind_next before))
          = ap (λ (b : Bool). length (cond b (edit ∷ admitted before.state.shapes (edited edit (tables before.state)) (behind_next before)) [])) e in
          absurd (omega (arith, none, done.counted, some))
      by false e = rw (comes, (Decides-eqb number (version_of before + 1)).1 next, e) refl

  pub misfit_same : count ≡ 0 → IsSame before (record { state = state; waiting = waiting })
  misfit_same none =
      let empty : appended before edit ≡ [] = nil_from_length (appended before edit) (sym done.counted ∙ none) in
      let gone : min (length (appended before edit)) (length (behind_next before)) ≡ 0 = omega (arith, none, done.counted) in
      record {
        state = record {
          shapes = done.state_is.shapes;
          key = done.state_is.key;
          start = done.state_is.start;
          tail = done.state_is.tail ∙ ap (λ (l : List (List Change)). before.state.log.tail ++ l) empty ∙ append-nil before.state.log.tail;
          tables_are = done.state_is.tables_are ∙ ap (λ (l : List (List Change)). replay l (tables before.state)) empty;
        };
        waiting = done.waiting_is ∙ ap (λ (n : ℕ). drop n before.waiting) gone;
      }

  -- some are
  pub applied_told : (number version : ℕ) → number ≡ version_of before + 1 → may_come before.state.shapes number edit ≡ true → 0 < count → version ≡ versions state.log → edit_answer before number edit ≡ Ok (Applied version)
  applied_told number version next comes some is = by (admits before.state.shapes (tables before.state) edit) refl
    where
      pick : Bool → TakeAnswer
      pick b = cond b (Ok (Applied (version_of before + length (appended before edit)))) (Err Misfit)

      by : (b : Bool) → admits before.state.shapes (tables before.state) edit ≡ b → edit_answer before number edit ≡ Ok (Applied version)
      by true e = rw (comes, (Decides-eqb number (version_of before + 1)).1 next) (ap pick e ∙ ap (λ (v : ℕ). Ok (Applied v)) (sym (is ∙ version_now)))
      by false e =
          let none : length (appended before edit) ≡ 0 = ap (λ (b : Bool). length (cond b (edit ∷ admitted before.state.shapes (edited edit (tables before.state)) (behind_next before)) [])) e in
          absurd (omega (arith, some, done.counted, none))

  pub applied_same : (number version : ℕ) → IsSame (after_answer (Ok (Applied version)) (record { number = number; edit = edit }) before) (record { state = state; waiting = waiting })
  applied_same number version = record { state = done.state_is; waiting = done.waiting_is }
