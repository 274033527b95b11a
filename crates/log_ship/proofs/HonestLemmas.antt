-- Followers that hold a front of a history.
use Rattle.std.proofs.Common.{◌≡◌, ◌≢◌, ℕ, suc, ◌+◌, ◌-◌, ◌≤◌, Bool, true, false, ◌⊎◌, inl, inr, cond, eqb, List, [], ◌∷◌, ◌++◌, drop, take, slice_get, not, length, length-append, length-take, Some, Ok, Err, refl, sym, ap, subst, ◌∙◌, arith}
use Rattle.std.specs.Prelude.{nat_lt}
use Rattle.std.specs.List.{AllByRecursion}
use Rattle.std.proofs.lemmas.Bool.{eqb-false, eqb-true, le-leb}
use Rattle.std.proofs.lemmas.Bool.Decides.{Decides-eqb}
use Rattle.std.proofs.lemmas.List.{drop-append-le, take-append-drop}
use Rattle.std.proofs.Math.Seq.{take-add}
use Rattle.edit_calls.proofs.CallerLemmas.{back_admitted, front_admitted}
use Rattle.edit_calls.specs.Admitted.{AreAdmitted, admits}
use Rattle.log_ship.proofs.AppendLemmas.{all_admitted, same_stands, same_version}
use Rattle.log_ship.proofs.HistoryLemmas.{AllMay, drop_at, edit_at, sound_may, within_at}
use Rattle.log_ship.specs.Followers.{Following, Held, IsSame, Rises, version_of}
use Rattle.log_ship.specs.Honest.{Follows, IsHistory, IsNumbered}
use Rattle.log_ship.specs.Taken.{TakeAnswer, appended, behind_next, edit_answer, is_repeated, may_come, most_ahead, run_from, take_answer, with_edits}
use Rattle.log_ship.specs.declared.taken.Taken.TheVariants.{Repeated, Waiting, Applied}
use Rattle.log_ship.specs.declared.taken.TakeRefused.TheVariants.{TooFar, Malformed, Misfit, NoMemory}
use Rattle.perm_base.specs.declared.shapes.Shapes.{Shapes}
use Rattle.policy_state.proofs.CallerLemmas.{version_stands}
use Rattle.policy_state.specs.States.{State, StandsFor, tables}
use Rattle.policy_table.specs.Changes.{replay}
use Rattle.policy_table.specs.Tables.{Policy}
use Rattle.policy_table.specs.declared.change.Change.{Change}
use Rattle.version_log.specs.Log.{most_versions}
use Rattle.version_log.proofs.CallerLemmas.{replay_both}

-- ---- what an answer to an edit says of it

pub record IsNext (follower : Following) (number : ℕ) (edit : List Change) (version : ℕ) : Type 0 where
  pub fresh : is_repeated follower number ≡ false
  pub comes : may_come follower.state.shapes number edit ≡ true
  pub next : number ≡ version_of follower + 1
  pub admitted : admits follower.state.shapes (tables follower.state) edit ≡ true
  pub counted : version ≡ version_of follower + length (appended follower edit)

pub record IsLater (follower : Following) (number : ℕ) (edit : List Change) : Type 0 where
  pub fresh : is_repeated follower number ≡ false
  pub comes : may_come follower.state.shapes number edit ≡ true
  pub apart : number ≢ version_of follower + 1

abbrev pub SaysOf : Following → ℕ → List Change → TakeAnswer → Type 0
SaysOf follower number edit (Ok Repeated) = is_repeated follower number ≡ true
SaysOf follower number edit (Ok Waiting) = IsLater follower number edit
SaysOf follower number edit (Ok (Applied version)) = IsNext follower number edit version
SaysOf follower number edit (Err (TooFar version)) = Unit {0}
SaysOf follower number edit (Err (Malformed line)) = ⊥
SaysOf follower number edit (Err Misfit) = (may_come follower.state.shapes number edit ≡ false) ⊎ ((number ≡ version_of follower + 1) × (admits follower.state.shapes (tables follower.state) edit ≡ false))
SaysOf follower number edit (Err NoMemory) = ⊥

pub says_of : (follower : Following) (number : ℕ) (edit : List Change) → SaysOf follower number edit (take_answer follower number (Ok edit))
says_of follower number edit = by_repeated (is_repeated follower number) refl
  where
    by_admitted : (b : Bool) → admits follower.state.shapes (tables follower.state) edit ≡ b → is_repeated follower number ≡ false → may_come follower.state.shapes number edit ≡ true → number ≡ version_of follower + 1
        → SaysOf follower number edit (cond b (Ok (Applied (version_of follower + length (appended follower edit)))) (Err Misfit))
    by_admitted true e fresh comes next = record { fresh = fresh; comes = comes; next = next; admitted = e; counted = refl }
    by_admitted false e fresh comes next = inr (next, e)

    by_next : (b : Bool) → eqb number (version_of follower + 1) ≡ b → is_repeated follower number ≡ false → may_come follower.state.shapes number edit ≡ true
        → SaysOf follower number edit (cond (not b) (Ok Waiting) (cond (admits follower.state.shapes (tables follower.state) edit) (Ok (Applied (version_of follower + length (appended follower edit)))) (Err Misfit)))
    by_next true e fresh comes = by_admitted (admits follower.state.shapes (tables follower.state) edit) refl fresh comes (eqb-true number (version_of follower + 1) e)
    by_next false e fresh comes = record { fresh = fresh; comes = comes; apart = eqb-false number (version_of follower + 1) e }

    by_comes : (b : Bool) → may_come follower.state.shapes number edit ≡ b → is_repeated follower number ≡ false
        → SaysOf follower number edit (cond (not b) (Err Misfit) (cond (not (eqb number (version_of follower + 1))) (Ok Waiting) (cond (admits follower.state.shapes (tables follower.state) edit) (Ok (Applied (version_of follower + length (appended follower edit)))) (Err Misfit))))
    by_comes true e fresh = by_next (eqb number (version_of follower + 1)) refl fresh e
    by_comes false e fresh = inl e

    by_far : (b : Bool) → is_repeated follower number ≡ false → SaysOf follower number edit (cond b (Err (TooFar (version_of follower))) (edit_answer follower number edit))
    by_far true fresh = tt
    by_far false fresh = by_comes (may_come follower.state.shapes number edit) refl fresh

    by_repeated : (b : Bool) → is_repeated follower number ≡ b → SaysOf follower number edit (cond b (Ok Repeated) (cond (nat_lt (version_of follower + most_ahead) number) (Err (TooFar (version_of follower))) (edit_answer follower number edit)))
    by_repeated true e = e
    by_repeated false e = by_far (nat_lt (version_of follower + most_ahead) number) e

-- what is said of the answer is said of a result
pub told_of : (follower : Following) (number : ℕ) (edit : List Change) (result : TakeAnswer) → take_answer follower number (Ok edit) ≡ result → SaysOf follower number edit result
told_of follower number edit result e = subst (SaysOf follower number edit) e (says_of follower number edit)

-- ---- a follower of a history

module _ (shapes : Shapes) (opening : Policy) (history : List (List Change)) (are : IsHistory shapes opening history) where
  may : AllMay shapes opening
  may = sound_may shapes opening are.sound

  -- edits that wait without a gap are those of the history
  pub run_is_part : (place : ℕ) (waiting : List Held) → AllByRecursion (λ (held : Held). IsNumbered history held.number held.edit) waiting → run_from (place + 1) waiting ≡ take (length (run_from (place + 1) waiting)) (drop place history)
  run_is_part place [] all = refl
  run_is_part place (held ∷ others) all = by (eqb held.number (place + 1)) refl (run_is_part (place + 1) others all.1)
    where
      by : (b : Bool) → eqb held.number (place + 1) ≡ b → run_from ((place + 1) + 1) others ≡ take (length (run_from ((place + 1) + 1) others)) (drop (place + 1) history)
          → cond b (held.edit ∷ run_from ((place + 1) + 1) others) [] ≡ take (length (cond b (held.edit ∷ run_from ((place + 1) + 1) others) [])) (drop place history)
      by false e rest = refl
      by true e rest =
          let at : held.number - 1 ≡ place = omega (arith, eqb-true held.number (place + 1) e) in
          let there : slice_get history place ≡ Some held.edit = ap (slice_get history) (sym at) ∙ all.0.there in
          let one : place + 1 ≡ suc place = omega arith in
          let more : run_from ((place + 1) + 1) others ≡ take (length (run_from ((place + 1) + 1) others)) (drop (suc place) history)
          = rest ∙ ap (λ (n : ℕ). take (length (run_from ((place + 1) + 1) others)) (drop n history)) one in
          let count : suc (length (run_from ((place + 1) + 1) others)) ≡ length (held.edit ∷ run_from ((place + 1) + 1) others) = omega arith in
          ap (λ (l : List (List Change)). held.edit ∷ l) more
          ∙ ap (take (suc (length (run_from ((place + 1) + 1) others)))) (sym (drop_at history place held.edit there))
          ∙ ap (λ (n : ℕ). take n (drop place history)) count

  module _ (before : Following) (same_shapes : before.state.shapes ≡ shapes) (holds : Follows opening history before) where
    pub tables_are : tables before.state ≡ replay (take (version_of before) history) opening
    tables_are = holds.stands.tables

    pub version_few : version_of before ≤ length history
    version_few =
        let size : version_of before ≡ length (take (version_of before) history) = version_stands before.state.log (take (version_of before) history) holds.stands.log in
        omega (arith, size, length-take (version_of before) history)

    -- an edit of the history may come
    pub comes : (number : ℕ) (edit : List Change) → IsNumbered history number edit → may_come before.state.shapes number edit ≡ true
    comes number edit is =
        let at = edit_at shapes opening history (number - 1) edit may are.admitted is.there in
        let few : number ≤ most_versions = omega (arith, is.some, within_at history (number - 1) edit is.there, are.few) in
        ap (λ (s : Shapes). may_come s number edit) same_shapes ∙ rw (le-leb number most_versions few) at.fit

    -- the next one is admitted
    pub next_admitted : (number : ℕ) (edit : List Change) → IsNumbered history number edit → number ≡ version_of before + 1 → admits before.state.shapes (tables before.state) edit ≡ true
    next_admitted number edit is next =
        let place : number - 1 ≡ version_of before = omega (arith, next) in
        let there : slice_get history (version_of before) ≡ Some edit = ap (slice_get history) (sym place) ∙ is.there in
        let at = edit_at shapes opening history (version_of before) edit may are.admitted there in
        ap (λ (s : Shapes). admits s (tables before.state) edit) same_shapes ∙ ap (λ (p : Policy). admits shapes p edit) tables_are ∙ at.admitted

    -- with it all that wait behind it without a gap are appended: they are the history's next edits
    module _ (number : ℕ) (edit : List Change) (is : IsNumbered history number edit) (next : number ≡ version_of before + 1) where
      next_part : edit ∷ behind_next before ≡ take (length (edit ∷ behind_next before)) (drop (version_of before) history)
      next_part =
          let whole = run_is_part (version_of before) (record { number = number; edit = edit } ∷ before.waiting) (is, holds.waiting) in
          let run : run_from (version_of before + 1) (record { number = number; edit = edit } ∷ before.waiting) ≡ edit ∷ behind_next before
          = ap (λ (b : Bool). cond b (edit ∷ run_from ((version_of before + 1) + 1) before.waiting) []) ((Decides-eqb number (version_of before + 1)).1 next)
          ∙ ap (λ (n : ℕ). edit ∷ run_from n before.waiting) (omega arith) in
          sym run ∙ whole ∙ ap (λ (l : List (List Change)). take (length l) (drop (version_of before) history)) run

      pub all_appended : appended before edit ≡ edit ∷ behind_next before
      all_appended =
          let parts : AreAdmitted shapes opening (take (version_of before) history ++ drop (version_of before) history)
          = subst (AreAdmitted shapes opening) (sym (take-append-drop (version_of before) history)) are.admitted in
          let behind : AreAdmitted shapes (replay (take (version_of before) history) opening) (drop (version_of before) history) = back_admitted shapes opening (take (version_of before) history) (drop (version_of before) history) parts in
          let cut : AreAdmitted shapes (replay (take (version_of before) history) opening) (take (length (edit ∷ behind_next before)) (drop (version_of before) history) ++ drop (length (edit ∷ behind_next before)) (drop (version_of before) history))
          = subst (AreAdmitted shapes (replay (take (version_of before) history) opening)) (sym (take-append-drop (length (edit ∷ behind_next before)) (drop (version_of before) history))) behind in
          let front = front_admitted shapes (replay (take (version_of before) history) opening) (take (length (edit ∷ behind_next before)) (drop (version_of before) history)) (drop (length (edit ∷ behind_next before)) (drop (version_of before) history)) cut in
          let own : AreAdmitted shapes (tables before.state) (edit ∷ behind_next before)
          = subst (λ (p : Policy). AreAdmitted shapes p (edit ∷ behind_next before)) (sym tables_are) (subst (AreAdmitted shapes (replay (take (version_of before) history) opening)) (sym next_part) front) in
          all_admitted before.state.shapes (tables before.state) (edit ∷ behind_next before) (subst (λ (s : Shapes). AreAdmitted s (tables before.state) (edit ∷ behind_next before)) (sym same_shapes) own)

      -- the first edits of the history, with those
      pub more_history : take (version_of before) history ++ appended before edit ≡ take (version_of before + length (appended before edit)) history
      more_history =
          let part : appended before edit ≡ take (length (appended before edit)) (drop (version_of before) history)
          = all_appended ∙ next_part ∙ ap (λ (l : List (List Change)). take (length l) (drop (version_of before) history)) (sym all_appended) in
          ap (λ (l : List (List Change)). take (version_of before) history ++ l) part ∙ sym (take-add (version_of before) (length (appended before edit)) history)

-- ---- a follower as it was

pub follows_same : (opening : Policy) (history : List (List Change)) (before now : Following) → IsSame before now → Follows opening history before → Follows opening history now
follows_same opening history before now same holds =
    let version : version_of now ≡ version_of before = same_version before.state now.state same.state in
    record {
      kept = record {
        rises = subst (λ (n : ℕ). Rises (n + 1) now.waiting) (sym version) (subst (Rises (version_of before + 1)) (sym same.waiting) holds.kept.rises);
        few = subst (AllByRecursion (λ (held : Held). held.number ≤ most_versions)) (sym same.waiting) holds.kept.few;
      };
      stands = subst (λ (n : ℕ). StandsFor now.state opening (take n history)) (sym version) (same_stands before.state now.state opening (take (version_of before) history) same.state holds.stands);
      waiting = subst (AllByRecursion (λ (held : Held). IsNumbered history held.number held.edit)) (sym same.waiting) holds.waiting;
    }

-- a policy that stands for edits stands, with more, for more
pub more_stands : (state : State) (opening : Policy) (front edits : List (List Change)) → StandsFor state opening front → StandsFor (with_edits edits state) opening (front ++ edits)
more_stands state opening front edits stands = record {
  log = record {
    within = omega (arith, stands.log.within, length-append front edits);
    tail = ap (λ (l : List (List Change)). l ++ edits) stands.log.tail ∙ sym (drop-append-le state.log.start front edits stands.log.within);
  };
  tables = ap (replay edits) stands.tables ∙ sym (replay_both front edits opening);
}
