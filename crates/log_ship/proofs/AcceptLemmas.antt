-- An edit that is new is taken.
use Rattle.std.proofs.Common.{◌≡◌, ◌≢◌, ℕ, ◌+◌, ◌<◌, ◌≤◌, true, false, List, drop, length, min, Ok, Err, sym, ap, subst, ◌∙◌, arith}
use Rattle.log_ship.proofs.AppendLemmas.{same_version}
use Rattle.log_ship.proofs.TakeLemmas.{IsAdvanced, IsFresh, advanced_is, advanced_kept, applied_same, applied_told, fresh_is, in_front, misfit_same, misfit_told, refused_same, run_fits, waiting_kept}
use Rattle.log_ship.specs.Followers.{Following, Held, IsFollowing, IsSame, IsSameState, Rises, version_of}
use Rattle.log_ship.specs.Helps.Waits.{next_front, next_run}
use Rattle.log_ship.specs.Taken.{after_answer, edit_answer, is_repeated, may_come, put, with_edits}
use Rattle.log_ship.specs.declared.taken.Taken.TheVariants.{Applied}
use Rattle.log_ship.specs.declared.taken.TakeRefused.TheVariants.{Misfit}
use Rattle.policy_state.specs.States.{State}
use Rattle.policy_table.specs.declared.change.Change.{Change}
use Rattle.std.specs.List.{AllByRecursion}
use Rattle.version_log.specs.Log.{most_versions, versions}

-- a follower that is as it was keeps what it kept
pub kept_same : (before now : Following) → IsSame before now → IsFollowing before → IsFollowing now
kept_same before now same kept = record {
  rises = subst (λ (n : ℕ). Rises (n + 1) now.waiting) (sym (same_version before.state now.state same.state)) (subst (Rises (version_of before + 1)) (sym same.waiting) kept.rises);
  few = subst (AllByRecursion (λ (held : Held). held.number ≤ most_versions)) (sym same.waiting) kept.few;
}

module _ (now inside : Following) (number : ℕ) (edit : List Change) (is : inside ≡ now) (new : is_repeated now number ≡ false) (come : may_come now.state.shapes number edit ≡ true) (kept : IsFollowing inside) where
  comes_inside : may_come inside.state.shapes number edit ≡ true
  comes_inside = subst (λ (f : Following). may_come f.state.shapes number edit ≡ true) (sym is) come

  fresh_inside : IsFresh inside number edit
  fresh_inside = fresh_is inside number edit (subst (λ (f : Following). is_repeated f number ≡ false) (sym is) new) comes_inside

  module _ (queue : List Held) (placed : queue ≡ put (record { number = number; edit = edit }) inside.waiting) where
    -- it waits
    pub waits_kept : number ≢ version_of inside + 1 → IsFollowing (record { state = inside.state; waiting = queue })
    waits_kept apart = waiting_kept inside number edit queue kept fresh_inside apart placed

    -- it is the next one
    module _ (next : number ≡ version_of inside + 1) where
      pub queue_fits : versions inside.state.log + length (next_run inside.state queue) ≤ most_versions
      queue_fits = subst (λ (l : List Held). versions inside.state.log + length (next_run inside.state l) ≤ most_versions) (sym placed) (run_fits inside number edit kept next fresh_inside.few)

      pub queue_some : 1 ≤ length queue
      queue_some = omega (arith, ap (λ (l : List Held). length l) (placed ∙ in_front inside number edit kept next))

      -- memory ran out
      pub back_same : (state : State) (waiting : List Held) → IsSameState inside.state state → waiting ≡ drop 1 queue → IsSame now (record { state = state; waiting = waiting })
      back_same state waiting same taken = subst (λ (f : Following). IsSame f (record { state = state; waiting = waiting })) is (refused_same inside number edit kept next state waiting same (taken ∙ ap (drop 1) placed))

      pub back_kept : (state : State) (waiting : List Held) → IsSameState inside.state state → waiting ≡ drop 1 queue → IsFollowing (record { state = state; waiting = waiting })
      back_kept state waiting same taken = kept_same inside (record { state = state; waiting = waiting }) (refused_same inside number edit kept next state waiting same (taken ∙ ap (drop 1) placed)) kept

      module _ (count : ℕ) (state : State) (waiting : List Held) (counted : count ≡ length (next_front inside.state queue)) (state_is : IsSameState (with_edits (next_front inside.state queue) inside.state) state)
          (waiting_is : waiting ≡ drop (min (length (next_front inside.state queue) + 1) (length (next_run inside.state queue))) queue) where
        done : IsAdvanced inside edit count state waiting
        done =
            advanced_is inside number edit count state waiting kept next (counted ∙ ap (λ (l : List Held). length (next_front inside.state l)) placed)
            (subst (λ (l : List Held). IsSameState (with_edits (next_front inside.state l) inside.state) state) placed state_is)
            (subst (λ (l : List Held). waiting ≡ drop (min (length (next_front inside.state l) + 1) (length (next_run inside.state l))) l) placed waiting_is)

        pub done_kept : IsFollowing (record { state = state; waiting = waiting })
        done_kept = advanced_kept inside edit count state waiting kept done number next

        pub misfit_answer : count ≡ 0 → edit_answer now number edit ≡ Err Misfit
        misfit_answer none = ap (λ (f : Following). edit_answer f number edit) (sym is) ∙ misfit_told inside edit count state waiting kept done number next comes_inside none

        pub misfit_after : count ≡ 0 → IsSame now (record { state = state; waiting = waiting })
        misfit_after none = subst (λ (f : Following). IsSame f (record { state = state; waiting = waiting })) is (misfit_same inside edit count state waiting kept done none)

        pub applied_answer : (version : ℕ) → 0 < count → version ≡ versions state.log → edit_answer now number edit ≡ Ok (Applied version)
        applied_answer version some told = ap (λ (f : Following). edit_answer f number edit) (sym is) ∙ applied_told inside edit count state waiting kept done number version next comes_inside some told

        pub applied_after : (version : ℕ) → IsSame (after_answer (Ok (Applied version)) (record { number = number; edit = edit }) now) (record { state = state; waiting = waiting })
        applied_after version = subst (λ (f : Following). IsSame (after_answer (Ok (Applied version)) (record { number = number; edit = edit }) f) (record { state = state; waiting = waiting })) is (applied_same inside edit count state waiting kept done number version)
