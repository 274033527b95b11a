-- What a desk keeps where an edit is drafted.
use Rattle.std.proofs.Common.{◌≡◌, ℕ, ◌+◌, ◌<◌, true, List, [], ◌∷◌, ◌++◌, length, length-append, IfOk, Result, Ok, Err, Some, sym, ap, subst, ◌∙◌, arith}
use Rattle.edit_calls.specs.Admitted.{AreAdmitted, admits}
use Rattle.perm_base.specs.declared.shapes.Shapes.{Shapes}
use Rattle.policy_desk.specs.Desks.{IsDesk, Work, edits_of, floor_after}
use Rattle.policy_desk.specs.Ready.{IsPreparedFor}
use Rattle.policy_desk.specs.Transitions.{IsBegun, IsPublished, after_call}
use Rattle.policy_state.proofs.CallerLemmas.{admitted_both, stands_same}
use Rattle.policy_state.specs.Ready.{AreReady, Readied}
use Rattle.policy_state.specs.States.{State, StandsFor, tables}
use Rattle.policy_table.proofs.CallerLemmas.{are_lists, counted_edited}
use Rattle.policy_table.specs.Changes.{edited, replay}
use Rattle.policy_table.specs.Limits.{AreSound}
use Rattle.policy_table.specs.Tables.{AreLists, IsKept, Policy}
use Rattle.policy_table.specs.declared.change.Change.{Change}
use Rattle.version_log.specs.Log.{most_versions, versions}
use Rattle.version_log.proofs.CallerLemmas.{replay_both}

-- sound tables after one edit are lists
pub one_few : (shapes : Shapes) (policy : Policy) (edit : List Change) → IsKept policy → AreSound shapes (edited edit policy) → AreLists (edited edit policy).lists
one_few shapes policy edit kept sound = are_lists shapes (edited edit policy) (counted_edited edit policy ∙ kept.lists.counted) sound.shaped sound.within

-- a desk with one more pending edit, which is made in its drafts
pub drafted : (desk : Work) (edit : List Change) (pending : List (List Change)) (drafts : Policy) → IsDesk desk → admits desk.state.shapes desk.drafts edit ≡ true → AreSound desk.state.shapes (edited edit desk.drafts)
    → edits_of desk < most_versions → pending ≡ desk.pending ++ edit ∷ [] → drafts ≡ edited edit desk.drafts → IsDesk (record desk { pending = pending; drafts = drafts })
drafted desk edit pending drafts old admitted sound few more made = record {
  drafts = made ∙ ap (edited edit) old.drafts ∙ sym (replay_both desk.pending (edit ∷ []) (tables desk.state)) ∙ ap (λ (l : List (List Change)). replay l (tables desk.state)) (sym more);
  sound = subst (AreSound desk.state.shapes) (sym made) sound;
  admitted = subst (AreAdmitted desk.state.shapes (tables desk.state)) (sym more)
      (admitted_both desk.state.shapes desk.pending (edit ∷ []) (tables desk.state) old.admitted (subst (λ (p : Policy). admits desk.state.shapes p edit ≡ true) old.drafts admitted, tt));
  few = omega (arith, few, ap (λ (l : List (List Change)). length l) more, length-append desk.pending (edit ∷ []));
  from = old.from;
  until = old.until;
}

-- it is the desk after the call
pub drafted_is : (now inside : Work) (edit : List Change) (pending : List (List Change)) (drafts : Policy) → inside ≡ now → pending ≡ inside.pending ++ edit ∷ [] → drafts ≡ edited edit inside.drafts
    → record inside { pending = pending; drafts = drafts } ≡ after_call (Ok (Some edit)) now
drafted_is now inside edit pending drafts is more made = (λ j. record inside { pending = more j; drafts = made j }) ∙ ap (after_call (Ok (Some edit))) is

-- a publish is begun
pub begun_from : (now inside : Work) (state : State) (floor : ℕ) → inside ≡ now → floor ≡ floor_after now → state.shapes ≡ inside.state.shapes → state.key ≡ inside.state.key
    → state.log.start ≡ inside.state.log.start → state.log.tail ≡ inside.state.log.tail → tables state ≡ tables inside.state → IsBegun now (record inside { state = state; floor = floor })
begun_from now inside state floor is raised shapes key start tail same =
    subst (λ (d : Work). IsBegun d (record inside { state = state; floor = floor })) is
    (record {
      state = record {
        shapes = shapes;
        key = key;
        start = start;
        tail = tail;
        tables_are = same;
        stands = λ opening history stands. stands_same inside.state state opening history start tail same stands;
      };
      others = let here : floor ≡ floor_after inside = raised ∙ ap floor_after (sym is) in λ j. record inside { state = state; floor = here j };
    })

-- what is ready for edits is so for the desk at which they are pending
pub ready_for : {E : Type 0} (desk : Work) (result : Result Readied E) (edits : List (List Change)) → IfOk result (AreReady desk.state edits) → IfOk result (λ (ready : Readied). ready.start ≡ desk.floor) → edits ≡ desk.pending → IfOk result (IsPreparedFor desk)
ready_for desk (Ok ready) edits are start all = record { state = subst (λ (l : List (List Change)). AreReady desk.state l ready) all are; start = start }
ready_for desk (Err e) edits are start all = tt

-- it is made
pub made_from : (now inside : Work) (ready : Readied) (edits : List (List Change)) (state : State) (pending : List (List Change)) → inside ≡ now → edits ≡ inside.pending → pending ≡ [] → IsDesk inside → IsPreparedFor now ready
    → state.shapes ≡ inside.state.shapes → state.key ≡ inside.state.key → state.log.start ≡ ready.start
    → ((opening : Policy) (history : List (List Change)) → StandsFor inside.state opening history → StandsFor state opening (history ++ edits))
    → tables state ≡ replay edits (tables inside.state) → versions state.log ≡ versions inside.state.log + length edits
    → IsPublished now.floor now (record inside { state = state; pending = pending })
made_from now inside ready edits state pending is all none kept prepared shapes key start stands tables_are more =
    let here : IsPreparedFor inside ready = subst (λ (d : Work). IsPreparedFor d ready) (sym is) prepared in
    subst (λ (d : Work). IsPublished d.floor d (record inside { state = state; pending = pending })) is
    (record {
      state = record {
        shapes = shapes;
        key = key;
        stands = λ opening history before. subst (λ (p : List (List Change)). StandsFor state opening (history ++ p)) all (stands opening history before);
        more = more ∙ ap (λ (p : List (List Change)). versions inside.state.log + length p) all;
      };
      tables_are = tables_are ∙ ap (λ (p : List (List Change)). replay p (tables inside.state)) all ∙ sym kept.drafts;
      start = start ∙ here.start;
      others = λ j. record inside { state = state; pending = none j };
    })

-- the desk afterwards
pub kept_after : (now inside : Work) (ready : Readied) (edits : List (List Change)) (state : State) (pending : List (List Change)) → inside ≡ now → edits ≡ inside.pending → pending ≡ [] → IsDesk inside → IsPreparedFor now ready
    → state.shapes ≡ inside.state.shapes → state.log.start ≡ ready.start → tables state ≡ replay edits (tables inside.state) → versions state.log ≡ versions inside.state.log + length edits
    → IsDesk (record inside { state = state; pending = pending })
kept_after now inside ready edits state pending is all none kept prepared shapes start tables_are more =
    let here : IsPreparedFor inside ready = subst (λ (d : Work). IsPreparedFor d ready) (sym is) prepared in
    let drafts : inside.drafts ≡ tables state = kept.drafts ∙ ap (λ (p : List (List Change)). replay p (tables inside.state)) (sym all) ∙ sym tables_are in
    let longer : versions state.log ≡ versions inside.state.log + length inside.pending = more ∙ ap (λ (p : List (List Change)). versions inside.state.log + length p) all in
    record {
      drafts = drafts ∙ ap (λ (p : List (List Change)). replay p (tables state)) (sym none);
      sound = subst (λ (s : Shapes). AreSound s inside.drafts) (sym shapes) kept.sound;
      admitted = subst (AreAdmitted state.shapes (tables state)) (sym none) tt;
      few = omega (arith, kept.few, longer, ap (λ (p : List (List Change)). length p) none);
      from = omega (arith, start, here.start);
      until = omega (arith, kept.until, longer);
    }

-- a publish that is begun and then made
pub published_from : (before ready now : Work) → IsBegun before ready → IsPublished ready.floor ready now → IsPublished (floor_after before) before now
published_from before ready now begun made = record {
  state = record {
    shapes = made.state.shapes ∙ begun.state.shapes;
    key = made.state.key ∙ begun.state.key;
    stands = λ opening history stands. subst (λ (p : List (List Change)). StandsFor now.state opening (history ++ p)) pending (made.state.stands opening history (begun.state.stands opening history stands));
    more = omega (arith, made.state.more, begun.state.start, ap (λ (l : List (List Change)). length l) begun.state.tail, ap (λ (l : List (List Change)). length l) pending);
  };
  tables_are = made.tables_are ∙ ap (λ (d : Work). d.drafts) begun.others;
  start = made.start ∙ ap (λ (d : Work). d.floor) begun.others;
  others = made.others ∙ ap (λ (d : Work). record d { state = now.state; pending = []; floor = d.floor }) begun.others;
}
  where
    pending : ready.pending ≡ before.pending
    pending = ap (λ (d : Work). d.pending) begun.others
