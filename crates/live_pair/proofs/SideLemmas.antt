-- What a copy stands for behind one event more, and which edits it can take.
use Rattle.std.proofs.Common.{◌≡◌, ℕ, ◌+◌, ◌≤◌, List, [], ◌∷◌, ◌++◌, length, ap, sym, subst, ◌∙◌, arith, append_assoc, length-append, Bool, true, false, MatchBool}
use Rattle.std.proofs.lemmas.List.{append-nil}
use Rattle.live_pair.proofs.StartLemmas.{is_closed, start_closed, start_least, start_staged}
use Rattle.live_pair.proofs.StoryLemmas.{all_edits, handed_both}
use Rattle.live_pair.specs.Helps.Sides.{AreGiven, IsUpTo, handed, history, is_published}
use Rattle.live_pair.specs.Seats.{version_of}
use Rattle.live_pair.specs.Story.{edits_in, publishes, unpublished}
use Rattle.live_pair.specs.declared.edits.HistoryEvent.{HistoryEvent}
use Rattle.live_pair.specs.declared.edits.HistoryEvent.TheVariants.{Staged, Publish}
use Rattle.perm_base.specs.declared.shapes.Shapes.{Shapes}
use Rattle.policy_state.proofs.CallerLemmas.{admitted_both, admitted_rest, version_stands}
use Rattle.edit_calls.specs.Admitted.{AreAdmitted}
use Rattle.policy_state.specs.States.{State, StandsFor, tables}
use Rattle.policy_table.specs.Changes.{replay}
use Rattle.policy_table.specs.Tables.{Policy}
use Rattle.policy_table.specs.declared.change.Change.{Change}
use Rattle.version_log.proofs.CallerLemmas.{replay_both}
use Rattle.version_log.specs.Log.{most_versions, versions}

-- ---- all edits of a history behind one event more

pub history_staged : (first : List (List Change)) (log next : List HistoryEvent) (es : List (List Change)) → next ≡ log ++ Staged es ∷ [] → history first next ≡ history first log ++ es
history_staged first log next es more =
    ap (history first) more
    ∙ ap (λ (l : List (List Change)). first ++ l) (handed_both log (Staged es ∷ []) ∙ ap (λ (l : List (List Change)). handed log ++ l) (append-nil es))
    ∙ sym (append_assoc first (handed log) es)

pub history_published : (first : List (List Change)) (log next : List HistoryEvent) → next ≡ log ++ Publish ∷ [] → history first next ≡ history first log
history_published first log next more =
    ap (history first) more ∙ ap (λ (l : List (List Change)). first ++ l) (handed_both log (Publish ∷ []) ∙ append-nil (handed log))

-- ---- what is known of every beginning

pub given_none : (shapes : Shapes) (opening : Policy) (first : List (List Change)) → length first ≤ most_versions → AreGiven shapes opening first []
given_none shapes opening first few = record {
  admitted = tt;
  few = omega (arith, few, ap (λ (l : List (List Change)). length l) (append-nil first));
}

pub given_staged : (shapes : Shapes) (opening : Policy) (first : List (List Change)) (log next : List HistoryEvent) (es : List (List Change)) → next ≡ log ++ Staged es ∷ [] → AreGiven shapes opening first log
    → AreAdmitted shapes (replay (history first log) opening) es → length (history first log) + length es ≤ most_versions → AreGiven shapes opening first next
given_staged shapes opening first log next es more given admitted few =
    let new : handed next ≡ handed log ++ es = ap handed more ∙ handed_both log (Staged es ∷ []) ∙ ap (λ (l : List (List Change)). handed log ++ l) (append-nil es) in
    let here : AreAdmitted shapes (replay (handed log) (replay first opening)) es = subst (λ (p : Policy). AreAdmitted shapes p es) (replay_both first (handed log) opening) admitted in
    record {
      admitted = subst (AreAdmitted shapes (replay first opening)) (sym new) (admitted_both shapes (handed log) es (replay first opening) given.admitted here);
      few = omega (arith, few, ap (λ (l : List (List Change)). length l) (history_staged first log next es more), length-append (history first log) es);
    }

pub given_published : (shapes : Shapes) (opening : Policy) (first : List (List Change)) (log next : List HistoryEvent) → next ≡ log ++ Publish ∷ [] → AreGiven shapes opening first log → AreGiven shapes opening first next
given_published shapes opening first log next more given =
    let new : handed next ≡ handed log = ap handed more ∙ handed_both log (Publish ∷ []) ∙ append-nil (handed log) in
    record {
      admitted = subst (AreAdmitted shapes (replay first opening)) (sym new) given.admitted;
      few = omega (arith, given.few, ap (λ (l : List (List Change)). length l) (history_published first log next more));
    }

-- ---- what a policy stands for

-- at the opening, where the log keeps no edit
pub up_to_opened : (shapes : Shapes) (opening : Policy) (first : List (List Change)) (log : List HistoryEvent) (state : State) → log ≡ [] → state.shapes ≡ shapes → StandsFor state opening (first ++ []) → state.log.start ≡ length first
    → IsUpTo shapes opening first log state
up_to_opened shapes opening first log state none same stands start =
    subst (λ (l : List HistoryEvent). IsUpTo shapes opening first l state) (sym none) (record { shapes_are = same; stands = stands; start = omega (arith, start) })

-- where it is as before but for its room
pub up_to_kept : (shapes : Shapes) (opening : Policy) (first : List (List Change)) (log : List HistoryEvent) (state new : State) → new.shapes ≡ state.shapes
    → ((opening : Policy) (history : List (List Change)) → StandsFor state opening history → StandsFor new opening history) → new.log.start ≡ state.log.start
    → IsUpTo shapes opening first log state → IsUpTo shapes opening first log new
up_to_kept shapes opening first log state new same kept start up = record {
  shapes_are = same ∙ up.shapes_are;
  stands = kept opening (history first log) up.stands;
  start = start ∙ up.start;
}

-- ---- the edits that come next can be made in a copy

pub record CanMake (state : State) (es : List (List Change)) (start : ℕ) : Type 0 where
  pub admitted : AreAdmitted state.shapes (tables state) es
  pub few : versions state.log + length es ≤ most_versions
  pub from : state.log.start ≤ start
  pub until : start ≤ versions state.log

pub can_make : (shapes : Shapes) (opening : Policy) (first : List (List Change)) (log next : List HistoryEvent) (es : List (List Change)) (state : State) (start : ℕ) → next ≡ log ++ Staged es ∷ []
    → AreGiven shapes opening first next → IsUpTo shapes opening first log state → start ≡ version_of (publishes first log) → CanMake state es start
can_make shapes opening first log next es state start more given up is =
    let new : handed next ≡ handed log ++ es = ap handed more ∙ handed_both log (Staged es ∷ []) ∙ ap (λ (l : List (List Change)). handed log ++ l) (append-nil es) in
    let rest : AreAdmitted shapes (replay (handed log) (replay first opening)) es = admitted_rest shapes (handed log) es (replay first opening) (subst (AreAdmitted shapes (replay first opening)) new given.admitted) in
    let here : replay (handed log) (replay first opening) ≡ tables state = sym (replay_both first (handed log) opening) ∙ sym up.stands.tables in
    record {
      admitted = subst (λ (s : Shapes). AreAdmitted s (tables state) es) (sym up.shapes_are) (subst (λ (p : Policy). AreAdmitted shapes p es) here rest);
      few = omega (arith, given.few, version_stands state.log (history first log) up.stands.log, ap (λ (l : List (List Change)). length l) (history_staged first log next es more), length-append (history first log) es);
      from = omega (arith, is, up.start, start_least (is_published log) (publishes first log));
      until = omega (arith, is, version_stands state.log (history first log) up.stands.log, ap (λ (l : List (List Change)). length l) (all_edits first log), length-append (edits_in (publishes first log)) (unpublished first log));
    }

-- and leave one that stands for them too
pub up_to_staged : (shapes : Shapes) (opening : Policy) (first : List (List Change)) (log next : List HistoryEvent) (es : List (List Change)) (state new : State) → next ≡ log ++ Staged es ∷ []
    → new.shapes ≡ state.shapes → ((opening : Policy) (history : List (List Change)) → StandsFor state opening history → StandsFor new opening (history ++ es)) → new.log.start ≡ version_of (publishes first log)
    → IsUpTo shapes opening first log state → IsUpTo shapes opening first next new
up_to_staged shapes opening first log next es state new more same made start up = record {
  shapes_are = same ∙ up.shapes_are;
  stands = subst (StandsFor new opening) (sym (history_staged first log next es more)) (made opening (history first log) up.stands);
  start = start_staged first log next es new.log.start more start;
}

pub up_to_published : (shapes : Shapes) (opening : Policy) (first : List (List Change)) (log next : List HistoryEvent) (state : State) → next ≡ log ++ Publish ∷ [] → false ≡ is_published log
    → IsUpTo shapes opening first log state → IsUpTo shapes opening first next state
up_to_published shapes opening first log next state more waits up = record {
  shapes_are = up.shapes_are;
  stands = subst (StandsFor state opening) (sym (history_published first log next more)) up.stands;
  start = start_closed first log next state.log.start more waits up.start;
}

pub up_to_maybe : (shapes : Shapes) (opening : Policy) (first : List (List Change)) (log next : List HistoryEvent) (state : State) (done : Bool) → MatchBool done (next ≡ log ++ Publish ∷ []) (next ≡ log) → false ≡ is_published log
    → IsUpTo shapes opening first log state → IsUpTo shapes opening first next state × (done ≡ is_published next)
up_to_maybe shapes opening first log next state true is waits up = (up_to_published shapes opening first log next state is waits up, is_closed log next is)
up_to_maybe shapes opening first log next state false is waits up = (subst (λ (l : List HistoryEvent). IsUpTo shapes opening first l state) (sym is) up, waits ∙ ap (λ (l : List HistoryEvent). is_published l) (sym is))

-- where every edit is in a publish
pub stands_whole : (opening : Policy) (first : List (List Change)) (log : List HistoryEvent) (state : State) → unpublished first log ≡ [] → StandsFor state opening (history first log) → StandsFor state opening (edits_in (publishes first log))
stands_whole opening first log state none stands =
    subst (StandsFor state opening)
    (sym (all_edits first log) ∙ ap (λ (l : List (List Change)). edits_in (publishes first log) ++ l) none ∙ append-nil (edits_in (publishes first log))) stands
