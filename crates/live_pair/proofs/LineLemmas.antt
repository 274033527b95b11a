-- What an administrator hands over, and what it keeps.
use Rattle.std.proofs.Common.{◌≡◌, ℕ, ◌+◌, ◌≤◌, List, [], ◌∷◌, ◌++◌, length, refl, ap, sym, subst, ◌∙◌, arith, length-append, drop, Bool, Some, None, Result, Ok, Err, IfOk, OnErr}
use Rattle.std.proofs.lemmas.List.{append-nil}
use mathlib.Core.List.{IsPrefix}
use Rattle.edit_calls.specs.Answers.{CallAnswer}
use Rattle.edit_calls.specs.declared.call.Call.{Call}
use Rattle.edit_calls.specs.declared.refused.CallRefused.{CallRefused}
use Rattle.live_pair.proofs.FrontLemmas.{prefix_self, prefix_trans, rest_all}
use Rattle.live_pair.proofs.StoryLemmas.{all_edits, edits_more, staged_rest}
use Rattle.live_pair.specs.Helps.Lines.{IsAdmin}
use Rattle.live_pair.specs.Helps.Sides.{history}
use Rattle.live_pair.specs.Story.{edits_in, publishes, unpublished}
use Rattle.live_pair.specs.declared.edits.HistoryEvent.{HistoryEvent}
use Rattle.live_pair.specs.declared.edits.HistoryEvent.TheVariants.{Staged}
use Rattle.perm_base.specs.declared.shapes.Shapes.{Shapes}
use Rattle.policy_desk.specs.Answers.{desk_answer, pending_after}
use Rattle.policy_desk.proofs.CallerLemmas.{published_from}
use Rattle.policy_desk.specs.Desks.{IsDesk, Work, floor_after}
use Rattle.policy_desk.specs.Transitions.{IsBegun, IsPublished, after_call}
use Rattle.policy_state.proofs.CallerLemmas.{admitted_rest, version_stands}
use Rattle.edit_calls.specs.Admitted.{AreAdmitted}
use Rattle.policy_state.specs.States.{State, StandsFor, tables}
use Rattle.policy_table.specs.Changes.{replay}
use Rattle.policy_table.specs.Tables.{Policy}
use Rattle.policy_table.specs.declared.change.Change.{Change}
use Rattle.version_log.proofs.CallerLemmas.{replay_both}
use Rattle.version_log.specs.Log.{most_versions}

-- edits that come behind a history are admitted there, and there are no more than there may be
pub record CanStage (shapes : Shapes) (opening : Policy) (first : List (List Change)) (log : List HistoryEvent) (es : List (List Change)) : Type 0 where
  pub admitted : AreAdmitted shapes (replay (history first log) opening) es
  pub few : length (history first log) + length es ≤ most_versions

-- the pending edits that were not handed over yet are such ones
pub can_stage : (shapes : Shapes) (opening : Policy) (first : List (List Change)) (log : List HistoryEvent) (desk : Work) (es : List (List Change)) (w : ℕ) → IsDesk desk → desk.state.shapes ≡ shapes
    → StandsFor desk.state opening (edits_in (publishes first log)) → IsPrefix (unpublished first log) desk.pending → w ≡ length (unpublished first log) → es ≡ drop w desk.pending
    → CanStage shapes opening first log es
can_stage shapes opening first log desk es w kept same stands begun count is =
    let done : List (List Change) = edits_in (publishes first log) in
    let rest : List (List Change) = unpublished first log in
    let all : rest ++ es ≡ desk.pending = ap (λ (l : List (List Change)). rest ++ l) (is ∙ ap (λ (n : ℕ). drop n desk.pending) count) ∙ rest_all rest desk.pending begun in
    let here : AreAdmitted shapes (tables desk.state) (rest ++ es)
    = subst (λ (s : Shapes). AreAdmitted s (tables desk.state) (rest ++ es)) same (subst (AreAdmitted desk.state.shapes (tables desk.state)) (sym all) kept.admitted) in
    let base : replay rest (tables desk.state) ≡ replay (history first log) opening
    = ap (replay rest) stands.tables ∙ sym (replay_both done rest opening) ∙ ap (λ (l : List (List Change)). replay l opening) (all_edits first log) in
    record {
      admitted = subst (λ (p : Policy). AreAdmitted shapes p es) base (admitted_rest shapes rest es (tables desk.state) here);
      few = omega (arith, kept.few, version_stands desk.state.log done stands.log, ap (λ (l : List (List Change)). length l) all, length-append rest es, ap (λ (l : List (List Change)). length l) (all_edits first log), length-append done rest);
    }

-- the desk's policy behind one publish more
pub stands_more : (opening : Policy) (list : List (List (List Change))) (es : List (List Change)) (state new : State) → StandsFor state opening (edits_in list)
    → ((opening : Policy) (history : List (List Change)) → StandsFor state opening history → StandsFor new opening (history ++ es)) → StandsFor new opening (edits_in (list ++ es ∷ []))
stands_more opening list es state new stands made = subst (StandsFor new opening) (sym (edits_more list es)) (made opening (edits_in list) stands)

-- ---- what an administrator keeps behind a call

-- the pending edits behind a call begin with those before
pending_grows : (answered : CallAnswer) (pending : List (List Change)) → IsPrefix pending (pending_after answered pending)
pending_grows (Ok (Some edit)) pending = (edit ∷ [], refl)
pending_grows (Ok None) pending = prefix_self pending
pending_grows (Err refused) pending = prefix_self pending

pub admin_called : (shapes : Shapes) (opening : Policy) (first : List (List Change)) (line shown : List HistoryEvent) (list : List (List (List Change))) (desk new : Work) (call : Call) (result : Result Bool CallRefused)
    → IsAdmin shapes opening first line shown list desk → IfOk result (λ (_ : Bool). new ≡ after_call (desk_answer desk call) desk) → OnErr result (new ≡ desk)
    → IsAdmin shapes opening first line shown list new
admin_called shapes opening first line shown list desk new call (Ok changed) is made kept =
    subst (IsAdmin shapes opening first line shown list) (sym made)
    (record {
      list_is = is.list_is;
      shown_is = is.shown_is;
      begun = prefix_trans (unpublished first line) desk.pending (pending_after (desk_answer desk call) desk.pending) is.begun (pending_grows (desk_answer desk call) desk.pending);
      shapes_are = is.shapes_are;
      stands = is.stands;
    })
admin_called shapes opening first line shown list desk new call (Err refused) is made kept = subst (IsAdmin shapes opening first line shown list) (sym kept) is

-- ---- where edits are handed over, behind a look at the history

-- what was seen is the history, and the edits are the pending ones that it lacks
pub record Lacks (first : List (List Change)) (old seen : List HistoryEvent) (es pending : List (List Change)) : Type 0 where
  pub same : seen ≡ old
  pub begun : IsPrefix (unpublished first old) pending
  pub edits_are : es ≡ drop (length (unpublished first old)) pending

pub lacks : (first : List (List Change)) (old log seen : List HistoryEvent) (es given pending : List (List Change)) (w : ℕ) → log ≡ old → seen ≡ log → IsPrefix (unpublished first old) pending
    → w ≡ length (unpublished first log) → es ≡ drop w given → given ≡ pending → Lacks first old seen es pending
lacks first old log seen es given pending w same again begun count is all = record {
  same = again ∙ same;
  begun = begun;
  edits_are = is ∙ ap (drop w) all ∙ ap (λ (n : ℕ). drop n pending) (count ∙ ap (λ (l : List HistoryEvent). length (unpublished first l)) same);
}

pub can_stage_here : (shapes : Shapes) (opening : Policy) (first : List (List Change)) (old seen : List HistoryEvent) (desk : Work) (es : List (List Change)) → Lacks first old seen es desk.pending
    → IsDesk desk → desk.state.shapes ≡ shapes → StandsFor desk.state opening (edits_in (publishes first old)) → CanStage shapes opening first seen es
can_stage_here shapes opening first old seen desk es is kept same stands =
    subst (λ (l : List HistoryEvent). CanStage shapes opening first l es) (sym is.same)
    (can_stage shapes opening first old desk es (length (unpublished first old)) kept same stands is.begun refl is.edits_are)

-- behind them nothing pending is lacking
pub begun_here : (first : List (List Change)) (old seen next last : List HistoryEvent) (es pending : List (List Change)) → Lacks first old seen es pending → next ≡ seen ++ Staged es ∷ [] → last ≡ next
    → IsPrefix (unpublished first last) pending
begun_here first old seen next last es pending is more again =
    let whole : unpublished first next ≡ pending = staged_rest first old next es pending (length (unpublished first old)) is.begun refl is.edits_are (more ∙ ap (λ (l : List HistoryEvent). l ++ Staged es ∷ []) is.same) in
    ([], append-nil (unpublished first last) ∙ ap (λ (l : List HistoryEvent). unpublished first l) again ∙ whole)

-- ---- what an administrator keeps behind a publish

-- one that is refused
pub admin_tried : (shapes : Shapes) (opening : Policy) (first : List (List Change)) (old given shown out : List HistoryEvent) (list : List (List (List Change))) (desk ready : Work)
    → IsAdmin shapes opening first old shown list desk → IsBegun desk ready → publishes first given ≡ publishes first old → IsPrefix (unpublished first given) ready.pending
    → publishes first out ≡ publishes first shown → IsAdmin shapes opening first given out list ready
admin_tried shapes opening first old given shown out list desk ready is tried done begun same = record {
  list_is = done ∙ is.list_is;
  shown_is = same ∙ is.shown_is;
  begun = begun;
  shapes_are = tried.state.shapes ∙ is.shapes_are;
  stands = tried.state.stands opening (edits_in list) is.stands;
}

-- what is pending is still begun by what was handed over
pub begun_tried : (first : List (List Change)) (line : List HistoryEvent) (desk ready : Work) → IsBegun desk ready → IsPrefix (unpublished first line) desk.pending → IsPrefix (unpublished first line) ready.pending
begun_tried first line desk ready tried begun = subst (IsPrefix (unpublished first line)) (sym (ap (λ (d : Work). d.pending) tried.others)) begun

-- one that lacks its publish shows the publishes that were shown
pub shown_tried : (first : List (List Change)) (old given shown out : List HistoryEvent) (list : List (List (List Change))) → publishes first old ≡ list → publishes first shown ≡ list → publishes first given ≡ publishes first old
    → out ≡ given → publishes first out ≡ publishes first shown
shown_tried first old given shown out list list_is shown_is done same = ap (λ (l : List HistoryEvent). publishes first l) same ∙ done ∙ list_is ∙ sym shown_is

-- the list behind one that is made
pub list_more : (first : List (List Change)) (old given : List HistoryEvent) (list front last : List (List (List Change))) (desk ready : Work) → IsBegun desk ready → publishes first old ≡ list → publishes first given ≡ publishes first old
    → unpublished first given ≡ ready.pending → front ≡ publishes first given ++ unpublished first given ∷ [] → last ≡ front → last ≡ list ++ desk.pending ∷ []
list_more first old given list front last desk ready tried is done rest shown again =
    again ∙ shown ∙ ap (λ (l : List (List (List Change))). l ++ unpublished first given ∷ []) (done ∙ is)
    ∙ ap (λ (p : List (List Change)). list ++ p ∷ []) (rest ∙ ap (λ (d : Work). d.pending) tried.others)

pub admin_published : (shapes : Shapes) (opening : Policy) (first : List (List Change)) (old given line shown out : List HistoryEvent) (list front last : List (List (List Change))) (desk ready new : Work)
    → IsAdmin shapes opening first old shown list desk → IsBegun desk ready → IsPublished ready.floor ready new
    → publishes first given ≡ publishes first old → unpublished first given ≡ ready.pending → front ≡ publishes first given ++ unpublished first given ∷ []
    → publishes first line ≡ front → unpublished first line ≡ [] → publishes first out ≡ front → last ≡ front → IsAdmin shapes opening first line out last new
admin_published shapes opening first old given line shown out list front last desk ready new is tried made done rest more told none out_is again =
    let here : IsPublished (floor_after desk) desk new = published_from desk ready new tried made in
    record {
      list_is = told ∙ sym again;
      shown_is = out_is ∙ sym again;
      begun = ([], append-nil (unpublished first line) ∙ none ∙ sym (ap (λ (d : Work). d.pending) here.others));
      shapes_are = here.state.shapes ∙ is.shapes_are;
      stands =
          subst (λ (l : List (List (List Change))). StandsFor new.state opening (edits_in l)) (sym (list_more first old given list front last desk ready tried is.list_is done rest more again))
          (stands_more opening list desk.pending desk.state new.state is.stands here.state.stands);
    }
