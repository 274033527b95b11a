-- Two policies that one seat entered, of one version.
use Rattle.std.proofs.Common.{◌≡◌, ◌≤◌, arith, length-append, List, [], ◌∷◌, length, refl, sym, ap, subst, ◌∙◌}
use mathlib.Core.List.{IsPrefix}
use Rattle.model_conf.specs.ModelText.{ModelParts}
use Rattle.perm_base.specs.declared.shapes.Shapes.{Shapes}
use Rattle.policy_state.specs.States.{State, tables}
use Rattle.policy_state.proofs.CallerLemmas.{version_stands}
use Rattle.policy_table.specs.Changes.{replay}
use Rattle.policy_table.specs.Tables.{Policy}
use Rattle.policy_table.specs.declared.change.Change.{Change}
use Rattle.version_log.specs.Log.{versions}
use Rattle.answer_cache.specs.Cached.{Cached, entries_of}
use Rattle.answer_cache.specs.Good.{AreJudged, Serves}
use Rattle.answer_cache.specs.Seats.{AreOfOneSeat}

-- a beginning as long as the whole is the whole
whole : {A : Type 0} (xs ys : List A) → IsPrefix xs ys → length xs ≡ length ys → xs ≡ ys
whole [] [] begun same = refl
whole [] (y ∷ ys) begun same = absurd (omega (arith, same))
whole (x ∷ xs) [] begun same = absurd (cc (begun.1))
whole (x ∷ xs) (y ∷ ys) begun same =
    let rest = whole xs ys (begun.0, cc (begun.1)) (omega (arith, same)) in cc (begun.1, rest)

pub same_edits : (opening : Policy) (older newer : List (List Change)) (before now : State) → AreOfOneSeat opening older newer before now → versions before.log ≡ versions now.log → older ≡ newer
same_edits opening older newer before now seat same =
    whole older newer seat.begun (sym (version_stands before.log older seat.stood.log) ∙ same ∙ version_stands now.log newer seat.stands.log)

pub same_tables : (opening : Policy) (older newer : List (List Change)) (before now : State) → AreOfOneSeat opening older newer before now → versions before.log ≡ versions now.log → tables before ≡ tables now
same_tables opening older newer before now seat same =
    seat.stood.tables
    ∙ ap (λ (edits : List (List Change)). replay edits opening) (same_edits opening older newer before now seat same)
    ∙ sym seat.stands.tables

-- edits that begin others are no more
no_more : {A : Type 0} (xs ys : List A) → IsPrefix xs ys → length xs ≤ length ys
no_more xs ys begun = omega (arith, sym (ap length begun.1), length-append xs begun.0)

pub no_later : (opening : Policy) (older newer : List (List Change)) (before now : State) → AreOfOneSeat opening older newer before now → versions before.log ≤ versions now.log
no_later opening older newer before now seat =
    omega (arith, version_stands before.log older seat.stood.log, version_stands now.log newer seat.stands.log, no_more older newer seat.begun)

pub serves_later : (opening : Policy) (older newer : List (List Change)) (before now : State) (model : ModelParts) (cache : Cached) → AreOfOneSeat opening older newer before now
    → Serves model before cache → Serves model now cache
serves_later opening older newer before now model cache seat serves = record {
  older = omega (arith, serves.older, later);
  good = λ is.
      let same : versions before.log ≡ versions now.log = omega (arith, is, serves.older, later) in
      subst (λ (shapes : Shapes). AreJudged model shapes (tables now) (entries_of cache)) seat.shapes
      (subst (λ (policy : Policy). AreJudged model before.shapes policy (entries_of cache)) (same_tables opening older newer before now seat same) (serves.good (is ∙ sym same)));
}
  where
    later : versions before.log ≤ versions now.log
    later = no_later opening older newer before now seat
