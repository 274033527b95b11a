-- A cache beside a seat: that it serves, from one entry to the next.
use Rattle.std.proofs.Common.{◌≡◌, inl, inr, ℕ, ◌≤◌, arith, IsTrue, List, [], ◌++◌, length, length-append, map, take, None, sym, ap, subst, ◌∙◌}
use Rattle.std.proofs.lemmas.List.{take-append-le, take_all}
use Rattle.std.proofs.lemmas.List.Elements.{All-nil}
use mathlib.Core.List.{IsPrefix}
use Rattle.answer_cache.specs.Answered.{IsAnswered}
use Rattle.answer_cache.specs.Cached.{Cached, Entry, at_version, entries_of}
use Rattle.answer_cache.specs.Good.{AreJudged, IsGoodFor}
use Rattle.answer_cache.specs.declared.answer.CachedAnswer.{CachedAnswer}
use Rattle.effect_fold.specs.declared.verdict.Verdict.{Verdict}
use Rattle.live_pair.proofs.CallerLemmas.{edits_both, version_stands}
use Rattle.live_pair.specs.Seats.{IsEntered, IsShut, SeatSeen, version_of}
use Rattle.live_pair.specs.Story.{edits_in}
use Rattle.live_seat.proofs.DecidedLemmas.{decided_at}
use Rattle.live_seat.specs.Caches.{IsCachedAt, ServesAt, tables_of_version}
use Rattle.matcher_meaning.specs.Verdicts.{IsJudged, IsVerdict}
use Rattle.decision.specs.Decisions.{IsJudgedWith, RefusedIn}
use Rattle.model_conf.specs.ModelText.{ModelParts}
use Rattle.perm_base.specs.declared.shapes.Shapes.{Shapes}
use Rattle.perm_value.specs.Datum.{Datum}
use Rattle.perm_value.specs.Seen.{datum}
use Rattle.perm_value.specs.declared.value.Value.{Value}
use Rattle.policy_state.specs.States.{StandsFor, State, tables}
use Rattle.policy_table.specs.Changes.{replay}
use Rattle.policy_table.specs.Tables.{Policy}
use Rattle.policy_table.specs.declared.change.Change.{Change}
use Rattle.regex_gate.specs.Refusals.{IsRefused, Refusals}
use Rattle.version_log.specs.Log.{versions}

-- ---- publishes that begin others

-- their edits begin the edits of the others
edits_begun : (before now : List (List (List Change))) (begun : IsPrefix before now) → edits_in before ++ edits_in begun.0 ≡ edits_in now
edits_begun before now begun = sym (edits_both before begun.0) ∙ ap edits_in begun.1

-- the first so many edits are those of the others
first_begun : (before now : List (List (List Change))) (version : ℕ) → IsPrefix before now → version ≤ version_of before → take version (edits_in before) ≡ take version (edits_in now)
first_begun before now version begun within =
    sym (take-append-le version (edits_in before) (edits_in begun.0) within) ∙ ap (λ (edits : List (List Change)). take version edits) (edits_begun before now begun)

no_fewer : (before now : List (List (List Change))) → IsPrefix before now → version_of before ≤ version_of now
no_fewer before now begun = omega (arith, sym (ap (λ (edits : List (List Change)). length edits) (edits_begun before now begun)), length-append (edits_in before) (edits_in begun.0))

-- ---- a cache that serves

module _ (model : ModelParts) (shapes : Shapes) (opening : Policy) where
  -- one without entries
  pub serves_empty : (front : List (List (List Change))) (cache : Cached) → cache.entries ≡ [] → ServesAt model shapes opening front cache
  serves_empty front cache none = inl none

  -- where more publishes are known
  pub serves_longer : (before now : List (List (List Change))) (cache : Cached) → IsPrefix before now → ServesAt model shapes opening before cache → ServesAt model shapes opening now cache
  serves_longer before now cache begun (inl none) = inl none
  serves_longer before now cache begun (inr are) = inr (record {
    within = omega (arith, are.within, no_fewer before now begun);
    judged = subst (λ (edits : List (List Change)). AreJudged model shapes (replay edits opening) (entries_of cache)) (first_begun before now cache.version begun are.within) are.judged;
  })

  module _ (front : List (List (List Change))) (state : State) (cache : Cached) (shapes-is : state.shapes ≡ shapes) (stands : StandsFor state opening (edits_in front)) where
    of_version : cache.version ≡ versions state.log → tables_of_version cache.version opening front ≡ tables state
    of_version is =
        let whole : take cache.version (edits_in front) ≡ edits_in front = take_all cache.version (edits_in front) (omega (arith, is, version_stands state.log (edits_in front) stands.log)) in
        ap (λ (edits : List (List Change)). replay edits opening) whole ∙ sym stands.tables

    -- it is good for a policy that stands for the edits of the publishes
    pub good_at_front : ServesAt model shapes opening front cache → IsGoodFor model state cache
    good_at_front (inl none) = λ is.
        subst (λ (entries : List (List Value × Verdict)). AreJudged model state.shapes (tables state) (map (λ (entry : List Value × Verdict). (map datum entry.0, entry.1)) entries)) (sym none)
        (All-nil (λ (entry : Entry). IsVerdict model state.shapes (tables state) entry.0 None entry.1))
    good_at_front (inr are) = λ is.
        subst (λ (s : Shapes). AreJudged model s (tables state) (entries_of cache)) (sym shapes-is)
        (subst (λ (policy : Policy). AreJudged model shapes policy (entries_of cache)) (of_version is) are.judged)

    -- and serves where it was asked over that policy
    pub serves_asked : cache.version ≡ versions state.log → AreJudged model state.shapes (tables state) (entries_of cache) → ServesAt model shapes opening front cache
    serves_asked is judged = inr (record {
      within = omega (arith, is, version_stands state.log (edits_in front) stands.log);
      judged = subst (λ (policy : Policy). AreJudged model shapes policy (entries_of cache)) (sym (of_version is))
          (subst (λ (s : Shapes). AreJudged model s (tables state) (entries_of cache)) shapes-is judged);
    })

-- ---- an entry

-- where it was refused, cache and front stay
pub serves_shut : (model : ModelParts) (shapes : Shapes) (opening : Policy) (old new : SeatSeen) (cache : Cached) → IsShut old new → ServesAt model shapes opening old.front cache → ServesAt model shapes opening new.front cache
serves_shut model shapes opening old new cache shut serves = subst (λ (front : List (List (List Change))). ServesAt model shapes opening front cache) (sym shut.front_is) serves

module _ (model : ModelParts) (shapes : Shapes) (opening : Policy) (old inside : SeatSeen) (state : State) (entered : IsEntered old inside) (shapes-is : state.shapes ≡ shapes) (stands : StandsFor state opening (edits_in inside.front)) where
  -- a cache that serves the seat is good for the policy that was entered
  pub good_entered : (cache : Cached) → ServesAt model shapes opening old.front cache → IsGoodFor model state cache
  good_entered cache serves = good_at_front model shapes opening inside.front state cache shapes-is stands (serves_longer model shapes opening old.front inside.front cache entered.begun serves)

  module _ (new : SeatSeen) (left : new ≡ inside) (cache : Cached) where
    -- asked over that policy, it serves the seat that left
    pub serves_left : cache.version ≡ versions state.log → AreJudged model state.shapes (tables state) (entries_of cache) → ServesAt model shapes opening new.front cache
    serves_left is judged = subst (λ (seat : SeatSeen). ServesAt model shapes opening seat.front cache) (sym left) (serves_asked model shapes opening inside.front state cache shapes-is stands is judged)

    -- a cache that went to the state's version went to that of the front
    pub gone_left : (before : Cached) → versions state.log ≡ version_of inside.front → cache ≡ at_version (versions state.log) before → cache ≡ at_version (version_of new.front) before
    gone_left before version-is gone = gone ∙ ap (λ (n : ℕ). at_version n before) (version-is ∙ ap (λ (seat : SeatSeen). version_of seat.front) (sym left))

-- an answer over that policy
pub cached_at : (model : ModelParts) (shapes : Shapes) (opening : Policy) (values : List Datum) (before now : Refusals) (old inside new : SeatSeen) (state : State) (entered : IsEntered old inside) (left : new ≡ inside)
    (shapes-is : state.shapes ≡ shapes) (stands : StandsFor state opening (edits_in inside.front)) (version : ℕ) (answer : CachedAnswer) (cache after : Cached)
    → version ≡ version_of inside.front → versions state.log ≡ version_of inside.front
    → IsJudged model state.shapes (tables state) values (IsRefused before now) answer.verdict
    → IsJudgedWith model state.shapes (tables state) values (RefusedIn model.effect before now) answer.verdict
    → IsAnswered values (at_version (versions state.log) cache) after answer → (IsTrue answer.hit → now ≡ before)
    → IsCachedAt model shapes opening values before now old new cache after (record { version = version; answer = answer })
cached_at model shapes opening values before now old inside new state entered left shapes-is stands version answer cache after version-is state-is judged refused answered untouched = record {
  decided = decided_at model shapes opening values before now old inside new state entered left shapes-is stands version answer.verdict version-is judged refused;
  answered = subst (λ (n : ℕ). IsAnswered values (at_version n cache) after answer) (state-is ∙ ap (λ (seat : SeatSeen). version_of seat.front) (sym left)) answered;
  untouched = untouched;
}
