-- What the requests of one part are answered, at a seat and at the desk.
use Rattle.std.proofs.Common.{◌≡◌, ⊎_elim, ℕ, suc, ◌+◌, ◌<◌, ◌≤◌, List, [], ◌∷◌, ◌++◌, append-nil, drop, length, map, refl, sym, ap, subst, ◌∙◌, arith}
use Rattle.std.specs.Prelude.{sum_by}
use Rattle.std.proofs.lemmas.Grind.{flat_map-append}
use Rattle.std.proofs.lemmas.List.Sums.{sum_by-append}
use mathlib.Core.List.{IsPrefix}
use Rattle.answer_lines.specs.Printed.{PrintedAnswer}
use Rattle.live_pair.specs.Admins.{AdminSeen}
use Rattle.live_pair.specs.Seats.{SeatSeen, version_of}
use Rattle.live_rounds.proofs.AskedLemmas.{completed, completed_long}
use Rattle.live_rounds.proofs.CutLemmas.{served_at, served_rise, took, version_begins}
use Rattle.live_rounds.proofs.RiseLemmas.{rise_then}
use Rattle.live_rounds.specs.Administrators.{AreDoneBeside}
use Rattle.live_rounds.specs.Answered.{AreAnsweredAt, Rise}
use Rattle.live_rounds.specs.Helps.Asked.{AddsAnswered, AreAnsweredOver}
use Rattle.live_rounds.specs.Helps.Learned.{HasLearned}
use Rattle.live_rounds.specs.Lists.{last_from}
use Rattle.live_rounds.specs.Requests.{requests}
use Rattle.live_rounds.specs.Served.{IsPartKept}
use Rattle.model_conf.specs.ModelText.{ModelParts}
use Rattle.perm_base.specs.declared.shapes.Shapes.{Shapes}
use Rattle.policy_state.specs.States.{tables}
use Rattle.policy_table.specs.Tables.{Policy}
use Rattle.policy_table.specs.declared.change.Change.{Change}
use Rattle.regex_gate.specs.Refusals.{Refusals, after_refusals}
use Rattle.script_read.specs.Said.{Reading, Said}
use Rattle.session_meaning.proofs.CallerLemmas.{desk_version, out_among}
use Rattle.session_meaning.specs.Desks.{IsBehind}
use Rattle.session_meaning.specs.Given.{given}
use Rattle.session_meaning.specs.Plain.{all_refused}
use Rattle.session_meaning.specs.Rounds.{IsCut}
use Rattle.session_meaning.specs.Versions.{out, tables_at}
use Rattle.version_log.specs.Log.{versions}

-- ---- lists

-- there is a version for each reply
answered_long : (model : ModelParts) (shapes : Shapes) (opening : Policy) (before round : List Said) (seen : List ℕ) (refused : List (List (List ℕ))) (replies : List PrintedAnswer) (readings : List Reading) → AreAnsweredAt model shapes opening before round seen refused replies readings → length seen ≡ length replies
answered_long model shapes opening before round [] [] [] readings are = refl
answered_long model shapes opening before round (v ∷ seen) (patterns ∷ refused) (reply ∷ replies) (reading ∷ readings) are = ap (λ (n : ℕ). suc n) (answered_long model shapes opening before round seen refused replies readings are.1)
answered_long model shapes opening before round _ _ _ _ are = absurd are

pub all_weighed : (weight : List ℕ → ℕ) (some others : List (List (List ℕ))) → sum_by weight (all_refused (some ++ others)) ≡ sum_by weight (all_refused some) + sum_by weight (all_refused others)
all_weighed weight some others = ap (sum_by weight) (flat_map-append (λ (patterns : List (List ℕ)). patterns) some others) ∙ sum_by-append weight (all_refused some) (all_refused others)

-- the last version of seats is that of the last seat
last_version : (first : SeatSeen) (seats : List SeatSeen) → last_from (version_of first.front) (map (λ (s : SeatSeen). version_of s.front) seats) ≡ version_of (last_from first seats).front
last_version first [] = refl
last_version first (seat ∷ seats) = last_version seat seats

rise_lower : (low high : ℕ) (versions : List ℕ) → low ≤ high → Rise high versions → Rise low versions
rise_lower low high [] below rise = tt
rise_lower low high (v ∷ versions) below rise = (omega (arith, below, rise.0), rise.1)

last_lower : (low high most : ℕ) (versions : List ℕ) → low ≤ most → last_from high versions ≤ most → last_from low versions ≤ most
last_lower low high most [] below last = below
last_lower low high most (v ∷ versions) below last = last

-- ---- a round that the administrator has done

module _ (model : ModelParts) (shapes : Shapes) (opening : Policy) (before round : List Said) (old new : AdminSeen) (others : List PrintedAnswer) (done : AreDoneBeside shapes opening before round old new others) where
  behind : IsBehind shapes opening (before ++ round) new.desk.state.log (tables new.desk.state) new.desk.pending new.desk.kept
  behind = subst (λ (s : Shapes). IsBehind s opening (before ++ round) new.desk.state.log (tables new.desk.state) new.desk.pending new.desk.kept) done.behind.shapes_are done.behind.desk.edits

  -- the version at its end
  abbrev pub at_end : ℕ
  at_end = versions new.desk.state.log

  is_out : at_end ≡ out shapes opening (before ++ round)
  is_out = desk_version shapes opening (before ++ round) new.desk.state.log (tables new.desk.state) new.desk.pending new.desk.kept behind

  pub end_cut : IsCut shapes opening before round at_end
  end_cut = record { front = round; back = []; parts = sym (append-nil round); is_out = is_out }

  pub end_tables : tables new.desk.state ≡ tables_at shapes opening (before ++ round) at_end
  end_tables = behind.tables ∙ ap (tables_at shapes opening (before ++ round)) (sym is_out)

  -- it is that of the publishes
  pub end_version : version_of new.list ≡ at_end
  end_version = ap (λ (l : List (List Change)). length l) done.behind.published
      ∙ took (out shapes opening (before ++ round)) (given shapes opening (before ++ round)) (out_among shapes opening (before ++ round)) ∙ sym is_out

  -- no version before the round is above it
  pub end_least : version_of old.list ≤ at_end
  end_least = let low = version_begins old.list new.list done.grown in omega (arith, low, end_version)

  -- ---- one part

  -- its requests are answered behind others, by a worker whose finder refused these patterns, and at the desk
  pub record IsShareDone (part : List Said) (kept : List PrintedAnswer) (worker : List (List ℕ)) (from until : Refusals) (replies : List PrintedAnswer) : Type 0 where
    pub at_desk : List PrintedAnswer
    pub added : replies ≡ kept ++ at_desk
    pub seen : List ℕ
    pub refused : List (List (List ℕ))
    pub answered : AreAnsweredAt model shapes opening before round seen refused (kept ++ at_desk) (requests part)
    pub all : length (kept ++ at_desk) ≡ length (requests part)
    pub each : length seen ≡ length (requests part)
    pub rise : Rise (version_of old.list) seen
    pub patterns : List (List ℕ)
    pub logged : until ≡ after_refusals from patterns
    pub told : (weight : List ℕ → ℕ) → sum_by weight (all_refused refused) ≤ sum_by weight worker + sum_by weight patterns

  module _ (part : List Said) (from until : Refusals) (replies : List PrintedAnswer) where
    -- what is kept, and behind it what is answered at the desk
    abbrev Shares : List PrintedAnswer → Type 0
    Shares kept = AddsAnswered model new.desk.state from until (drop (length kept) (requests part)) kept replies

    -- what was answered at a seat, and then at the desk
    share_done : (worker : List (List ℕ)) (seen : List ℕ) (refused : List (List (List ℕ))) (kept : List PrintedAnswer) → AreAnsweredAt model shapes opening before round seen refused kept (requests part) → Rise (version_of old.list) seen → last_from (version_of old.list) seen ≤ at_end
        → ((weight : List ℕ → ℕ) → sum_by weight (all_refused refused) ≤ sum_by weight worker) → Shares kept → IsShareDone part kept worker from until replies
    share_done worker seen refused kept answered rise most told adds =
        let over : AreAnsweredOver model shapes at_end (tables new.desk.state) adds.refused adds.replies (drop (length kept) (requests part))
        = subst (λ (s : Shapes). AreAnsweredOver model s at_end (tables new.desk.state) adds.refused adds.replies (drop (length kept) (requests part))) done.behind.shapes_are adds.answered in
        let both = completed model shapes opening before round at_end (tables new.desk.state) end_cut end_tables seen refused adds.refused kept adds.replies (requests part) answered over in
        let all = completed_long model shapes opening before round at_end (tables new.desk.state) end_cut end_tables seen refused adds.refused kept adds.replies (requests part) answered over in
        record {
          at_desk = adds.replies;
          added = adds.added;
          seen = seen ++ map (λ (reply : PrintedAnswer). at_end) adds.replies;
          refused = refused ++ adds.refused;
          answered = both;
          all = all;
          each = answered_long model shapes opening before round (seen ++ map (λ (reply : PrintedAnswer). at_end) adds.replies) (refused ++ adds.refused) (kept ++ adds.replies) (requests part) both ∙ all;
          rise = rise_then (version_of old.list) at_end seen adds.replies rise most;
          patterns = all_refused adds.refused;
          logged = adds.logged;
          told = λ weight. let one = told weight in omega (arith, one, all_weighed weight refused adds.refused);
        }

    -- a part that nobody had
    pub share_left : Shares [] → IsShareDone part [] [] from until replies
    share_left shared = share_done [] [] [] [] tt tt end_least (λ weight. omega arith) shared

    -- one that a worker had
    pub share_kept : (seat left final : SeatSeen) (first last : Refusals) (kept : List PrintedAnswer) → IsPrefix old.list seat.front → HasLearned new.list left final → (is : IsPartKept model shapes opening at_end part first last seat left kept)
        → Shares kept → IsShareDone part kept (all_refused is.served.refused) from until replies
    share_kept seat left final first last kept known end is shared = ⊎_elim of_seat of_none is.kept_is
      where
        versions_seen : List ℕ
        versions_seen = map (λ (s : SeatSeen). version_of s.front) is.served.seats

        low : version_of old.list ≤ version_of seat.front
        low = version_begins old.list seat.front known

        of_none : (at_end < version_of left.front) × (kept ≡ []) → IsShareDone part kept (all_refused is.served.refused) from until replies
        of_none above =
            subst (λ (k : List PrintedAnswer). IsShareDone part k (all_refused is.served.refused) from until replies) (sym above.1)
            (share_done (all_refused is.served.refused) [] [] [] tt tt end_least (λ weight. omega arith) (subst (λ (k : List PrintedAnswer). Shares k) above.1 shared))

        -- the seat behind its last request is not above the end
        front_is : left.front ≡ (last_from seat is.served.seats).front
        front_is = ⊎_elim (λ whole. ap (λ (s : SeatSeen). s.front) whole.0) (λ shut. shut.front_is) is.served.ends

        of_seat : (version_of left.front ≤ at_end) × (kept ≡ is.replies) → IsShareDone part kept (all_refused is.served.refused) from until replies
        of_seat within =
            let most : version_of (last_from seat is.served.seats).front ≤ at_end = subst (λ (l : List (List (List Change))). version_of l ≤ at_end) front_is within.0 in
            let above : version_of final.front ≤ version_of new.list
            = ⊎_elim (λ own. omega (arith, ap (λ (l : List (List (List Change))). version_of l) own, within.0, end_version)) (λ theirs. omega (arith, ap (λ (l : List (List (List Change))). version_of l) theirs)) end.one in
            let answered : AreAnsweredAt model shapes opening before round versions_seen is.served.refused is.replies (requests part)
            = served_at shapes opening before round old.list new.list final.front done.grown done.cuts end.that above model seat is.served.seats is.served.refused is.replies (requests part) known
            (subst (λ (l : List (List (List Change))). IsPrefix l final.front) front_is end.this) is.served.served in
            share_done (all_refused is.served.refused) versions_seen is.served.refused kept (subst (λ (k : List PrintedAnswer). AreAnsweredAt model shapes opening before round versions_seen is.served.refused k (requests part)) (sym within.1) answered)
            (rise_lower (version_of old.list) (version_of seat.front) versions_seen low (served_rise shapes opening model seat is.served.seats is.served.refused is.replies (requests part) is.served.served))
            (last_lower (version_of old.list) (version_of seat.front) at_end versions_seen end_least (omega (arith, most, last_version seat is.served.seats)))
            (λ weight. omega arith) shared
