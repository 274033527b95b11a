-- What workers and the administrator did, with seats and finders back in their places.
use Rattle.std.proofs.Common.{◌≡◌, ◌≤◌, ℕ, Bool, false, List, [], ◌∷◌, ◌++◌, append-nil, drop, length, map, refl, sym, take, ap, subst, ◌∙◌, arith}
use Rattle.std.specs.Prelude.{All}
use Rattle.std.specs.List.{AllZip}
use Rattle.std.proofs.lemmas.List.Elements.{recursion_from_All}
use Rattle.std.proofs.lemmas.List.{map-append}
use Rattle.answer_lines.specs.Printed.{PrintedAnswer}
use Rattle.live_pair.specs.Admins.{AdminSeen}
use Rattle.live_pair.specs.Seats.{SeatSeen}
use Rattle.live_rounds.proofs.RoundLemmas.{take_front}
use Rattle.live_rounds.proofs.PostLemmas.{AreServedAt, AreUsedAt, all_kept, kept_posts, used_at}
use Rattle.live_rounds.specs.Administrators.{AreDoneBeside, IsAdminAmid}
use Rattle.live_rounds.specs.Helps.Posts.{AreAll, AreKept}
use Rattle.live_rounds.specs.Stretches.{items_of}
use Rattle.live_rounds.specs.declared.stretch.Stretch.{Stretch}
use Rattle.model_conf.specs.ModelText.{ModelParts}
use Rattle.perm_base.specs.declared.shapes.Shapes.{Shapes}
use Rattle.policy_table.specs.Tables.{Policy}
use Rattle.regex_gate.proofs.CallerLemmas.{used_none}
use Rattle.regex_gate.specs.Refusals.{IsUsed, Refusals}
use Rattle.script_read.specs.Said.{Said}

-- an administrator that has done a whole round stands amid it
pub amid_all : (shapes : Shapes) (opening : Policy) (before round : List Said) (old new : AdminSeen) (others : List PrintedAnswer) → AreDoneBeside shapes opening before round old new others → IsAdminAmid shapes opening before round new
amid_all shapes opening before round old new others done = record { front = round; back = []; parts = sym (append-nil round); edits = done.behind.desk.edits; published = done.behind.published }

-- what stands behind nothing is all
pub behind_none : {X : Type 0} (old new back : List X) → new ≡ old ++ back → old ≡ [] → new ≡ back
behind_none {X = X} old new back is none = is ∙ ap (λ (l : List X). l ++ back) none

-- finders of which the first is the same, and the others were used, were used
pub whole_used : {P : Type 0} (refusals : P → Refusals) (olds news : List P) → take 1 news ≡ take 1 olds → AllZip IsUsed (drop 1 (map refusals olds)) (drop 1 (map refusals news)) → AllZip IsUsed (map refusals olds) (map refusals news)
whole_used refusals [] [] same used = tt
whole_used refusals (o ∷ olds) (n ∷ news) same used = let first : n ≡ o = cc (same) in (subst (λ (p : _). IsUsed (refusals o) (refusals p)) (sym first) (used_none (refusals o)), used)
whole_used refusals [] (n ∷ news) same used = absurd (cc (same))
whole_used refusals (o ∷ olds) [] same used = absurd (cc (same))

-- posts before and behind the work
module _ {X P : Type 0} (seat : X → SeatSeen) (finder : X → P) (refusals : P → Refusals) (olds news : List X) (idle_seats : List SeatSeen) (idle : List P) (first : List P) (long : length news ≡ length olds)
    (one : length first ≡ 1) (old_finders new_finders : List P) (olds-are : old_finders ≡ first ++ (map finder olds ++ idle)) (news-are : new_finders ≡ first ++ (map finder news ++ idle)) where
  -- the refusals of the finders behind the first
  behind_first : (posts : List X) (all : List P) → all ≡ first ++ (map finder posts ++ idle) → drop 1 (map refusals all) ≡ map (λ (post : X). refusals (finder post)) posts ++ map refusals idle
  behind_first posts all is = ap (λ (l : List P). drop 1 (map refusals l)) is ∙ by first one
    where
      by : (front : List P) → length front ≡ 1 → drop 1 (map refusals (front ++ (map finder posts ++ idle))) ≡ map (λ (post : X). refusals (finder post)) posts ++ map refusals idle
      by (f ∷ []) single = map-append refusals (map finder posts) idle ∙ ap (λ (l : List Refusals). l ++ map refusals idle) (both posts)
        where
          both : (list : List X) → map refusals (map finder list) ≡ map (λ (post : X). refusals (finder post)) list
          both [] = refl
          both (x ∷ list) = ap (λ (l : List Refusals). refusals (finder x) ∷ l) (both list)
      by [] single = absurd (omega (arith, single))
      by (f ∷ g ∷ front) single = absurd (omega (arith, single))

  -- the first finder is the same
  pub first_stays : take 1 new_finders ≡ take 1 old_finders
  first_stays = ap (take 1) news-are ∙ take_front 1 first (map finder news ++ idle) (sym one) ∙ sym (ap (take 1) olds-are ∙ take_front 1 first (map finder olds ++ idle) (sym one))

  -- and the others were used
  pub finders_used : AreUsedAt (λ (post : X). refusals (finder post)) olds news → AllZip IsUsed (map refusals old_finders) (map refusals new_finders)
  finders_used used = whole_used refusals old_finders new_finders first_stays
      (subst (λ (l : List Refusals). AllZip IsUsed l (drop 1 (map refusals new_finders))) (sym (behind_first olds old_finders olds-are))
      (subst (AllZip IsUsed (map (λ (post : X). refusals (finder post)) olds ++ map refusals idle)) (sym (behind_first news new_finders news-are))
      (used_at (λ (post : X). refusals (finder post)) olds news (map refusals idle) long used)))

  module _ (replies : X → List PrintedAnswer) (ran_out : X → Bool) (model : ModelParts) (shapes : Shapes) (opening : Policy) (version : ℕ) (parts : List Stretch) (old_seats new_seats : List SeatSeen) (kept : List (List PrintedAnswer)) where
    pub worked_kept : old_seats ≡ map seat olds ++ idle_seats → new_seats ≡ map seat news ++ idle_seats → length olds ≤ length parts → AreAll parts olds idle_seats → All (λ (post : X). ran_out post ≡ false) news
        → AreServedAt seat (λ (post : X). refusals (finder post)) replies ran_out model shapes opening version parts olds news → kept ≡ all_kept seat (λ (post : X). refusals (finder post)) replies ran_out version news
        → AreKept model shapes opening version (map items_of parts) old_seats new_seats (drop 1 (map refusals old_finders)) (drop 1 (map refusals new_finders)) kept
    worked_kept olds-seats news-seats few all whole served kept-is =
        subst (λ (l : List SeatSeen). AreKept model shapes opening version (map items_of parts) l new_seats (drop 1 (map refusals old_finders)) (drop 1 (map refusals new_finders)) kept) (sym olds-seats)
        (subst (λ (l : List SeatSeen). AreKept model shapes opening version (map items_of parts) (map seat olds ++ idle_seats) l (drop 1 (map refusals old_finders)) (drop 1 (map refusals new_finders)) kept) (sym news-seats)
        (subst (λ (l : List Refusals). AreKept model shapes opening version (map items_of parts) (map seat olds ++ idle_seats) (map seat news ++ idle_seats) l (drop 1 (map refusals new_finders)) kept) (sym (behind_first olds old_finders olds-are))
        (subst (λ (l : List Refusals). AreKept model shapes opening version (map items_of parts) (map seat olds ++ idle_seats) (map seat news ++ idle_seats) (map (λ (post : X). refusals (finder post)) olds ++ map refusals idle) l kept) (sym (behind_first news new_finders news-are))
        (subst (AreKept model shapes opening version (map items_of parts) (map seat olds ++ idle_seats) (map seat news ++ idle_seats) (map (λ (post : X). refusals (finder post)) olds ++ map refusals idle) (map (λ (post : X). refusals (finder post)) news ++ map refusals idle)) (sym kept-is)
        (kept_posts seat (λ (post : X). refusals (finder post)) replies ran_out model shapes opening version parts olds news idle_seats (map refusals idle) long few all (recursion_from_All (λ (post : X). ran_out post ≡ false) news whole) served)))))
