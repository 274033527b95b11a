-- The row with the deepest subject among those that were matched or failed decides.
use Rattle.std.proofs.Common.{◌≡◌, ◌⊎◌, inl, inr, ℕ, suc, ◌<◌, ◌≤◌, ◌==◌, Bool, true, false, cond, List, [], ◌∷◌, ◌++◌, map, find, get_or, length, Option, Some, None, Ok, refl, sym, ap, ◌∙◌, subst, arith, append-nil, append_assoc}
use Rattle.std.specs.Prelude.{nat_lt}
use Rattle.std.specs.List.{AllByRecursion, AllPairs, AllZip, Contains}
use Rattle.std.proofs.lemmas.Bool.{both_ways, cases_lt, eq-eqb, eqb-true, ltb-false, ltb-true, ne_eqb}
use Rattle.std.proofs.lemmas.List.{get_or_default}
use Rattle.std.proofs.lemmas.List.Elements.{All-contains, Contains-append_left, Contains-push}
use Rattle.effect_fold.specs.Verdict.{Taken, ends, ends_with, settled_by, verdict, verdict_at}
use Rattle.effect_fold.specs.declared.effect.Effect.{Effect}
use Rattle.effect_fold.specs.declared.effect.Effect.TheVariants as effect
use Rattle.effect_fold.specs.declared.fault.Cause.TheVariants.{Pattern}
use Rattle.effect_fold.specs.declared.outcome.Outcome.{Outcome}
use Rattle.effect_fold.specs.declared.outcome.Outcome.TheVariants.{Unmatched, Matched, Failed}
use Rattle.effect_fold.specs.declared.verdict.Verdict.{Verdict}
use Rattle.perm_base.specs.RoleShapes.{shape_of}
use Rattle.policy_table.specs.Tables.{Fields}
use Rattle.role_meaning.proofs.CallerLemmas.{pairs_head, pairs_tail, stands_behind, stands_cases, stands_here, stands_nowhere}
use Rattle.role_meaning.specs.Depths.{IsOrderByDepth, by_depth}
use Rattle.matcher_meaning.proofs.CallerLemmas.{OneDepth, OneTruthAt, SomeDepth, SomeTruthAt, depth_one, each_some, order_some, row_outcome_one, row_outcome_some}
use Rattle.matcher_meaning.specs.Cases.{Case}
use Rattle.matcher_meaning.specs.Order.{AreDepths, AreInOrder, IsDepthBy, Numbered, in_order_of, numbered, numbered_from}
use Rattle.matcher_meaning.specs.Perm.{Refusal, refusal_fault}
use Rattle.matcher_meaning.specs.Verdicts.{RowHasOutcome}
use Rattle.decision.specs.declared.by_subjects.First.{First}
use Rattle.decision.proofs.CoverLemmas.{covered_each, covered_stands, numbers_before}
use Rattle.decision.proofs.FoldLemmas.{here_refused, refusal_at, unrefused}
use Rattle.decision.proofs.OutcomeLemmas.{comes_for_more}
use Rattle.decision.proofs.RowLemmas.{each_at, each_push, each_standing, each_weaker, numbered_at, numbered_length, zip_at, zip_length}
use Rattle.decision.specs.Helps.Covers.{Covers}
use Rattle.decision.specs.Helps.Firsts.{IsDepthOf, IsFirstWith, first_of, verdict_of_first}
use Rattle.decision.specs.Helps.LeftOut.{IsLeftOut}
use Rattle.decision.specs.Helps.Outcomes.{ComesTo, HasOutcomesInOrder, IsJudgedOn, OutcomeIs, is_by_subjects}

-- depths give an order
abbrev pub OrdersByDepth : Type 0
OrdersByDepth = (depths : List ℕ) → IsOrderByDepth depths (by_depth depths)

-- a row that comes to no match
abbrev IsQuiet : Case → Numbered → Type 0
IsQuiet case row = OutcomeIs case None (Some row.fields) Unmatched

-- a row that stands behind another of this depth and number: it is less deep, or as deep and later
abbrev IsBehind : Case → ℕ → ℕ → Numbered → Type 0
IsBehind case depth number row = (own : ℕ) × IsDepthOf case row.fields own × ((own < depth) ⊎ ((own ≡ depth) × (number < row.number)))

-- a row beside the one that stands first
abbrev IsBeside : Case → Numbered → First → Numbered → Type 0
IsBeside case row first other = (other ≡ row) ⊎ (IsQuiet case other ⊎ IsBehind case first.depth first.number other)

-- the row that stands first among these
record StandsFirst (case : Case) (Refused : Option (List ℕ) → Type 0) (seen : List Numbered) (first : First) : Type 0 where
  row : Numbered
  stands : Contains seen row
  number : row.number ≡ first.number
  depth : IsDepthOf case row.fields first.depth
  comes : ComesTo case Refused (Some row.fields) first.outcome
  ends : ends_with effect.SubjectPriority first.outcome ≡ true
  others : AllByRecursion (IsBeside case row first) seen

abbrev IsFirstOf : Case → (Option (List ℕ) → Type 0) → List Numbered → Option First → Type 0
IsFirstOf case Refused seen None = AllByRecursion (IsQuiet case) seen
IsFirstOf case Refused seen (Some first) = StandsFirst case Refused seen first

-- how far the search for the first row has come, where these rows are left of all
pub record IsSought (case : Case) (Refused : Option (List ℕ) → Type 0) (all rest : List Numbered) (first : Option First) : Type 0 where
  seen : List Numbered
  parts : all ≡ seen ++ rest
  is : IsFirstOf case Refused seen first

pub sought_none : (case : Case) (Refused : Option (List ℕ) → Type 0) (all rest : List Numbered) → rest ≡ all → IsSought case Refused all rest None
sought_none case Refused all rest same = record { seen = []; parts = sym same; is = tt }

-- what was refused in a part was so in the whole
pub sought_for_more : (case : Case) (Refused RefusedToo : Option (List ℕ) → Type 0) (all rest : List Numbered) (first : Option First) → ((refused : Option (List ℕ)) → Refused refused → RefusedToo refused) → IsSought case Refused all rest first → IsSought case RefusedToo all rest first
sought_for_more case Refused RefusedToo all rest first more so = record { seen = so.seen; parts = so.parts; is = by first so.is }
  where
    by : (first : Option First) → IsFirstOf case Refused so.seen first → IsFirstOf case RefusedToo so.seen first
    by None quiet = quiet
    by (Some first) is = record {
      row = is.row;
      stands = is.stands;
      number = is.number;
      depth = is.depth;
      comes = comes_for_more case Refused RefusedToo (Some is.row.fields) first.outcome more is.comes;
      ends = is.ends;
      others = is.others;
    }

-- a row of this number, depth and outcome
abbrev first_at : ℕ → ℕ → Outcome → First
first_at number depth outcome = record { number = number; depth = depth; outcome = outcome }

-- the row that stands first stays so with a row behind it that stands beside it
stands_more : (case : Case) (Refused : Option (List ℕ) → Type 0) (seen : List Numbered) (row : Numbered) (first : First) → (so : StandsFirst case Refused seen first) → IsBeside case so.row first row → StandsFirst case Refused (seen ++ row ∷ []) first
stands_more case Refused seen row first so beside = record {
  row = so.row;
  stands = Contains-append_left seen (row ∷ []) so.row so.stands;
  number = so.number;
  depth = so.depth;
  comes = so.comes;
  ends = so.ends;
  others = each_push (IsBeside case so.row first) seen row so.others beside;
}

-- a row that comes to no match changes nothing
quiet_more : (case : Case) (Refused : Option (List ℕ) → Type 0) (seen : List Numbered) (row : Numbered) (first : Option First) → IsFirstOf case Refused seen first → IsQuiet case row → IsFirstOf case Refused (seen ++ row ∷ []) first
quiet_more case Refused seen row None so quiet = each_push (IsQuiet case) seen row so quiet
quiet_more case Refused seen row (Some first) so quiet = stands_more case Refused seen row first so (inr (inl quiet))

-- a last row stands first where each before it stands beside it
stands_last : (case : Case) (Refused : Option (List ℕ) → Type 0) (seen : List Numbered) (row : Numbered) (depth : ℕ) (outcome : Outcome) → AllByRecursion (IsBeside case row (first_at row.number depth outcome)) seen → IsDepthOf case row.fields depth → ComesTo case Refused (Some row.fields) outcome → ends_with effect.SubjectPriority outcome ≡ true
    → StandsFirst case Refused (seen ++ row ∷ []) (first_at row.number depth outcome)
stands_last case Refused seen row depth outcome beside is_depth comes ends = record {
  row = row;
  stands = Contains-push seen row;
  number = refl;
  depth = is_depth;
  comes = comes;
  ends = ends;
  others = each_push (IsBeside case row (first_at row.number depth outcome)) seen row beside (inl refl);
}

-- the row that was matched or failed is the first such
first_alone : (case : Case) (Refused : Option (List ℕ) → Type 0) (seen : List Numbered) (row : Numbered) (depth : ℕ) (outcome : Outcome) → AllByRecursion (IsQuiet case) seen → IsDepthOf case row.fields depth → ComesTo case Refused (Some row.fields) outcome → ends_with effect.SubjectPriority outcome ≡ true
    → StandsFirst case Refused (seen ++ row ∷ []) (first_at row.number depth outcome)
first_alone case Refused seen row depth outcome quiet is_depth comes ends =
    stands_last case Refused seen row depth outcome (each_weaker (IsQuiet case) (IsBeside case row (first_at row.number depth outcome)) seen (λ other is. inr (inl is)) quiet) is_depth comes ends

-- it is deeper than the first before it
first_deeper : (case : Case) (Refused : Option (List ℕ) → Type 0) (seen : List Numbered) (row : Numbered) (depth : ℕ) (outcome : Outcome) (old : First) → StandsFirst case Refused seen old → old.depth < depth → IsDepthOf case row.fields depth → ComesTo case Refused (Some row.fields) outcome → ends_with effect.SubjectPriority outcome ≡ true
    → StandsFirst case Refused (seen ++ row ∷ []) (first_at row.number depth outcome)
first_deeper case Refused seen row depth outcome old so less is_depth comes ends =
    stands_last case Refused seen row depth outcome (each_weaker (IsBeside case so.row old) (IsBeside case row (first_at row.number depth outcome)) seen behind so.others) is_depth comes ends
  where
    behind : (other : Numbered) → IsBeside case so.row old other → IsBeside case row (first_at row.number depth outcome) other
    behind other (inl same) = inr (inr (old.depth, subst (λ (one : Numbered). IsDepthOf case one.fields old.depth) (sym same) so.depth, inl less))
    behind other (inr (inl quiet)) = inr (inl quiet)
    behind other (inr (inr (own, is, inl lower))) = inr (inr (own, is, inl (omega arith)))
    behind other (inr (inr (own, is, inr (same, later)))) = inr (inr (own, is, inl (omega (arith, same))))

-- it is not deeper
first_stays : (case : Case) (Refused : Option (List ℕ) → Type 0) (seen : List Numbered) (row : Numbered) (depth : ℕ) (old : First) → StandsFirst case Refused seen old → depth ≤ old.depth → old.number < row.number → IsDepthOf case row.fields depth
    → StandsFirst case Refused (seen ++ row ∷ []) old
first_stays case Refused seen row depth old so more later is_depth = stands_more case Refused seen row old so (inr (inr (depth, is_depth, by (cases_lt depth old.depth))))
  where
    by : (depth < old.depth) ⊎ (old.depth ≤ depth) → (depth < old.depth) ⊎ ((depth ≡ old.depth) × (old.number < row.number))
    by (inl less) = inl less
    by (inr same) = inr (omega arith, later)

-- one that was matched or failed, behind those before
ending_more : (case : Case) (Refused : Option (List ℕ) → Type 0) (seen : List Numbered) (row : Numbered) (depth : ℕ) (outcome : Outcome) (before : Option First) → IsFirstOf case Refused seen before → AllByRecursion (λ (one : Numbered). one.number < row.number) seen
    → IsDepthOf case row.fields depth → ComesTo case Refused (Some row.fields) outcome → ends_with effect.SubjectPriority outcome ≡ true → IsFirstOf case Refused (seen ++ row ∷ []) (Some (first_of before (first_at row.number depth outcome)))
ending_more case Refused seen row depth outcome None so earlier is_depth comes ends = first_alone case Refused seen row depth outcome so is_depth comes ends
ending_more case Refused seen row depth outcome (Some old) so earlier is_depth comes ends = by (nat_lt old.depth depth) refl
  where
    old_number : old.number < row.number
    old_number = omega (arith, so.number, each_standing (λ (one : Numbered). one.number < row.number) seen so.row earlier so.stands)

    by : (deeper : Bool) → nat_lt old.depth depth ≡ deeper → StandsFirst case Refused (seen ++ row ∷ []) (cond deeper (first_at row.number depth outcome) old)
    by true is = first_deeper case Refused seen row depth outcome old so (ltb-true old.depth depth is) is_depth comes ends
    by false is = first_stays case Refused seen row depth old so (ltb-false old.depth depth is) old_number is_depth

-- one row more
pub sought_more : (case : Case) (Refused : Option (List ℕ) → Type 0) (table : List Fields) (some rest : List Numbered) (row : Numbered) (outcome : Outcome) (before after : Option First) → Covers case (numbered_from 1 table) some → IsSought case Refused some (row ∷ rest) before
    → ComesTo case Refused (Some row.fields) outcome → IsFirstWith case row outcome before after → IsSought case Refused some rest after
sought_more case Refused table some rest row outcome before after covers so comes with_row = record {
  seen = so.seen ++ row ∷ [];
  parts = so.parts ∙ sym (append_assoc so.seen (row ∷ []) rest);
  is = by outcome comes with_row;
}
  where
    ending : (outcome : Outcome) → ends_with effect.SubjectPriority outcome ≡ true → ComesTo case Refused (Some row.fields) outcome → (depth : ℕ) → IsDepthOf case row.fields depth → after ≡ Some (first_of before (first_at row.number depth outcome)) → IsFirstOf case Refused (so.seen ++ row ∷ []) after
    ending outcome ends comes depth is_depth e =
        subst (IsFirstOf case Refused (so.seen ++ row ∷ [])) (sym e)
        (ending_more case Refused so.seen row depth outcome before so.is (numbers_before case table some so.seen row rest covers so.parts) is_depth comes ends)

    quiet : ComesTo case Refused (Some row.fields) Unmatched → IsQuiet case row
    quiet (inl (none, is)) = is
    quiet (inr (at, pattern, bad, failed, is)) = absurd cc

    by : (outcome : Outcome) → ComesTo case Refused (Some row.fields) outcome → IsFirstWith case row outcome before after → IsFirstOf case Refused (so.seen ++ row ∷ []) after
    by Unmatched comes e = subst (IsFirstOf case Refused (so.seen ++ row ∷ [])) (sym e) (quiet_more case Refused so.seen row before so.is (quiet comes))
    by (Matched allow) comes (depth, is_depth, e) = ending (Matched allow) refl comes depth is_depth e
    by (Failed fault) comes (depth, is_depth, e) = ending (Failed fault) refl comes depth is_depth e

-- the place of a row before another by their depths
abbrev IsBefore : List ℕ → ℕ → ℕ → Type 0
IsBefore depths one other = (get_or depths other 0 < get_or depths one 0) ⊎ ((get_or depths one 0 ≡ get_or depths other 0) × (one < other))

-- the first of outcomes that ends is that of a place which ends, where those of the places before it do not
find_first : (Is : ℕ → Taken → Type 0) (depths : List ℕ) (k : ℕ) (taken : Taken) → ends effect.SubjectPriority taken ≡ true → ((other : Taken) → Is k other → other ≡ taken) → (places : List ℕ) (outcomes : List Taken)
    → ((p : ℕ) → Contains places p → (p ≡ k → ⊥) → IsBefore depths p k → (other : Taken) → Is p other → ends effect.SubjectPriority other ≡ false) → AllPairs (IsBefore depths) places → Contains places k → AllZip Is places outcomes → find (ends effect.SubjectPriority) outcomes ≡ Some taken
find_first Is depths k taken ending here [] outcomes before order stands each = absurd (stands_nowhere k stands)
find_first Is depths k taken ending here (p ∷ places) [] before order stands each = absurd each
find_first Is depths k taken ending here (p ∷ places) (x ∷ outcomes) before order stands each =
    by (find_first Is depths k taken ending here places outcomes (λ q there. before q (stands_behind p places q there)) (pairs_tail (IsBefore depths) p places order)) (p == k) refl
  where
    at_head : p ≡ k → find (ends effect.SubjectPriority) (x ∷ outcomes) ≡ Some taken
    at_head same =
        let is : x ≡ taken = here x (subst (λ (place : ℕ). Is place x) same each.0) in
        let head : ends effect.SubjectPriority x ≡ true = ap (ends effect.SubjectPriority) is ∙ ending in
        rw head (ap (λ (one : Taken). Some one) is)

    behind : (Contains places k → AllZip Is places outcomes → find (ends effect.SubjectPriority) outcomes ≡ Some taken) → (p ≡ k → ⊥) → (p ≡ k) ⊎ Contains places k → find (ends effect.SubjectPriority) (x ∷ outcomes) ≡ Some taken
    behind rest differs (inl same) = absurd (differs same)
    behind rest differs (inr later) =
        let head : ends effect.SubjectPriority x ≡ false = before p (stands_here p places) differs (All-contains (IsBefore depths p) places k (pairs_head (IsBefore depths) p places order) later) x each.0 in
        rw head (rest later each.1)

    by : (Contains places k → AllZip Is places outcomes → find (ends effect.SubjectPriority) outcomes ≡ Some taken) → (same : Bool) → (p == k) ≡ same → find (ends effect.SubjectPriority) (x ∷ outcomes) ≡ Some taken
    by rest true is = at_head (eqb-true p k is)
    by rest false is = behind rest (λ same. both_ways (p == k) is (eq-eqb p k same)) (stands_cases p places k stands)

-- none of the outcomes ends
find_none : (Is : ℕ → Taken → Type 0) (places : List ℕ) (outcomes : List Taken) → ((p : ℕ) → Contains places p → (other : Taken) → Is p other → ends effect.SubjectPriority other ≡ false) → AllZip Is places outcomes → find (ends effect.SubjectPriority) outcomes ≡ None
find_none Is [] [] none each = refl
find_none Is [] (x ∷ outcomes) none each = absurd each
find_none Is (p ∷ places) [] none each = absurd each
find_none Is (p ∷ places) (x ∷ outcomes) none each =
    let head : ends effect.SubjectPriority x ≡ false = none p (stands_here p places) x each.0 in
    rw head (find_none Is places outcomes (λ q there. none q (stands_behind p places q there)) each.1)

zip_unmap : {X Y Z : Type 0} (R : Y → Z → Type 0) (f : X → Y) (xs : List X) (zs : List Z) → AllZip R (map f xs) zs → AllZip (λ x z. R (f x) z) xs zs
zip_unmap R f [] [] each = tt
zip_unmap R f [] (z ∷ zs) each = absurd each
zip_unmap R f (x ∷ xs) [] each = absurd each
zip_unmap R f (x ∷ xs) (z ∷ zs) each = (each.0, zip_unmap R f xs zs each.1)

-- what a search for the first row over the rows of a table has found, and the order in which these are judged
record IsSettled (case : Case) (rows : List Fields) : Type 0 where
  one_deep : OneDepth
  one_truth : OneTruthAt case
  depths : List ℕ
  are : AreDepths case rows depths
  order : IsOrderByDepth depths (by_depth depths)

-- the row at a place of the table
abbrev row_at : List Fields → ℕ → Numbered
row_at rows place = get_or (numbered_from 1 rows) place (numbered (suc place) [])

row_at_is : (rows : List Fields) (place : ℕ) → place < length rows → row_at rows place ≡ numbered (suc place) (get_or rows place [])
row_at_is rows place within =
    numbered_at 1 rows place (numbered (suc place) []) [] within ∙ ap (λ (n : ℕ). numbered n (get_or rows place [])) (omega arith)

-- what the row at a place comes to, where a search is refused or none
abbrev IsAtPlace : Case → Option Refusal → List Fields → ℕ → Taken → Type 0
IsAtPlace case refused rows place taken = RowHasOutcome case refused (row_at rows place) taken

place_within : (case : Case) (rows : List Fields) (set : IsSettled case rows) (place : ℕ) → Contains (by_depth set.depths) place → place < length rows
place_within case rows set place there = omega (arith, (set.order.each place).0 there, zip_length (IsDepthBy case (shape_of case.shapes.roles 1)) rows set.depths set.are)

place_there : (case : Case) (rows : List Fields) (set : IsSettled case rows) (place : ℕ) → place < length rows → Contains (by_depth set.depths) place
place_there case rows set place within = (set.order.each place).1 (omega (arith, within, zip_length (IsDepthBy case (shape_of case.shapes.roles 1)) rows set.depths set.are))

-- the depth of the row at a place stands there among the depths
depth_at : (case : Case) (rows : List Fields) (set : IsSettled case rows) (place depth : ℕ) → place < length rows → IsDepthOf case (row_at rows place).fields depth → depth ≡ get_or set.depths place 0
depth_at case rows set place depth within is =
    let fields : (row_at rows place).fields ≡ get_or rows place [] = ap (λ (row : Numbered). row.fields) (row_at_is rows place within) in
    depth_one set.one_deep case (shape_of case.shapes.roles 1) (get_or rows place []) depth (get_or set.depths place 0)
    (subst (λ (one : Fields). IsDepthOf case one depth) fields is)
    (zip_at (IsDepthBy case (shape_of case.shapes.roles 1)) rows set.depths place [] 0 within set.are)

-- a row that comes to no match, where no search of it is refused
quiet_taken : (case : Case) → OneTruthAt case → (refused : Option Refusal) (row : Numbered) (taken : Taken) → RowHasOutcome case refused row (Some row.number, Unmatched) → RowHasOutcome case refused row taken → ends effect.SubjectPriority taken ≡ false
quiet_taken case one refused row taken quiet is = ap (ends effect.SubjectPriority) (row_outcome_one case one refused row taken (Some row.number, Unmatched) is quiet)

-- the row at another place, before that of the first, comes to no match
before_is_quiet : (case : Case) (Refused : Option (List ℕ) → Type 0) (rows : List Fields) (set : IsSettled case rows) (first : First) (so : StandsFirst case Refused (numbered_from 1 rows) first) (k : ℕ) → k < length rows → row_at rows k ≡ so.row
    → (p : ℕ) → p < length rows → (p ≡ k → ⊥) → IsBefore set.depths p k → IsQuiet case (row_at rows p)
before_is_quiet case Refused rows set first so k k_within k_row p p_within differs before =
    by before (each_at (IsBeside case so.row first) (numbered_from 1 rows) p (numbered (suc p) []) (omega (arith, numbered_length 1 rows, p_within)) so.others)
  where
    number_p : (row_at rows p).number ≡ suc p
    number_p = ap (λ (row : Numbered). row.number) (row_at_is rows p p_within)

    number_k : so.row.number ≡ suc k
    number_k = ap (λ (row : Numbered). row.number) (sym k_row ∙ row_at_is rows k k_within)

    depth_k : first.depth ≡ get_or set.depths k 0
    depth_k = depth_at case rows set k first.depth k_within (subst (λ (row : Numbered). IsDepthOf case row.fields first.depth) (sym k_row) so.depth)

    apart : IsBefore set.depths p k → (own : ℕ) → own ≡ get_or set.depths p 0 → (own < first.depth) ⊎ ((own ≡ first.depth) × (first.number < (row_at rows p).number)) → ⊥
    apart (inl deeper) own is (inl less) = absurd (omega (arith, depth_k))
    apart (inl deeper) own is (inr (same, later)) = absurd (omega (arith, depth_k))
    apart (inr (even, earlier)) own is (inl less) = absurd (omega (arith, depth_k))
    apart (inr (even, earlier)) own is (inr (same, later)) = absurd (omega (arith, so.number, number_p, number_k))

    by : IsBefore set.depths p k → IsBeside case so.row first (row_at rows p) → IsQuiet case (row_at rows p)
    by before (inl same) = absurd (differs (omega (arith, number_p, number_k, ap (λ (row : Numbered). row.number) same)))
    by before (inr (inl quiet)) = quiet
    by before (inr (inr (own, is_depth, behind))) = absurd (apart before own (depth_at case rows set p own p_within is_depth) behind)

-- the outcomes in the order by depth
outcomes_of : (case : Case) → SomeTruthAt case → (rows : List Fields) (set : IsSettled case rows) (refused : Option Refusal) → (outcomes : List Taken) × AllZip (RowHasOutcome case refused) (in_order_of (by_depth set.depths) (numbered_from 1 rows)) outcomes
outcomes_of case some rows set refused = each_some (RowHasOutcome case refused) (row_outcome_some case some refused) (in_order_of (by_depth set.depths) (numbered_from 1 rows))

-- the verdict on the outcomes in the order by depth
abbrev IsVerdictBy : Case → List Fields → Option Refusal → Verdict → Type 0
IsVerdictBy case rows refused v = (outcomes : List Taken) × ((judged : List Numbered) × AreInOrder case effect.SubjectPriority rows judged × AllZip (RowHasOutcome case refused) judged outcomes) × (v ≡ verdict effect.SubjectPriority outcomes)

verdict_by : (case : Case) → SomeTruthAt case → (rows : List Fields) (set : IsSettled case rows) (refused : Option Refusal) (v : Verdict) → ((outcomes : List Taken) → AllZip (IsAtPlace case refused rows) (by_depth set.depths) outcomes → v ≡ verdict effect.SubjectPriority outcomes) → IsVerdictBy case rows refused v
verdict_by case some rows set refused v is =
    let found = outcomes_of case some rows set refused in
    (found.0, (in_order_of (by_depth set.depths) (numbered_from 1 rows), (set.depths, set.are, refl), found.1), is found.0 (zip_unmap (RowHasOutcome case refused) (row_at rows) (by_depth set.depths) found.0 found.1))

-- where no row was matched or failed
verdict_of_none : (case : Case) → SomeTruthAt case → (rows : List Fields) (set : IsSettled case rows) → AllByRecursion (IsQuiet case) (numbered_from 1 rows) → IsVerdictBy case rows None (verdict_of_first None)
verdict_of_none case some rows set quiet =
    verdict_by case some rows set None (verdict_of_first None) (λ outcomes each.
    ap (verdict_at effect.SubjectPriority outcomes) (sym (find_none (IsAtPlace case None rows) (by_depth set.depths) outcomes (λ p there. one p (place_within case rows set p there)) each)))
  where
    one : (p : ℕ) → p < length rows → (taken : Taken) → IsAtPlace case None rows p taken → ends effect.SubjectPriority taken ≡ false
    one p within taken is =
        quiet_taken case set.one_truth None (row_at rows p) taken (refl, each_at (IsQuiet case) (numbered_from 1 rows) p (numbered (suc p) []) (omega (arith, numbered_length 1 rows, within)) quiet) is

-- what a search refused or none means for the rows beside the one that stands first
abbrev KeepsOthers : Case → Option Refusal → Numbered → Type 0
KeepsOthers case refused first = (row : Numbered) → (row.number ≡ first.number → ⊥) → IsQuiet case row → RowHasOutcome case refused row (Some row.number, Unmatched)

-- where the row at this place stands first
verdict_at_place : (case : Case) → SomeTruthAt case → (Refused : Option (List ℕ) → Type 0) (rows : List Fields) (set : IsSettled case rows) (first : First) (so : StandsFirst case Refused (numbered_from 1 rows) first) (refused : Option Refusal)
    → RowHasOutcome case refused so.row (Some so.row.number, first.outcome) → KeepsOthers case refused so.row → (k : ℕ) → k < length rows → row_at rows k ≡ so.row → IsVerdictBy case rows refused (verdict_of_first (Some first))
verdict_at_place case some Refused rows set first so refused is others k within same =
    verdict_by case some rows set refused (verdict_of_first (Some first)) (λ outcomes each.
    ap (λ (n : ℕ). settled_by (Some n) first.outcome) (sym so.number)
    ∙ ap (verdict_at effect.SubjectPriority outcomes)
    (sym (find_first (IsAtPlace case refused rows) set.depths k (Some so.row.number, first.outcome) so.ends here (by_depth set.depths) outcomes
    (λ p there differs before taken taken_is. earlier p (place_within case rows set p there) differs before taken taken_is) set.order.order (place_there case rows set k within) each)))
  where
    here : (taken : Taken) → IsAtPlace case refused rows k taken → taken ≡ (Some so.row.number, first.outcome)
    here taken taken_is =
        row_outcome_one case set.one_truth refused so.row taken (Some so.row.number, first.outcome) (subst (λ (row : Numbered). RowHasOutcome case refused row taken) same taken_is) is

    number_k : so.row.number ≡ suc k
    number_k = ap (λ (row : Numbered). row.number) (sym same ∙ row_at_is rows k within)

    earlier : (p : ℕ) → p < length rows → (p ≡ k → ⊥) → IsBefore set.depths p k → (taken : Taken) → IsAtPlace case refused rows p taken → ends effect.SubjectPriority taken ≡ false
    earlier p p_within differs before taken taken_is =
        let number_p : (row_at rows p).number ≡ suc p = ap (λ (row : Numbered). row.number) (row_at_is rows p p_within) in
        quiet_taken case set.one_truth refused (row_at rows p) taken
        (others (row_at rows p) (λ e. differs (omega (arith, e, number_p, number_k))) (before_is_quiet case Refused rows set first so k within same p p_within differs before)) taken_is

-- where this row stands first
verdict_of_some : (case : Case) → SomeTruthAt case → (Refused : Option (List ℕ) → Type 0) (rows : List Fields) (set : IsSettled case rows) (first : First) (so : StandsFirst case Refused (numbered_from 1 rows) first) (refused : Option Refusal)
    → RowHasOutcome case refused so.row (Some so.row.number, first.outcome) → KeepsOthers case refused so.row → IsVerdictBy case rows refused (verdict_of_first (Some first))
verdict_of_some case some Refused rows set first so refused is others = by so.stands
  where
    by : Contains (numbered_from 1 rows) so.row → IsVerdictBy case rows refused (verdict_of_first (Some first))
    by (k, k_within, k_row) =
        let within : k < length rows = omega (arith, k_within, numbered_length 1 rows) in
        verdict_at_place case some Refused rows set first so refused is others k within (get_or_default (numbered_from 1 rows) k (numbered (suc k) []) so.row k_within ∙ k_row)

-- what is judged by the row that stands first
judged_first : (case : Case) → SomeTruthAt case → (Refused : Option (List ℕ) → Type 0) (rows : List Fields) (set : IsSettled case rows) (first : Option First) → Refused None → IsFirstOf case Refused (numbered_from 1 rows) first
    → (Refused None × IsVerdictBy case rows None (verdict_of_first first)) ⊎ ((refusal : Refusal) × Refused (Some refusal.pattern) × (verdict_of_first first ≡ refusal_fault refusal) × IsVerdictBy case rows (Some refusal) (verdict_of_first first))
judged_first case some Refused rows set None none quiet = inl (none, verdict_of_none case some rows set quiet)
judged_first case some Refused rows set (Some first) none so = by so.comes
  where
    Judged : Type 0
    Judged = (Refused None × IsVerdictBy case rows None (verdict_of_first (Some first))) ⊎ ((refusal : Refusal) × Refused (Some refusal.pattern) × (verdict_of_first (Some first) ≡ refusal_fault refusal) × IsVerdictBy case rows (Some refusal) (verdict_of_first (Some first)))

    by : ComesTo case Refused (Some so.row.fields) first.outcome → Judged
    by (inl (none, is)) = inl (none, verdict_of_some case some Refused rows set first so None (refl, is) (λ row differs quiet. (refl, quiet)))
    by (inr (place, pattern, bad, failed, is)) =
        let refusal : Refusal = refusal_at (Some so.row.number) place pattern in
        inr (
          refusal,
          bad,
          ap (settled_by (Some first.number)) failed ∙ ap (λ (n : ℕ). settled_by (Some n) (Failed (record { cause = Pattern; at = place }))) (sym so.number),
          verdict_of_some case some Refused rows set first so (Some refusal) (here_refused case place pattern so.row first.outcome is)
              (λ row differs quiet. unrefused case so.row.number place pattern row (Some row.number, Unmatched) (ne_eqb so.row.number row.number (λ e. differs (sym e))) (refl, quiet)),
        )

by_subjects_is : (e : Effect) → is_by_subjects e ≡ true → e ≡ effect.SubjectPriority
by_subjects_is effect.SubjectPriority e = refl
by_subjects_is effect.AllowOverride e = absurd cc
by_subjects_is effect.DenyOverride e = absurd cc
by_subjects_is effect.AllowAndDeny e = absurd cc
by_subjects_is effect.Priority e = absurd cc

-- a row that is left out comes to no match
out_is_quiet : (case : Case) (row : Numbered) → IsLeftOut case row.fields → IsQuiet case row
out_is_quiet case row out = (Ok false, out None, refl)

-- the row that stands first among those that are looked at stands first among all
first_of_all : (case : Case) (Refused : Option (List ℕ) → Type 0) (all some : List Numbered) (first : Option First) → Covers case all some → IsFirstOf case Refused some first → IsFirstOf case Refused all first
first_of_all case Refused all some None covers quiet = covered_each case (IsQuiet case) (out_is_quiet case) all some covers quiet
first_of_all case Refused all some (Some first) covers so = record {
  row = so.row;
  stands = covered_stands case all some so.row covers so.stands;
  number = so.number;
  depth = so.depth;
  comes = so.comes;
  ends = so.ends;
  others = covered_each case (IsBeside case so.row first) (λ row out. inr (inl (out_is_quiet case row out))) all some covers so.others;
}

-- the search for the first row is at its end
pub judged_by_first : (case : Case) → OneDepth → SomeDepth → OrdersByDepth → OneTruthAt case → SomeTruthAt case → (Refused : Option (List ℕ) → Type 0) (rows : List Fields) (some : List Numbered) (first : Option First) → Refused None → is_by_subjects case.model.effect ≡ true → Covers case (numbered_from 1 rows) some → IsSought case Refused some [] first
    → IsJudgedOn case (HasOutcomesInOrder case rows) Refused (verdict_of_first first)
judged_by_first case one some_depth orders one_truth some_truth Refused rows some first none by_subjects covers so =
    subst (λ (e : Effect). IsJudgedUnder e) (sym (by_subjects_is case.model.effect by_subjects))
    (judged_first case some_truth Refused rows set first none (first_of_all case Refused (numbered_from 1 rows) some first covers (subst (λ (seen : List Numbered). IsFirstOf case Refused seen first) (sym (so.parts ∙ append-nil so.seen)) so.is)))
  where
    found : (judged : List Numbered) × AreInOrder case effect.SubjectPriority rows judged
    found = order_some some_depth case effect.SubjectPriority rows

    set : IsSettled case rows
    set = record { one_deep = one; one_truth = one_truth; depths = found.1.0; are = found.1.1; order = orders found.1.0 }

    IsVerdictUnder : Effect → Option Refusal → Type 0
    IsVerdictUnder e refused = (outcomes : List Taken) × ((judged : List Numbered) × AreInOrder case e rows judged × AllZip (RowHasOutcome case refused) judged outcomes) × (verdict_of_first first ≡ verdict e outcomes)

    IsJudgedUnder : Effect → Type 0
    IsJudgedUnder e = (Refused None × IsVerdictUnder e None) ⊎ ((refusal : Refusal) × Refused (Some refusal.pattern) × (verdict_of_first first ≡ refusal_fault refusal) × IsVerdictUnder e (Some refusal))
