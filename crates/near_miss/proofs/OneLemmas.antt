-- Near misses are there and one list, and stay where more patterns count as refused; the models of parts are one list.
use Rattle.std.proofs.Common.{◌≡◌, inl, inr, ℕ, zero, suc, ◌<◌, Bool, false, List, [], ◌∷◌, length, take, Option, Some, None, Result, Ok, Err, refl, sym, ap, ◌∙◌, subst, arith}
use Rattle.std.specs.Prelude.{Any}
use Rattle.std.specs.List.{AllZip, slice_index_or}
use Rattle.effect_fold.specs.declared.fault.Fault.{Fault}
use Rattle.matcher_read.specs.Expression.{Expression}
use Rattle.model_conf.specs.ModelText.{ModelParts}
use Rattle.perm_base.specs.declared.shapes.Shapes.{Shapes}
use Rattle.perm_base.specs.declared.shapes.TableId.TheVariants.{P}
use Rattle.perm_value.specs.Datum.{Datum}
use Rattle.policy_table.specs.Tables.{Fields, Policy, rows}
use Rattle.matcher_meaning.specs.Cases.{Case, where_refused}
use Rattle.matcher_meaning.specs.Comes.{TruthIs}
use Rattle.regex_gate.specs.Found.{is_readable}
use Rattle.near_miss.specs.Misses.{AreNearMisses, Lacks, case_at, lacking, misses_from}
use Rattle.near_miss.specs.Parts.{AreParts, HasNoModel, IsPart, part_text, parts_of, with_matcher}
use Rattle.near_miss.specs.Helps.Rows.{IsTruthGiven}
use Rattle.near_miss.specs.declared.misses.NearMiss.{NearMiss}
use Rattle.model_conf.specs.Printed.{printed}
use Rattle.near_miss.proofs.ListLemmas.{zip_some, zip_weaker}
use Rattle.near_miss.proofs.PartLemmas.{OneModel}
use Rattle.near_miss.proofs.RowLemmas.{SomeTruth, lacks_for_more, lacks_there}

-- ---- one thing at each place

zip_two : {X Y : Type 0} (R S : X → Y → Type 0) → ((x : X) (y z : Y) → R x y → S x z → y ≡ z) → (xs : List X) (ys zs : List Y) → AllZip R xs ys → AllZip S xs zs → ys ≡ zs
zip_two R S one [] [] [] p q = refl
zip_two R S one [] [] (z ∷ zs) p q = absurd q
zip_two R S one [] (y ∷ ys) zs p q = absurd p
zip_two R S one (x ∷ xs) [] zs p q = absurd p
zip_two R S one (x ∷ xs) (y ∷ ys) [] p q = absurd q
zip_two R S one (x ∷ xs) (y ∷ ys) (z ∷ zs) p q =
    let head : y ≡ z = one x y z p.0 q.0 in
    let rest : ys ≡ zs = zip_two R S one xs ys zs p.1 q.1 in
    λ j. head j ∷ rest j

-- ---- near misses

-- an expression comes to one truth
abbrev pub OneTruth : Type 0
OneTruth = (case : Case) (e : Expression) (first second : Result Bool Fault) → TruthIs case e first → TruthIs case e second → first ≡ second

-- a refused search for a pattern that cannot be read changes no truth
abbrev pub UnreadTruth : Type 0
UnreadTruth = (case : Case) (e : Expression) (at : ℕ) (pattern : List ℕ) (t : Result Bool Fault) → is_readable pattern ≡ false → TruthIs (where_refused case (Some (at, pattern))) e t → TruthIs (where_refused case None) e t

-- no pattern that counts as refused can be read
abbrev pub CannotBeRead : (List ℕ → Type 0) → Type 0
CannotBeRead IsBad = (pattern : List ℕ) → IsBad pattern → is_readable pattern ≡ false

-- then what is given is the truth
truth_by_unread : UnreadTruth → (case : Case) (IsBad : List ℕ → Type 0) (t : Result Bool Fault) → CannotBeRead IsBad → IsTruthGiven case IsBad t → TruthIs (where_refused case None) case.model.matcher t
truth_by_unread same case IsBad (Ok v) unread (b, is_same, is) = subst (λ (c : Bool). TruthIs (where_refused case None) case.model.matcher (Ok c)) (sym is_same) is
truth_by_unread same case IsBad (Err failed) unread (inl is) = is
truth_by_unread same case IsBad (Err failed) unread (inr (pattern, bad, cause, is)) = same case case.model.matcher failed.at pattern (Err failed) (unread pattern bad) is

-- two lists of patterns that count as refused, none of which can be read
pub record AreBothUnread (IsBad IsBadToo : List ℕ → Type 0) : Type 0 where
  pub one : OneTruth
  pub same : UnreadTruth
  pub unread : CannotBeRead IsBad
  pub unread_too : CannotBeRead IsBadToo

truth_given_one : (IsBad IsBadToo : List ℕ → Type 0) → AreBothUnread IsBad IsBadToo → (case : Case) (t u : Result Bool Fault) → IsTruthGiven case IsBad t → IsTruthGiven case IsBadToo u → t ≡ u
truth_given_one IsBad IsBadToo both case t u is as_well =
    both.one (where_refused case None) case.model.matcher t u (truth_by_unread both.same case IsBad t both.unread is) (truth_by_unread both.same case IsBadToo u both.unread_too as_well)

module _ (shapes : Shapes) (policy : Policy) (request : List Datum) where
  pub misses_there : SomeTruth → (IsBad : List ℕ → Type 0) (parts : List ModelParts) (most : ℕ) → (misses : List NearMiss) × AreNearMisses shapes policy request IsBad parts most misses
  misses_there there IsBad parts most =
      let all = zip_some (Lacks shapes policy request IsBad parts) (lacks_there shapes policy request there IsBad parts) (rows policy P) in
      (take most (misses_from 1 all.0), (all.0, all.1, refl))

  pub misses_for_more : (IsBad IsBadToo : List ℕ → Type 0) (parts : List ModelParts) (most : ℕ) (misses : List NearMiss) → ((pattern : List ℕ) → IsBad pattern → IsBadToo pattern) → AreNearMisses shapes policy request IsBad parts most misses
      → AreNearMisses shapes policy request IsBadToo parts most misses
  misses_for_more IsBad IsBadToo parts most misses more (lacks, have, is) =
      (lacks, zip_weaker (Lacks shapes policy request IsBad parts) (Lacks shapes policy request IsBadToo parts) (rows policy P) lacks (λ fields lack. lacks_for_more shapes policy request IsBad IsBadToo parts fields lack more) have, is)

  module _ (IsBad IsBadToo : List ℕ → Type 0) (both : AreBothUnread IsBad IsBadToo) (parts : List ModelParts) where
    lack_one : (fields : Fields) (first second : Option ℕ) → Lacks shapes policy request IsBad parts fields first → Lacks shapes policy request IsBadToo parts fields second → first ≡ second
    lack_one fields first second (truths, have, is) (others, own, as_well) =
        is ∙ ap lacking (zip_two (λ (part : ModelParts) (truth : Result Bool Fault). IsTruthGiven (case_at shapes policy request fields part) IsBad truth) (λ (part : ModelParts) (truth : Result Bool Fault). IsTruthGiven (case_at shapes policy request fields part) IsBadToo truth)
        (λ part t u. truth_given_one IsBad IsBadToo both (case_at shapes policy request fields part) t u) parts truths others have own) ∙ sym as_well

    pub misses_one : (most : ℕ) (first second : List NearMiss) → AreNearMisses shapes policy request IsBad parts most first → AreNearMisses shapes policy request IsBadToo parts most second → first ≡ second
    misses_one most first second (lacks, have, is) (others, own, as_well) =
        is ∙ ap (λ (l : List (Option ℕ)). take most (misses_from 1 l)) (zip_two (Lacks shapes policy request IsBad parts) (Lacks shapes policy request IsBadToo parts) lack_one (rows policy P) lacks others have own) ∙ sym as_well

-- ---- the models of parts

part_one : OneModel → (model : ModelParts) (part : Expression) (first second : ModelParts) → IsPart model part first → IsPart model part second → first ≡ second
part_one one model part first second is as_well = one (printed (with_matcher model (part_text part))) first second is.said as_well.said

clash_at : (model : ModelParts) (es : List Expression) (own : List ModelParts) (at : ℕ) (e : Expression) → at < length es → slice_index_or es at e ≡ e → AllZip (IsPart model) es own → HasNoModel model e → ⊥
clash_at model [] own at e within there each none = absurd (omega (arith, within))
clash_at model (x ∷ es) [] at e within there each none = absurd each
clash_at model (x ∷ es) (m ∷ own) zero e within there each none = none m (subst (λ (part : Expression). IsPart model part m) there each.0)
clash_at model (x ∷ es) (m ∷ own) (suc at) e within there each none = clash_at model es own at e (omega (arith, within)) there each.1 none

parts_clash : (model : ModelParts) (es : List Expression) (own : List ModelParts) → AllZip (IsPart model) es own → Any (HasNoModel model) es → ⊥
parts_clash model es own each (at, e, within, there, none) = clash_at model es own at e within there each none

pub parts_one : OneModel → (model : ModelParts) (first second : List ModelParts) → AreParts model first → AreParts model second → first ≡ second
parts_one one model first second (inl is) (inl as_well) = zip_two (IsPart model) (IsPart model) (part_one one model) (parts_of model.matcher) first second is as_well
parts_one one model first second (inl is) (inr none) = absurd (parts_clash model (parts_of model.matcher) first is none.0)
parts_one one model first second (inr none) (inl is) = absurd (parts_clash model (parts_of model.matcher) second is none.0)
parts_one one model first second (inr none) (inr nothing) = none.1 ∙ sym nothing.1
