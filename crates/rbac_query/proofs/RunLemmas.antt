-- Which of the listed roles of a user are as far.
use Rattle.std.proofs.Common.{◌≡◌, ◌⊎◌, inl, inr, ℕ, ◌+◌, ◌<◌, ◌≤◌, List, [], Option, get_or, length, sym, subst, arith}
use Rattle.std.specs.Prelude.{AllPairs}
use Rattle.std.proofs.lemmas.Bool.{cases_order}
use Rattle.std.proofs.lemmas.List.{get_or_read}
use Rattle.perm_base.specs.declared.shapes.RoleShape.{RoleShape}
use Rattle.policy_table.specs.Tables.{Fields}
use Rattle.role_meaning.specs.Distances.{IsFar}
use Rattle.role_meaning.specs.Implied.{AreImplied, IsNearer}
use Rattle.rbac_query.specs.Helps.Runs.{AreAsFar, AreInOrder}
use Rattle.rbac_query.specs.Report.{Subject, asked}
use Rattle.rbac_query.proofs.ReportLemmas.{far_one}

-- implied roles are listed so
pub in_order : (shape : RoleShape) (rules : List Fields) (limit : ℕ) (subject : Subject) (domain : Option (List ℕ)) (names : List (List ℕ)) → domain ≡ asked shape subject.domain → AreImplied shape rules limit domain subject.user names → AreInOrder shape rules subject names
in_order shape rules limit subject domain names same listed = subst (λ (d : Option (List ℕ)). AllPairs (IsNearer shape rules d subject.user) names) same listed.order

-- what is before another, by its distance and then in another way, is no farther
no_farther : (one other near far : ℕ) (Else : Type 0) → (one < other) ⊎ ((one ≡ other) × Else) → one ≡ near → other ≡ far → near ≤ far
no_farther one other near far Else (inl less) first second = omega (arith, less, first, second)
no_farther one other near far Else (inr same) first second = let level = same.0 in omega (arith, level, first, second)

module _ (shape : RoleShape) (rules : List Fields) (subject : Subject) (names : List (List ℕ)) where
  -- how far the role at a place is
  abbrev pub Far : ℕ → ℕ → Type 0
  Far at links = IsFar shape rules (asked shape subject.domain) subject.user (get_or names at []) links

  pub as_far_none : (at links : ℕ) → AreAsFar shape rules subject names at at links
  as_far_none at links place from before = absurd (omega (arith, from, before))

  pub as_far_alone : (at links : ℕ) → Far at links → AreAsFar shape rules subject names at (at + 1) links
  as_far_alone at links far place from before = let same : at ≡ place = omega (arith, from, before) in subst (λ (k : ℕ). Far k links) same far

  pub as_far_behind : (at end links : ℕ) → AreAsFar shape rules subject names at end links → AreAsFar shape rules subject names (at + 1) end links
  as_far_behind at end links far place from before = far place (omega (arith, from)) before

  -- the name that stands at the first place
  pub as_far_here : (at end links : ℕ) (name : List ℕ) → AreAsFar shape rules subject names at end links → at < end → at < length names → name ≡ get_or names at name
      → IsFar shape rules (asked shape subject.domain) subject.user name links
  as_far_here at end links name far before within read =
      subst (λ (n : List ℕ). IsFar shape rules (asked shape subject.domain) subject.user n links) (sym (get_or_read names at name within read [])) (far at (omega arith) before)

  module _ (ordered : AreInOrder shape rules subject names) where
    -- a role is no farther than one behind it
    rises : (at next near far : ℕ) → at < next → next < length names → Far at near → Far next far → near ≤ far
    rises at next near far before within one other =
        let pair = ordered at next [] before within in
        no_farther pair.near pair.far near far _ pair.before
        (far_one shape rules (asked shape subject.domain) subject.user (get_or names at []) pair.near near pair.to_one one)
        (far_one shape rules (asked shape subject.domain) subject.user (get_or names next []) pair.far far pair.to_other other)

    -- a role between two that are as far is as far
    amid : (at place next links : ℕ) → at < place → place < next → next < length names → Far at links → Far next links → Far place links
    amid at place next links behind ahead within one other =
        let inside : place < length names = omega (arith, ahead, within) in
        let pair = ordered at place [] behind inside in
        let here : Far place pair.far = pair.to_other in
        let least : links ≤ pair.far = rises at place links pair.far behind inside one here in
        let most : pair.far ≤ links = rises place next pair.far links ahead within here other in
        let same : pair.far ≡ links = omega (arith, least, most) in
        subst (λ (n : ℕ). Far place n) same here

    pub as_far_between : (at next links : ℕ) → next < length names → Far at links → Far next links → AreAsFar shape rules subject names at (next + 1) links
    as_far_between at next links within one other place from before = by (cases_order at place) (cases_order place next)
      where
        by : (at ≡ place) ⊎ ((at < place) ⊎ (place < at)) → (place ≡ next) ⊎ ((place < next) ⊎ (next < place)) → Far place links
        by (inl same) rest = subst (λ (k : ℕ). Far k links) same one
        by (inr (inr less)) rest = absurd (omega (arith, from, less))
        by (inr (inl behind)) (inl same) = subst (λ (k : ℕ). Far k links) (sym same) other
        by (inr (inl behind)) (inr (inr more)) = absurd (omega (arith, before, more))
        by (inr (inl behind)) (inr (inl ahead)) = amid at place next links behind ahead within one other
