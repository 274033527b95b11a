-- Names that reach others by links.
use Rattle.std.proofs.Common.{◌≡◌, ◌⊎◌, inl, inr, ◌<◌, ◌≤◌, ◌+◌, ℕ, zero, suc, List, Option, refl, sym, subst, arith}
use Rattle.std.specs.Prelude.{◌↔◌, ⊤}
use Rattle.std.specs.List.{Contains}
use Rattle.std.proofs.lemmas.Bool.{cases_lt, cases_order}
use Rattle.perm_base.specs.declared.shapes.RoleShape.{RoleShape}
use Rattle.policy_table.specs.Tables.{Fields}
use Rattle.role_meaning.specs.Depths.{IsDepth, ReachesTop}
use Rattle.role_meaning.specs.Distances.{IsFar, farthest}
use Rattle.role_meaning.specs.Least.{IsLeast}
use Rattle.role_meaning.specs.Links.{HasRoles, Reaches, SomeLink, role_of}
use Rattle.key_match.proofs.CallerLemmas.{Decided, decided_by, decided_or, decided_true, same_text}
use Rattle.role_meaning.proofs.Decided.{decided_from, least_there, told}
use Rattle.role_meaning.proofs.Rows.{FitsDecided, link_decided}

-- what holds of the role of a link, weaker
pub link_weaker : (shape : RoleShape) (rows : List Fields) (domain : Option (List ℕ)) (x : List ℕ) (Holds Other : List ℕ → Type 0) → ((role : List ℕ) → Holds role → Other role) → SomeLink shape rows domain x Holds → SomeLink shape rows domain x Other
link_weaker shape rows domain x Holds Other weaker link =
    record { row = link.row; stands = link.stands; fits = link.fits; counts = link.counts; holds = weaker (role_of link.row) link.holds }

pub reaches_itself : (shape : RoleShape) (rows : List Fields) (domain : Option (List ℕ)) (links : ℕ) (x y : List ℕ) → x ≡ y → Reaches shape rows domain links x y
unfolding Reaches
reaches_itself shape rows domain zero x y same = same
reaches_itself shape rows domain (suc links) x y same = inl same

pub reaches_more : (shape : RoleShape) (rows : List Fields) (domain : Option (List ℕ)) (fewer links : ℕ) (x y : List ℕ) → fewer ≤ links → Reaches shape rows domain fewer x y → Reaches shape rows domain links x y
unfolding Reaches
reaches_more shape rows domain zero links x y less same = reaches_itself shape rows domain links x y same
reaches_more shape rows domain (suc fewer) zero x y less reaches = absurd (omega arith)
reaches_more shape rows domain (suc fewer) (suc links) x y less (inl same) = inl same
reaches_more shape rows domain (suc fewer) (suc links) x y less (inr link) =
    inr (link_weaker shape rows domain x (λ role. Reaches shape rows domain fewer role y) (λ role. Reaches shape rows domain links role y)
    (λ role. reaches_more shape rows domain fewer links role y (omega arith)) link)

pub reaches_among : (shape : RoleShape) (rows others : List Fields) (domain : Option (List ℕ)) (links : ℕ) (x y : List ℕ) → ((row : Fields) → Contains rows row → Contains others row) → Reaches shape rows domain links x y → Reaches shape others domain links x y
unfolding Reaches
reaches_among shape rows others domain zero x y among same = same
reaches_among shape rows others domain (suc links) x y among (inl same) = inl same
reaches_among shape rows others domain (suc links) x y among (inr link) =
    inr (record { row = link.row; stands = among link.row link.stands; fits = link.fits; counts = link.counts; holds = reaches_among shape rows others domain links (role_of link.row) y among link.holds })

pub reaches_on : (shape : RoleShape) (rows : List Fields) (domain : Option (List ℕ)) (links : ℕ) (x y z : List ℕ) → Reaches shape rows domain links x y → SomeLink shape rows domain y (λ role. role ≡ z) → Reaches shape rows domain (suc links) x z
unfolding Reaches
reaches_on shape rows domain zero x y z same link =
    inr (subst (λ (name : List ℕ). SomeLink shape rows domain name (λ role. role ≡ z)) (sym same) link)
reaches_on shape rows domain (suc links) x y z (inl same) link =
    inr (link_weaker shape rows domain x (λ role. role ≡ z) (λ role. Reaches shape rows domain (suc links) role z)
    (λ role. reaches_itself shape rows domain (suc links) role z) (subst (λ (name : List ℕ). SomeLink shape rows domain name (λ role. role ≡ z)) (sym same) link))
reaches_on shape rows domain (suc links) x y z (inr first) link =
    inr (link_weaker shape rows domain x (λ role. Reaches shape rows domain links role y) (λ role. Reaches shape rows domain (suc links) role z)
    (λ role reaches. reaches_on shape rows domain links role y z reaches link) first)

-- a name that is reached, and a link from it to another
abbrev pub LastLink : RoleShape → List Fields → Option (List ℕ) → ℕ → List ℕ → List ℕ → Type 0
LastLink shape rows domain links x z = (y : List ℕ) × Reaches shape rows domain links x y × SomeLink shape rows domain y (λ role. role ≡ z)

pub reaches_last : (shape : RoleShape) (rows : List Fields) (domain : Option (List ℕ)) (links : ℕ) (x z : List ℕ) → Reaches shape rows domain (suc links) x z → Reaches shape rows domain links x z ⊎ LastLink shape rows domain links x z
unfolding Reaches
reaches_last shape rows domain zero x z (inl same) = inl same
reaches_last shape rows domain zero x z (inr link) = inr (x, refl, link)
reaches_last shape rows domain (suc links) x z (inl same) = inl (inl same)
reaches_last shape rows domain (suc links) x z (inr link) = by (reaches_last shape rows domain links (role_of link.row) z link.holds)
  where
    behind : (y : List ℕ) → Reaches shape rows domain links (role_of link.row) y → Reaches shape rows domain (suc links) x y
    behind y reaches = inr (record { row = link.row; stands = link.stands; fits = link.fits; counts = link.counts; holds = reaches })

    by : Reaches shape rows domain links (role_of link.row) z ⊎ LastLink shape rows domain links (role_of link.row) z → Reaches shape rows domain (suc links) x z ⊎ LastLink shape rows domain (suc links) x z
    by (inl reaches) = inl (behind z reaches)
    by (inr (y, reaches, last)) = inr (y, behind y reaches, last)

pub reaches_decided : FitsDecided → (shape : RoleShape) (rows : List Fields) (domain : Option (List ℕ)) (links : ℕ) (x y : List ℕ) → Decided (Reaches shape rows domain links x y)
unfolding Reaches
reaches_decided fits shape rows domain zero x y = same_text x y
reaches_decided fits shape rows domain (suc links) x y =
    decided_or (x ≡ y) (SomeLink shape rows domain x (λ role. Reaches shape rows domain links role y)) (same_text x y)
    (link_decided fits shape rows domain x (λ role. Reaches shape rows domain links role y) (λ role. reaches_decided fits shape rows domain links role y))

pub has_roles_decided : FitsDecided → (shape : RoleShape) (rows : List Fields) (domain : Option (List ℕ)) (name : List ℕ) → Decided (HasRoles shape rows domain name)
has_roles_decided fits shape rows domain name = link_decided fits shape rows domain name (λ role. ⊤) (λ role. decided_true ⊤ tt)

pub least_unique : (most : ℕ) (Holds : ℕ → Type 0) (found other : ℕ) → IsLeast most Holds found → IsLeast most Holds other → found ≡ other
least_unique most Holds found other one two = by (cases_order found other)
  where
    by : (found ≡ other) ⊎ ((found < other) ⊎ (other < found)) → found ≡ other
    by (inl same) = same
    by (inr (inl less)) = absurd (two.least found less (one.holds (let within : other ≤ most + 1 = two.within in omega arith)))
    by (inr (inr more)) = absurd (one.least other more (two.holds (let within : found ≤ most + 1 = one.within in omega arith)))

pub far_tells : (shape : RoleShape) (rows : List Fields) (domain : Option (List ℕ)) (x y : List ℕ) (distance links : ℕ) → links ≤ farthest → IsFar shape rows domain x y distance → Reaches shape rows domain links x y ↔ (distance ≤ links)
far_tells shape rows domain x y distance links few far = (λ reaches. there reaches (cases_lt links distance), back)
  where
    there : Reaches shape rows domain links x y → (links < distance) ⊎ (distance ≤ links) → distance ≤ links
    there reaches (inl less) = absurd (far.least links less reaches)
    there reaches (inr within) = within

    back : distance ≤ links → Reaches shape rows domain links x y
    back within = reaches_more shape rows domain distance links x y within (far.holds (omega arith))

-- one link more to the top
top_zero : (shape : RoleShape) (rows : List Fields) (domain : Option (List ℕ)) (x : List ℕ) → Decided (HasRoles shape rows domain x) → Decided (ReachesTop shape rows domain zero x)
unfolding Reaches
top_zero shape rows domain x decided = decided_from (ReachesTop shape rows domain zero x) (by (told (HasRoles shape rows domain x) decided))
  where
    by : HasRoles shape rows domain x ⊎ (¬ HasRoles shape rows domain x) → ReachesTop shape rows domain zero x ⊎ (¬ ReachesTop shape rows domain zero x)
    by (inl has) = inr (λ top. top.ends (subst (HasRoles shape rows domain) top.reaches has))
    by (inr none) = inl (record { top = x; reaches = refl; ends = none })

top_more : (shape : RoleShape) (rows : List Fields) (domain : Option (List ℕ)) (links : ℕ) (x : List ℕ) → ReachesTop shape rows domain zero x ⊎ SomeLink shape rows domain x (λ role. ReachesTop shape rows domain links role) → ReachesTop shape rows domain (suc links) x
unfolding Reaches
top_more shape rows domain links x (inl top) = record { top = top.top; reaches = inl top.reaches; ends = top.ends }
top_more shape rows domain links x (inr link) = record {
  top = link.holds.top;
  reaches = inr (record { row = link.row; stands = link.stands; fits = link.fits; counts = link.counts; holds = link.holds.reaches });
  ends = link.holds.ends;
}

top_cases : (shape : RoleShape) (rows : List Fields) (domain : Option (List ℕ)) (links : ℕ) (x : List ℕ) → ReachesTop shape rows domain (suc links) x → ReachesTop shape rows domain zero x ⊎ SomeLink shape rows domain x (λ role. ReachesTop shape rows domain links role)
unfolding Reaches
top_cases shape rows domain links x top = by top.reaches
  where
    by : (x ≡ top.top) ⊎ SomeLink shape rows domain x (λ role. Reaches shape rows domain links role top.top) → ReachesTop shape rows domain zero x ⊎ SomeLink shape rows domain x (λ role. ReachesTop shape rows domain links role)
    by (inl same) = inl (record { top = top.top; reaches = same; ends = top.ends })
    by (inr link) = inr (link_weaker shape rows domain x (λ role. Reaches shape rows domain links role top.top) (λ role. ReachesTop shape rows domain links role)
        (λ role reaches. record { top = top.top; reaches = reaches; ends = top.ends }) link)

top_decided : FitsDecided → (shape : RoleShape) (rows : List Fields) (domain : Option (List ℕ)) (links : ℕ) (x : List ℕ) → Decided (ReachesTop shape rows domain links x)
top_decided fits shape rows domain zero x = top_zero shape rows domain x (has_roles_decided fits shape rows domain x)
top_decided fits shape rows domain (suc links) x =
    let Behind : Type 0 = SomeLink shape rows domain x (λ role. ReachesTop shape rows domain links role) in
    decided_by (ReachesTop shape rows domain zero x ⊎ Behind) (ReachesTop shape rows domain (suc links) x) (top_more shape rows domain links x) (top_cases shape rows domain links x)
    (decided_or (ReachesTop shape rows domain zero x) Behind (top_zero shape rows domain x (has_roles_decided fits shape rows domain x))
    (link_decided fits shape rows domain x (λ role. ReachesTop shape rows domain links role) (λ role. top_decided fits shape rows domain links role)))

pub far_there : FitsDecided → (shape : RoleShape) (rows : List Fields) (domain : Option (List ℕ)) (x y : List ℕ) → (distance : ℕ) × IsFar shape rows domain x y distance
far_there fits shape rows domain x y =
    least_there farthest (λ links. Reaches shape rows domain links x y) (λ links. reaches_decided fits shape rows domain links x y)

pub depth_there : FitsDecided → (shape : RoleShape) (rows : List Fields) (limit : ℕ) (domain : Option (List ℕ)) (name : List ℕ) → (depth : ℕ) × IsDepth shape rows limit domain name depth
depth_there fits shape rows limit domain name =
    least_there limit (λ links. ReachesTop shape rows domain links name) (λ links. top_decided fits shape rows domain links name)
