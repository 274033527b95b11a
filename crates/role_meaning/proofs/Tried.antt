-- Rows that are tried one after the other.
use Rattle.std.proofs.Common.{◌≡◌, ◌⊎◌, inl, inr, ◌<◌, ◌≤◌, ◌+◌, ◌-◌, ℕ, zero, suc, Bool, true, false, List, [], ◌∷◌, Option, length, drop, get_or, refl, sym, subst, ◌∙◌, arith}
use Rattle.std.specs.Prelude.{nat_eq}
use Rattle.std.specs.Cmp.Lexicographic.{pointwise}
use Rattle.std.specs.List.{Contains}
use Rattle.std.proofs.lemmas.Bool.{false≢true}
use Rattle.std.proofs.lemmas.List.{drop_all, drop_more}
use Rattle.std.proofs.lemmas.List.Elements.{Contains-get_or}
use Rattle.std.proofs.lemmas.Slice.Eq.{bytes_eq-Decides}
use Rattle.perm_base.specs.declared.shapes.RoleShape.{RoleShape}
use Rattle.policy_table.specs.Tables.{Fields}
use Rattle.role_meaning.specs.Fits.{Fits}
use Rattle.role_meaning.specs.Links.{CountsIn, Reaches, role_of, user_of}
use Rattle.role_meaning.proofs.Rows.{stands_behind, stands_cases, stands_nowhere}

-- two texts of which a test says that they differ
pub they_differ : (x y : List ℕ) (test : Bool) → test ≡ pointwise nat_eq x y → test ≡ false → x ≡ y → ⊥
they_differ x y test is differ same = false≢true (sym differ ∙ is ∙ (bytes_eq-Decides x y).1 same)

pub they_agree : (x y : List ℕ) (test : Bool) → test ≡ pointwise nat_eq x y → test ≡ true → x ≡ y
they_agree x y test is agree = (bytes_eq-Decides x y).0 (sym is ∙ agree)

-- the links that are not tried yet, where none of the others leads there
pub record LeftToTry (shape : RoleShape) (rows left : List Fields) (domain : Option (List ℕ)) (links : ℕ) (x y : List ℕ) : Type 0 where
  pub among : (row : Fields) → Contains left row → Contains rows row
  pub kept : (row : Fields) → Contains rows row → Fits shape.names x (user_of row) → CountsIn shape domain row → Reaches shape rows domain links (role_of row) y → Contains left row

pub left_all : (shape : RoleShape) (rows : List Fields) (domain : Option (List ℕ)) (links : ℕ) (x y : List ℕ) → LeftToTry shape rows rows domain links x y
left_all shape rows domain links x y = record { among = λ row stands. stands; kept = λ row stands fits counts reaches. stands }

pub left_more : (shape : RoleShape) (rows left : List Fields) (row : Fields) (domain : Option (List ℕ)) (links : ℕ) (x y : List ℕ) → (Fits shape.names x (user_of row) → CountsIn shape domain row → Reaches shape rows domain links (role_of row) y → ⊥) → LeftToTry shape rows (row ∷ left) domain links x y → LeftToTry shape rows left domain links x y
left_more shape rows left row domain links x y never try = record {
  among = λ other stands. try.among other (stands_behind row left other stands);
  kept = λ other stands fits counts reaches. by other fits counts reaches (stands_cases row left other (try.kept other stands fits counts reaches));
}
  where
    by : (other : Fields) → Fits shape.names x (user_of other) → CountsIn shape domain other → Reaches shape rows domain links (role_of other) y → (row ≡ other) ⊎ Contains left other → Contains left other
    by other fits counts reaches (inl same) =
        absurd (never (subst (λ (r : Fields). Fits shape.names x (user_of r)) (sym same) fits) (subst (CountsIn shape domain) (sym same) counts)
        (subst (λ (r : Fields). Reaches shape rows domain links (role_of r) y) (sym same) reaches))
    by other fits counts reaches (inr found) = found

pub left_next : (shape : RoleShape) (rows : List Fields) (domain : Option (List ℕ)) (links : ℕ) (x y : List ℕ) (at : ℕ) (row : Fields) → at < length rows → row ≡ get_or rows at row → (Fits shape.names x (user_of row) → CountsIn shape domain row → Reaches shape rows domain links (role_of row) y → ⊥) → LeftToTry shape rows (drop at rows) domain links x y → LeftToTry shape rows (drop (at + 1) rows) domain links x y
left_next shape rows domain links x y at row within is never try =
    left_more shape rows (drop (at + 1) rows) row domain links x y never
    (subst (λ (r : Fields). LeftToTry shape rows (r ∷ drop (at + 1) rows) domain links x y) (sym is)
    (subst (λ (tail : List Fields). LeftToTry shape rows tail domain links x y) (drop_more rows at row within) try))

nothing_left : (shape : RoleShape) (rows : List Fields) (domain : Option (List ℕ)) (links : ℕ) (x y : List ℕ) → (x ≡ y → ⊥) → LeftToTry shape rows [] domain (links - 1) x y → Reaches shape rows domain links x y → ⊥
unfolding Reaches
nothing_left shape rows domain zero x y other try same = other same
nothing_left shape rows domain (suc links) x y other try (inl same) = other same
nothing_left shape rows domain (suc links) x y other try (inr link) =
    let fewer : links ≡ suc links - 1 = omega arith in
    stands_nowhere link.row (try.kept link.row link.stands link.fits link.counts (subst (λ (k : ℕ). Reaches shape rows domain k (role_of link.row) y) fewer link.holds))

pub left_none : (shape : RoleShape) (rows : List Fields) (domain : Option (List ℕ)) (links : ℕ) (x y : List ℕ) (at : ℕ) → length rows ≤ at → (x ≡ y → ⊥) → LeftToTry shape rows (drop at rows) domain (links - 1) x y → Reaches shape rows domain links x y → ⊥
left_none shape rows domain links x y at behind other try =
    nothing_left shape rows domain links x y other (subst (λ (tail : List Fields). LeftToTry shape rows tail domain (links - 1) x y) (drop_all at rows behind) try)

pub reaches_by : (shape : RoleShape) (rows : List Fields) (domain : Option (List ℕ)) (links : ℕ) (x y : List ℕ) (at : ℕ) (row : Fields) → (links ≡ 0 → ⊥) → at < length rows → row ≡ get_or rows at row → Fits shape.names x (user_of row) × CountsIn shape domain row → Reaches shape rows domain (links - 1) (role_of row) y → Reaches shape rows domain links x y
unfolding Reaches
reaches_by shape rows domain zero x y at row some within is link reaches = absurd (some refl)
reaches_by shape rows domain (suc links) x y at row some within is link reaches =
    let fewer : suc links - 1 ≡ links = omega arith in
    inr (record {
      row = row;
      stands = subst (Contains rows) (sym is) (Contains-get_or rows at row within);
      fits = link.0;
      counts = link.1;
      holds = subst (λ (k : ℕ). Reaches shape rows domain k (role_of row) y) fewer reaches;
    })

pub reaches_nowhere : (shape : RoleShape) (rows : List Fields) (domain : Option (List ℕ)) (links : ℕ) (x y : List ℕ) → links ≡ 0 → (x ≡ y → ⊥) → Reaches shape rows domain links x y → ⊥
unfolding Reaches
reaches_nowhere shape rows domain zero x y none other same = other same
reaches_nowhere shape rows domain (suc links) x y none other reaches = omega arith
