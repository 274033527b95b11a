-- The worked order of two rows: the row of a user before that of its role.
use Rattle.std.proofs.Common.{◌≡◌, ◌⊎◌, inl, inr, ℕ, List, [], ◌∷◌, None, refl, sym, ◌∙◌, subst, ap, arith}
use Rattle.std.specs.List.{Contains}
use Rattle.effect_fold.specs.declared.effect.Effect.TheVariants.{SubjectPriority}
use Rattle.model_conf.specs.ModelText.{ModelParts}
use Rattle.perm_value.specs.Datum.{Datum}
use Rattle.policy_table.specs.Tables.{Fields}
use Rattle.role_meaning.specs.Depths.{IsDepth, ReachesTop}
use Rattle.role_meaning.specs.Fits.{Fits}
use Rattle.role_meaning.specs.Links.{HasRoles, Reaches, SomeLink, user_of}
use Rattle.role_meaning.proofs.CallerLemmas.{reaches_itself, reaches_on, stands_cases, stands_here, stands_nowhere}
use Rattle.matcher_meaning.specs.Order.{AreInOrder, numbered}
use Rattle.matcher_meaning.specs.Verdicts.{case_of}
use Rattle.matcher_meaning.specs.Worked.{plain_g, subject_shapes, with_role}

-- the only row
abbrev only : List ℕ → List ℕ → List Fields
only user role = (user ∷ role ∷ []) ∷ []

fits_itself : (name pattern : List ℕ) → name ≡ pattern → Fits plain_g.names name pattern
unfolding Fits
fits_itself name pattern same = inl same

fits_alone : (name pattern : List ℕ) → Fits plain_g.names name pattern → name ≡ pattern
unfolding Fits
fits_alone name pattern (inl same) = same
fits_alone name pattern (inr never) = absurd never

-- who has a role is the user
has_role : (user role name : List ℕ) → HasRoles plain_g (only user role) None name → name ≡ user
has_role user role name link = fits_alone name (user_of link.row) link.fits ∙ sym (by (stands_cases (user ∷ role ∷ []) [] link.row link.stands))
  where
    by : ((user ∷ role ∷ []) ≡ link.row) ⊎ Contains [] link.row → user ≡ user_of link.row
    by (inl same) = ap user_of same
    by (inr none) = absurd (stands_nowhere link.row none)

link_of : (user role : List ℕ) → SomeLink plain_g (only user role) None user (λ other. other ≡ role)
link_of user role = record { row = user ∷ role ∷ []; stands = stands_here (user ∷ role ∷ []) []; fits = fits_itself user user refl; counts = tt; holds = refl }

none_at_zero : (user role : List ℕ) → ¬ (ReachesTop plain_g (only user role) None 0 user)
unfolding Reaches
none_at_zero user role top =
    top.ends (subst (λ (name : List ℕ). HasRoles plain_g (only user role) None name) top.reaches
    (record { row = user ∷ role ∷ []; stands = stands_here (user ∷ role ∷ []) []; fits = fits_itself user user refl; counts = tt; holds = tt }))

role_depth : (user role : List ℕ) → (role ≡ user → ⊥) → IsDepth plain_g (only user role) 10 None role 0
role_depth user role differ = record {
  within = omega arith;
  holds = λ few. record { top = role; reaches = reaches_itself plain_g (only user role) None 0 role role refl; ends = λ has. differ (has_role user role role has) };
  least = λ lower less. absurd (omega arith);
}

user_depth : (user role : List ℕ) → (role ≡ user → ⊥) → IsDepth plain_g (only user role) 10 None user 1
user_depth user role differ = record {
  within = omega arith;
  holds = λ few. record {
    top = role;
    reaches = reaches_on plain_g (only user role) None 0 user user role (reaches_itself plain_g (only user role) None 0 user user refl) (link_of user role);
    ends = λ has. differ (has_role user role role has);
  };
  least = λ lower less top. none_at_zero user role (subst (λ (links : ℕ). ReachesTop plain_g (only user role) None links user) (omega arith) top);
}

pub user_before_role : (model : ModelParts) (request : List Datum) (user role : List ℕ) → (role ≡ user → ⊥)
    → AreInOrder (case_of model subject_shapes (with_role user role) request) SubjectPriority ((role ∷ []) ∷ (user ∷ []) ∷ []) (numbered 2 (user ∷ []) ∷ numbered 1 (role ∷ []) ∷ [])
user_before_role model request user role differ = (0 ∷ 1 ∷ [], (role_depth user role differ, (user_depth user role differ, tt)), refl)
