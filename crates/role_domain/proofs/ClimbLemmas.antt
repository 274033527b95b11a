-- Walks over rows to a name without roles.
use Rattle.std.proofs.Common.{◌≡◌, ◌<◌, ◌≤◌, ◌+◌, ◌∙◌, ℕ, suc, Bool, false, List, [], Some, IsTrue, get_or, refl, sym, subst, arith}
use Rattle.std.specs.Prelude.{◌↔◌}
use Rattle.std.proofs.lemmas.Bool.{false≢true}
use Rattle.role_domain.specs.Helps.Walks.{Enters, GoesOn, HasTop, IsDistance, IsMarked, IsNext, IsRoleAt, Walk, inner}
use Rattle.role_domain.proofs.WalkLemmas.{AreReached, IsWalking, first_reached, next_reached, walk_begins, walk_ends, walk_on, walk_stops}
use Rattle.role_meaning.specs.Depths.{IsDepth, ReachesTop}
use Rattle.role_meaning.specs.Links.{HasRoles, role_of}
use Rattle.role_meaning.proofs.CallerLemmas.{reaches_itself, reaches_more}

-- the name has roles in the domain of the walk
abbrev pub Has : Walk → List ℕ → Type 0
Has walk name = HasRoles (inner walk.terms) walk.rows (Some walk.text) name

-- a walk that stands at a level: no name without roles is reached yet
pub record IsClimbing (walk : Walk) (x : List ℕ) (level : ℕ) (all new : List Bool) : Type 0 where
  pub reached_are : AreReached walk x level all new
  pub walks : (y : List ℕ) → ¬ Has walk y → IsWalking walk x y level all new

pub climb_begins : (walk : Walk) (x : List ℕ) (old all new : List Bool) → ((at : ℕ) → IsMarked old at → ⊥) → IsNext (λ at. Enters walk x at) old all new → ((at : ℕ) → Enters walk x at → IsMarked all at) → Has walk x → IsClimbing walk x 0 all new
climb_begins walk x old all new none next marked has = record {
  reached_are = first_reached walk x old all new none next marked;
  walks = λ y top. walk_begins walk x y old all new none next marked (λ same. top (subst (Has walk) same has));
}

pub climb_on : (walk : Walk) (x : List ℕ) (level : ℕ) (all new all_after next : List Bool) → IsClimbing walk x level all new → (HasTop walk new → ⊥) → IsNext (λ at. GoesOn walk new at) all all_after next
    → ((from at : ℕ) (role : List ℕ) → IsMarked new from → IsRoleAt walk role from → Enters walk role at → IsMarked all_after at) → IsClimbing walk x (level + 1) all_after next
climb_on walk x level all new all_after next climbing none on marked = record {
  reached_are = subst (λ (k : ℕ). AreReached walk x k all_after next) (let e : suc level ≡ level + 1 = omega arith in e) (next_reached walk x level all new all_after next climbing.reached_are on marked);
  walks = λ y top. walk_on walk x y level all new all_after next (climbing.walks y top)
      (λ at one stands. none (record { at = at; within = stands.within; marked = one; top = subst (λ (name : List ℕ). ¬ Has walk name) (sym stands.role) top })) on marked;
}

pub climb_ends : (walk : Walk) (x : List ℕ) (level most : ℕ) (all new : List Bool) → level < most → IsClimbing walk x level all new → HasTop walk new → IsDepth (inner walk.terms) walk.rows most (Some walk.text) x (level + 1)
climb_ends walk x level most all new low climbing found =
    let role : List ℕ = role_of (get_or walk.rows found.at []) in
    let ended : IsDistance walk x role most (Some (level + 1)) = walk_ends walk x role level most all new found.at low (climbing.walks role found.top) found.marked (record { within = found.within; role = refl }) in
    record {
      within = omega arith;
      holds = λ few. record { top = role; reaches = ended.1.holds few; ends = found.top };
      least = λ lower less reaches. (climbing.walks reaches.top reaches.ends).never (reaches_more (inner walk.terms) walk.rows (Some walk.text) lower level x reaches.top (omega arith) reaches.reaches);
    }

-- none is reached within the bound
never_top : (walk : Walk) (x : List ℕ) (most : ℕ) → ¬ ReachesTop (inner walk.terms) walk.rows (Some walk.text) most x → IsDepth (inner walk.terms) walk.rows most (Some walk.text) x (most + 1)
never_top walk x most never = record {
  within = omega arith;
  holds = λ few. absurd (omega arith);
  least = λ lower less reaches. never (record { top = reaches.top; reaches = reaches_more (inner walk.terms) walk.rows (Some walk.text) lower most x reaches.top (omega arith) reaches.reaches; ends = reaches.ends });
}

-- no row is new
pub climb_stops : (walk : Walk) (x : List ℕ) (level most : ℕ) (all new : List Bool) → level < most → IsClimbing walk x level all new → ((at : ℕ) → IsMarked new at → ⊥) → IsDepth (inner walk.terms) walk.rows most (Some walk.text) x (most + 1)
climb_stops walk x level most all new low climbing none =
    never_top walk x most (λ reaches. walk_stops walk x reaches.top level all new (climbing.walks reaches.top reaches.ends) none most (omega arith) reaches.reaches)

-- all levels are done
pub climb_past : (walk : Walk) (x : List ℕ) (level most : ℕ) (all new : List Bool) → most ≤ level → IsClimbing walk x level all new → IsDepth (inner walk.terms) walk.rows most (Some walk.text) x (most + 1)
climb_past walk x level most all new past climbing =
    never_top walk x most (λ reaches. (climbing.walks reaches.top reaches.ends).never (reaches_more (inner walk.terms) walk.rows (Some walk.text) most level x reaches.top past reaches.reaches))

-- a name without roles
pub top_itself : (walk : Walk) (x : List ℕ) (most : ℕ) (test : Bool) → test ≡ false → IsTrue test ↔ Has walk x → IsDepth (inner walk.terms) walk.rows most (Some walk.text) x 0
top_itself walk x most test fails told = record {
  within = omega arith;
  holds = λ few. record { top = x; reaches = reaches_itself (inner walk.terms) walk.rows (Some walk.text) 0 x x refl; ends = λ has. false≢true (sym fails ∙ told.1 has) };
  least = λ lower less. absurd (omega (arith, less));
}
