-- Walks that look for a name, or for any name without roles.
use Rattle.std.proofs.Common.{◌≡◌, ◌⊎◌, inl, inr, ◌<◌, ◌≤◌, ◌+◌, ◌∙◌, ℕ, suc, Bool, true, false, List, Option, None, Some, IsTrue, length, get_or, refl, sym, subst, arith}
use Rattle.std.specs.Prelude.{◌↔◌, unwrap_or}
use Rattle.std.specs.Borrow.{Bor}
use Rattle.std.specs.List.{Contains}
use Rattle.std.proofs.lemmas.Bool.{cases_eq, cases_lt, false≢true}
use Rattle.role_meaning.specs.Depths.{IsDepth, ReachesTop}
use Rattle.role_meaning.specs.Least.{IsLeast}
use Rattle.role_meaning.specs.Links.{HasRoles, Reaches}
use Rattle.role_meaning.proofs.CallerLemmas.{reaches_itself, reaches_more}
use Rattle.role_graph.specs.Graph.{shape_of}
use Rattle.role_graph.specs.Groups.{rows_of}
use Rattle.role_graph.specs.Helps.Kept.{AreLinks, Parts, linked_of}
use Rattle.role_graph.specs.Helps.Marks.{IsNext, IsSet}
use Rattle.role_graph.specs.Helps.Walks.{AreReached, FitsAt, GoesOn, HasSought, IsDistance, IsFirst, IsRoleAt, IsSought, Linked, ReachesSought, no_group}
use Rattle.role_graph.specs.declared.walk.Sought.{Sought}
use Rattle.role_graph.specs.declared.walk.Sought.TheVariants.{Name, Top}
use Rattle.role_graph.proofs.Leasts.{least_alike}
use Rattle.role_graph.proofs.LinkLemmas.{roles_told}
use Rattle.role_graph.proofs.WalkLemmas.{IsWalking, first_reached, next_reached, walk_begins, walk_ends, walk_on, walk_stops}

-- ---- levels

-- a walk that stands at a level: none that is sought is reached yet
pub record IsSeeking (linked : Linked) (sought : Sought) (x : List ℕ) (level : ℕ) (all new : List ℕ) : Type 0 where
  pub reached_are : AreReached linked x level all new
  pub walks : (y : List ℕ) → IsSought linked sought y → IsWalking linked x y level all new

pub seek_begins : (linked : Linked) (sought : Sought) (x : List ℕ) (old all new : List ℕ) → ((at : ℕ) → IsSet old at → ⊥) → IsNext (λ at. FitsAt linked x at) old all new → ((at : ℕ) → FitsAt linked x at → IsSet all at) → (IsSought linked sought x → ⊥) → IsSeeking linked sought x 0 all new
seek_begins linked sought x old all new none next marked never = record {
  reached_are = first_reached linked x old all new none next marked;
  walks = λ y is. walk_begins linked x y old all new none next marked (λ same. never (subst (IsSought linked sought) (sym same) is));
}

pub seek_on : (linked : Linked) (sought : Sought) (x : List ℕ) (level : ℕ) (all new all_after next : List ℕ) → IsSeeking linked sought x level all new → (HasSought linked sought (IsSet new) → ⊥) → IsNext (λ at. GoesOn linked new at) all all_after next
    → ((from at : ℕ) (role : List ℕ) → IsSet new from → IsRoleAt linked role from → FitsAt linked role at → IsSet all_after at) → IsSeeking linked sought x (level + 1) all_after next
seek_on linked sought x level all new all_after next seeking none on marked = record {
  reached_are = subst (λ (k : ℕ). AreReached linked x k all_after next) (let e : suc level ≡ level + 1 = omega arith in e) (next_reached linked x level all new all_after next seeking.reached_are on marked);
  walks = λ y is. walk_on linked x y level all new all_after next (seeking.walks y is) (λ at one stands. none (record { at = at; marked = one; role = y; stands = stands; is = is })) on marked;
}

pub seek_ends : (linked : Linked) (sought : Sought) (x : List ℕ) (level most : ℕ) (all new : List ℕ) → level < most → IsSeeking linked sought x level all new → HasSought linked sought (IsSet new) → IsFirst linked sought x most (Some (level + 1))
seek_ends linked sought x level most all new low seeking found =
    let ended : IsDistance linked x found.role most (Some (level + 1)) = walk_ends linked x found.role level most all new found.at low (seeking.walks found.role found.is) found.marked found.stands in (
      ended.0,
      record {
        within = ended.1.within;
        holds = λ few. record { name = found.role; is = found.is; reaches = ended.1.holds few };
        least = λ lower less reaches. (seeking.walks reaches.name reaches.is).never (reaches_more (shape_of linked.names) (rows_of linked.groups) None lower level x reaches.name (omega arith) reaches.reaches);
      },
    )

-- no group is new
pub seek_stops : (linked : Linked) (sought : Sought) (x : List ℕ) (level most : ℕ) (all new : List ℕ) → level < most → IsSeeking linked sought x level all new → ((at : ℕ) → IsSet new at → ⊥) → ¬ ReachesSought linked sought most x
seek_stops linked sought x level most all new low seeking none reaches =
    walk_stops linked x reaches.name level all new (seeking.walks reaches.name reaches.is) none most (omega arith) reaches.reaches

-- all levels are done
pub seek_past : (linked : Linked) (sought : Sought) (x : List ℕ) (level most : ℕ) (all new : List ℕ) → most ≤ level → IsSeeking linked sought x level all new → ¬ ReachesSought linked sought most x
seek_past linked sought x level most all new past seeking reaches =
    (seeking.walks reaches.name reaches.is).never (reaches_more (shape_of linked.names) (rows_of linked.groups) None most level x reaches.name past reaches.reaches)

pub sought_itself : (linked : Linked) (sought : Sought) (x : List ℕ) (most : ℕ) → IsSought linked sought x → IsFirst linked sought x most (Some 0)
sought_itself linked sought x most is = (
  omega arith,
  record {
    within = omega arith;
    holds = λ few. record { name = x; is = is; reaches = reaches_itself (shape_of linked.names) (rows_of linked.groups) None 0 x x refl };
    least = λ lower less. absurd (omega arith);
  },
)

-- ---- the loop over groups

-- no group before a place has a role that is sought
pub record HasNone (linked : Linked) (sought : Sought) (groups : List ℕ) (place : ℕ) : Type 0 where
  pub before : (at : ℕ) (role : List ℕ) → at < place → IsSet groups at → IsRoleAt linked role at → IsSought linked sought role → ⊥

pub has_none_begin : (linked : Linked) (sought : Sought) (groups : List ℕ) → HasNone linked sought groups 0
has_none_begin linked sought groups = record { before = λ at role low. absurd (omega arith) }

pub has_none_on : (linked : Linked) (sought : Sought) (groups : List ℕ) (place here : ℕ) (roles : List (List ℕ)) (test : Bool) → roles ≡ (get_or linked.groups here no_group).roles → ((other : ℕ) → place ≤ other → other < here → IsSet groups other → ⊥)
    → test ≡ false → IsTrue test ↔ ((name : List ℕ) × Contains roles name × IsSought linked sought name) → HasNone linked sought groups place → HasNone linked sought groups (here + 1)
has_none_on linked sought groups place here roles test are none fails told has = record {
  before = λ at role low one stands is. by at role low one stands is (cases_eq at here) (cases_lt at place);
}
  where
    by : (at : ℕ) (role : List ℕ) → at < here + 1 → IsSet groups at → IsRoleAt linked role at → IsSought linked sought role → (at ≡ here) ⊎ (at ≡ here → ⊥) → (at < place) ⊎ (place ≤ at) → ⊥
    by at role low one stands is (inl same) past =
        false≢true (sym fails ∙ told.1 (role, subst (λ (l : List (List ℕ)). Contains l role) (sym are) (subst (λ (k : ℕ). Contains (get_or linked.groups k no_group).roles role) same stands.stands), is))
    by at role low one stands is (inr differ) (inl before) = has.before at role before one stands is
    by at role low one stands is (inr differ) (inr behind) = none at behind (omega arith) one

-- a group that has one
pub has_here : (linked : Linked) (sought : Sought) (groups : List ℕ) (here : ℕ) (roles : List (List ℕ)) → roles ≡ (get_or linked.groups here no_group).roles → here < length linked.groups → IsSet groups here
    → (name : List ℕ) × Contains roles name × IsSought linked sought name → HasSought linked sought (IsSet groups)
has_here linked sought groups here roles are within one (name, stands, is) = record {
  at = here;
  marked = one;
  role = name;
  stands = record { within = within; stands = subst (λ (l : List (List ℕ)). Contains l name) are stands };
  is = is;
}

pub has_nowhere : (linked : Linked) (sought : Sought) (groups : List ℕ) (place : ℕ) → ((other : ℕ) → place ≤ other → IsSet groups other → ⊥) → HasNone linked sought groups place → HasSought linked sought (IsSet groups) → ⊥
has_nowhere linked sought groups place none has found = by (cases_lt found.at place)
  where
    by : (found.at < place) ⊎ (place ≤ found.at) → ⊥
    by (inl before) = has.before found.at found.role before found.marked found.stands found.is
    by (inr behind) = none found.at behind found.marked

-- ---- what is told

pub distance_told : (linked : Linked) (x : List ℕ) (y : Bor (List ℕ)) (most : ℕ) (found : Option ℕ) → IsFirst linked (Name y) x most found → IsDistance linked x y.now most found
distance_told linked x y most None never = λ reaches. never (record { name = y.now; is = refl; reaches = reaches })
distance_told linked x y most (Some found) first = (
  first.0,
  least_alike most (λ (links : ℕ). ReachesSought linked (Name y) links x) (λ (links : ℕ). Reaches (shape_of linked.names) (rows_of linked.groups) None links x y.now) found
      (λ links reaches. subst (λ (name : List ℕ). Reaches (shape_of linked.names) (rows_of linked.groups) None links x name) reaches.is reaches.reaches)
      (λ links reaches. record { name = y.now; is = refl; reaches = reaches }) first.1,
)

-- a name has no roles exactly where it fits no user
top_from : (parts : Parts) (name : List ℕ) → AreLinks parts.names parts.plain.groups parts.patterned.groups → ¬ HasRoles (shape_of parts.names) (rows_of (linked_of parts).groups) None name → (at : ℕ) → FitsAt (linked_of parts) name at → ⊥
top_from parts name sound none at fits = none ((roles_told parts name true sound (λ holds. (at, fits), λ fitting. refl)).0 refl)

top_to : (parts : Parts) (name : List ℕ) → AreLinks parts.names parts.plain.groups parts.patterned.groups → ((at : ℕ) → FitsAt (linked_of parts) name at → ⊥) → ¬ HasRoles (shape_of parts.names) (rows_of (linked_of parts).groups) None name
top_to parts name sound none has = false≢true ((roles_told parts name false sound (λ holds. absurd (false≢true holds), λ (at, fits). absurd (none at fits))).1 has)

pub depth_told : (parts : Parts) (x : List ℕ) (most result : ℕ) (found : Option ℕ) → AreLinks parts.names parts.plain.groups parts.patterned.groups → result ≡ unwrap_or found (most + 1) → IsFirst (linked_of parts) Top x most found → IsDepth (shape_of parts.names) (rows_of (linked_of parts).groups) most None x result
depth_told parts x most result found sound is first = by found is first
  where
    there : (links : ℕ) → ReachesSought (linked_of parts) Top links x → ReachesTop (shape_of parts.names) (rows_of (linked_of parts).groups) None links x
    there links reaches = record { top = reaches.name; reaches = reaches.reaches; ends = top_to parts reaches.name sound reaches.is }

    back : (links : ℕ) → ReachesTop (shape_of parts.names) (rows_of (linked_of parts).groups) None links x → ReachesSought (linked_of parts) Top links x
    back links reaches = record { name = reaches.top; is = top_from parts reaches.top sound reaches.ends; reaches = reaches.reaches }

    more : (lower : ℕ) → lower ≤ most → ReachesSought (linked_of parts) Top lower x → ReachesSought (linked_of parts) Top most x
    more lower few reaches = record {
      name = reaches.name;
      is = reaches.is;
      reaches = reaches_more (shape_of parts.names) (rows_of (linked_of parts).groups) None lower most x reaches.name few reaches.reaches;
    }

    by : (option : Option ℕ) → result ≡ unwrap_or option (most + 1) → IsFirst (linked_of parts) Top x most option → IsDepth (shape_of parts.names) (rows_of (linked_of parts).groups) most None x result
    by None past never = record {
      within = omega (arith, past);
      holds = λ few. absurd (omega (arith, past, few));
      least = λ lower less reaches. never (more lower (omega (arith, past, less)) (back lower reaches));
    }
    by (Some links) same one =
        subst (IsLeast most (λ (k : ℕ). ReachesTop (shape_of parts.names) (rows_of (linked_of parts).groups) None k x)) (sym same)
        (least_alike most (λ (k : ℕ). ReachesSought (linked_of parts) Top k x) (λ (k : ℕ). ReachesTop (shape_of parts.names) (rows_of (linked_of parts).groups) None k x) links there back one.1)
