-- Walks over groups, level by level.
use Rattle.std.proofs.Common.{◌≡◌, ◌⊎◌, inl, inr, ◌<◌, ◌≤◌, ◌+◌, ℕ, zero, suc, List, [], ◌∷◌, ◌++◌, None, Some, length, get_or, refl, sym, ap, subst, ◌∙◌, arith}
use Rattle.std.specs.List.{Contains}
use Rattle.std.proofs.lemmas.Bool.{cases_eq, cases_lt}
use Rattle.std.proofs.lemmas.List.Elements.{Contains-append_left, Contains-push, Contains-push_cases}
use Rattle.role_meaning.specs.Fits.{Fits}
use Rattle.role_meaning.specs.Links.{Reaches, SomeLink, role_of, user_of}
use Rattle.role_meaning.proofs.CallerLemmas.{reaches_itself, reaches_last, reaches_more, reaches_on, stands_nowhere}
use Rattle.role_graph.specs.Graph.{shape_of}
use Rattle.role_graph.specs.Groups.{row, rows_of}
use Rattle.role_graph.specs.Helps.Marks.{Extends, IsNext, IsSet}
use Rattle.role_graph.specs.Helps.Walks.{AreReached, FitsAt, GoesOn, IsDistance, IsEntered, IsLink, IsRoleAt, Linked, no_group}
use Rattle.role_graph.proofs.GroupRows.{InGroup, in_group, row_stands}
use Rattle.role_graph.proofs.MarkLemmas.{extends_both, extends_none, extends_weaker}

-- ---- levels

-- the link of a row of a group
pub row_link : (linked : Linked) (name role : List ℕ) (at : ℕ) → FitsAt linked name at → IsRoleAt linked role at → SomeLink (shape_of linked.names) (rows_of linked.groups) None name (λ found. found ≡ role)
row_link linked name role at fits stands = record {
  row = row (get_or linked.groups at no_group).user role;
  stands = row_stands linked.groups at role stands.within stands.stands;
  fits = fits.fits;
  counts = tt;
  holds = refl;
}

-- the group of a link
pub group_link : (linked : Linked) (name role : List ℕ) → SomeLink (shape_of linked.names) (rows_of linked.groups) None name (λ found. found ≡ role) → IsLink linked name role
group_link linked name role link = by (in_group linked.groups link.row link.stands)
  where
    by : InGroup linked.groups link.row → IsLink linked name role
    by found =
        let same : found.role ≡ role = sym (ap role_of found.is) ∙ link.holds in
        record {
          at = found.at;
          fits = record { within = found.within; fits = subst (Fits linked.names name) (ap user_of found.is) link.fits };
          stands = record { within = found.within; stands = subst (Contains (get_or linked.groups found.at no_group).roles) same found.stands };
        }

-- a name that is reached by one link more
pub reached_on : (linked : Linked) (x y : List ℕ) (links at : ℕ) → IsEntered linked x links at → IsRoleAt linked y at → Reaches (shape_of linked.names) (rows_of linked.groups) None (suc links) x y
reached_on linked x y links at entered stands =
    reaches_on (shape_of linked.names) (rows_of linked.groups) None links x entered.name y entered.reached (row_link linked entered.name y at entered.fits stands)

pub entered_more : (linked : Linked) (x : List ℕ) (fewer links at : ℕ) → fewer ≤ links → IsEntered linked x fewer at → IsEntered linked x links at
entered_more linked x fewer links at less entered =
    record { name = entered.name; reached = reaches_more (shape_of linked.names) (rows_of linked.groups) None fewer links x entered.name less entered.reached; fits = entered.fits }

-- the groups that a name fits are those that it enters by no link
pub first_reached : (linked : Linked) (x : List ℕ) (old all new : List ℕ) → ((at : ℕ) → IsSet old at → ⊥) → IsNext (λ at. FitsAt linked x at) old all new → ((at : ℕ) → FitsAt linked x at → IsSet all at) → AreReached linked x 0 all new
unfolding Reaches
first_reached linked x old all new none next marked = record {
  sound = λ at one. sound_by at (next.only at one);
  whole = λ at entered. marked at (subst (λ (name : List ℕ). FitsAt linked name at) (sym entered.reached) entered.fits);
  reached = λ at one. (next.new_ones at one).0;
  old = λ at one. old_by at (next.only at one);
}
  where
    sound_by : (at : ℕ) → IsSet old at ⊎ IsSet new at → IsEntered linked x 0 at
    sound_by at (inl one) = absurd (none at one)
    sound_by at (inr one) = record { name = x; reached = refl; fits = (next.new_ones at one).1 }

    old_by : (at : ℕ) → IsSet old at ⊎ IsSet new at → IsSet new at ⊎ ((fewer : ℕ) × (suc fewer ≡ 0) × IsEntered linked x fewer at)
    old_by at (inl one) = absurd (none at one)
    old_by at (inr one) = inl one

-- what is entered is new, or entered by fewer links
pub level_cases : (linked : Linked) (x : List ℕ) (level : ℕ) (all new : List ℕ) (at : ℕ) → AreReached linked x level all new → IsEntered linked x level at → IsSet new at ⊎ ((fewer : ℕ) × (suc fewer ≡ level) × IsEntered linked x fewer at)
level_cases linked x level all new at are entered = are.old at (are.whole at entered)

-- no new group has the role, and it is not reached yet: then it is not reached by one link more
pub not_further : (linked : Linked) (x y : List ℕ) (level : ℕ) (all new : List ℕ) → AreReached linked x level all new → ((at : ℕ) → IsSet new at → IsRoleAt linked y at → ⊥) → ¬ Reaches (shape_of linked.names) (rows_of linked.groups) None level x y → ¬ Reaches (shape_of linked.names) (rows_of linked.groups) None (suc level) x y
not_further linked x y level all new are none never reaches = by (reaches_last (shape_of linked.names) (rows_of linked.groups) None level x y reaches)
  where
    found : (z : List ℕ) → Reaches (shape_of linked.names) (rows_of linked.groups) None level x z → IsLink linked z y → ⊥
    found z reached link = which (level_cases linked x level all new link.at are (record { name = z; reached = reached; fits = link.fits }))
      where
        which : IsSet new link.at ⊎ ((fewer : ℕ) × (suc fewer ≡ level) × IsEntered linked x fewer link.at) → ⊥
        which (inl one) = none link.at one link.stands
        which (inr (fewer, e, entered)) = never (subst (λ (k : ℕ). Reaches (shape_of linked.names) (rows_of linked.groups) None k x y) e (reached_on linked x y fewer link.at entered link.stands))

    by : Reaches (shape_of linked.names) (rows_of linked.groups) None level x y ⊎ ((z : List ℕ) × Reaches (shape_of linked.names) (rows_of linked.groups) None level x z × SomeLink (shape_of linked.names) (rows_of linked.groups) None z (λ role. role ≡ y)) → ⊥
    by (inl early) = never early
    by (inr (z, reached, last)) = found z reached (group_link linked z y last)

pub next_reached : (linked : Linked) (x : List ℕ) (level : ℕ) (all new all_after next : List ℕ) → AreReached linked x level all new → IsNext (λ at. GoesOn linked new at) all all_after next → ((from at : ℕ) (role : List ℕ) → IsSet new from → IsRoleAt linked role from → FitsAt linked role at → IsSet all_after at) → AreReached linked x (suc level) all_after next
next_reached linked x level all new all_after next are on marked = record {
  sound = λ at one. sound_by at (on.only at one);
  whole = λ at entered. whole_by at entered (reaches_last (shape_of linked.names) (rows_of linked.groups) None level x entered.name entered.reached);
  reached = λ at one. (on.new_ones at one).0;
  old = λ at one. old_by at (on.only at one);
}
  where
    goes : (at : ℕ) → GoesOn linked new at → IsEntered linked x (suc level) at
    goes at step =
        let from : IsEntered linked x level step.place = are.sound step.place (are.reached step.place step.marked) in
        record { name = step.role; reached = reached_on linked x step.role level step.place from step.stands; fits = step.fits }

    sound_by : (at : ℕ) → IsSet all at ⊎ IsSet next at → IsEntered linked x (suc level) at
    sound_by at (inl one) = entered_more linked x level (suc level) at (omega arith) (are.sound at one)
    sound_by at (inr one) = goes at (on.new_ones at one).1

    old_by : (at : ℕ) → IsSet all at ⊎ IsSet next at → IsSet next at ⊎ ((fewer : ℕ) × (suc fewer ≡ suc level) × IsEntered linked x fewer at)
    old_by at (inl one) = inr (level, refl, are.sound at one)
    old_by at (inr one) = inl one

    whole_by : (at : ℕ) (entered : IsEntered linked x (suc level) at) → Reaches (shape_of linked.names) (rows_of linked.groups) None level x entered.name ⊎ ((z : List ℕ) × Reaches (shape_of linked.names) (rows_of linked.groups) None level x z × SomeLink (shape_of linked.names) (rows_of linked.groups) None z (λ role. role ≡ entered.name)) → IsSet all_after at
    whole_by at entered (inl now) = on.keeps at (are.whole at (record { name = entered.name; reached = now; fits = entered.fits }))
    whole_by at entered (inr (z, before, last)) = found (group_link linked z entered.name last)
      where
        found : IsLink linked z entered.name → IsSet all_after at
        found link = which (level_cases linked x level all new link.at are (record { name = z; reached = before; fits = link.fits }))
          where
            which : IsSet new link.at ⊎ ((fewer : ℕ) × (suc fewer ≡ level) × IsEntered linked x fewer link.at) → IsSet all_after at
            which (inl one) = marked link.at at entered.name one link.stands entered.fits
            which (inr (fewer, e, early)) =
                on.keeps at (are.whole at (record {
                  name = entered.name;
                  reached = subst (λ (k : ℕ). Reaches (shape_of linked.names) (rows_of linked.groups) None k x entered.name) e (reached_on linked x entered.name fewer link.at early link.stands);
                  fits = entered.fits;
                }))

-- what is new stands at places of groups
pub new_within : (linked : Linked) (x : List ℕ) (level : ℕ) (all new : List ℕ) → AreReached linked x level all new → (at : ℕ) → IsSet new at → at < length linked.groups
new_within linked x level all new are at one = (are.sound at (are.reached at one)).fits.within

-- ---- the walk

-- a walk that stands at a level: the other name is not reached yet
pub record IsWalking (linked : Linked) (x y : List ℕ) (level : ℕ) (all new : List ℕ) : Type 0 where
  pub reached_are : AreReached linked x level all new
  pub never : ¬ Reaches (shape_of linked.names) (rows_of linked.groups) None level x y

pub walk_begins : (linked : Linked) (x y : List ℕ) (old all new : List ℕ) → ((at : ℕ) → IsSet old at → ⊥) → IsNext (λ at. FitsAt linked x at) old all new → ((at : ℕ) → FitsAt linked x at → IsSet all at) → (x ≡ y → ⊥) → IsWalking linked x y 0 all new
unfolding Reaches
walk_begins linked x y old all new none next marked differ = record {
  reached_are = first_reached linked x old all new none next marked;
  never = differ;
}

pub walk_on : (linked : Linked) (x y : List ℕ) (level : ℕ) (all new all_after next : List ℕ) → IsWalking linked x y level all new → ((at : ℕ) → IsSet new at → IsRoleAt linked y at → ⊥) → IsNext (λ at. GoesOn linked new at) all all_after next → ((from at : ℕ) (role : List ℕ) → IsSet new from → IsRoleAt linked role from → FitsAt linked role at → IsSet all_after at) → IsWalking linked x y (level + 1) all_after next
walk_on linked x y level all new all_after next walking none on marked =
    subst (λ (k : ℕ). IsWalking linked x y k all_after next) (let e : suc level ≡ level + 1 = omega arith in e) (record {
      reached_are = next_reached linked x level all new all_after next walking.reached_are on marked;
      never = not_further linked x y level all new walking.reached_are none walking.never;
    })

pub walk_ends : (linked : Linked) (x y : List ℕ) (level most : ℕ) (all new : List ℕ) (at : ℕ) → level < most → IsWalking linked x y level all new → IsSet new at → IsRoleAt linked y at → IsDistance linked x y most (Some (level + 1))
walk_ends linked x y level most all new at low walking one stands =
    let entered : IsEntered linked x level at = walking.reached_are.sound at (walking.reached_are.reached at one) in
    let here : Reaches (shape_of linked.names) (rows_of linked.groups) None (level + 1) x y =
    subst (λ (k : ℕ). Reaches (shape_of linked.names) (rows_of linked.groups) None k x y) (let e : suc level ≡ level + 1 = omega arith in e) (reached_on linked x y level at entered stands) in (
      omega arith,
      record {
        within = omega arith;
        holds = λ _. here;
        least = λ lower less reaches. walking.never (reaches_more (shape_of linked.names) (rows_of linked.groups) None lower level x y (omega arith) reaches);
      },
    )

pub at_once : (linked : Linked) (x y : List ℕ) (most : ℕ) → x ≡ y → IsDistance linked x y most (Some 0)
at_once linked x y most same = (
  omega arith,
  record {
    within = omega arith;
    holds = λ _. reaches_itself (shape_of linked.names) (rows_of linked.groups) None 0 x y same;
    least = λ lower less. absurd (omega arith);
  },
)

-- where no group is new, none is entered by more links
pub stuck : (linked : Linked) (x : List ℕ) (level : ℕ) (all new : List ℕ) → AreReached linked x level all new → ((at : ℕ) → IsSet new at → ⊥) → (links at : ℕ) → level ≤ links → IsEntered linked x links at → IsEntered linked x level at
stuck linked x level all new are none zero at less entered = subst (λ (k : ℕ). IsEntered linked x k at) (let e : zero ≡ level = omega arith in e) entered
stuck linked x level all new are none (suc links) at less entered = by (cases_lt links level) (stuck linked x level all new are none links)
  where
    found : (z : List ℕ) → Reaches (shape_of linked.names) (rows_of linked.groups) None links x z → IsLink linked z entered.name → ((k : ℕ) → level ≤ links → IsEntered linked x links k → IsEntered linked x level k) → level ≤ links → IsEntered linked x level at
    found z reached link more low =
        which (level_cases linked x level all new link.at are (more link.at low (record { name = z; reached = reached; fits = link.fits })))
      where
        which : IsSet new link.at ⊎ ((fewer : ℕ) × (suc fewer ≡ level) × IsEntered linked x fewer link.at) → IsEntered linked x level at
        which (inl one) = absurd (none link.at one)
        which (inr (fewer, e, early)) = record {
          name = entered.name;
          reached = subst (λ (k : ℕ). Reaches (shape_of linked.names) (rows_of linked.groups) None k x entered.name) e (reached_on linked x entered.name fewer link.at early link.stands);
          fits = entered.fits;
        }

    last : ((k : ℕ) → level ≤ links → IsEntered linked x links k → IsEntered linked x level k) → level ≤ links → Reaches (shape_of linked.names) (rows_of linked.groups) None links x entered.name ⊎ ((z : List ℕ) × Reaches (shape_of linked.names) (rows_of linked.groups) None links x z × SomeLink (shape_of linked.names) (rows_of linked.groups) None z (λ role. role ≡ entered.name)) → IsEntered linked x level at
    last more low (inl early) = more at low (record { name = entered.name; reached = early; fits = entered.fits })
    last more low (inr (z, reached, link)) = found z reached (group_link linked z entered.name link) more low

    by : (links < level) ⊎ (level ≤ links) → ((k : ℕ) → level ≤ links → IsEntered linked x links k → IsEntered linked x level k) → IsEntered linked x level at
    by (inl above) more = subst (λ (k : ℕ). IsEntered linked x k at) (let e : suc links ≡ level = omega arith in e) entered
    by (inr low) more = last more low (reaches_last (shape_of linked.names) (rows_of linked.groups) None links x entered.name entered.reached)

pub walk_stops : (linked : Linked) (x y : List ℕ) (level : ℕ) (all new : List ℕ) → IsWalking linked x y level all new → ((at : ℕ) → IsSet new at → ⊥) → (most : ℕ) → level ≤ most → ¬ Reaches (shape_of linked.names) (rows_of linked.groups) None most x y
walk_stops linked x y level all new walking none zero less reaches = walking.never (subst (λ (k : ℕ). Reaches (shape_of linked.names) (rows_of linked.groups) None k x y) (let e : zero ≡ level = omega arith in e) reaches)
walk_stops linked x y level all new walking none (suc most) less reaches = by (cases_lt most level) (walk_stops linked x y level all new walking none most)
  where
    found : (z : List ℕ) → Reaches (shape_of linked.names) (rows_of linked.groups) None most x z → IsLink linked z y → level ≤ most → ⊥
    found z reached link low =
        which (level_cases linked x level all new link.at walking.reached_are
        (stuck linked x level all new walking.reached_are none most link.at low (record { name = z; reached = reached; fits = link.fits })))
      where
        which : IsSet new link.at ⊎ ((fewer : ℕ) × (suc fewer ≡ level) × IsEntered linked x fewer link.at) → ⊥
        which (inl one) = none link.at one
        which (inr (fewer, e, early)) = walking.never (subst (λ (k : ℕ). Reaches (shape_of linked.names) (rows_of linked.groups) None k x y) e (reached_on linked x y fewer link.at early link.stands))

    last : (level ≤ most → ¬ Reaches (shape_of linked.names) (rows_of linked.groups) None most x y) → level ≤ most → Reaches (shape_of linked.names) (rows_of linked.groups) None most x y ⊎ ((z : List ℕ) × Reaches (shape_of linked.names) (rows_of linked.groups) None most x z × SomeLink (shape_of linked.names) (rows_of linked.groups) None z (λ role. role ≡ y)) → ⊥
    last more low (inl early) = more low early
    last more low (inr (z, reached, link)) = found z reached (group_link linked z y link) low

    by : (most < level) ⊎ (level ≤ most) → (level ≤ most → ¬ Reaches (shape_of linked.names) (rows_of linked.groups) None most x y) → ⊥
    by (inl above) more = walking.never (subst (λ (k : ℕ). Reaches (shape_of linked.names) (rows_of linked.groups) None k x y) (let e : suc most ≡ level = omega arith in e) reaches)
    by (inr low) more = last more low (reaches_last (shape_of linked.names) (rows_of linked.groups) None most x y reaches)

-- ---- the loops

-- the groups from `count` on, up to `upto` further ones, are marked
pub record HasMarked (linked : Linked) (name : List ℕ) (count upto : ℕ) (all new all_after new_after : List ℕ) : Type 0 where
  pub marks : Extends (λ at. FitsAt linked name at) all new all_after new_after
  pub marked : (at : ℕ) → at < upto → FitsAt linked name (count + at) → IsSet all_after (count + at)

pub has_marked_none : (linked : Linked) (name : List ℕ) (count : ℕ) (all new : List ℕ) → HasMarked linked name count 0 all new all new
has_marked_none linked name count all new = record { marks = extends_none (λ at. FitsAt linked name at) all new; marked = λ at none. absurd (omega arith) }

-- the groups that some of the names fit are marked
pub record HaveMarked (linked : Linked) (names : List (List ℕ)) (all new all_after new_after : List ℕ) : Type 0 where
  pub marks : Extends (λ at. (name : List ℕ) × Contains names name × FitsAt linked name at) all new all_after new_after
  pub marked : (at : ℕ) (name : List ℕ) → Contains names name → FitsAt linked name at → IsSet all_after at

pub have_marked_none : (linked : Linked) (all new : List ℕ) → HaveMarked linked [] all new all new
have_marked_none linked all new = record {
  marks = extends_none (λ at. (name : List ℕ) × Contains [] name × FitsAt linked name at) all new;
  marked = λ at name none. absurd (stands_nowhere name none);
}

pub have_marked_more : (linked : Linked) (names : List (List ℕ)) (name : List ℕ) (all new all_between new_between all_after new_after : List ℕ) → Extends (λ at. FitsAt linked name at) all_between new_between all_after new_after → ((at : ℕ) → FitsAt linked name at → IsSet all_after at) → HaveMarked linked names all new all_between new_between → HaveMarked linked (names ++ name ∷ []) all new all_after new_after
have_marked_more linked names name all new all_between new_between all_after new_after marks here have = record {
  marks = extends_both Any all new all_between new_between all_after new_after
      (extends_weaker (λ at. (one : List ℕ) × Contains names one × FitsAt linked one at) Any all new all_between new_between
      (λ at (one, stands, fits). (one, Contains-append_left names (name ∷ []) one stands, fits)) have.marks)
      (extends_weaker (λ at. FitsAt linked name at) Any all_between new_between all_after new_after (λ at fits. (name, Contains-push names name, fits)) marks);
  marked = λ at one stands fits. by at one fits (Contains-push_cases names name one stands);
}
  where
    Any : ℕ → Type 0
    Any at = (one : List ℕ) × Contains (names ++ name ∷ []) one × FitsAt linked one at

    by : (at : ℕ) (one : List ℕ) → FitsAt linked one at → Contains names one ⊎ (name ≡ one) → IsSet all_after at
    by at one fits (inl before) = marks.keeps at (have.marked at one before fits)
    by at one fits (inr same) = here at (subst (λ (n : List ℕ). FitsAt linked n at) (sym same) fits)

-- the walk went on from the groups before a place
pub record HasGone (linked : Linked) (from : List ℕ) (place : ℕ) (all all_after new : List ℕ) : Type 0 where
  pub next : IsNext (λ at. GoesOn linked from at) all all_after new
  pub marked : (one at : ℕ) (role : List ℕ) → one < place → IsSet from one → IsRoleAt linked role one → FitsAt linked role at → IsSet all_after at

pub has_gone_none : (linked : Linked) (from : List ℕ) (all new : List ℕ) → ((at : ℕ) → IsSet new at → ⊥) → HasGone linked from 0 all all new
has_gone_none linked from all new none = record {
  next = record { keeps = λ at one. one; only = λ at one. inl one; new_ones = λ at one. absurd (none at one) };
  marked = λ one at role low. absurd (omega arith);
}

pub has_gone_on : (linked : Linked) (from : List ℕ) (place here : ℕ) (all all_between new_between all_after new_after : List ℕ) → here < length linked.groups → IsSet from here → ((other : ℕ) → place ≤ other → other < here → IsSet from other → ⊥) → Extends (λ at. (name : List ℕ) × Contains (get_or linked.groups here no_group).roles name × FitsAt linked name at) all_between new_between all_after new_after → ((at : ℕ) (name : List ℕ) → Contains (get_or linked.groups here no_group).roles name → FitsAt linked name at → IsSet all_after at) → HasGone linked from place all all_between new_between → HasGone linked from (here + 1) all all_after new_after
has_gone_on linked from place here all all_between new_between all_after new_after within one_here none marks marked has = record {
  next = record {
    keeps = λ at one. marks.keeps at (has.next.keeps at one);
    only = λ at one. only_by at (marks.only at one);
    new_ones = λ at one. new_by at (marks.only_new at one);
  };
  marked = λ one at role low is stands fits. by one at role low is stands fits (cases_eq one here) (cases_lt one place);
}
  where
    early : (at : ℕ) → IsSet all at ⊎ IsSet new_between at → IsSet all at ⊎ IsSet new_after at
    early at (inl one) = inl one
    early at (inr one) = inr (marks.keeps_new at one)

    only_by : (at : ℕ) → IsSet all_between at ⊎ IsSet new_after at → IsSet all at ⊎ IsSet new_after at
    only_by at (inl one) = early at (has.next.only at one)
    only_by at (inr one) = inr one

    new_by : (at : ℕ) → IsSet new_between at ⊎ (IsSet all_after at × ((name : List ℕ) × Contains (get_or linked.groups here no_group).roles name × FitsAt linked name at)) → IsSet all_after at × GoesOn linked from at
    new_by at (inl one) = (marks.keeps at (has.next.new_ones at one).0, (has.next.new_ones at one).1)
    new_by at (inr (one, found)) = (one, record { place = here; role = found.0; marked = one_here; stands = record { within = within; stands = found.1 }; fits = found.2 })

    by : (one at : ℕ) (role : List ℕ) → one < here + 1 → IsSet from one → IsRoleAt linked role one → FitsAt linked role at → (one ≡ here) ⊎ (one ≡ here → ⊥) → (one < place) ⊎ (place ≤ one) → IsSet all_after at
    by one at role low is stands fits (inl same) past = marked at role (subst (λ (k : ℕ). Contains (get_or linked.groups k no_group).roles role) same stands.stands) fits
    by one at role low is stands fits (inr differ) (inl before) = marks.keeps at (has.marked one at role before is stands fits)
    by one at role low is stands fits (inr differ) (inr behind) = absurd (none one behind (omega arith) is)

-- at the end all groups are gone on from
pub has_gone_all : (linked : Linked) (from : List ℕ) (place : ℕ) (all all_after new : List ℕ) → ((other : ℕ) → place ≤ other → IsSet from other → ⊥) → HasGone linked from place all all_after new → (one at : ℕ) (role : List ℕ) → IsSet from one → IsRoleAt linked role one → FitsAt linked role at → IsSet all_after at
has_gone_all linked from place all all_after new none has one at role is stands fits = by (cases_lt one place)
  where
    by : (one < place) ⊎ (place ≤ one) → IsSet all_after at
    by (inl before) = has.marked one at role before is stands fits
    by (inr behind) = absurd (none one behind is)
