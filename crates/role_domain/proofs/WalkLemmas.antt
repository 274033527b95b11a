-- Walks over rows, level by level.
use Rattle.std.proofs.Common.{◌≡◌, ◌⊎◌, inl, inr, ◌<◌, ◌≤◌, ◌+◌, ℕ, zero, suc, Bool, List, [], Option, None, Some, IsTrue, length, get_or, refl, sym, ap, subst, ◌∙◌, arith}
use Rattle.std.specs.Prelude.{◌↔◌, is_some, unwrap_or}
use Rattle.std.specs.List.{Contains}
use Rattle.std.proofs.lemmas.Bool.{cases_lt, false≢true}
use Rattle.std.proofs.lemmas.List.{get_or_default}
use Rattle.std.proofs.lemmas.List.Elements.{Contains-get_or}
use Rattle.policy_table.specs.Tables.{Fields}
use Rattle.role_domain.specs.Helps.Walks.{Enters, GoesOn, IsDistance, IsEntered, IsMarked, IsNext, IsRoleAt, Walk, Walks, inner}
use Rattle.role_meaning.specs.Fits.{Fits}
use Rattle.role_meaning.specs.Least.{IsLeast}
use Rattle.role_meaning.specs.Links.{Reaches, SomeLink, domain_of, role_of, user_of}
use Rattle.role_meaning.proofs.CallerLemmas.{reaches_itself, reaches_last, reaches_more, reaches_on}

-- ---- levels

-- the rows that are entered by at most so many links are marked, and among them at least those that are by no fewer are new
pub record AreReached (walk : Walk) (x : List ℕ) (links : ℕ) (all new : List Bool) : Type 0 where
  pub sound : (at : ℕ) → IsMarked all at → IsEntered walk x links at
  pub whole : (at : ℕ) → IsEntered walk x links at → IsMarked all at
  pub reached : (at : ℕ) → IsMarked new at → IsMarked all at
  pub old : (at : ℕ) → IsMarked all at → IsMarked new at ⊎ ((fewer : ℕ) × (suc fewer ≡ links) × IsEntered walk x fewer at)

-- the link of a row
row_link : (walk : Walk) (name role : List ℕ) (at : ℕ) → Enters walk name at → IsRoleAt walk role at → SomeLink (inner walk.terms) walk.rows (Some walk.text) name (λ found. found ≡ role)
row_link walk name role at enters stands = record {
  row = get_or walk.rows at [];
  stands = Contains-get_or walk.rows at [] enters.within;
  fits = enters.fits;
  counts = enters.counts;
  holds = stands.role;
}

-- the row of a link
pub record EnteredBy (walk : Walk) (name role : List ℕ) : Type 0 where
  pub at : ℕ
  pub enters : Enters walk name at
  pub stands : IsRoleAt walk role at

pub row_at : (walk : Walk) (name : List ℕ) (row : Fields) (at : ℕ) → at < length walk.rows → get_or walk.rows at row ≡ row → Fits walk.terms.names name (user_of row) → Fits walk.terms.domains walk.text (domain_of row) → Enters walk name at
row_at walk name row at within here fits counts =
    let is : row ≡ get_or walk.rows at [] = sym here ∙ get_or_default walk.rows at row [] within in
    record {
      within = within;
      fits = subst (λ (r : Fields). Fits walk.terms.names name (user_of r)) is fits;
      counts = subst (λ (r : Fields). Fits walk.terms.domains walk.text (domain_of r)) is counts;
    }

pub row_of_link : (walk : Walk) (name role : List ℕ) → SomeLink (inner walk.terms) walk.rows (Some walk.text) name (λ found. found ≡ role) → EnteredBy walk name role
row_of_link walk name role link = by link.stands
  where
    by : Contains walk.rows link.row → EnteredBy walk name role
    by (at, within, here) = record {
      at = at;
      enters = row_at walk name link.row at within here link.fits link.counts;
      stands = record { within = within; role = sym (ap role_of (sym here ∙ get_or_default walk.rows at link.row [] within)) ∙ link.holds };
    }

-- a name that is reached by one link more
pub reached_on : (walk : Walk) (x y : List ℕ) (links at : ℕ) → IsEntered walk x links at → IsRoleAt walk y at → Walks walk (suc links) x y
reached_on walk x y links at entered stands =
    reaches_on (inner walk.terms) walk.rows (Some walk.text) links x entered.name y entered.reached (row_link walk entered.name y at entered.enters stands)

entered_more : (walk : Walk) (x : List ℕ) (fewer links at : ℕ) → fewer ≤ links → IsEntered walk x fewer at → IsEntered walk x links at
entered_more walk x fewer links at less entered =
    record { name = entered.name; reached = reaches_more (inner walk.terms) walk.rows (Some walk.text) fewer links x entered.name less entered.reached; enters = entered.enters }

-- the rows that a name enters are those that it enters by no link
pub first_reached : (walk : Walk) (x : List ℕ) (old all new : List Bool) → ((at : ℕ) → IsMarked old at → ⊥) → IsNext (λ at. Enters walk x at) old all new → ((at : ℕ) → Enters walk x at → IsMarked all at) → AreReached walk x 0 all new
unfolding Reaches
first_reached walk x old all new none next marked = record {
  sound = λ at one. sound_by at (next.only at one);
  whole = λ at entered. marked at (subst (λ (name : List ℕ). Enters walk name at) (sym entered.reached) entered.enters);
  reached = λ at one. (next.new_ones at one).0;
  old = λ at one. old_by at (next.only at one);
}
  where
    sound_by : (at : ℕ) → IsMarked old at ⊎ IsMarked new at → IsEntered walk x 0 at
    sound_by at (inl one) = absurd (none at one)
    sound_by at (inr one) = record { name = x; reached = refl; enters = (next.new_ones at one).1 }

    old_by : (at : ℕ) → IsMarked old at ⊎ IsMarked new at → IsMarked new at ⊎ ((fewer : ℕ) × (suc fewer ≡ 0) × IsEntered walk x fewer at)
    old_by at (inl one) = absurd (none at one)
    old_by at (inr one) = inl one

-- what is entered is new, or entered by fewer links
pub level_cases : (walk : Walk) (x : List ℕ) (level : ℕ) (all new : List Bool) (at : ℕ) → AreReached walk x level all new → IsEntered walk x level at → IsMarked new at ⊎ ((fewer : ℕ) × (suc fewer ≡ level) × IsEntered walk x fewer at)
level_cases walk x level all new at are entered = are.old at (are.whole at entered)

-- no new row has the role, and it is not reached yet: then it is not reached by one link more
pub not_further : (walk : Walk) (x y : List ℕ) (level : ℕ) (all new : List Bool) → AreReached walk x level all new → ((at : ℕ) → IsMarked new at → IsRoleAt walk y at → ⊥) → ¬ Walks walk level x y → ¬ Walks walk (suc level) x y
not_further walk x y level all new are none never reaches = by (reaches_last (inner walk.terms) walk.rows (Some walk.text) level x y reaches)
  where
    found : (z : List ℕ) → Walks walk level x z → EnteredBy walk z y → ⊥
    found z reached link = which (level_cases walk x level all new link.at are (record { name = z; reached = reached; enters = link.enters }))
      where
        which : IsMarked new link.at ⊎ ((fewer : ℕ) × (suc fewer ≡ level) × IsEntered walk x fewer link.at) → ⊥
        which (inl one) = none link.at one link.stands
        which (inr (fewer, e, entered)) = never (subst (λ (k : ℕ). Walks walk k x y) e (reached_on walk x y fewer link.at entered link.stands))

    by : Walks walk level x y ⊎ ((z : List ℕ) × Walks walk level x z × SomeLink (inner walk.terms) walk.rows (Some walk.text) z (λ role. role ≡ y)) → ⊥
    by (inl early) = never early
    by (inr (z, reached, last)) = found z reached (row_of_link walk z y last)

pub next_reached : (walk : Walk) (x : List ℕ) (level : ℕ) (all new all_after next : List Bool) → AreReached walk x level all new → IsNext (λ at. GoesOn walk new at) all all_after next → ((from at : ℕ) (role : List ℕ) → IsMarked new from → IsRoleAt walk role from → Enters walk role at → IsMarked all_after at) → AreReached walk x (suc level) all_after next
next_reached walk x level all new all_after next are on marked = record {
  sound = λ at one. sound_by at (on.only at one);
  whole = λ at entered. whole_by at entered (reaches_last (inner walk.terms) walk.rows (Some walk.text) level x entered.name entered.reached);
  reached = λ at one. (on.new_ones at one).0;
  old = λ at one. old_by at (on.only at one);
}
  where
    goes : (at : ℕ) → GoesOn walk new at → IsEntered walk x (suc level) at
    goes at step =
        let from : IsEntered walk x level step.place = are.sound step.place (are.reached step.place step.marked) in
        record { name = step.role; reached = reached_on walk x step.role level step.place from step.stands; enters = step.enters }

    sound_by : (at : ℕ) → IsMarked all at ⊎ IsMarked next at → IsEntered walk x (suc level) at
    sound_by at (inl one) = entered_more walk x level (suc level) at (omega arith) (are.sound at one)
    sound_by at (inr one) = goes at (on.new_ones at one).1

    old_by : (at : ℕ) → IsMarked all at ⊎ IsMarked next at → IsMarked next at ⊎ ((fewer : ℕ) × (suc fewer ≡ suc level) × IsEntered walk x fewer at)
    old_by at (inl one) = inr (level, refl, are.sound at one)
    old_by at (inr one) = inl one

    whole_by : (at : ℕ) (entered : IsEntered walk x (suc level) at) → Walks walk level x entered.name ⊎ ((z : List ℕ) × Walks walk level x z × SomeLink (inner walk.terms) walk.rows (Some walk.text) z (λ role. role ≡ entered.name)) → IsMarked all_after at
    whole_by at entered (inl now) = on.keeps at (are.whole at (record { name = entered.name; reached = now; enters = entered.enters }))
    whole_by at entered (inr (z, before, last)) = found (row_of_link walk z entered.name last)
      where
        found : EnteredBy walk z entered.name → IsMarked all_after at
        found link = which (level_cases walk x level all new link.at are (record { name = z; reached = before; enters = link.enters }))
          where
            which : IsMarked new link.at ⊎ ((fewer : ℕ) × (suc fewer ≡ level) × IsEntered walk x fewer link.at) → IsMarked all_after at
            which (inl one) = marked link.at at entered.name one link.stands entered.enters
            which (inr (fewer, e, early)) =
                on.keeps at (are.whole at (record {
                  name = entered.name;
                  reached = subst (λ (k : ℕ). Walks walk k x entered.name) e (reached_on walk x entered.name fewer link.at early link.stands);
                  enters = entered.enters;
                }))

-- what is new stands at places of rows
pub new_within : (walk : Walk) (x : List ℕ) (level : ℕ) (all new : List Bool) → AreReached walk x level all new → (at : ℕ) → IsMarked new at → at < length walk.rows
new_within walk x level all new are at one = (are.sound at (are.reached at one)).enters.within

-- ---- the walk

-- a walk that stands at a level: the other name is not reached yet
pub record IsWalking (walk : Walk) (x y : List ℕ) (level : ℕ) (all new : List Bool) : Type 0 where
  pub reached_are : AreReached walk x level all new
  pub never : ¬ Walks walk level x y

pub walk_begins : (walk : Walk) (x y : List ℕ) (old all new : List Bool) → ((at : ℕ) → IsMarked old at → ⊥) → IsNext (λ at. Enters walk x at) old all new → ((at : ℕ) → Enters walk x at → IsMarked all at) → (x ≡ y → ⊥) → IsWalking walk x y 0 all new
unfolding Reaches
walk_begins walk x y old all new none next marked differ = record {
  reached_are = first_reached walk x old all new none next marked;
  never = differ;
}

pub walk_on : (walk : Walk) (x y : List ℕ) (level : ℕ) (all new all_after next : List Bool) → IsWalking walk x y level all new → ((at : ℕ) → IsMarked new at → IsRoleAt walk y at → ⊥) → IsNext (λ at. GoesOn walk new at) all all_after next → ((from at : ℕ) (role : List ℕ) → IsMarked new from → IsRoleAt walk role from → Enters walk role at → IsMarked all_after at) → IsWalking walk x y (level + 1) all_after next
walk_on walk x y level all new all_after next walking none on marked =
    subst (λ (k : ℕ). IsWalking walk x y k all_after next) (let e : suc level ≡ level + 1 = omega arith in e) (record {
      reached_are = next_reached walk x level all new all_after next walking.reached_are on marked;
      never = not_further walk x y level all new walking.reached_are none walking.never;
    })

pub walk_ends : (walk : Walk) (x y : List ℕ) (level most : ℕ) (all new : List Bool) (at : ℕ) → level < most → IsWalking walk x y level all new → IsMarked new at → IsRoleAt walk y at → IsDistance walk x y most (Some (level + 1))
walk_ends walk x y level most all new at low walking one stands =
    let entered : IsEntered walk x level at = walking.reached_are.sound at (walking.reached_are.reached at one) in
    let here : Walks walk (level + 1) x y =
    subst (λ (k : ℕ). Walks walk k x y) (let e : suc level ≡ level + 1 = omega arith in e) (reached_on walk x y level at entered stands) in (
      omega arith,
      record {
        within = omega arith;
        holds = λ _. here;
        least = λ lower less reaches. walking.never (reaches_more (inner walk.terms) walk.rows (Some walk.text) lower level x y (omega arith) reaches);
      },
    )

pub at_once : (walk : Walk) (x y : List ℕ) (most : ℕ) → x ≡ y → IsDistance walk x y most (Some 0)
at_once walk x y most same = (
  omega arith,
  record {
    within = omega arith;
    holds = λ _. reaches_itself (inner walk.terms) walk.rows (Some walk.text) 0 x y same;
    least = λ lower less. absurd (omega arith);
  },
)

-- where no row is new, none is entered by more links
stuck : (walk : Walk) (x : List ℕ) (level : ℕ) (all new : List Bool) → AreReached walk x level all new → ((at : ℕ) → IsMarked new at → ⊥) → (links at : ℕ) → level ≤ links → IsEntered walk x links at → IsEntered walk x level at
stuck walk x level all new are none zero at less entered = subst (λ (k : ℕ). IsEntered walk x k at) (let e : zero ≡ level = omega arith in e) entered
stuck walk x level all new are none (suc links) at less entered = by (cases_lt links level) (stuck walk x level all new are none links)
  where
    found : (z : List ℕ) → Walks walk links x z → EnteredBy walk z entered.name → ((k : ℕ) → level ≤ links → IsEntered walk x links k → IsEntered walk x level k) → level ≤ links → IsEntered walk x level at
    found z reached link more low =
        which (level_cases walk x level all new link.at are (more link.at low (record { name = z; reached = reached; enters = link.enters })))
      where
        which : IsMarked new link.at ⊎ ((fewer : ℕ) × (suc fewer ≡ level) × IsEntered walk x fewer link.at) → IsEntered walk x level at
        which (inl one) = absurd (none link.at one)
        which (inr (fewer, e, early)) = record {
          name = entered.name;
          reached = subst (λ (k : ℕ). Walks walk k x entered.name) e (reached_on walk x entered.name fewer link.at early link.stands);
          enters = entered.enters;
        }

    last : ((k : ℕ) → level ≤ links → IsEntered walk x links k → IsEntered walk x level k) → level ≤ links → Walks walk links x entered.name ⊎ ((z : List ℕ) × Walks walk links x z × SomeLink (inner walk.terms) walk.rows (Some walk.text) z (λ role. role ≡ entered.name)) → IsEntered walk x level at
    last more low (inl early) = more at low (record { name = entered.name; reached = early; enters = entered.enters })
    last more low (inr (z, reached, link)) = found z reached (row_of_link walk z entered.name link) more low

    by : (links < level) ⊎ (level ≤ links) → ((k : ℕ) → level ≤ links → IsEntered walk x links k → IsEntered walk x level k) → IsEntered walk x level at
    by (inl above) more = subst (λ (k : ℕ). IsEntered walk x k at) (let e : suc links ≡ level = omega arith in e) entered
    by (inr low) more = last more low (reaches_last (inner walk.terms) walk.rows (Some walk.text) links x entered.name entered.reached)

pub walk_stops : (walk : Walk) (x y : List ℕ) (level : ℕ) (all new : List Bool) → IsWalking walk x y level all new → ((at : ℕ) → IsMarked new at → ⊥) → (most : ℕ) → level ≤ most → ¬ Walks walk most x y
walk_stops walk x y level all new walking none zero less reaches = walking.never (subst (λ (k : ℕ). Walks walk k x y) (let e : zero ≡ level = omega arith in e) reaches)
walk_stops walk x y level all new walking none (suc most) less reaches = by (cases_lt most level) (walk_stops walk x y level all new walking none most)
  where
    found : (z : List ℕ) → Walks walk most x z → EnteredBy walk z y → level ≤ most → ⊥
    found z reached link low =
        which (level_cases walk x level all new link.at walking.reached_are
        (stuck walk x level all new walking.reached_are none most link.at low (record { name = z; reached = reached; enters = link.enters })))
      where
        which : IsMarked new link.at ⊎ ((fewer : ℕ) × (suc fewer ≡ level) × IsEntered walk x fewer link.at) → ⊥
        which (inl one) = none link.at one
        which (inr (fewer, e, early)) = walking.never (subst (λ (k : ℕ). Walks walk k x y) e (reached_on walk x y fewer link.at early link.stands))

    last : (level ≤ most → ¬ Walks walk most x y) → level ≤ most → Walks walk most x y ⊎ ((z : List ℕ) × Walks walk most x z × SomeLink (inner walk.terms) walk.rows (Some walk.text) z (λ role. role ≡ y)) → ⊥
    last more low (inl early) = more low early
    last more low (inr (z, reached, link)) = found z reached (row_of_link walk z y link) low

    by : (most < level) ⊎ (level ≤ most) → (level ≤ most → ¬ Walks walk most x y) → ⊥
    by (inl above) more = walking.never (subst (λ (k : ℕ). Walks walk k x y) (let e : suc most ≡ level = omega arith in e) reaches)
    by (inr low) more = last more low (reaches_last (inner walk.terms) walk.rows (Some walk.text) most x y reaches)

-- ---- what a walk answers

pub linked_told : (walk : Walk) (x y : List ℕ) (most : ℕ) (found : Option ℕ) (test : Bool) → test ≡ is_some found → IsDistance walk x y most found → IsTrue test ↔ Walks walk most x y
linked_told walk x y most None test is never = (λ yes. absurd (false≢true (sym is ∙ yes)), λ reaches. absurd (never reaches))
linked_told walk x y most (Some links) test is found =
    (λ yes. reaches_more (inner walk.terms) walk.rows (Some walk.text) links most x y found.0 (found.1.holds found.0), λ reaches. is)

pub far_told : (walk : Walk) (x y : List ℕ) (found : Option ℕ) (result : ℕ) → result ≡ unwrap_or found 255 → IsDistance walk x y 254 found → IsLeast 254 (λ links. Walks walk links x y) result
far_told walk x y (Some links) result is found = subst (IsLeast 254 (λ (links : ℕ). Walks walk links x y)) (sym is) found.1
far_told walk x y None result is never = record {
  within = omega arith;
  holds = λ low. absurd (omega arith);
  least = λ lower less reaches. never (reaches_more (inner walk.terms) walk.rows (Some walk.text) lower 254 x y (omega arith) reaches);
}
