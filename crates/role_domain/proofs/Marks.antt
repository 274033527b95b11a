-- Rows that are marked, one place after the other.
use Rattle.std.proofs.Common.{◌≡◌, ◌⊎◌, inl, inr, ◌<◌, ◌≤◌, ◌+◌, ℕ, zero, suc, Bool, true, false, List, [], ◌∷◌, Some, length, set, get_or, slice_get, replicate, sym, ap, subst, ◌∙◌, arith}
use Rattle.std.proofs.lemmas.Bool.{cases_eq, false≢true}
use Rattle.std.proofs.lemmas.List.{get_or-set_other, get_or-set_same, get_or_default}
use Rattle.std.proofs.lemmas.Option.{same_Some}
use Rattle.policy_table.specs.Tables.{Fields}
use Rattle.role_domain.specs.Helps.Walks.{Enters, Extends, GoesOn, IsMarked, IsNext, IsRoleAt, Walk}
use Rattle.role_meaning.specs.Fits.{Fits}
use Rattle.role_meaning.specs.Links.{domain_of, role_of, user_of}

pub extends_none : (Allowed : ℕ → Type 0) (all new : List Bool) → Extends Allowed all new all new
extends_none Allowed all new = record { keeps = λ at one. one; keeps_new = λ at one. one; only = λ at one. inl one; only_new = λ at one. inl one }

pub extends_both : (Allowed : ℕ → Type 0) (all new all_between new_between all_after new_after : List Bool) → Extends Allowed all new all_between new_between → Extends Allowed all_between new_between all_after new_after → Extends Allowed all new all_after new_after
extends_both Allowed all new all_between new_between all_after new_after first second = record {
  keeps = λ at one. second.keeps at (first.keeps at one);
  keeps_new = λ at one. second.keeps_new at (first.keeps_new at one);
  only = λ at one. by_only at (second.only at one);
  only_new = λ at one. by_new at (second.only_new at one);
}
  where
    early : (at : ℕ) → IsMarked all at ⊎ IsMarked new_between at → IsMarked all at ⊎ IsMarked new_after at
    early at (inl one) = inl one
    early at (inr one) = inr (second.keeps_new at one)

    by_only : (at : ℕ) → IsMarked all_between at ⊎ IsMarked new_after at → IsMarked all at ⊎ IsMarked new_after at
    by_only at (inl one) = early at (first.only at one)
    by_only at (inr one) = inr one

    early_new : (at : ℕ) → IsMarked new at ⊎ (IsMarked all_between at × Allowed at) → IsMarked new at ⊎ (IsMarked all_after at × Allowed at)
    early_new at (inl one) = inl one
    early_new at (inr (one, allowed)) = inr (second.keeps at one, allowed)

    by_new : (at : ℕ) → IsMarked new_between at ⊎ (IsMarked all_after at × Allowed at) → IsMarked new at ⊎ (IsMarked all_after at × Allowed at)
    by_new at (inl one) = early_new at (first.only_new at one)
    by_new at (inr both) = inr both

pub extends_weaker : (Allowed Other : ℕ → Type 0) (all new all_after new_after : List Bool) → ((at : ℕ) → Allowed at → Other at) → Extends Allowed all new all_after new_after → Extends Other all new all_after new_after
extends_weaker Allowed Other all new all_after new_after weaker extends = record {
  keeps = extends.keeps;
  keeps_new = extends.keeps_new;
  only = extends.only;
  only_new = λ at one. by at (extends.only_new at one);
}
  where
    by : (at : ℕ) → IsMarked new at ⊎ (IsMarked all_after at × Allowed at) → IsMarked new at ⊎ (IsMarked all_after at × Other at)
    by at (inl one) = inl one
    by at (inr (one, allowed)) = inr (one, weaker at allowed)

pub next_from : (Allowed : ℕ → Type 0) (all new all_after new_after : List Bool) → ((at : ℕ) → IsMarked new at → ⊥) → Extends Allowed all new all_after new_after → IsNext Allowed all all_after new_after
next_from Allowed all new all_after new_after none extends = record {
  keeps = extends.keeps;
  only = extends.only;
  new_ones = λ at one. by at (extends.only_new at one);
}
  where
    by : (at : ℕ) → IsMarked new at ⊎ (IsMarked all_after at × Allowed at) → IsMarked all_after at × Allowed at
    by at (inl one) = absurd (none at one)
    by at (inr both) = both

-- no place is marked in a list of none
pub none_marked : (count at : ℕ) → IsMarked (replicate count false) at → ⊥
none_marked zero at one = false≢true one
none_marked (suc count) zero one = false≢true one
none_marked (suc count) (suc at) one = none_marked count at one

marked_there : (marks : List Bool) (at : ℕ) → at < length marks → IsMarked (set marks at true) at
marked_there marks at within = get_or-set_same marks at true false within

marked_other : (marks : List Bool) (at other : ℕ) → (other ≡ at → ⊥) → get_or (set marks at true) other false ≡ get_or marks other false
marked_other marks at other differ = get_or-set_other marks at other true false differ

marked_still : (marks : List Bool) (at other : ℕ) → at < length marks → IsMarked marks other → IsMarked (set marks at true) other
marked_still marks at other within one = by (cases_eq other at)
  where
    by : (other ≡ at) ⊎ (other ≡ at → ⊥) → IsMarked (set marks at true) other
    by (inl same) = subst (IsMarked (set marks at true)) (sym same) (marked_there marks at within)
    by (inr differ) = marked_other marks at other differ ∙ one

-- one place is marked in both
place_extends : (Allowed : ℕ → Type 0) (all new : List Bool) (at : ℕ) → at < length all → at < length new → Allowed at → Extends Allowed all new (set all at true) (set new at true)
place_extends Allowed all new at within inside allowed = record {
  keeps = λ other one. marked_still all at other within one;
  keeps_new = λ other one. marked_still new at other inside one;
  only = λ other one. by other one (cases_eq other at);
  only_new = λ other one. by_new other one (cases_eq other at);
}
  where
    by : (other : ℕ) → IsMarked (set all at true) other → (other ≡ at) ⊎ (other ≡ at → ⊥) → IsMarked all other ⊎ IsMarked (set new at true) other
    by other one (inl same) = inr (subst (IsMarked (set new at true)) (sym same) (marked_there new at inside))
    by other one (inr differ) = inl (sym (marked_other all at other differ) ∙ one)

    by_new : (other : ℕ) → IsMarked (set new at true) other → (other ≡ at) ⊎ (other ≡ at → ⊥) → IsMarked new other ⊎ (IsMarked (set all at true) other × Allowed other)
    by_new other one (inl same) = inr (subst (IsMarked (set all at true)) (sym same) (marked_there all at within), subst Allowed (sym same) allowed)
    by_new other one (inr differ) = inl (sym (marked_other new at other differ) ∙ one)

-- ---- the rows that a name enters, one after the other

pub record HasEntered (walk : Walk) (name : List ℕ) (upto : ℕ) (all new all_after new_after : List Bool) : Type 0 where
  pub marks : Extends (λ at. Enters walk name at) all new all_after new_after
  pub marked : (at : ℕ) → at < upto → Enters walk name at → IsMarked all_after at

pub entered_none : (walk : Walk) (name : List ℕ) (all new : List Bool) → HasEntered walk name 0 all new all new
entered_none walk name all new = record { marks = extends_none (λ at. Enters walk name at) all new; marked = λ at low. absurd (omega arith) }

-- a row that is marked, or not entered, is passed over
pub entered_past : (walk : Walk) (name : List ℕ) (upto : ℕ) (all new all_after new_after : List Bool) → (Enters walk name upto → IsMarked all_after upto) → HasEntered walk name upto all new all_after new_after → HasEntered walk name (upto + 1) all new all_after new_after
entered_past walk name upto all new all_after new_after here has = record { marks = has.marks; marked = λ at low enters. by at low enters (cases_eq at upto) }
  where
    by : (at : ℕ) → at < upto + 1 → Enters walk name at → (at ≡ upto) ⊎ (at ≡ upto → ⊥) → IsMarked all_after at
    by at low enters (inl same) = subst (IsMarked all_after) (sym same) (here (subst (Enters walk name) same enters))
    by at low enters (inr differ) = has.marked at (omega arith) enters

-- and one that is entered is marked
pub entered_more : (walk : Walk) (name : List ℕ) (upto : ℕ) (all new all_after new_after : List Bool) → upto < length all_after → upto < length new_after → Enters walk name upto → HasEntered walk name upto all new all_after new_after → HasEntered walk name (upto + 1) all new (set all_after upto true) (set new_after upto true)
entered_more walk name upto all new all_after new_after within inside enters has = record {
  marks = extends_both (λ at. Enters walk name at) all new all_after new_after (set all_after upto true) (set new_after upto true) has.marks (place_extends (λ at. Enters walk name at) all_after new_after upto within inside enters);
  marked = λ at low entered. by at low entered (cases_eq at upto);
}
  where
    by : (at : ℕ) → at < upto + 1 → Enters walk name at → (at ≡ upto) ⊎ (at ≡ upto → ⊥) → IsMarked (set all_after upto true) at
    by at low entered (inl same) = subst (IsMarked (set all_after upto true)) (sym same) (marked_there all_after upto within)
    by at low entered (inr differ) = marked_still all_after upto at within (has.marked at (omega arith) entered)

-- at the end all are marked
pub entered_all : (walk : Walk) (name : List ℕ) (upto : ℕ) (all new all_after new_after : List Bool) → length walk.rows ≤ upto → HasEntered walk name upto all new all_after new_after → (at : ℕ) → Enters walk name at → IsMarked all_after at
entered_all walk name upto all new all_after new_after every has at enters = has.marked at (let within : at < length walk.rows = enters.within in omega arith) enters

-- ---- the rows that are gone on from, one after the other

pub record HasGone (walk : Walk) (from : List Bool) (upto : ℕ) (all all_after new : List Bool) : Type 0 where
  pub next : IsNext (λ at. GoesOn walk from at) all all_after new
  pub marked : (place at : ℕ) (role : List ℕ) → place < upto → IsMarked from place → IsRoleAt walk role place → Enters walk role at → IsMarked all_after at

pub gone_none : (walk : Walk) (from all new : List Bool) → ((at : ℕ) → IsMarked new at → ⊥) → HasGone walk from 0 all all new
gone_none walk from all new none = record {
  next = record { keeps = λ at one. one; only = λ at one. inl one; new_ones = λ at one. absurd (none at one) };
  marked = λ place at role low. absurd (omega arith);
}

pub gone_past : (walk : Walk) (from : List Bool) (upto : ℕ) (all all_after new : List Bool) → (IsMarked from upto → ⊥) → HasGone walk from upto all all_after new → HasGone walk from (upto + 1) all all_after new
gone_past walk from upto all all_after new none has = record { next = has.next; marked = λ place at role low is stands enters. by place at role low is stands enters (cases_eq place upto) }
  where
    by : (place at : ℕ) (role : List ℕ) → place < upto + 1 → IsMarked from place → IsRoleAt walk role place → Enters walk role at → (place ≡ upto) ⊎ (place ≡ upto → ⊥) → IsMarked all_after at
    by place at role low is stands enters (inl same) = absurd (none (subst (IsMarked from) same is))
    by place at role low is stands enters (inr differ) = has.marked place at role (omega arith) is stands enters

pub gone_on : (walk : Walk) (from : List Bool) (upto : ℕ) (role : List ℕ) (all all_between new_between all_after new_after : List Bool) → IsMarked from upto → IsRoleAt walk role upto → Extends (λ at. Enters walk role at) all_between new_between all_after new_after → ((at : ℕ) → Enters walk role at → IsMarked all_after at) → HasGone walk from upto all all_between new_between → HasGone walk from (upto + 1) all all_after new_after
gone_on walk from upto role all all_between new_between all_after new_after one_here stands marks marked has = record {
  next = record {
    keeps = λ at one. marks.keeps at (has.next.keeps at one);
    only = λ at one. only_by at (marks.only at one);
    new_ones = λ at one. new_by at (marks.only_new at one);
  };
  marked = λ place at other low is there enters. by place at other low is there enters (cases_eq place upto);
}
  where
    early : (at : ℕ) → IsMarked all at ⊎ IsMarked new_between at → IsMarked all at ⊎ IsMarked new_after at
    early at (inl one) = inl one
    early at (inr one) = inr (marks.keeps_new at one)

    only_by : (at : ℕ) → IsMarked all_between at ⊎ IsMarked new_after at → IsMarked all at ⊎ IsMarked new_after at
    only_by at (inl one) = early at (has.next.only at one)
    only_by at (inr one) = inr one

    new_by : (at : ℕ) → IsMarked new_between at ⊎ (IsMarked all_after at × Enters walk role at) → IsMarked all_after at × GoesOn walk from at
    new_by at (inl one) = (marks.keeps at (has.next.new_ones at one).0, (has.next.new_ones at one).1)
    new_by at (inr (one, enters)) = (one, record { place = upto; role = role; marked = one_here; stands = stands; enters = enters })

    by : (place at : ℕ) (other : List ℕ) → place < upto + 1 → IsMarked from place → IsRoleAt walk other place → Enters walk other at → (place ≡ upto) ⊎ (place ≡ upto → ⊥) → IsMarked all_after at
    by place at other low is there enters (inl same) =
        let alike : other ≡ role = sym there.role ∙ ap (λ (k : ℕ). role_of (get_or walk.rows k [])) same ∙ stands.role in
        marked at (subst (λ (r : List ℕ). Enters walk r at) alike enters)
    by place at other low is there enters (inr differ) = marks.keeps at (has.marked place at other (omega arith) is there enters)

-- ---- rows and their fields

pub field_is : (row : Fields) (at : ℕ) (field : List ℕ) → slice_get row at ≡ Some field → get_or row at [] ≡ field
field_is [] at field is = absurd cc
field_is (first ∷ row) zero field is = same_Some first field is
field_is (first ∷ row) (suc at) field is = field_is row at field is

pub role_at : (walk : Walk) (at : ℕ) (row : Fields) (role : List ℕ) → at < length walk.rows → row ≡ get_or walk.rows at row → slice_get row 1 ≡ Some role → IsRoleAt walk role at
role_at walk at row role within is field = record {
  within = within;
  role = ap role_of (sym (is ∙ get_or_default walk.rows at row [] within)) ∙ field_is row 1 role field;
}

-- a row is entered where the test says so
pub enters_at : (walk : Walk) (name : List ℕ) (at : ℕ) (row : Fields) → at < length walk.rows → row ≡ get_or walk.rows at row → Fits walk.terms.names name (user_of row) × Fits walk.terms.domains walk.text (domain_of row) → Enters walk name at
enters_at walk name at row within is fits =
    let here : row ≡ get_or walk.rows at [] = is ∙ get_or_default walk.rows at row [] within in
    record {
      within = within;
      fits = subst (λ (r : Fields). Fits walk.terms.names name (user_of r)) here fits.0;
      counts = subst (λ (r : Fields). Fits walk.terms.domains walk.text (domain_of r)) here fits.1;
    }

pub entered_fits : (walk : Walk) (name : List ℕ) (at : ℕ) (row : Fields) → at < length walk.rows → row ≡ get_or walk.rows at row → Enters walk name at → Fits walk.terms.names name (user_of row) × Fits walk.terms.domains walk.text (domain_of row)
entered_fits walk name at row within is enters =
    let here : get_or walk.rows at [] ≡ row = sym (is ∙ get_or_default walk.rows at row [] within) in
    (subst (λ (r : Fields). Fits walk.terms.names name (user_of r)) here enters.fits, subst (λ (r : Fields). Fits walk.terms.domains walk.text (domain_of r)) here enters.counts)
