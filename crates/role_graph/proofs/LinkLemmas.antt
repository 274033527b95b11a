-- The two parts of a graph's groups.
use Rattle.std.proofs.Common.{◌≡◌, ◌⊎◌, ◌≤◌, ◌<◌, ◌+◌, ◌-◌, ℕ, Bool, List, [], ◌++◌, None, IsTrue, length, get_or, arith, refl, ap, subst, sym, length-append, inl, inr, true, false}
use Rattle.std.specs.Prelude.{◌↔◌, All}
use Rattle.std.proofs.lemmas.Bool.{cases_eq, cases_lt}
use Rattle.std.proofs.lemmas.List.{get_or-append-add, get_or_append_left}
use Rattle.std.proofs.lemmas.List.Elements.{All-append, All-get_or, Contains-get_or}
use Rattle.perm_base.specs.Patterns.{is_pattern}
use Rattle.role_meaning.specs.Fits.{Fits}
use Rattle.role_meaning.specs.Links.{HasRoles, user_of}
use Rattle.role_meaning.proofs.CallerLemmas.{plain_fits}
use Rattle.role_graph.specs.Graph.{shape_of}
use Rattle.role_graph.specs.Groups.{Group, row, rows_of}
use Rattle.role_graph.specs.Helps.Kept.{AreLinks, linked_of, Parts}
use Rattle.role_graph.specs.Helps.Marks.{Extends, IsSet}
use Rattle.role_graph.specs.Helps.Walks.{FitsAt, no_group}
use Rattle.role_graph.proofs.GroupRows.{InGroup, in_group, row_stands}
use Rattle.role_graph.proofs.MarkLemmas.{extends_weaker}
use Rattle.role_graph.proofs.WalkLemmas.{HasMarked}

-- a group behind the first part is marked, where all of the second are
pub behind_count : (parts : Parts) (name : List ℕ) (upto : ℕ) (all new all_after new_after : List ℕ) → length parts.patterned.groups ≤ upto → HasMarked (linked_of parts) name (length parts.plain.groups) upto all new all_after new_after → (at : ℕ) → length parts.plain.groups ≤ at → FitsAt (linked_of parts) name at → IsSet all_after at
behind_count parts name upto all new all_after new_after every has at behind fits =
    let count : ℕ = length parts.plain.groups in
    let same : count + (at - count) ≡ at = omega arith in
    subst (IsSet all_after) same
    (has.marked (at - count) (omega (arith, length-append parts.plain.groups parts.patterned.groups, fits.within))
    (subst (FitsAt (linked_of parts) name) (sym same) fits))

-- the group of a pattern stands behind those of the first part
pub pattern_fits : (parts : Parts) (name : List ℕ) (at : ℕ) → at < length parts.patterned.groups → Fits parts.names name (get_or parts.patterned.groups at no_group).user → FitsAt (linked_of parts) name (length parts.plain.groups + at)
pattern_fits parts name at within fits =
    let here : get_or (parts.plain.groups ++ parts.patterned.groups) (length parts.plain.groups + at) no_group ≡ get_or parts.patterned.groups at no_group = get_or-append-add parts.plain.groups parts.patterned.groups at no_group in
    record {
      within = simp length-append (omega arith);
      fits = subst (λ (group : Group). Fits parts.names name group.user) (sym here) fits;
    }

pub fits_pattern : (parts : Parts) (name : List ℕ) (at : ℕ) → FitsAt (linked_of parts) name (length parts.plain.groups + at) → Fits parts.names name (get_or parts.patterned.groups at no_group).user
fits_pattern parts name at fits =
    subst (λ (group : Group). Fits parts.names name group.user) (get_or-append-add parts.plain.groups parts.patterned.groups at no_group) fits.fits

-- a name fits the user of a group of the first part exactly where it is that user
pub text_fits : (parts : Parts) (name : List ℕ) (at : ℕ) → AreLinks parts.names parts.plain.groups parts.patterned.groups → at < length parts.plain.groups → FitsAt (linked_of parts) name at → (get_or parts.plain.groups at no_group).user ≡ name
text_fits parts name at sound within fits =
    let here : get_or (parts.plain.groups ++ parts.patterned.groups) at no_group ≡ get_or parts.plain.groups at no_group = get_or_append_left parts.plain.groups parts.patterned.groups no_group at within in
    sym (plain_fits parts.names name (get_or parts.plain.groups at no_group).user
    (All-get_or (λ (group : Group). is_pattern parts.names group.user ≡ false) parts.plain.groups at no_group within sound.texts)
    (subst (λ (group : Group). Fits parts.names name group.user) here fits.fits))

pub fits_text : (parts : Parts) (name : List ℕ) (at : ℕ) → at < length parts.plain.groups → (get_or parts.plain.groups at no_group).user ≡ name → FitsAt (linked_of parts) name at
unfolding Fits
fits_text parts name at within same =
    let here : get_or (parts.plain.groups ++ parts.patterned.groups) at no_group ≡ get_or parts.plain.groups at no_group = get_or_append_left parts.plain.groups parts.patterned.groups no_group at within in
    record {
      within = simp length-append (omega arith);
      fits = subst (λ (group : Group). Fits parts.names name group.user) (sym here) (inl (sym same));
    }

-- the place of a text among the users that are no patterns
abbrev pub IsPlace : List Group → List ℕ → ℕ → Type 0
IsPlace groups name place = (place < length groups) × ((get_or groups place no_group).user ≡ name) × ((other : ℕ) → other < length groups → (get_or groups other no_group).user ≡ name → other ≡ place)

pub text_marked : (parts : Parts) (name : List ℕ) (place : ℕ) (all : List ℕ) → AreLinks parts.names parts.plain.groups parts.patterned.groups → IsPlace parts.plain.groups name place → IsSet all place → (at : ℕ) → at < length parts.plain.groups → FitsAt (linked_of parts) name at → IsSet all at
text_marked parts name place all sound is one at within fits =
    let same : at ≡ place = is.2 at within (text_fits parts name at sound within fits) in
    subst (IsSet all) (sym same) one

pub text_marks : (parts : Parts) (name : List ℕ) (place : ℕ) (all new all_after new_after : List ℕ) → IsPlace parts.plain.groups name place → Extends (λ other. other ≡ place) all new all_after new_after → Extends (λ at. FitsAt (linked_of parts) name at) all new all_after new_after
text_marks parts name place all new all_after new_after is marks =
    extends_weaker (λ other. other ≡ place) (λ at. FitsAt (linked_of parts) name at) all new all_after new_after
    (λ at same. subst (FitsAt (linked_of parts) name) (sym same) (fits_text parts name place is.0 is.1)) marks

pub text_nowhere : (parts : Parts) (name : List ℕ) (all : List ℕ) → AreLinks parts.names parts.plain.groups parts.patterned.groups → ((at : ℕ) → at < length parts.plain.groups → (get_or parts.plain.groups at no_group).user ≡ name → ⊥) → (at : ℕ) → at < length parts.plain.groups → FitsAt (linked_of parts) name at → IsSet all at
text_nowhere parts name all sound none at within fits = absurd (none at within (text_fits parts name at sound within fits))

-- all that a name fits is marked, where what it fits in each part is
pub both_parts : (parts : Parts) (name : List ℕ) (between all : List ℕ) → ((at : ℕ) → IsSet between at → IsSet all at) → ((at : ℕ) → at < length parts.plain.groups → FitsAt (linked_of parts) name at → IsSet between at) → ((at : ℕ) → length parts.plain.groups ≤ at → FitsAt (linked_of parts) name at → IsSet all at) → (at : ℕ) → FitsAt (linked_of parts) name at → IsSet all at
both_parts parts name between all keeps texts patterns at fits = by (cases_lt at (length parts.plain.groups))
  where
    by : (at < length parts.plain.groups) ⊎ (length parts.plain.groups ≤ at) → IsSet all at
    by (inl within) = keeps at (texts at within fits)
    by (inr behind) = patterns at behind fits

-- a name that is a user fits it
pub text_fitting : (parts : Parts) (name : List ℕ) (place : ℕ) → IsPlace parts.plain.groups name place → IsTrue true ↔ ((at : ℕ) × FitsAt (linked_of parts) name at)
text_fitting parts name place is = (λ holds. (place, fits_text parts name place is.0 is.1), λ fits. refl)

-- and another fits none but patterns
pub rest_fitting : (parts : Parts) (name : List ℕ) (test : Bool) → AreLinks parts.names parts.plain.groups parts.patterned.groups → ((at : ℕ) → at < length parts.plain.groups → (get_or parts.plain.groups at no_group).user ≡ name → ⊥) → IsTrue test ↔ ((at : ℕ) × (length parts.plain.groups ≤ at) × FitsAt (linked_of parts) name at) → IsTrue test ↔ ((at : ℕ) × FitsAt (linked_of parts) name at)
rest_fitting parts name test sound none patterns = (λ holds. let found = patterns.0 holds in (found.0, found.2), λ (at, fits). patterns.1 (by at fits (cases_lt at (length parts.plain.groups))))
  where
    by : (at : ℕ) → FitsAt (linked_of parts) name at → (at < length parts.plain.groups) ⊎ (length parts.plain.groups ≤ at) → (place : ℕ) × (length parts.plain.groups ≤ place) × FitsAt (linked_of parts) name place
    by at fits (inl within) = absurd (none at within (text_fits parts name at sound within fits))
    by at fits (inr behind) = (at, behind, fits)

-- the patterns before a place are not fitted
pub record FitsNone (parts : Parts) (name : List ℕ) (upto : ℕ) : Type 0 where
  pub before : (at : ℕ) → at < upto → FitsAt (linked_of parts) name (length parts.plain.groups + at) → ⊥

pub fits_none_first : (parts : Parts) (name : List ℕ) → FitsNone parts name 0
fits_none_first parts name = record { before = λ at low. absurd (omega arith) }

pub fits_none_more : (parts : Parts) (name : List ℕ) (upto : ℕ) → (Fits parts.names name (get_or parts.patterned.groups upto no_group).user → ⊥) → FitsNone parts name upto → FitsNone parts name (upto + 1)
fits_none_more parts name upto other none = record { before = λ at low fits. by at low fits (cases_eq at upto) }
  where
    by : (at : ℕ) → at < upto + 1 → FitsAt (linked_of parts) name (length parts.plain.groups + at) → (at ≡ upto) ⊎ (at ≡ upto → ⊥) → ⊥
    by at low fits (inl same) = other (fits_pattern parts name upto (subst (λ (k : ℕ). FitsAt (linked_of parts) name (length parts.plain.groups + k)) same fits))
    by at low fits (inr differ) = none.before at (omega arith) fits

-- none is fitted, where none before their number is
pub fits_none_all : (parts : Parts) (name : List ℕ) (upto : ℕ) → length parts.patterned.groups ≤ upto → FitsNone parts name upto → (at : ℕ) × (length parts.plain.groups ≤ at) × FitsAt (linked_of parts) name at → ⊥
fits_none_all parts name upto every none (at, behind, fits) =
    let count : ℕ = length parts.plain.groups in
    let same : at ≡ count + (at - count) = omega arith in
    none.before (at - count) (omega (arith, length-append parts.plain.groups parts.patterned.groups, fits.within)) (subst (FitsAt (linked_of parts) name) same fits)

-- a name fits a user exactly where it has a role by that user's row
pub roles_told : (parts : Parts) (name : List ℕ) (test : Bool) → AreLinks parts.names parts.plain.groups parts.patterned.groups → IsTrue test ↔ ((at : ℕ) × FitsAt (linked_of parts) name at) → IsTrue test ↔ HasRoles (shape_of parts.names) (rows_of (linked_of parts).groups) None name
roles_told parts name test sound told = (λ holds. by (told.0 holds), λ has. told.1 (back has (in_group (linked_of parts).groups has.row has.stands)))
  where
    some : All (λ (group : Group). 0 < length group.roles) (linked_of parts).groups
    some = All-append (λ (group : Group). 0 < length group.roles) parts.plain.groups parts.patterned.groups sound.kept_texts.some sound.kept_patterns.some

    by : (at : ℕ) × FitsAt (linked_of parts) name at → HasRoles (shape_of parts.names) (rows_of (linked_of parts).groups) None name
    by (at, fits) =
        let group : Group = get_or (linked_of parts).groups at no_group in
        let role : List ℕ = get_or group.roles 0 [] in
        record {
          row = row group.user role;
          stands = row_stands (linked_of parts).groups at role fits.within (Contains-get_or group.roles 0 [] (All-get_or (λ (g : Group). 0 < length g.roles) (linked_of parts).groups at no_group fits.within some));
          fits = fits.fits;
          counts = tt;
          holds = tt;
        }

    back : (has : HasRoles (shape_of parts.names) (rows_of (linked_of parts).groups) None name) → InGroup (linked_of parts).groups has.row → (at : ℕ) × FitsAt (linked_of parts) name at
    back has found = (found.at, record { within = found.within; fits = subst (Fits parts.names name) (ap user_of found.is) has.fits })

-- ---- the next group that a name fits

-- a group whose user the name is, and the only one among those that are no patterns
pub text_first : (parts : Parts) (name : List ℕ) (place other : ℕ) → AreLinks parts.names parts.plain.groups parts.patterned.groups → IsPlace parts.plain.groups name place → other < length parts.plain.groups → FitsAt (linked_of parts) name other → other ≡ place
text_first parts name place other sound is within fits = is.2 other within (text_fits parts name other sound within fits)

pub text_none : (parts : Parts) (name : List ℕ) (other : ℕ) → AreLinks parts.names parts.plain.groups parts.patterned.groups → ((at : ℕ) → at < length parts.plain.groups → (get_or parts.plain.groups at no_group).user ≡ name → ⊥) → other < length parts.plain.groups → FitsAt (linked_of parts) name other → ⊥
text_none parts name other sound none within fits = none other within (text_fits parts name other sound within fits)

-- a pattern by its place among all groups
pub pattern_at : (parts : Parts) (name : List ℕ) (at : ℕ) → length parts.plain.groups ≤ at → at < length (linked_of parts).groups → Fits parts.names name (get_or parts.patterned.groups (at - length parts.plain.groups) no_group).user → FitsAt (linked_of parts) name at
pattern_at parts name at past within fits =
    let same : length parts.plain.groups + (at - length parts.plain.groups) ≡ at = omega arith in
    subst (FitsAt (linked_of parts) name) same
    (pattern_fits parts name (at - length parts.plain.groups) (omega (arith, within, length-append parts.plain.groups parts.patterned.groups)) fits)

pub at_pattern : (parts : Parts) (name : List ℕ) (at : ℕ) → length parts.plain.groups ≤ at → FitsAt (linked_of parts) name at → Fits parts.names name (get_or parts.patterned.groups (at - length parts.plain.groups) no_group).user
at_pattern parts name at past fits =
    let same : at ≡ length parts.plain.groups + (at - length parts.plain.groups) = omega arith in
    fits_pattern parts name (at - length parts.plain.groups) (subst (FitsAt (linked_of parts) name) same fits)
