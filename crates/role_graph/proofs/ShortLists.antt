-- Groups in a short list, and the marks that it stands for.
use Rattle.std.proofs.Common.{◌≡◌, ◌⊎◌, inl, inr, ◌<◌, ◌≤◌, ◌+◌, ◌-◌, ◌*◌, ◌/◌, ◌%◌, ◌^◌, ◌∙◌, ℕ, Bool, false, List, [], ◌∷◌, ◌++◌, Some, IsTrue, length, get_or, take, drop, set, replicate, refl, sym, ap, subst, arith, append_assoc, append-nil, length-append}
use Rattle.std.specs.Prelude.{◌↔◌, bit_or}
use Rattle.std.specs.List.{Contains}
use Rattle.std.proofs.lemmas.Bool.{cases_eq, cases_lt, false≢true}
use Rattle.std.proofs.lemmas.List.{get_or-drop, get_or_append_left, get_or_default, length-drop, length-replicate, length-set, take_all, take_more}
use Rattle.std.proofs.lemmas.List.Elements.{Contains-append_cases, Contains-append_left, Contains-get_or, Contains-push, Contains-push_cases}
use Rattle.std.proofs.Math.Seq.{drop-append_seam}
use Rattle.role_meaning.specs.Fits.{Fits}
use Rattle.role_meaning.proofs.CallerLemmas.{stands_behind, stands_cases, stands_here, stands_nowhere}
use Rattle.role_graph.specs.Helps.Kept.{AreLinks, Parts, linked_of}
use Rattle.role_graph.specs.Helps.Lists.{FitsSome, GoesOnFrom, HasSoughtFrom, Lists}
use Rattle.role_graph.specs.Helps.Marks.{IsNext, IsSet}
use Rattle.role_graph.specs.Helps.Walks.{FitsAt, GoesOn, HasSought, IsFirst, IsRoleAt, IsSought, Linked, ReachesSought, no_group}
use Rattle.role_graph.specs.declared.walk.Sought.{Sought}
use Rattle.role_graph.proofs.LinkLemmas.{IsPlace, fits_pattern, fits_text, pattern_fits, text_first, text_none}
use Rattle.role_graph.proofs.MarkLemmas.{none_marked, set_here, set_keeps, set_only}
use Rattle.role_graph.proofs.SeekLemmas.{IsSeeking, seek_begins, seek_ends, seek_on, seek_past, seek_stops}

-- ---- what is listed

pub lists_none : (Wanted Allowed : ℕ → Type 0) (old : List ℕ) → ((at : ℕ) → Wanted at → ⊥) → Lists Wanted Allowed old old
lists_none Wanted Allowed old never = record { added = []; is = sym (append-nil old); sound = λ at none. absurd (stands_nowhere at none); whole = λ at wanted. absurd (never at wanted) }

pub lists_weaker : (Wanted Other Allowed More : ℕ → Type 0) (old new : List ℕ) → ((at : ℕ) → Other at → Wanted at) → ((at : ℕ) → Allowed at → More at) → Lists Wanted Allowed old new → Lists Other More old new
lists_weaker Wanted Other Allowed More old new less more lists = record { added = lists.added; is = lists.is; sound = λ at stands. more at (lists.sound at stands); whole = λ at other. lists.whole at (less at other) }

-- one list behind another
pub lists_both : (One Other Wanted Allowed : ℕ → Type 0) (old mid new : List ℕ) → ((at : ℕ) → Wanted at → One at ⊎ Other at) → Lists One Allowed old mid → Lists Other Allowed mid new → Lists Wanted Allowed old new
lists_both One Other Wanted Allowed old mid new which first second = record {
  added = first.added ++ second.added;
  is = second.is ∙ ap (λ (l : List ℕ). l ++ second.added) first.is ∙ append_assoc old first.added second.added;
  sound = λ at stands. sound at (Contains-append_cases first.added second.added at stands);
  whole = λ at wanted. whole at (which at wanted);
}
  where
    sound : (at : ℕ) → Contains first.added at ⊎ Contains second.added at → Allowed at
    sound at (inl one) = first.sound at one
    sound at (inr other) = second.sound at other

    whole : (at : ℕ) → One at ⊎ Other at → Contains new at
    whole at (inl one) = subst (λ (l : List ℕ). Contains l at) (sym second.is) (Contains-append_left mid second.added at (first.whole at one))
    whole at (inr other) = second.whole at other

-- one place
pub listed_there : (old : List ℕ) (place : ℕ) → Contains old place → Lists (λ at. at ≡ place) (λ at. at ≡ place) old old
listed_there old place stands = record {
  added = [];
  is = sym (append-nil old);
  sound = λ at none. absurd (stands_nowhere at none);
  whole = λ at same. subst (Contains old) (sym same) stands;
}

pub listed_new : (old new : List ℕ) (place : ℕ) → new ≡ old ++ place ∷ [] → Lists (λ at. at ≡ place) (λ at. at ≡ place) old new
listed_new old new place is = record {
  added = place ∷ [];
  is = is;
  sound = λ at stands. by at (Contains-push_cases [] place at stands);
  whole = λ at same. subst (Contains new) (sym same) (subst (λ (l : List ℕ). Contains l place) (sym is) (Contains-push old place));
}
  where
    by : (at : ℕ) → Contains [] at ⊎ (place ≡ at) → at ≡ place
    by at (inl none) = absurd (stands_nowhere at none)
    by at (inr same) = sym same

-- the group whose user a name is
pub text_listed : (parts : Parts) (name : List ℕ) (place : ℕ) (old new : List ℕ) → AreLinks parts.names parts.plain.groups parts.patterned.groups → IsPlace parts.plain.groups name place → Lists (λ at. at ≡ place) (λ at. at ≡ place) old new
    → Lists (λ at. (at < length parts.plain.groups) × FitsAt (linked_of parts) name at) (λ at. FitsAt (linked_of parts) name at) old new
text_listed parts name place old new sound is lists =
    lists_weaker (λ at. at ≡ place) (λ at. (at < length parts.plain.groups) × FitsAt (linked_of parts) name at) (λ at. at ≡ place) (λ at. FitsAt (linked_of parts) name at) old new
    (λ at (within, fits). text_first parts name place at sound is within fits) (λ at same. subst (FitsAt (linked_of parts) name) (sym same) (fits_text parts name place is.0 is.1)) lists

pub text_unlisted : (parts : Parts) (name : List ℕ) (old : List ℕ) → AreLinks parts.names parts.plain.groups parts.patterned.groups → ((at : ℕ) → at < length parts.plain.groups → (get_or parts.plain.groups at no_group).user ≡ name → ⊥)
    → Lists (λ at. (at < length parts.plain.groups) × FitsAt (linked_of parts) name at) (λ at. FitsAt (linked_of parts) name at) old old
text_unlisted parts name old sound none =
    lists_none (λ at. (at < length parts.plain.groups) × FitsAt (linked_of parts) name at) (λ at. FitsAt (linked_of parts) name at) old (λ at (within, fits). text_none parts name at sound none within fits)

-- the groups whose users are patterns, up to a place among them
abbrev pub FitsPattern : Parts → List ℕ → ℕ → ℕ → Type 0
FitsPattern parts name upto at = (length parts.plain.groups ≤ at) × (at < length parts.plain.groups + upto) × FitsAt (linked_of parts) name at

pub patterns_first : (parts : Parts) (name old : List ℕ) → Lists (FitsPattern parts name 0) (FitsAt (linked_of parts) name) old old
patterns_first parts name old = lists_none (FitsPattern parts name 0) (FitsAt (linked_of parts) name) old (λ at (past, low, fits). omega (arith, past, low))

-- a pattern that the name does not fit
pub patterns_past : (parts : Parts) (name : List ℕ) (upto : ℕ) (old now : List ℕ) → (Fits parts.names name (get_or parts.patterned.groups upto no_group).user → ⊥) → Lists (FitsPattern parts name upto) (FitsAt (linked_of parts) name) old now → Lists (FitsPattern parts name (upto + 1)) (FitsAt (linked_of parts) name) old now
patterns_past parts name upto old now never lists =
    lists_weaker (FitsPattern parts name upto) (FitsPattern parts name (upto + 1)) (FitsAt (linked_of parts) name) (FitsAt (linked_of parts) name) old now (λ at (past, low, fits). by at past low fits (cases_eq at (length parts.plain.groups + upto))) (λ at fits. fits) lists
  where
    by : (at : ℕ) → length parts.plain.groups ≤ at → at < length parts.plain.groups + (upto + 1) → FitsAt (linked_of parts) name at → (at ≡ length parts.plain.groups + upto) ⊎ (at ≡ length parts.plain.groups + upto → ⊥) → FitsPattern parts name upto at
    by at past low fits (inl same) = absurd (never (fits_pattern parts name upto (subst (FitsAt (linked_of parts) name) same fits)))
    by at past low fits (inr differ) = (past, omega (arith, low, differ), fits)

-- one that it fits
pub patterns_on : (parts : Parts) (name : List ℕ) (upto : ℕ) (old now after : List ℕ) → upto < length parts.patterned.groups → Fits parts.names name (get_or parts.patterned.groups upto no_group).user
    → Lists (λ at. at ≡ length parts.plain.groups + upto) (λ at. at ≡ length parts.plain.groups + upto) now after → Lists (FitsPattern parts name upto) (FitsAt (linked_of parts) name) old now → Lists (FitsPattern parts name (upto + 1)) (FitsAt (linked_of parts) name) old after
patterns_on parts name upto old now after within fits one lists =
    lists_both (FitsPattern parts name upto) (λ at. at ≡ length parts.plain.groups + upto) (FitsPattern parts name (upto + 1)) (FitsAt (linked_of parts) name) old now after (λ at (past, low, fit). by at past low fit (cases_eq at (length parts.plain.groups + upto))) lists
    (lists_weaker (λ at. at ≡ length parts.plain.groups + upto) (λ at. at ≡ length parts.plain.groups + upto) (λ at. at ≡ length parts.plain.groups + upto) (FitsAt (linked_of parts) name) now after (λ at same. same)
    (λ at same. subst (FitsAt (linked_of parts) name) (sym same) (pattern_fits parts name upto within fits)) one)
  where
    by : (at : ℕ) → length parts.plain.groups ≤ at → at < length parts.plain.groups + (upto + 1) → FitsAt (linked_of parts) name at → (at ≡ length parts.plain.groups + upto) ⊎ (at ≡ length parts.plain.groups + upto → ⊥) → FitsPattern parts name upto at ⊎ (at ≡ length parts.plain.groups + upto)
    by at past low fit (inl same) = inr same
    by at past low fit (inr differ) = inl (past, omega (arith, low, differ), fit)

pub patterns_last : (parts : Parts) (name : List ℕ) (upto : ℕ) (old now : List ℕ) → length parts.patterned.groups ≤ upto → Lists (FitsPattern parts name upto) (FitsAt (linked_of parts) name) old now
    → Lists (λ at. (length parts.plain.groups ≤ at) × FitsAt (linked_of parts) name at) (FitsAt (linked_of parts) name) old now
patterns_last parts name upto old now every lists =
    lists_weaker (FitsPattern parts name upto) (λ at. (length parts.plain.groups ≤ at) × FitsAt (linked_of parts) name at) (FitsAt (linked_of parts) name) (FitsAt (linked_of parts) name) old now
    (λ at (past, fits). (past, (let within : at < length (linked_of parts).groups = fits.within in omega (arith, within, every, length-append parts.plain.groups parts.patterned.groups)), fits)) (λ at fits. fits) lists

-- both parts
pub parts_listed : (parts : Parts) (name : List ℕ) (old mid new : List ℕ) → Lists (λ at. (at < length parts.plain.groups) × FitsAt (linked_of parts) name at) (FitsAt (linked_of parts) name) old mid → Lists (λ at. (length parts.plain.groups ≤ at) × FitsAt (linked_of parts) name at) (FitsAt (linked_of parts) name) mid new
    → Lists (FitsAt (linked_of parts) name) (FitsAt (linked_of parts) name) old new
parts_listed parts name old mid new first second =
    lists_both (λ at. (at < length parts.plain.groups) × FitsAt (linked_of parts) name at) (λ at. (length parts.plain.groups ≤ at) × FitsAt (linked_of parts) name at) (FitsAt (linked_of parts) name) (FitsAt (linked_of parts) name) old mid new
    (λ at fits. by at fits (cases_lt at (length parts.plain.groups))) first second
  where
    by : (at : ℕ) → FitsAt (linked_of parts) name at → (at < length parts.plain.groups) ⊎ (length parts.plain.groups ≤ at) → ((at < length parts.plain.groups) × FitsAt (linked_of parts) name at) ⊎ ((length parts.plain.groups ≤ at) × FitsAt (linked_of parts) name at)
    by at fits (inl within) = inl (within, fits)
    by at fits (inr past) = inr (past, fits)

-- ---- the loops over names and groups

-- the names before a place, as far as some name of all is allowed
abbrev pub ListsNames : Linked → List (List ℕ) → ℕ → List ℕ → List ℕ → Type 0
ListsNames linked names upto old now = Lists (FitsSome linked (take upto names)) (FitsSome linked names) old now

pub names_first : (linked : Linked) (names : List (List ℕ)) (old : List ℕ) → ListsNames linked names 0 old old
names_first linked names old = lists_none (FitsSome linked []) (FitsSome linked names) old (λ at (name, none, fits). stands_nowhere name none)

pub names_on : (linked : Linked) (names : List (List ℕ)) (upto : ℕ) (item bytes : List ℕ) (old now after : List ℕ) → upto < length names → item ≡ get_or names upto item → bytes ≡ item → Lists (FitsAt linked bytes) (FitsAt linked bytes) now after → ListsNames linked names upto old now → ListsNames linked names (upto + 1) old after
names_on linked names upto item bytes old now after within is same one lists =
    lists_both (FitsSome linked (take upto names)) (FitsAt linked bytes) (FitsSome linked (take (upto + 1) names)) (FitsSome linked names) old now after (λ at (name, stands, fits). by at name fits (Contains-push_cases (take upto names) item name (subst (λ (l : List (List ℕ)). Contains l name) longer stands))) lists
    (lists_weaker (FitsAt linked bytes) (FitsAt linked bytes) (FitsAt linked bytes) (FitsSome linked names) now after (λ at fits. fits)
    (λ at fits. (item, subst (Contains names) (sym is) (Contains-get_or names upto item within), subst (λ (n : List ℕ). FitsAt linked n at) same fits)) one)
  where
    longer : take (upto + 1) names ≡ take upto names ++ item ∷ []
    longer = take_more names upto item within ∙ ap (λ (n : List ℕ). take upto names ++ n ∷ []) (sym is)

    by : (at : ℕ) (name : List ℕ) → FitsAt linked name at → Contains (take upto names) name ⊎ (item ≡ name) → FitsSome linked (take upto names) at ⊎ FitsAt linked bytes at
    by at name fits (inl early) = inl (name, early, fits)
    by at name fits (inr here) = inr (subst (λ (n : List ℕ). FitsAt linked n at) (sym (same ∙ here)) fits)

pub names_last : (linked : Linked) (names : List (List ℕ)) (upto : ℕ) (old now : List ℕ) → length names ≤ upto → ListsNames linked names upto old now → Lists (FitsSome linked names) (FitsSome linked names) old now
names_last linked names upto old now every lists = subst (λ (l : List (List ℕ)). Lists (FitsSome linked l) (FitsSome linked names) old now) (take_all upto names every) lists

-- the listed groups from one place to another, as far as all are allowed
abbrev pub ListsGroups : Linked → List ℕ → ℕ → ℕ → List ℕ → Type 0
ListsGroups linked listed from upto now = Lists (GoesOnFrom linked listed from upto) (GoesOnFrom linked listed from (length listed)) listed now

pub groups_first : (linked : Linked) (listed : List ℕ) (from : ℕ) → ListsGroups linked listed from from listed
groups_first linked listed from = lists_none (GoesOnFrom linked listed from from) (GoesOnFrom linked listed from (length listed)) listed (λ at goes. let past : from ≤ goes.index = goes.behind in let low : goes.index < from = goes.before in omega (arith, past, low))

-- what stood in the list stands at its place still
pub still_at : (linked : Linked) (listed now : List ℕ) (from upto index : ℕ) → index < length listed → ListsGroups linked listed from upto now → get_or now index 0 ≡ get_or listed index 0
still_at linked listed now from upto index within lists = ap (λ (l : List ℕ). get_or l index 0) lists.is ∙ get_or_append_left listed lists.added 0 index within

pub groups_on : (linked : Linked) (listed now after : List ℕ) (from upto group : ℕ) (roles : List (List ℕ)) → from ≤ upto → upto < length listed → group ≡ get_or listed upto 0 → group < length linked.groups → roles ≡ (get_or linked.groups group no_group).roles
    → Lists (FitsSome linked roles) (FitsSome linked roles) now after → ListsGroups linked listed from upto now → ListsGroups linked listed from (upto + 1) after
groups_on linked listed now after from upto group roles past within is inside are one lists =
    lists_both (GoesOnFrom linked listed from upto) (FitsSome linked roles) (GoesOnFrom linked listed from (upto + 1)) (GoesOnFrom linked listed from (length listed)) listed now after (λ at goes. by at goes (cases_eq goes.index upto)) lists
    (lists_weaker (FitsSome linked roles) (FitsSome linked roles) (FitsSome linked roles) (GoesOnFrom linked listed from (length listed)) now after (λ at fits. fits)
    (λ at (role, stands, fits). record {
      index = upto;
      behind = past;
      before = within;
      role = role;
      stands = subst (IsRoleAt linked role) is (record { within = inside; stands = subst (λ (l : List (List ℕ)). Contains l role) are stands });
      fits = fits;
    }) one)
  where
    by : (at : ℕ) (goes : GoesOnFrom linked listed from (upto + 1) at) → (goes.index ≡ upto) ⊎ (goes.index ≡ upto → ⊥) → GoesOnFrom linked listed from upto at ⊎ FitsSome linked roles at
    by at goes (inr differ) = inl (record { index = goes.index; behind = goes.behind; before = (let low : goes.index < upto + 1 = goes.before in omega (arith, low, differ)); role = goes.role; stands = goes.stands; fits = goes.fits })
    by at goes (inl same) =
        let there : IsRoleAt linked goes.role group = subst (IsRoleAt linked goes.role) (ap (λ (k : ℕ). get_or listed k 0) same ∙ sym is) goes.stands in
        inr (goes.role, subst (λ (l : List (List ℕ)). Contains l goes.role) (sym are) there.stands, goes.fits)

pub groups_last : (linked : Linked) (listed now : List ℕ) (from upto : ℕ) → length listed ≤ upto → ListsGroups linked listed from upto now → Lists (GoesOnFrom linked listed from (length listed)) (GoesOnFrom linked listed from (length listed)) listed now
groups_last linked listed now from upto every lists =
    lists_weaker (GoesOnFrom linked listed from upto) (GoesOnFrom linked listed from (length listed)) (GoesOnFrom linked listed from (length listed)) (GoesOnFrom linked listed from (length listed)) listed now
    (λ at goes. record { index = goes.index; behind = goes.behind; before = (let low : goes.index < length listed = goes.before in omega (arith, low, every)); role = goes.role; stands = goes.stands; fits = goes.fits }) (λ at goes. goes) lists

-- none of the listed groups before a place has a role that is sought
pub record NoneFrom (linked : Linked) (sought : Sought) (listed : List ℕ) (from upto : ℕ) : Type 0 where
  pub none : HasSoughtFrom linked sought listed from upto → ⊥

pub none_from_first : (linked : Linked) (sought : Sought) (listed : List ℕ) (from : ℕ) → NoneFrom linked sought listed from from
none_from_first linked sought listed from = record { none = λ found. let past : from ≤ found.index = found.behind in let low : found.index < from = found.before in omega (arith, past, low) }

pub none_from_on : (linked : Linked) (sought : Sought) (listed : List ℕ) (from upto group : ℕ) (roles : List (List ℕ)) (test : Bool) → group ≡ get_or listed upto 0 → roles ≡ (get_or linked.groups group no_group).roles → test ≡ false → IsTrue test ↔ ((name : List ℕ) × Contains roles name × IsSought linked sought name)
    → NoneFrom linked sought listed from upto → NoneFrom linked sought listed from (upto + 1)
none_from_on linked sought listed from upto group roles test is are fails told before = record { none = λ found. by found (cases_eq found.index upto) }
  where
    by : (found : HasSoughtFrom linked sought listed from (upto + 1)) → (found.index ≡ upto) ⊎ (found.index ≡ upto → ⊥) → ⊥
    by found (inr differ) = before.none (record { index = found.index; behind = found.behind; before = (let low : found.index < upto + 1 = found.before in omega (arith, low, differ)); role = found.role; stands = found.stands; is = found.is })
    by found (inl same) =
        let there : IsRoleAt linked found.role group = subst (IsRoleAt linked found.role) (ap (λ (k : ℕ). get_or listed k 0) same ∙ sym is) found.stands in
        false≢true (sym fails ∙ told.1 (found.role, subst (λ (l : List (List ℕ)). Contains l found.role) (sym are) there.stands, found.is))

pub some_from : (linked : Linked) (sought : Sought) (listed : List ℕ) (from at group : ℕ) (roles : List (List ℕ)) → from ≤ at → at < length listed → group ≡ get_or listed at 0 → group < length linked.groups → roles ≡ (get_or linked.groups group no_group).roles
    → (name : List ℕ) × Contains roles name × IsSought linked sought name → HasSoughtFrom linked sought listed from (length listed)
some_from linked sought listed from at group roles past within is inside are (name, stands, sought_is) = record {
  index = at;
  behind = past;
  before = within;
  role = name;
  stands = subst (IsRoleAt linked name) is (record { within = inside; stands = subst (λ (l : List (List ℕ)). Contains l name) are stands });
  is = sought_is;
}

pub none_from_last : (linked : Linked) (sought : Sought) (listed : List ℕ) (from upto : ℕ) → length listed ≤ upto → NoneFrom linked sought listed from upto → HasSoughtFrom linked sought listed from (length listed) → ⊥
none_from_last linked sought listed from upto every before found =
    before.none (record { index = found.index; behind = found.behind; before = (let low : found.index < length listed = found.before in omega (arith, low, every)); role = found.role; stands = found.stands; is = found.is })

-- ---- the marks that a list stands for

abbrev pub marks_of : List ℕ → List ℕ
marks_of [] = replicate 3125 0
marks_of (place ∷ places) = set (marks_of places) (place / 64) (bit_or (get_or (marks_of places) (place / 64) 0) (1 * 2 ^ (place % 64) % 2 ^ 64))

-- each place of the list is one that may be marked
abbrev pub AreSmall : List ℕ → Type 0
AreSmall places = (at : ℕ) → Contains places at → at < 200000

long : (places : List ℕ) → length (marks_of places) ≡ 3125
long [] = length-replicate {A = ℕ} 3125 0
long (place ∷ places) = length-set (marks_of places) (place / 64) _ ∙ long places

room : (places : List ℕ) (place : ℕ) → place < 200000 → place / 64 < length (marks_of places)
room places place small = omega (arith, small, long places)

pub mark_of : (places : List ℕ) (at : ℕ) → AreSmall places → Contains places at → IsSet (marks_of places) at
mark_of [] at small none = absurd (stands_nowhere at none)
mark_of (place ∷ places) at small stands = by (stands_cases place places at stands) (mark_of places at (λ other there. small other (stands_behind place places other there)))
  where
    within : place / 64 < length (marks_of places)
    within = room places place (small place (stands_here place places))

    by : (place ≡ at) ⊎ Contains places at → (Contains places at → IsSet (marks_of places) at) → IsSet (marks_of (place ∷ places)) at
    by (inl same) more = subst (IsSet (marks_of (place ∷ places))) same (set_here (marks_of places) place (get_or (marks_of places) (place / 64) 0) within refl)
    by (inr behind) more = set_keeps (marks_of places) place (get_or (marks_of places) (place / 64) 0) within refl at (more behind)

pub place_of : (places : List ℕ) (at : ℕ) → AreSmall places → IsSet (marks_of places) at → Contains places at
place_of [] at small one = absurd (none_marked at one)
place_of (place ∷ places) at small one =
    by (set_only (marks_of places) place (get_or (marks_of places) (place / 64) 0) (room places place (small place (stands_here place places))) refl at one) (place_of places at (λ other there. small other (stands_behind place places other there)))
  where
    by : IsSet (marks_of places) at ⊎ (at ≡ place) → (IsSet (marks_of places) at → Contains places at) → Contains (place ∷ places) at
    by (inl early) more = stands_behind place places at (more early)
    by (inr same) more = subst (Contains (place ∷ places)) (sym same) (stands_here place places)

-- ---- a walk that lists its groups

-- those that were listed before a place were reached by fewer links
pub record IsListing (linked : Linked) (sought : Sought) (x : List ℕ) (level from : ℕ) (listed : List ℕ) : Type 0 where
  pub before : from ≤ length listed
  pub small : AreSmall listed
  pub seeking : IsSeeking linked sought x level (marks_of listed) (marks_of (drop from listed))

small_fits : (linked : Linked) (name : List ℕ) (at : ℕ) → length linked.groups ≤ 200000 → FitsAt linked name at → at < 200000
small_fits linked name at few fits = let within : at < length linked.groups = fits.within in omega arith

-- what stands behind a place stands in the list
pub behind_stands : (listed : List ℕ) (from at : ℕ) → Contains (drop from listed) at → Contains listed at
behind_stands listed from at (k, within, here) = (
  from + k,
  let short : length (drop from listed) ≡ length listed - from = length-drop from listed in omega (arith, short, within),
  sym (get_or-drop from listed k at) ∙ here,
)

-- the groups that a name fits, as a first list
pub record IsFirstListed (linked : Linked) (x listed : List ℕ) : Type 0 where
  pub small : AreSmall listed
  pub next : IsNext (λ at. FitsAt linked x at) (marks_of []) (marks_of listed) (marks_of (drop 0 listed))
  pub marked : (at : ℕ) → FitsAt linked x at → IsSet (marks_of listed) at

pub first_listed : (linked : Linked) (x listed : List ℕ) → length linked.groups ≤ 200000 → Lists (λ at. FitsAt linked x at) (λ at. FitsAt linked x at) [] listed → IsFirstListed linked x listed
first_listed linked x listed few lists = record {
  small = small;
  next = record {
    keeps = λ at one. absurd (none_marked at one);
    only = λ at one. inr one;
    new_ones = λ at one. (one, small_added at (place_of listed at small one));
  };
  marked = λ at fits. mark_of listed at small (lists.whole at fits);
}
  where
    small_added : (at : ℕ) → Contains listed at → FitsAt linked x at
    small_added at stands = lists.sound at (subst (λ (l : List ℕ). Contains l at) lists.is stands)

    small : AreSmall listed
    small at stands = small_fits linked x at few (small_added at stands)

pub listing_begins : (linked : Linked) (sought : Sought) (x listed : List ℕ) → length linked.groups ≤ 200000 → (IsSought linked sought x → ⊥) → Lists (λ at. FitsAt linked x at) (λ at. FitsAt linked x at) [] listed → IsListing linked sought x 0 0 listed
listing_begins linked sought x listed few never lists =
    let first : IsFirstListed linked x listed = first_listed linked x listed few lists in
    record {
      before = omega arith;
      small = first.small;
      seeking = seek_begins linked sought x (marks_of []) (marks_of listed) (marks_of (drop 0 listed)) none_marked first.next first.marked never;
    }

-- what is listed behind a list, where the groups of its last level go on
pub record IsNextListed (linked : Linked) (from : ℕ) (listed after : List ℕ) : Type 0 where
  pub small : AreSmall after
  pub next : IsNext (λ at. GoesOn linked (marks_of (drop from listed)) at) (marks_of listed) (marks_of after) (marks_of (drop (length listed) after))
  pub marked : (place at : ℕ) (role : List ℕ) → IsSet (marks_of (drop from listed)) place → IsRoleAt linked role place → FitsAt linked role at → IsSet (marks_of after) at

index_within : (listed : List ℕ) (from k : ℕ) → k < length (drop from listed) → from + k < length listed
index_within listed from k within = let short : length (drop from listed) ≡ length listed - from = length-drop from listed in omega (arith, short, within)

pub next_listed : (linked : Linked) (from : ℕ) (listed after : List ℕ) → length linked.groups ≤ 200000 → AreSmall listed
    → Lists (GoesOnFrom linked listed from (length listed)) (GoesOnFrom linked listed from (length listed)) listed after → IsNextListed linked from listed after
next_listed linked from listed after few small_listed lists = record {
  small = small;
  next = record {
    keeps = λ at one. mark_of after at small (earlier at (place_of listed at small_listed one));
    only = λ at one. only at (Contains-append_cases listed lists.added at (subst (λ (l : List ℕ). Contains l at) lists.is (place_of after at small one)));
    new_ones = λ at one. new_ones at (place_of (drop (length listed) after) at small_added one);
  };
  marked = λ place at role one stands fits. mark_of after at small (lists.whole at (goes place at role (place_of (drop from listed) place small_new one) stands fits));
}
  where
    last : drop (length listed) after ≡ lists.added
    last = ap (drop (length listed)) lists.is ∙ drop-append_seam listed lists.added

    earlier : (at : ℕ) → Contains listed at → Contains after at
    earlier at stands = subst (λ (l : List ℕ). Contains l at) (sym lists.is) (Contains-append_left listed lists.added at stands)

    small_from : (at : ℕ) → Contains listed at ⊎ Contains lists.added at → at < 200000
    small_from at (inl stands) = small_listed at stands
    small_from at (inr stands) = let goes = lists.sound at stands in small_fits linked goes.role at few goes.fits

    small : AreSmall after
    small at stands = small_from at (Contains-append_cases listed lists.added at (subst (λ (l : List ℕ). Contains l at) lists.is stands))

    small_new : AreSmall (drop from listed)
    small_new at stands = small_listed at (behind_stands listed from at stands)

    small_added : AreSmall (drop (length listed) after)
    small_added at stands = small at (behind_stands after (length listed) at stands)

    only : (at : ℕ) → Contains listed at ⊎ Contains lists.added at → IsSet (marks_of listed) at ⊎ IsSet (marks_of (drop (length listed) after)) at
    only at (inl stands) = inl (mark_of listed at small_listed stands)
    only at (inr stands) = inr (mark_of (drop (length listed) after) at small_added (subst (λ (l : List ℕ). Contains l at) (sym last) stands))

    goes : (place at : ℕ) (role : List ℕ) → Contains (drop from listed) place → IsRoleAt linked role place → FitsAt linked role at → GoesOnFrom linked listed from (length listed) at
    goes place at role (k, within, here) stands fits = record {
      index = from + k;
      behind = omega arith;
      before = index_within listed from k within;
      role = role;
      stands = subst (IsRoleAt linked role) (sym (sym (get_or-drop from listed k 0) ∙ get_or_default (drop from listed) k 0 place within ∙ here)) stands;
      fits = fits;
    }

    new_of : (goes : ℕ) → from ≤ goes → goes < length listed → IsSet (marks_of (drop from listed)) (get_or listed goes 0)
    new_of index past within =
        mark_of (drop from listed) (get_or listed index 0) small_new
        (subst (Contains (drop from listed)) (get_or-drop from listed (index - from) 0 ∙ ap (λ (k : ℕ). get_or listed k 0) (let e : from + (index - from) ≡ index = omega arith in e))
        (Contains-get_or (drop from listed) (index - from) 0 (let short : length (drop from listed) ≡ length listed - from = length-drop from listed in omega (arith, short, past, within))))

    new_ones : (at : ℕ) → Contains (drop (length listed) after) at → IsSet (marks_of after) at × GoesOn linked (marks_of (drop from listed)) at
    new_ones at stands =
        let by = lists.sound at (subst (λ (l : List ℕ). Contains l at) last stands) in (
          mark_of after at small (behind_stands after (length listed) at stands),
          record { place = get_or listed by.index 0; role = by.role; marked = new_of by.index by.behind by.before; stands = by.stands; fits = by.fits },
        )

-- the groups of the last level go on
pub listing_on : (linked : Linked) (sought : Sought) (x : List ℕ) (level from : ℕ) (listed after : List ℕ) → length linked.groups ≤ 200000 → (HasSoughtFrom linked sought listed from (length listed) → ⊥)
    → Lists (GoesOnFrom linked listed from (length listed)) (GoesOnFrom linked listed from (length listed)) listed after → IsListing linked sought x level from listed → IsListing linked sought x (level + 1) (length listed) after
listing_on linked sought x level from listed after few none lists listing =
    let on : IsNextListed linked from listed after = next_listed linked from listed after few listing.small lists in
    record {
      before = omega (arith, ap length lists.is, length-append listed lists.added);
      small = on.small;
      seeking = seek_on linked sought x level (marks_of listed) (marks_of (drop from listed)) (marks_of after) (marks_of (drop (length listed) after)) listing.seeking
          (λ found. none (sought_from found (place_of (drop from listed) found.at small_new found.marked))) on.next on.marked;
    }
  where
    small_new : AreSmall (drop from listed)
    small_new at stands = listing.small at (behind_stands listed from at stands)

    sought_from : (found : HasSought linked sought (IsSet (marks_of (drop from listed)))) → Contains (drop from listed) found.at → HasSoughtFrom linked sought listed from (length listed)
    sought_from found (k, within, here) = record {
      index = from + k;
      behind = omega arith;
      before = index_within listed from k within;
      role = found.role;
      stands = subst (IsRoleAt linked found.role) (sym (sym (get_or-drop from listed k 0) ∙ get_or_default (drop from listed) k 0 found.at within ∙ here)) found.stands;
      is = found.is;
    }

pub listing_ends : (linked : Linked) (sought : Sought) (x : List ℕ) (level most from : ℕ) (listed : List ℕ) → level < most → HasSoughtFrom linked sought listed from (length listed) → IsListing linked sought x level from listed → IsFirst linked sought x most (Some (level + 1))
listing_ends linked sought x level most from listed low found listing =
    seek_ends linked sought x level most (marks_of listed) (marks_of (drop from listed)) low listing.seeking
    (record {
      at = get_or listed found.index 0;
      marked = mark_of (drop from listed) (get_or listed found.index 0) (λ at stands. listing.small at (behind_stands listed from at stands))
          (subst (Contains (drop from listed)) (get_or-drop from listed (found.index - from) 0 ∙ ap (λ (k : ℕ). get_or listed k 0) (let behind : from ≤ found.index = found.behind in let e : from + (found.index - from) ≡ found.index = omega (arith, behind) in e))
          (Contains-get_or (drop from listed) (found.index - from) 0 (let short : length (drop from listed) ≡ length listed - from = length-drop from listed in omega (arith, short, found.behind, found.before))));
      role = found.role;
      stands = found.stands;
      is = found.is;
    })

-- nothing was listed at the last level
pub listing_stops : (linked : Linked) (sought : Sought) (x : List ℕ) (level most from : ℕ) (listed : List ℕ) → level < most → from ≡ length listed → IsListing linked sought x level from listed → ¬ ReachesSought linked sought most x
listing_stops linked sought x level most from listed low same listing =
    seek_stops linked sought x level most (marks_of listed) (marks_of (drop from listed)) low listing.seeking
    (λ at one. none at (place_of (drop from listed) at (λ other stands. listing.small other (behind_stands listed from other stands)) one))
  where
    none : (at : ℕ) → Contains (drop from listed) at → ⊥
    none at (k, within, here) = let short : length (drop from listed) ≡ length listed - from = length-drop from listed in absurd (omega (arith, short, within, same))

pub listing_past : (linked : Linked) (sought : Sought) (x : List ℕ) (level most from : ℕ) (listed : List ℕ) → most ≤ level → IsListing linked sought x level from listed → ¬ ReachesSought linked sought most x
listing_past linked sought x level most from listed past listing = seek_past linked sought x level most (marks_of listed) (marks_of (drop from listed)) past listing.seeking

-- what is listed are places of groups
pub listing_within : (linked : Linked) (sought : Sought) (x : List ℕ) (level from : ℕ) (listed others : List ℕ) → others ≡ listed → IsListing linked sought x level from listed → (at : ℕ) → Contains others at → at < length linked.groups
listing_within linked sought x level from listed others same listing at stands =
    (listing.seeking.reached_are.sound at (mark_of listed at listing.small (subst (λ (l : List ℕ). Contains l at) same stands))).fits.within
