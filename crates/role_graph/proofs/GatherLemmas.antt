-- The roles that a walk gathers at a level, and puts into order.
use Rattle.std.proofs.Common.{◌≡◌, ◌≢◌, ◌⊎◌, inl, inr, ◌<◌, ◌≤◌, ◌+◌, ℕ, zero, suc, Bool, true, false, ◌||◌, cond, nat_lt, List, [], ◌∷◌, ◌++◌, None, length, map, get_or, refl, sym, ap, subst, ◌∙◌, arith, append_assoc, append-nil}
use Rattle.std.specs.Prelude.{◌==◌, AllPairs}
use Rattle.std.specs.Cmp.{IsStrictWeakOrder}
use Rattle.std.specs.Cmp.Lexicographic.{nat_list_cmp_total, slice_cmp}
use Rattle.std.specs.List.{AllByRecursion, Contains, IsDistinct, count_by, list_any}
use Rattle.std.specs.List.Sorted.{IsPermutation, IsSortedBy}
use Rattle.std.specs.Ordering.{is_lt, nat_cmp, ordering_reverse, ordering_then}
use Rattle.std.specs.Str.{bytes_eq}
use Rattle.std.specs.declared.cmp.Ordering.{Ordering}
use Rattle.std.specs.declared.cmp.Ordering.TheVariants.{Less, Equal, Greater}
use Rattle.std.proofs.lemmas.Bool.{cases_Bool, cases_eq, cases_lt, eqb-true, false≢true}
use Rattle.std.proofs.lemmas.Cmp.{nat_list_eq_equiv}
use Rattle.std.proofs.lemmas.List.{length-map}
use Rattle.std.proofs.lemmas.List.Elements.{Contains-append_cases, Contains-append_left, Contains-append_right, Contains-push, Contains-push_cases}
use Rattle.std.proofs.lemmas.List.Sums.{sum_by-cons}
use Rattle.std.proofs.lemmas.List.Sorted.{Contains-permutation, IsPermutation-sym, ranks_by, sorted_far}
use Rattle.std.proofs.lemmas.Map.Keys.{IsDistinct-IsPermutation, apart_from_distinct}
use Rattle.std.proofs.lemmas.Map.Made.{IsDistinct-from_AllPairs, length-le_from_is_member}
use Rattle.std.proofs.lemmas.Slice.Eq.{bytes_eq-Decides}
use Rattle.perm_base.specs.LineEnds.{has_line_end}
use Rattle.perm_base.specs.declared.shapes.RoleShape.{RoleShape}
use Rattle.policy_table.specs.Tables.{Fields}
use Rattle.role_meaning.specs.Distances.{IsFar, farthest}
use Rattle.role_meaning.specs.Implied.{AreImplied, IsNearer}
use Rattle.role_meaning.specs.Links.{Reaches, SomeLink, role_of}
use Rattle.role_meaning.proofs.CallerLemmas.{least_unique, map_stands, reaches_more, stands_behind, stands_cases, stands_here, stands_nowhere}
use Rattle.role_graph.specs.Graph.{shape_of}
use Rattle.role_graph.specs.Groups.{rows_of}
use Rattle.role_graph.specs.Helps.Marks.{IsNext, IsSet}
use Rattle.role_graph.specs.Helps.Names.{Adds, AreGathered, AreSeen, is_before}
use Rattle.role_graph.specs.Helps.Walks.{AreReached, FitsAt, GoesOn, IsRoleAt, Linked, no_group}
use Rattle.role_graph.proofs.EditLemmas.{once}
use Rattle.role_graph.proofs.NameLemmas.{AreFresh, AreNamed, ReachesIn, is_named, named_more, named_none}
use Rattle.role_graph.proofs.PutLemmas.{same_text}
use Rattle.role_graph.proofs.WalkLemmas.{first_reached, next_reached, walk_stops}

-- ---- lists without repeats

all_from : (P : List ℕ → Type 0) (ys : List (List ℕ)) → ((y : List ℕ) → Contains ys y → P y) → AllByRecursion P ys
all_from P [] each = tt
all_from P (y ∷ ys) each = (each y (stands_here y ys), all_from P ys (λ z stands. each z (stands_behind y ys z stands)))

all_both : (P : List ℕ → Type 0) (xs ys : List (List ℕ)) → AllByRecursion P xs → AllByRecursion P ys → AllByRecursion P (xs ++ ys)
all_both P [] ys first second = second
all_both P (x ∷ xs) ys first second = (first.0, all_both P xs ys first.1 second)

-- texts that differ
pub differ : (x y : List ℕ) → (x ≡ y → ⊥) → bytes_eq x y ≡ false
differ x y apart = by (cases_Bool (bytes_eq x y))
  where
    by : (bytes_eq x y ≡ true) ⊎ (bytes_eq x y ≡ false) → bytes_eq x y ≡ false
    by (inl same) = absurd (apart (same_text x y same))
    by (inr other) = other

pub distinct_both : (xs ys : List (List ℕ)) → IsDistinct bytes_eq xs → IsDistinct bytes_eq ys → ((y : List ℕ) → Contains xs y → Contains ys y → ⊥) → IsDistinct bytes_eq (xs ++ ys)
unfolding IsDistinct
distinct_both [] ys first second apart = second
distinct_both (x ∷ xs) ys first second apart = (
  all_both (λ (o : List ℕ). bytes_eq x o ≡ false) xs ys first.0
      (all_from (λ (o : List ℕ). bytes_eq x o ≡ false) ys (λ o stands. differ x o (λ same. apart o (subst (Contains (x ∷ xs)) same (stands_here x xs)) stands))),
  distinct_both xs ys first.1 second (λ y one two. apart y (stands_behind x xs y one) two),
)

pub distinct_one : (y : List ℕ) → IsDistinct bytes_eq (y ∷ [])
unfolding IsDistinct
distinct_one y = (tt, tt)

pub distinct_none : IsDistinct bytes_eq []
unfolding IsDistinct
distinct_none = tt

-- ---- what is seen

or_right : (a b : Bool) → b ≡ true → (a || b) ≡ true
or_right true b is = refl
or_right false b is = is

or_left : (a b : Bool) → a ≡ true → (a || b) ≡ true
or_left true b is = refl
or_left false b is = absurd (false≢true is)

pub or_which : (a b : Bool) → (a || b) ≡ true → (a ≡ true) ⊎ (b ≡ true)
or_which true b is = inl refl
or_which false b is = inr is

seen_none : (before : List ℕ → Bool) → AreSeen before before []
seen_none before = record {
  old = λ y is. is;
  new = λ y none. absurd (stands_nowhere y none);
  only = λ y is. inl is;
}

seen_both : (before between after : List ℕ → Bool) (names others : List (List ℕ)) → AreSeen before between names → AreSeen between after others → AreSeen before after (names ++ others)
seen_both before between after names others first second = record {
  old = λ y is. second.old y (first.old y is);
  new = λ y stands. by_new y (Contains-append_cases names others y stands);
  only = λ y is. by_only y (second.only y is);
}
  where
    by_new : (y : List ℕ) → Contains names y ⊎ Contains others y → after y ≡ true
    by_new y (inl early) = second.old y (first.new y early)
    by_new y (inr late) = second.new y late

    earlier : (y : List ℕ) → (before y ≡ true) ⊎ Contains names y → (before y ≡ true) ⊎ Contains (names ++ others) y
    earlier y (inl is) = inl is
    earlier y (inr stands) = inr (Contains-append_left names others y stands)

    by_only : (y : List ℕ) → (between y ≡ true) ⊎ Contains others y → (before y ≡ true) ⊎ Contains (names ++ others) y
    by_only y (inl is) = earlier y (first.only y is)
    by_only y (inr stands) = inr (Contains-append_right names others y stands)

-- what was seen before does not become unseen
unseen : (before between : List ℕ → Bool) (names : List (List ℕ)) (y : List ℕ) → AreSeen before between names → between y ≡ false → before y ≡ false
unseen before between names y seen none = by (cases_Bool (before y))
  where
    by : (before y ≡ true) ⊎ (before y ≡ false) → before y ≡ false
    by (inl is) = absurd (false≢true (sym none ∙ seen.old y is))
    by (inr is) = is

-- a role that is seen already stays so, and one that is not is seen then
seen_again : (before after : List ℕ → Bool) (role : List ℕ) → ((y : List ℕ) → after y ≡ (bytes_eq y role || before y)) → before role ≡ true → AreSeen before after []
seen_again before after role is here = record {
  old = λ y old. is y ∙ or_right (bytes_eq y role) (before y) old;
  new = λ y none. absurd (stands_nowhere y none);
  only = λ y now. by y (or_which (bytes_eq y role) (before y) (sym (is y) ∙ now));
}
  where
    by : (y : List ℕ) → (bytes_eq y role ≡ true) ⊎ (before y ≡ true) → (before y ≡ true) ⊎ Contains [] y
    by y (inl same) = inl (ap before (same_text y role same) ∙ here)
    by y (inr old) = inl old

seen_first : (before after : List ℕ → Bool) (role : List ℕ) → ((y : List ℕ) → after y ≡ (bytes_eq y role || before y)) → AreSeen before after (role ∷ [])
seen_first before after role is = record {
  old = λ y old. is y ∙ or_right (bytes_eq y role) (before y) old;
  new = λ y stands. by_new y (Contains-push_cases [] role y stands);
  only = λ y now. by y (or_which (bytes_eq y role) (before y) (sym (is y) ∙ now));
}
  where
    by_new : (y : List ℕ) → Contains [] y ⊎ (role ≡ y) → after y ≡ true
    by_new y (inl none) = absurd (stands_nowhere y none)
    by_new y (inr same) = is y ∙ or_left (bytes_eq y role) (before y) ((bytes_eq-Decides y role).1 (sym same))

    by : (y : List ℕ) → (bytes_eq y role ≡ true) ⊎ (before y ≡ true) → (before y ≡ true) ⊎ Contains (role ∷ []) y
    by y (inl same) = inr (subst (Contains (role ∷ [])) (sym (same_text y role same)) (stands_here role []))
    by y (inr old) = inl old

-- ---- the roles of one group

pub adds_none : (x : List ℕ) (before : List ℕ → Bool) (old : List (List ℕ)) → Adds x [] before before old old
adds_none x before old = record {
  added = [];
  is = sym (append-nil old);
  seen = seen_none before;
  sound = λ y none. absurd (stands_nowhere y none);
  whole = λ y none. absurd (stands_nowhere y none);
  once = distinct_none;
}

-- a role that is the name is passed over
pub adds_itself : (x : List ℕ) (roles : List (List ℕ)) (role : List ℕ) (before after : List ℕ → Bool) (old new : List (List ℕ)) → role ≡ x → Adds x roles before after old new → Adds x (roles ++ role ∷ []) before after old new
adds_itself x roles role before after old new same adds = record {
  added = adds.added;
  is = adds.is;
  seen = adds.seen;
  sound = λ y stands. let facts = adds.sound y stands in (facts.0, facts.1, Contains-append_left roles (role ∷ []) y facts.2);
  whole = λ y stands other none. by y other none (Contains-push_cases roles role y stands);
  once = adds.once;
}
  where
    by : (y : List ℕ) → y ≢ x → before y ≡ false → Contains roles y ⊎ (role ≡ y) → Contains adds.added y
    by y other none (inl early) = adds.whole y early other none
    by y other none (inr here) = absurd (other (sym here ∙ same))

-- another is added, unless it was seen
pub adds_more : (x : List ℕ) (roles : List (List ℕ)) (role : List ℕ) (before between after : List ℕ → Bool) (old mid new : List (List ℕ)) → (role ≡ x → ⊥) → ((y : List ℕ) → after y ≡ (bytes_eq y role || between y)) → new ≡ cond (between role) mid (mid ++ role ∷ []) → Adds x roles before between old mid → Adds x (roles ++ role ∷ []) before after old new
adds_more x roles role before between after old mid new other is put adds = by (cases_Bool (between role))
  where
    next : (added : List (List ℕ)) → AreSeen between after added → new ≡ mid ++ added → ((y : List ℕ) → Contains added y → (role ≡ y) × (between role ≡ false)) → (between role ≡ false → Contains added role) → IsDistinct bytes_eq added → Adds x (roles ++ role ∷ []) before after old new
    next added seen made sound whole once = record {
      added = adds.added ++ added;
      is = made ∙ ap (λ (l : List (List ℕ)). l ++ added) adds.is ∙ append_assoc old adds.added added;
      seen = seen_both before between after adds.added added adds.seen seen;
      sound = λ y stands. sound_by y (Contains-append_cases adds.added added y stands);
      whole = λ y stands differs none. whole_by y differs none (Contains-push_cases roles role y stands);
      once = distinct_both adds.added added adds.once once
          (λ y early late. let facts = sound y late in false≢true (sym facts.1 ∙ ap between facts.0 ∙ adds.seen.new y early));
    }
      where
        sound_by : (y : List ℕ) → Contains adds.added y ⊎ Contains added y → (y ≢ x) × (before y ≡ false) × Contains (roles ++ role ∷ []) y
        sound_by y (inl early) = let facts = adds.sound y early in (facts.0, facts.1, Contains-append_left roles (role ∷ []) y facts.2)
        sound_by y (inr late) =
            let facts = sound y late in (
              λ same. other (facts.0 ∙ same),
              ap before (sym facts.0) ∙ unseen before between adds.added role adds.seen facts.1,
              subst (Contains (roles ++ role ∷ [])) facts.0 (Contains-push roles role),
            )

        here_by : (before role ≡ true) ⊎ Contains adds.added role → before role ≡ false → Contains adds.added role
        here_by (inl old_one) none = absurd (false≢true (sym none ∙ old_one))
        here_by (inr stands) none = stands

        role_by : before role ≡ false → (between role ≡ true) ⊎ (between role ≡ false) → Contains (adds.added ++ added) role
        role_by none (inl is_seen) = Contains-append_left adds.added added role (here_by (adds.seen.only role is_seen) none)
        role_by none (inr not_seen) = Contains-append_right adds.added added role (whole not_seen)

        whole_by : (y : List ℕ) → y ≢ x → before y ≡ false → Contains roles y ⊎ (role ≡ y) → Contains (adds.added ++ added) y
        whole_by y differs none (inl early) = Contains-append_left adds.added added y (adds.whole y early differs none)
        whole_by y differs none (inr here) = subst (Contains (adds.added ++ added)) here (role_by (ap before here ∙ none) (cases_Bool (between role)))

    by : (between role ≡ true) ⊎ (between role ≡ false) → Adds x (roles ++ role ∷ []) before after old new
    by (inl seen) =
        next [] (seen_again between after role is seen) (put ∙ ap (λ (t : Bool). cond t mid (mid ++ role ∷ [])) seen ∙ sym (append-nil mid))
        (λ y none. absurd (stands_nowhere y none)) (λ none. absurd (false≢true (sym none ∙ seen))) distinct_none
    by (inr none) =
        next (role ∷ []) (seen_first between after role is) (put ∙ ap (λ (t : Bool). cond t mid (mid ++ role ∷ [])) none)
        (λ y stands. (only_here y (Contains-push_cases [] role y stands), none)) (λ _. stands_here role []) (distinct_one role)
      where
        only_here : (y : List ℕ) → Contains [] y ⊎ (role ≡ y) → role ≡ y
        only_here y (inl nowhere) = absurd (stands_nowhere y nowhere)
        only_here y (inr same) = same

-- ---- the groups at a level

pub gathered_none : (linked : Linked) (x : List ℕ) (groups : List ℕ) (before : List ℕ → Bool) (fresh : List (List ℕ)) → fresh ≡ [] → AreGathered linked x groups 0 before before fresh
gathered_none linked x groups before fresh empty =
    subst (AreGathered linked x groups 0 before before) (sym empty) (record {
      seen = seen_none before;
      sound = λ y none. absurd (stands_nowhere y none);
      whole = λ y at low. absurd (omega arith);
      once = distinct_none;
    })

pub gathered_more : (linked : Linked) (x : List ℕ) (groups : List ℕ) (place here : ℕ) (before between after : List ℕ → Bool) (mid new : List (List ℕ)) → here < length linked.groups → IsSet groups here → ((other : ℕ) → place ≤ other → other < here → IsSet groups other → ⊥) → Adds x (get_or linked.groups here no_group).roles between after mid new → AreGathered linked x groups place before between mid → AreGathered linked x groups (here + 1) before after new
gathered_more linked x groups place here before between after mid new within one_here none_between adds gathered =
    subst (AreGathered linked x groups (here + 1) before after) (sym adds.is) (record {
      seen = seen_both before between after mid adds.added gathered.seen adds.seen;
      sound = λ y stands. sound_by y (Contains-append_cases mid adds.added y stands);
      whole = λ y at low differs none is stands. whole_by y at low differs none is stands (cases_eq at here) (cases_lt at place);
      once = distinct_both mid adds.added gathered.once adds.once
          (λ y early late. false≢true (sym (adds.sound y late).1 ∙ gathered.seen.new y early));
    })
  where
    sound_by : (y : List ℕ) → Contains mid y ⊎ Contains adds.added y → (y ≢ x) × (before y ≡ false) × (at : ℕ) × IsSet groups at × IsRoleAt linked y at
    sound_by y (inl early) = gathered.sound y early
    sound_by y (inr late) =
        let facts = adds.sound y late in
        (facts.0, unseen before between mid y gathered.seen facts.1, here, one_here, record { within = within; stands = facts.2 })

    by_before : (y : List ℕ) → before y ≡ false → (before y ≡ true) ⊎ Contains mid y → Contains mid y
    by_before y none (inl is) = absurd (false≢true (sym none ∙ is))
    by_before y none (inr stands) = stands

    by_seen : (y : List ℕ) → y ≢ x → before y ≡ false → Contains (get_or linked.groups here no_group).roles y → (between y ≡ true) ⊎ (between y ≡ false) → Contains (mid ++ adds.added) y
    by_seen y differs none stands (inl is) = Contains-append_left mid adds.added y (by_before y none (gathered.seen.only y is))
    by_seen y differs none stands (inr is) = Contains-append_right mid adds.added y (adds.whole y stands differs is)

    whole_by : (y : List ℕ) (at : ℕ) → at < here + 1 → y ≢ x → before y ≡ false → IsSet groups at → IsRoleAt linked y at → (at ≡ here) ⊎ (at ≡ here → ⊥) → (at < place) ⊎ (place ≤ at) → Contains (mid ++ adds.added) y
    whole_by y at low differs none is stands (inl same) past =
        by_seen y differs none (subst (λ (k : ℕ). Contains (get_or linked.groups k no_group).roles y) same stands.stands) (cases_Bool (between y))
    whole_by y at low differs none is stands (inr apart) (inl early) = Contains-append_left mid adds.added y (gathered.whole y at early differs none is stands)
    whole_by y at low differs none is stands (inr apart) (inr late) = absurd (none_between at late (omega arith) is)

-- at the end those of all groups are gathered
pub gathered_all : (linked : Linked) (x : List ℕ) (groups : List ℕ) (place : ℕ) (before after : List ℕ → Bool) (fresh : List (List ℕ)) → ((other : ℕ) → place ≤ other → IsSet groups other → ⊥) → AreGathered linked x groups place before after fresh → AreGathered linked x groups (length linked.groups) before after fresh
gathered_all linked x groups place before after fresh none gathered = record {
  seen = gathered.seen;
  sound = gathered.sound;
  whole = λ y at within differs unseen_before is stands. by y at differs unseen_before is stands (cases_lt at place);
  once = gathered.once;
}
  where
    by : (y : List ℕ) (at : ℕ) → y ≢ x → before y ≡ false → IsSet groups at → IsRoleAt linked y at → (at < place) ⊎ (place ≤ at) → Contains fresh y
    by y at differs unseen_before is stands (inl early) = gathered.whole y at early differs unseen_before is stands
    by y at differs unseen_before is stands (inr late) = absurd (none at late is)

-- ---- in order

number_same : (x y : ℕ) → nat_cmp x y ≡ Equal → x ≡ y
number_same x y is = by (nat_lt x y) (x == y) refl is
  where
    by : (less same : Bool) → (x == y) ≡ same → cond less Less (cond same Equal Greater) ≡ Equal → x ≡ y
    by true same is e = absurd cc
    by false true is e = eqb-true x y is
    by false false is e = absurd cc

pub equal_bytes : (xs ys : List ℕ) → slice_cmp nat_cmp xs ys ≡ Equal → xs ≡ ys
equal_bytes [] [] e = refl
equal_bytes [] (y ∷ ys) e = absurd cc
equal_bytes (x ∷ xs) [] e = absurd cc
equal_bytes (x ∷ xs) (y ∷ ys) e = by (nat_cmp x y) refl e (equal_bytes xs ys)
  where
    joined : x ≡ y → xs ≡ ys → x ∷ xs ≡ y ∷ ys
    joined one other = cc

    by : (o : Ordering) → nat_cmp x y ≡ o → ordering_then o (slice_cmp nat_cmp xs ys) ≡ Equal → (slice_cmp nat_cmp xs ys ≡ Equal → xs ≡ ys) → x ∷ xs ≡ y ∷ ys
    by Less is e more = absurd cc
    by Greater is e more = absurd cc
    by Equal is e more = joined (number_same x y is) (more e)

pub bytes_order : IsStrictWeakOrder is_before
bytes_order = ranks_by nat_list_cmp_total (λ (text : List ℕ). text)

pub strictly : (texts : List (List ℕ)) → IsSortedBy is_before texts → IsDistinct bytes_eq texts → AllPairs (λ (y z : List ℕ). slice_cmp nat_cmp y z ≡ Less) texts
strictly texts sorted once = λ i j d less within.
    by i j d less within (slice_cmp nat_cmp (get_or texts i d) (get_or texts j d)) refl
  where
    by : (i j : ℕ) (d : List ℕ) → i < j → j < length texts → (o : Ordering) → slice_cmp nat_cmp (get_or texts i d) (get_or texts j d) ≡ o → slice_cmp nat_cmp (get_or texts i d) (get_or texts j d) ≡ Less
    by i j d less within Less is = is
    by i j d less within Equal is =
        absurd (false≢true (sym (apart_from_distinct bytes_eq texts i j d once less within)
        ∙ (bytes_eq-Decides (get_or texts i d) (get_or texts j d)).1 (equal_bytes (get_or texts i d) (get_or texts j d) is)))
    by i j d less within Greater is =
        let back : slice_cmp nat_cmp (get_or texts j d) (get_or texts i d) ≡ Less = nat_list_cmp_total.antisymm (get_or texts j d) (get_or texts i d) ∙ ap ordering_reverse is in
        absurd (false≢true (sym (sorted_far is_before bytes_order texts sorted i j d (omega arith) within) ∙ ap is_lt back))

pub flips : (x y : List ℕ) → bytes_eq x y ≡ bytes_eq y x
flips x y = nat_list_eq_equiv.symm x y

-- the names are those that were seen
pub record Knows (names : List (List ℕ)) (seen : List ℕ → Bool) : Type 0 where
  pub named : (y : List ℕ) → seen y ≡ true → Contains names y
  pub noted : (y : List ℕ) → Contains names y → seen y ≡ true

pub knows_none : (seen : List ℕ → Bool) → ((y : List ℕ) → seen y ≡ false) → Knows [] seen
knows_none seen none = record {
  named = λ y is. absurd (false≢true (sym (none y) ∙ is));
  noted = λ y nowhere. absurd (stands_nowhere y nowhere);
}

pub knows_more : (names gathered sorted : List (List ℕ)) (before after : List ℕ → Bool) → AreSeen before after gathered → IsPermutation gathered sorted → Knows names before → Knows (names ++ sorted) after
knows_more names gathered sorted before after seen moved knows = record {
  named = λ y is. by_named y (seen.only y is);
  noted = λ y stands. by_seen y (Contains-append_cases names sorted y stands);
}
  where
    by_named : (y : List ℕ) → (before y ≡ true) ⊎ Contains gathered y → Contains (names ++ sorted) y
    by_named y (inl is) = Contains-append_left names sorted y (knows.named y is)
    by_named y (inr stands) = Contains-append_right names sorted y (Contains-permutation gathered sorted y moved stands)

    by_seen : (y : List ℕ) → Contains names y ⊎ Contains sorted y → after y ≡ true
    by_seen y (inl early) = seen.old y (knows.noted y early)
    by_seen y (inr late) = seen.new y (Contains-permutation sorted gathered y (IsPermutation-sym gathered sorted moved) late)

-- what was gathered of all groups is what the level adds
pub fresh_sorted : (linked : Linked) (x : List ℕ) (groups : List ℕ) (before after : List ℕ → Bool) (names gathered sorted : List (List ℕ)) → AreGathered linked x groups (length linked.groups) before after gathered → IsPermutation gathered sorted → IsSortedBy is_before sorted → Knows names before → AreFresh linked x groups names sorted
fresh_sorted linked x groups before after names gathered sorted are moved order knows = record {
  sound = λ y stands.
      (let facts = are.sound y (Contains-permutation sorted gathered y (IsPermutation-sym gathered sorted moved) stands) in
      (facts.0, λ named. false≢true (sym facts.1 ∙ knows.noted y named), facts.2, facts.3, facts.4));
  whole = λ y at other none here stands. Contains-permutation gathered sorted y moved (are.whole y at stands.within other (not_seen y none (cases_Bool (before y))) here stands);
  order = strictly sorted order (IsDistinct-IsPermutation bytes_eq flips gathered sorted moved are.once);
}
  where
    not_seen : (y : List ℕ) → (¬ Contains names y) → (before y ≡ true) ⊎ (before y ≡ false) → before y ≡ false
    not_seen y none (inl is) = absurd (none (knows.named y is))
    not_seen y none (inr is) = is

-- ---- the names at the end

-- where no group is new, no further name is reached
pub named_stops : (linked : Linked) (x : List ℕ) (level most : ℕ) (all new : List ℕ) (names : List (List ℕ)) → AreReached linked x level all new → AreNamed linked x level names → ((at : ℕ) → IsSet new at → ⊥) → level ≤ most → AreNamed linked x most names
named_stops linked x level most all new names are named none less = record {
  sound = λ y stands. ((named.sound y stands).0, reaches_more (shape_of linked.names) (rows_of linked.groups) None level most x y less (named.sound y stands).1);
  whole = λ y other reaches. by y other reaches (is_named y names);
  near = λ y stands. let before = named.near y stands in (before.0, omega (arith, before.1), before.2);
  order = named.order;
}
  where
    by : (y : List ℕ) → y ≢ x → ReachesIn linked most x y → Contains names y ⊎ (¬ Contains names y) → Contains names y
    by y other reaches (inl stands) = stands
    by y other reaches (inr absent) =
        absurd (walk_stops linked x y level all new (record { reached_are = are; never = λ early. absent (named.whole y other early) }) none most less reaches)

-- a name that is reached by a link is the role of a row
role_of_link : (shape : RoleShape) (rows : List Fields) (links : ℕ) (x y : List ℕ) → SomeLink shape rows None x (λ role. Reaches shape rows None links role y) → Contains (map role_of rows) y
unfolding Reaches
role_of_link shape rows zero x y link = subst (Contains (map role_of rows)) link.holds (map_stands role_of rows link.row link.stands)
role_of_link shape rows (suc links) x y link = by link.holds (role_of_link shape rows links (role_of link.row) y)
  where
    by : (role_of link.row ≡ y) ⊎ SomeLink shape rows None (role_of link.row) (λ role. Reaches shape rows None links role y) → (SomeLink shape rows None (role_of link.row) (λ role. Reaches shape rows None links role y) → Contains (map role_of rows) y) → Contains (map role_of rows) y
    by (inl same) more = subst (Contains (map role_of rows)) same (map_stands role_of rows link.row link.stands)
    by (inr on) more = more on

pub role_reached : (shape : RoleShape) (rows : List Fields) (links : ℕ) (x y : List ℕ) → y ≢ x → Reaches shape rows None links x y → Contains (map role_of rows) y
unfolding Reaches
role_reached shape rows zero x y other same = absurd (other (sym same))
role_reached shape rows (suc links) x y other (inl same) = absurd (other (sym same))
role_reached shape rows (suc links) x y other (inr link) = role_of_link shape rows links x y link

pub implied_from : (linked : Linked) (x : List ℕ) (most : ℕ) (names : List (List ℕ)) → AreNamed linked x most names → AreImplied (shape_of linked.names) (rows_of linked.groups) most None x names
implied_from linked x most names named = record {
  members = λ y. (
    λ stands. record {
      other = (named.sound y stands).0;
      linked = (named.sound y stands).1;
      role = role_reached (shape_of linked.names) (rows_of linked.groups) most x y (named.sound y stands).0 (named.sound y stands).1;
    },
    λ is. named.whole y is.other is.linked,
  );
  order = named.order;
}

-- ---- the names as a rule

not_below : (y : List ℕ) → slice_cmp nat_cmp y y ≡ Less → ⊥
not_below y is = absurd (let turned : Less ≡ Greater = sym is ∙ nat_list_cmp_total.antisymm y y ∙ ap ordering_reverse is in cc)

nearer_differ : (shape : RoleShape) (rows : List Fields) (x y z : List ℕ) → IsNearer shape rows None x y z → y ≡ z → ⊥
nearer_differ shape rows x y z nearer same = by nearer.before
  where
    equal : nearer.near ≡ nearer.far
    equal = least_unique farthest (λ links. Reaches shape rows None links x y) nearer.near nearer.far nearer.to_one (subst (λ (w : List ℕ). IsFar shape rows None x w nearer.far) (sym same) nearer.to_other)

    by : (nearer.near < nearer.far) ⊎ ((nearer.near ≡ nearer.far) × (slice_cmp nat_cmp y z ≡ Less)) → ⊥
    by (inl less) = omega (arith, equal)
    by (inr (even, bytes)) = not_below y (subst (λ (w : List ℕ). slice_cmp nat_cmp y w ≡ Less) (sym same) bytes)

pub stands_any : (y : List ℕ) (xs : List (List ℕ)) → list_any (bytes_eq y) xs ≡ true → Contains xs y
stands_any y [] is = absurd (false≢true is)
stands_any y (x ∷ xs) is = by (or_which (bytes_eq y x) (list_any (bytes_eq y) xs) is) (stands_any y xs)
  where
    by : (bytes_eq y x ≡ true) ⊎ (list_any (bytes_eq y) xs ≡ true) → (list_any (bytes_eq y) xs ≡ true → Contains xs y) → Contains (x ∷ xs) y
    by (inl same) more = subst (Contains (x ∷ xs)) (sym (same_text y x same)) (stands_here x xs)
    by (inr behind) more = stands_behind x xs y (more behind)

pub any_stands : (y : List ℕ) (xs : List (List ℕ)) → Contains xs y → list_any (bytes_eq y) xs ≡ true
any_stands y [] none = absurd (stands_nowhere y none)
any_stands y (x ∷ xs) stands = by (stands_cases x xs y stands) (any_stands y xs)
  where
    by : (x ≡ y) ⊎ Contains xs y → (Contains xs y → list_any (bytes_eq y) xs ≡ true) → (bytes_eq y x || list_any (bytes_eq y) xs) ≡ true
    by (inl same) more = or_left (bytes_eq y x) (list_any (bytes_eq y) xs) ((bytes_eq-Decides y x).1 (sym same))
    by (inr behind) more = or_right (bytes_eq y x) (list_any (bytes_eq y) xs) (more behind)

-- there are no more names than rows
pub implied_few : (shape : RoleShape) (rows : List Fields) (limit : ℕ) (x : List ℕ) (names : List (List ℕ)) → AreImplied shape rows limit None x names → length names ≤ length rows
implied_few shape rows limit x names are =
    let once : IsDistinct bytes_eq names = IsDistinct-from_AllPairs bytes_eq-Decides names (λ i j d less within. nearer_differ shape rows x (get_or names i d) (get_or names j d) (are.order i j d less within)) in
    let few : length names ≤ length (map role_of rows) = length-le_from_is_member nat_list_eq_equiv names (map role_of rows) once
    (λ q is. any_stands q (map role_of rows) ((are.members q).0 (stands_any q names is)).role) in
    omega (arith, few, length-map rows role_of)

pub all_whole : (ys : List (List ℕ)) → ((y : List ℕ) → Contains ys y → has_line_end y ≡ false) → list_any has_line_end ys ≡ false
all_whole [] every = refl
all_whole (y ∷ ys) every =
    ap (λ (t : Bool). t || list_any has_line_end ys) (every y (stands_here y ys)) ∙ all_whole ys (λ z stands. every z (stands_behind y ys z stands))

-- and none holds a line end, where no role does
pub implied_whole : (shape : RoleShape) (rows : List Fields) (limit : ℕ) (x : List ℕ) (names : List (List ℕ)) → ((y : List ℕ) → Contains (map role_of rows) y → has_line_end y ≡ false) → AreImplied shape rows limit None x names → list_any has_line_end names ≡ false
implied_whole shape rows limit x names whole are = all_whole names (λ y stands. whole y ((are.members y).0 stands).role)

-- a role that stands is counted
pub counted_some : (y : List ℕ) (xs : List (List ℕ)) → Contains xs y → 1 ≤ count_by (bytes_eq y) xs
counted_some y [] none = absurd (stands_nowhere y none)
counted_some y (x ∷ xs) stands = by (stands_cases x xs y stands) (counted_some y xs)
  where
    first : count_by (bytes_eq y) (x ∷ xs) ≡ once (bytes_eq y x) + count_by (bytes_eq y) xs
    first = sum_by-cons (λ (r : List ℕ). once (bytes_eq y r)) x xs

    by : (x ≡ y) ⊎ Contains xs y → (Contains xs y → 1 ≤ count_by (bytes_eq y) xs) → 1 ≤ count_by (bytes_eq y) (x ∷ xs)
    by (inl same) more = let here : once (bytes_eq y x) ≡ 1 = ap once ((bytes_eq-Decides y x).1 (sym same)) in omega (arith, first, here)
    by (inr behind) more = omega (arith, first, more behind)

-- ---- the walk

-- a walk that stands at a level, and has named what is reached by so many links
pub record IsNaming (linked : Linked) (x : List ℕ) (most level : ℕ) (all new : List ℕ) (names : List (List ℕ)) (seen : List ℕ → Bool) : Type 0 where
  pub low : level ≤ most
  pub named : AreNamed linked x level names
  pub reached_are : AreReached linked x level all new
  pub knows : Knows names seen

pub naming_begins : (linked : Linked) (x : List ℕ) (most : ℕ) (old all new : List ℕ) (names : List (List ℕ)) (seen : List ℕ → Bool) → ((at : ℕ) → IsSet old at → ⊥) → IsNext (λ at. FitsAt linked x at) old all new → ((at : ℕ) → FitsAt linked x at → IsSet all at) → names ≡ [] → ((y : List ℕ) → seen y ≡ false) → IsNaming linked x most 0 all new names seen
naming_begins linked x most old all new names seen unset next marked empty none =
    subst (λ (ns : List (List ℕ)). IsNaming linked x most 0 all new ns seen) (sym empty) (record {
      low = omega arith;
      named = named_none linked x;
      reached_are = first_reached linked x old all new unset next marked;
      knows = knows_none seen none;
    })

pub naming_on : (linked : Linked) (x : List ℕ) (most level : ℕ) (all new all_after next : List ℕ) (names gathered sorted more : List (List ℕ)) (before after : List ℕ → Bool) → most ≤ 254 → level < most → IsNaming linked x most level all new names before → AreGathered linked x new (length linked.groups) before after gathered → IsPermutation gathered sorted → IsSortedBy is_before sorted → more ≡ names ++ sorted → IsNext (λ at. GoesOn linked new at) all all_after next → ((from at : ℕ) (role : List ℕ) → IsSet new from → IsRoleAt linked role from → FitsAt linked role at → IsSet all_after at) → IsNaming linked x most (level + 1) all_after next more after
naming_on linked x most level all new all_after next names gathered sorted more before after small low naming are moved order joined on marked =
    subst (λ (ns : List (List ℕ)). IsNaming linked x most (level + 1) all_after next ns after) (sym joined)
    (subst (λ (k : ℕ). IsNaming linked x most k all_after next (names ++ sorted) after) (let e : suc level ≡ level + 1 = omega arith in e) (record {
      low = omega arith;
      named = named_more linked x level all new names sorted (omega arith) naming.reached_are naming.named (fresh_sorted linked x new before after names gathered sorted are moved order naming.knows);
      reached_are = next_reached linked x level all new all_after next naming.reached_are on marked;
      knows = knows_more names gathered sorted before after are.seen moved naming.knows;
    }))

pub naming_stops : (linked : Linked) (x : List ℕ) (most level : ℕ) (all new : List ℕ) (names : List (List ℕ)) (seen : List ℕ → Bool) → IsNaming linked x most level all new names seen → ((at : ℕ) → IsSet new at → ⊥) → AreImplied (shape_of linked.names) (rows_of linked.groups) most None x names
naming_stops linked x most level all new names seen naming none =
    implied_from linked x most names (named_stops linked x level most all new names naming.reached_are naming.named none naming.low)

pub naming_ends : (linked : Linked) (x : List ℕ) (most level : ℕ) (all new : List ℕ) (names : List (List ℕ)) (seen : List ℕ → Bool) → most ≤ level → IsNaming linked x most level all new names seen → AreImplied (shape_of linked.names) (rows_of linked.groups) most None x names
naming_ends linked x most level all new names seen past naming =
    implied_from linked x most names (subst (λ (k : ℕ). AreNamed linked x k names) (let e : level ≡ most = omega (arith, naming.low) in e) naming.named)
