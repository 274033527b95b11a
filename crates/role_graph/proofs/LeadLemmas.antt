-- Users that have a role, found from the role back, level by level.
use Rattle.std.proofs.Common.{◌≡◌, ◌⊎◌, inl, inr, ◌<◌, ◌≤◌, ◌+◌, ◌∙◌, ℕ, zero, suc, Bool, true, false, List, [], ◌∷◌, ◌++◌, None, length, map, get_or, take, sym, ap, subst, arith}
use Rattle.std.specs.Prelude.{◌↔◌, IsTrue}
use Rattle.std.specs.List.{Contains, IsDistinct, list_any}
use Rattle.std.specs.List.Sorted.{IsPermutation, IsSortedBy}
use Rattle.std.specs.Str.{bytes_eq}
use Rattle.std.proofs.lemmas.Bool.{cases_Bool, cases_eq, cases_lt, false≢true}
use Rattle.std.proofs.lemmas.Cmp.{nat_list_eq_equiv}
use Rattle.std.proofs.lemmas.List.{map-append, take_more}
use Rattle.std.proofs.lemmas.List.Elements.{Contains-append_left, Contains-push, Contains-push_cases}
use Rattle.std.proofs.lemmas.List.Sorted.{Contains-permutation, IsPermutation-sym}
use Rattle.std.proofs.lemmas.Map.Keys.{IsDistinct-IsPermutation}
use Rattle.std.proofs.lemmas.Map.Made.{length-le_from_is_member}
use Rattle.std.proofs.lemmas.Slice.Eq.{bytes_eq-Decides}
use Rattle.perm_base.specs.LineEnds.{has_line_end}
use Rattle.perm_base.specs.Patterns.{is_pattern}
use Rattle.perm_base.specs.declared.shapes.Fit.{Fit}
use Rattle.policy_table.specs.Tables.{Fields}
use Rattle.role_meaning.specs.ImpliedUsers.{AreUsersOf, IsUserOf}
use Rattle.role_meaning.specs.Links.{user_of}
use Rattle.role_meaning.proofs.CallerLemmas.{reaches_itself, reaches_more, stands_nowhere}
use Rattle.role_graph.specs.Graph.{shape_of}
use Rattle.role_graph.specs.Groups.{rows_of}
use Rattle.role_graph.specs.Helps.Distances.{ReachesBy, ReachesByGroup}
use Rattle.role_graph.specs.Helps.Marks.{IsSet}
use Rattle.role_graph.specs.Helps.Names.{Adds, is_before}
use Rattle.role_graph.specs.Helps.Users.{AreLeading, Chooses, FitsMarked, GoesBack, IsOnWay, Leads}
use Rattle.role_graph.specs.Helps.Walks.{FitsAt, Linked}
use Rattle.role_graph.proofs.GatherLemmas.{adds_none, all_whole, any_stands, flips, stands_any, strictly}
use Rattle.role_graph.proofs.NameLemmas.{ReachesIn}
use Rattle.role_graph.proofs.Nearest.{by_groups, from_groups}

-- ---- levels

pub leads_none : (linked : Linked) (x marks : List ℕ) → ((at : ℕ) → IsSet marks at → ⊥) → AreLeading linked x 0 marks
leads_none linked x marks none at = (λ one. absurd (none at one), λ leads. absurd leads.reaches)

-- a role is on the way exactly where it reaches the name
pub on_way : (linked : Linked) (x marks : List ℕ) (links : ℕ) (role : List ℕ) → AreLeading linked x links marks → IsOnWay linked x marks role ↔ ReachesIn linked links role x
on_way linked x marks links role are = (there, λ reaches. back reaches (cases_Bool (bytes_eq role x)))
  where
    there : IsOnWay linked x marks role → ReachesIn linked links role x
    there (inl same) = reaches_itself (shape_of linked.names) (rows_of linked.groups) None links role x same
    there (inr fits) =
        let leads : Leads linked x links fits.at = (are fits.at).0 fits.marked in
        from_groups linked role x (length linked.groups) links (record { at = fits.at; before = fits.fits.within; fits = fits.fits; role = leads.role; stands = leads.stands; reaches = leads.reaches })

    back : ReachesIn linked links role x → (bytes_eq role x ≡ true) ⊎ (bytes_eq role x ≡ false) → IsOnWay linked x marks role
    back reaches (inl same) = inl ((bytes_eq-Decides role x).0 same)
    back reaches (inr differ) =
        let by : ReachesByGroup linked role x (length linked.groups) links = by_groups linked role x links (λ same. false≢true (sym differ ∙ (bytes_eq-Decides role x).1 same)) reaches in
        inr (record { at = by.at; fits = by.fits; marked = (are by.at).1 (record { role = by.role; stands = by.stands; reaches = by.reaches }) })

-- a link more
leads_next : (linked : Linked) (x marks more : List ℕ) (links : ℕ) → AreLeading linked x links marks → ((at : ℕ) → IsSet more at ↔ GoesBack linked x marks at) → AreLeading linked x (suc links) more
leads_next linked x marks more links are is at = (
  λ one. (let back : GoesBack linked x marks at = (is at).0 one in record { role = back.role; stands = back.stands; reaches = (on_way linked x marks links back.role are).0 back.way }),
  λ leads. (is at).1 (record { role = leads.role; stands = leads.stands; way = (on_way linked x marks links leads.role are).1 leads.reaches }),
)

by_more : (linked : Linked) (role x : List ℕ) (links : ℕ) → ReachesBy linked role x links → ReachesBy linked role x (suc links)
by_more linked role x zero none = absurd none
by_more linked role x (suc links) reaches = reaches_more (shape_of linked.names) (rows_of linked.groups) None links (suc links) role x (omega arith) reaches

-- where no group is new, none leads there by more links
leads_same : (linked : Linked) (x marks more : List ℕ) (links : ℕ) → ((at : ℕ) → IsSet more at ↔ GoesBack linked x marks at) → ((at : ℕ) → IsSet more at → IsSet marks at) → AreLeading linked x links marks → AreLeading linked x (suc links) marks
leads_same linked x marks more links is none are at = (
  λ one. (let leads : Leads linked x links at = (are at).0 one in record { role = leads.role; stands = leads.stands; reaches = by_more linked leads.role x links leads.reaches }),
  λ leads. none at ((leads_next linked x marks more links are is at).1 leads),
)

leads_still : (linked : Linked) (x marks more : List ℕ) (level : ℕ) → ((at : ℕ) → IsSet more at ↔ GoesBack linked x marks at) → ((at : ℕ) → IsSet more at → IsSet marks at) → AreLeading linked x level marks → (most : ℕ) → level ≤ most → AreLeading linked x most marks
leads_still linked x marks more level is none are zero less = subst (λ (k : ℕ). AreLeading linked x k marks) (let e : level ≡ zero = omega arith in e) are
leads_still linked x marks more level is none are (suc most) less = by (cases_lt most level) (leads_still linked x marks more level is none are most)
  where
    by : (most < level) ⊎ (level ≤ most) → (level ≤ most → AreLeading linked x most marks) → AreLeading linked x (suc most) marks
    by (inl above) rest = subst (λ (k : ℕ). AreLeading linked x k marks) (let e : level ≡ suc most = omega arith in e) are
    by (inr low) rest = leads_same linked x marks more most is none (rest low)

-- the walk back at a level
pub record IsGoingBack (linked : Linked) (x : List ℕ) (most level : ℕ) (marks : List ℕ) : Type 0 where
  pub low : level ≤ most
  pub are : AreLeading linked x level marks

pub back_first : (linked : Linked) (x : List ℕ) (most : ℕ) (marks : List ℕ) → ((at : ℕ) → IsSet marks at → ⊥) → IsGoingBack linked x most 0 marks
back_first linked x most marks none = record { low = omega arith; are = leads_none linked x marks none }

pub back_on : (linked : Linked) (x : List ℕ) (most level : ℕ) (marks more : List ℕ) → level < most → ((at : ℕ) → IsSet more at ↔ GoesBack linked x marks at) → IsGoingBack linked x most level marks → IsGoingBack linked x most (level + 1) more
back_on linked x most level marks more low is going = record {
  low = omega arith;
  are = subst (λ (k : ℕ). AreLeading linked x k more) (let e : suc level ≡ level + 1 = omega arith in e) (leads_next linked x marks more level going.are is);
}

pub back_stops : (linked : Linked) (x : List ℕ) (most level : ℕ) (marks more : List ℕ) → ((at : ℕ) → IsSet more at ↔ GoesBack linked x marks at) → ((at : ℕ) → IsSet more at → IsSet marks at) → IsGoingBack linked x most level marks → AreLeading linked x most marks
back_stops linked x most level marks more is none going = leads_still linked x marks more level is none going.are most going.low

pub back_last : (linked : Linked) (x : List ℕ) (most level : ℕ) (marks : List ℕ) → most ≤ level → IsGoingBack linked x most level marks → AreLeading linked x most marks
back_last linked x most level marks past going =
    let low : level ≤ most = going.low in
    subst (λ (k : ℕ). AreLeading linked x k marks) (let e : level ≡ most = omega (arith, low, past) in e) going.are

-- ---- one step back

-- the groups before a place were looked at
pub record HasStepped (linked : Linked) (x marks : List ℕ) (upto : ℕ) (more : List ℕ) : Type 0 where
  pub sound : (at : ℕ) → IsSet more at → GoesBack linked x marks at
  pub whole : (at : ℕ) → at < upto → GoesBack linked x marks at → IsSet more at

pub stepped_first : (linked : Linked) (x marks more : List ℕ) → ((at : ℕ) → IsSet more at → ⊥) → HasStepped linked x marks 0 more
stepped_first linked x marks more none = record { sound = λ at one. absurd (none at one); whole = λ at low. absurd (omega arith) }

stepped_at : (linked : Linked) (x marks more : List ℕ) (upto : ℕ) → (GoesBack linked x marks upto → IsSet more upto) → ((at : ℕ) → at < upto → GoesBack linked x marks at → IsSet more at) → (at : ℕ) → at < upto + 1 → GoesBack linked x marks at → IsSet more at
stepped_at linked x marks more upto here before at low = by (cases_eq at upto)
  where
    by : (at ≡ upto) ⊎ (at ≡ upto → ⊥) → GoesBack linked x marks at → IsSet more at
    by (inl same) = subst (λ (k : ℕ). GoesBack linked x marks k → IsSet more k) (sym same) here
    by (inr differ) = before at (omega arith)

-- a group that does not go back
pub stepped_past : (linked : Linked) (x marks more : List ℕ) (upto : ℕ) → (GoesBack linked x marks upto → ⊥) → HasStepped linked x marks upto more → HasStepped linked x marks (upto + 1) more
stepped_past linked x marks more upto never has = record {
  sound = has.sound;
  whole = stepped_at linked x marks more upto (λ back. absurd (never back)) has.whole;
}

-- one that does
pub stepped_on : (linked : Linked) (x marks more after : List ℕ) (upto : ℕ) → GoesBack linked x marks upto → IsSet after upto → ((other : ℕ) → IsSet more other → IsSet after other) → ((other : ℕ) → IsSet after other → IsSet more other ⊎ (other ≡ upto)) → HasStepped linked x marks upto more → HasStepped linked x marks (upto + 1) after
stepped_on linked x marks more after upto back marked kept only has = record {
  sound = λ at one. by at (only at one);
  whole = stepped_at linked x marks after upto (λ goes. marked) (λ at low goes. kept at (has.whole at low goes));
}
  where
    by : (at : ℕ) → IsSet more at ⊎ (at ≡ upto) → GoesBack linked x marks at
    by at (inl one) = has.sound at one
    by at (inr same) = subst (GoesBack linked x marks) (sym same) back

pub stepped_last : (linked : Linked) (x marks more : List ℕ) (upto : ℕ) → length linked.groups ≤ upto → HasStepped linked x marks upto more → (at : ℕ) → IsSet more at ↔ GoesBack linked x marks at
stepped_last linked x marks more upto every has at = (has.sound at, λ goes. has.whole at (let within : at < length linked.groups = goes.stands.within in omega arith) goes)

-- ---- a name that fits a marked group

pub record FitsNoMarked (linked : Linked) (marks name : List ℕ) (place : ℕ) : Type 0 where
  pub before : (at : ℕ) → at < place → FitsAt linked name at → IsSet marks at → ⊥

pub no_marked_first : (linked : Linked) (marks name : List ℕ) → FitsNoMarked linked marks name 0
no_marked_first linked marks name = record { before = λ at low. absurd (omega arith) }

pub no_marked_on : (linked : Linked) (marks name : List ℕ) (place here : ℕ) → ((other : ℕ) → place ≤ other → other < here → FitsAt linked name other → ⊥) → (IsSet marks here → ⊥) → FitsNoMarked linked marks name place → FitsNoMarked linked marks name (here + 1)
no_marked_on linked marks name place here none never has = record { before = λ at low fits one. by at low fits one (cases_eq at here) (cases_lt at place) }
  where
    by : (at : ℕ) → at < here + 1 → FitsAt linked name at → IsSet marks at → (at ≡ here) ⊎ (at ≡ here → ⊥) → (at < place) ⊎ (place ≤ at) → ⊥
    by at low fits one (inl same) past = never (subst (IsSet marks) same one)
    by at low fits one (inr differ) (inl before) = has.before at before fits one
    by at low fits one (inr differ) (inr behind) = none at behind (omega arith) fits

pub no_marked_last : (linked : Linked) (marks name : List ℕ) (place : ℕ) → ((other : ℕ) → place ≤ other → FitsAt linked name other → ⊥) → FitsNoMarked linked marks name place → FitsMarked linked marks name → ⊥
no_marked_last linked marks name place none has found = by (cases_lt found.at place)
  where
    by : (found.at < place) ⊎ (place ≤ found.at) → ⊥
    by (inl before) = has.before found.at before found.fits found.marked
    by (inr behind) = none found.at behind found.fits

-- ---- the users

pub chooses_none : (linked : Linked) (x marks : List ℕ) (before : List ℕ → Bool) (old : List (List ℕ)) → Chooses linked x marks [] before before old old
chooses_none linked x marks before old = record {
  chosen = [];
  adds = adds_none x before old;
  sound = λ y none. absurd (stands_nowhere y none);
  whole = λ y none. absurd (stands_nowhere y none);
}

-- a name that is not to be chosen
pub chooses_past : (linked : Linked) (x marks : List ℕ) (names : List (List ℕ)) (name : List ℕ) (before after : List ℕ → Bool) (old new : List (List ℕ)) → (is_pattern linked.names name ≡ false → FitsMarked linked marks name → ⊥) → Chooses linked x marks names before after old new → Chooses linked x marks (names ++ name ∷ []) before after old new
chooses_past linked x marks names name before after old new never has = record {
  chosen = has.chosen;
  adds = has.adds;
  sound = λ y stands. (let facts = has.sound y stands in (Contains-append_left names (name ∷ []) y facts.0, facts.1, facts.2, facts.3));
  whole = λ y stands plain fits. by y plain fits (Contains-push_cases names name y stands);
}
  where
    by : (y : List ℕ) → is_pattern linked.names y ≡ false → FitsMarked linked marks y → Contains names y ⊎ (name ≡ y) → Contains has.chosen y
    by y plain fits (inl early) = has.whole y early plain fits
    by y plain fits (inr same) = absurd (never (subst (λ (n : List ℕ). is_pattern linked.names n ≡ false) (sym same) plain) (subst (FitsMarked linked marks) (sym same) fits))

-- one that is
pub chooses_on : (linked : Linked) (x marks : List ℕ) (names : List (List ℕ)) (name : List ℕ) (before between after : List ℕ → Bool) (old mid new : List (List ℕ)) → is_pattern linked.names name ≡ false → has_line_end name ≡ false → FitsMarked linked marks name
    → ((roles : List (List ℕ)) → Adds x roles before between old mid → Adds x (roles ++ name ∷ []) before after old new) → Chooses linked x marks names before between old mid → Chooses linked x marks (names ++ name ∷ []) before after old new
chooses_on linked x marks names name before between after old mid new plain line fits adds has = record {
  chosen = has.chosen ++ name ∷ [];
  adds = adds has.chosen has.adds;
  sound = λ y stands. by_sound y (Contains-push_cases has.chosen name y stands);
  whole = λ y stands plain_y fits_y. by_whole y plain_y fits_y (Contains-push_cases names name y stands);
}
  where
    by_sound : (y : List ℕ) → Contains has.chosen y ⊎ (name ≡ y) → Contains (names ++ name ∷ []) y × (is_pattern linked.names y ≡ false) × (has_line_end y ≡ false) × FitsMarked linked marks y
    by_sound y (inl early) = let facts = has.sound y early in (Contains-append_left names (name ∷ []) y facts.0, facts.1, facts.2, facts.3)
    by_sound y (inr same) =
        subst (λ (n : List ℕ). Contains (names ++ name ∷ []) n × (is_pattern linked.names n ≡ false) × (has_line_end n ≡ false) × FitsMarked linked marks n) same (Contains-push names name, plain, line, fits)

    by_whole : (y : List ℕ) → is_pattern linked.names y ≡ false → FitsMarked linked marks y → Contains names y ⊎ (name ≡ y) → Contains (has.chosen ++ name ∷ []) y
    by_whole y plain_y fits_y (inl early) = Contains-append_left has.chosen (name ∷ []) y (has.whole y early plain_y fits_y)
    by_whole y plain_y fits_y (inr same) = subst (Contains (has.chosen ++ name ∷ [])) same (Contains-push has.chosen name)

-- the tests that a name is put to, of which one fails
pub chooses_pattern : (linked : Linked) (x marks : List ℕ) (names : List (List ℕ)) (name user bytes : List ℕ) (before after : List ℕ → Bool) (old new : List (List ℕ)) (fit : Fit) (test : Bool) → user ≡ name → bytes ≡ user → fit ≡ linked.names → test ≡ is_pattern fit bytes → test ≡ true
    → Chooses linked x marks names before after old new → Chooses linked x marks (names ++ name ∷ []) before after old new
chooses_pattern linked x marks names name user bytes before after old new fit test is same fit_is told holds has =
    let pattern : is_pattern linked.names name ≡ true = ap (λ (f : Fit). is_pattern f name) (sym fit_is) ∙ ap (is_pattern fit) (sym (same ∙ is)) ∙ sym told ∙ holds in
    chooses_past linked x marks names name before after old new (λ plain fits. false≢true (sym plain ∙ pattern)) has

pub chooses_unfit : (linked : Linked) (x marks : List ℕ) (names : List (List ℕ)) (name user bytes : List ℕ) (before after : List ℕ → Bool) (old new : List (List ℕ)) (test : Bool) → user ≡ name → bytes ≡ user → IsTrue test ↔ FitsMarked linked marks bytes → test ≡ false
    → Chooses linked x marks names before after old new → Chooses linked x marks (names ++ name ∷ []) before after old new
chooses_unfit linked x marks names name user bytes before after old new test is same told fails has =
    chooses_past linked x marks names name before after old new (λ plain fits. false≢true (sym fails ∙ told.1 (subst (FitsMarked linked marks) (sym (same ∙ is)) fits))) has

-- and of which none does
pub chooses_user : (linked : Linked) (x marks : List ℕ) (names : List (List ℕ)) (name user bytes : List ℕ) (before between after : List ℕ → Bool) (old mid new : List (List ℕ)) (fit : Fit) (pattern fits : Bool) → user ≡ name → bytes ≡ user → has_line_end user ≡ false → fit ≡ linked.names
    → pattern ≡ is_pattern fit bytes → pattern ≡ false → IsTrue fits ↔ FitsMarked linked marks bytes → fits ≡ true
    → ((roles : List (List ℕ)) → Adds x roles before between old mid → Adds x (roles ++ user ∷ []) before after old new) → Chooses linked x marks names before between old mid → Chooses linked x marks (names ++ name ∷ []) before after old new
chooses_user linked x marks names name user bytes before between after old mid new fit pattern fits is same line fit_is told fails marked holds adds has =
    subst (λ (n : List ℕ). Chooses linked x marks (names ++ n ∷ []) before after old new) is
    (chooses_on linked x marks names user before between after old mid new
    (ap (λ (f : Fit). is_pattern f user) (sym fit_is) ∙ ap (is_pattern fit) (sym same) ∙ sym told ∙ fails) line
    (subst (FitsMarked linked marks) same (marked.0 holds)) adds has)

-- one row more
pub users_on : (rows : List Fields) (at : ℕ) (item : Fields) → at < length rows → item ≡ get_or rows at item → map user_of (take (at + 1) rows) ≡ map user_of (take at rows) ++ user_of item ∷ []
users_on rows at item within is = ap (map user_of) (take_more rows at item within ∙ ap (λ (r : Fields). take at rows ++ r ∷ []) (sym is)) ∙ map-append user_of (take at rows) (item ∷ [])

-- the users of all rows, in order
module _ (linked : Linked) (x marks : List ℕ) (most : ℕ) (names : List (List ℕ)) (before after : List ℕ → Bool) (fresh sorted : List (List ℕ)) (are : AreLeading linked x most marks) (nothing : (y : List ℕ) → before y ≡ false)
    (has : Chooses linked x marks names before after [] fresh) (moved : IsPermutation fresh sorted) where
  added_is : fresh ≡ has.adds.added
  added_is = has.adds.is

  once_sorted : IsDistinct bytes_eq sorted
  once_sorted = IsDistinct-IsPermutation bytes_eq flips fresh sorted moved (subst (IsDistinct bytes_eq) (sym added_is) has.adds.once)

  stands_added : (y : List ℕ) → Contains sorted y → Contains has.adds.added y
  stands_added y stands = subst (λ (l : List (List ℕ)). Contains l y) added_is (Contains-permutation sorted fresh y (IsPermutation-sym fresh sorted moved) stands)

  added_stands : (y : List ℕ) → Contains has.adds.added y → Contains sorted y
  added_stands y stands = Contains-permutation fresh sorted y moved (subst (λ (l : List (List ℕ)). Contains l y) (sym added_is) stands)

  user_there : (y : List ℕ) → Contains sorted y → IsUserOf (shape_of linked.names) (rows_of linked.groups) most None names x y
  user_there y stands =
      let sound = has.adds.sound y (stands_added y stands) in
      let facts = has.sound y sound.2 in
      record { user = facts.0; other = sound.0; plain = facts.1; linked = (on_way linked x marks most y are).0 (inr facts.3) }

  user_back : (y : List ℕ) → IsUserOf (shape_of linked.names) (rows_of linked.groups) most None names x y → Contains sorted y
  user_back y is = by ((on_way linked x marks most y are).1 is.linked)
    where
      by : IsOnWay linked x marks y → Contains sorted y
      by (inl same) = absurd (is.other same)
      by (inr fits) = added_stands y (has.adds.whole y (has.whole y is.user is.plain fits) is.other (nothing y))

  pub users_told : IsSortedBy is_before sorted → AreUsersOf (shape_of linked.names) (rows_of linked.groups) most None names x sorted
  users_told order = record { members = λ y. (user_there y, user_back y); order = strictly sorted order once_sorted }

  pub users_few : length sorted ≤ length names
  users_few = length-le_from_is_member nat_list_eq_equiv sorted names once_sorted (λ q is. any_stands q names (user_there q (stands_any q sorted is)).user)

  pub users_whole : list_any has_line_end sorted ≡ false
  users_whole = all_whole sorted (λ y stands. (has.sound y (has.adds.sound y (stands_added y stands)).2).2)
