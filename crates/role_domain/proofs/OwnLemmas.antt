-- Rows by the texts of their domains, and the domains that are made of them.
use Rattle.std.proofs.Common.{◌≡◌, ◌<◌, ◌≤◌, ◌+◌, ℕ, Bool, true, false, not, ◌&&◌, cond, List, [], ◌∷◌, ◌++◌, Option, None, Some, append-nil, append_assoc, length, length-append, map, take, get_or, refl, sym, ap, subst, ◌∙◌, arith}
use Rattle.std.specs.Prelude.{All}
use Rattle.std.specs.Borrow.{Bor}
use Rattle.std.specs.Global.{Vec}
use Rattle.std.specs.List.{count_by}
use Rattle.std.specs.Str.{bytes_eq}
use Rattle.std.proofs.lemmas.Bool.{and_parts}
use Rattle.std.proofs.lemmas.List.{length-map, map-append, take_more}
use Rattle.std.proofs.lemmas.List.Elements.{All-cons, All-filter, All-head, All-nil, All-tail}
use Rattle.std.proofs.lemmas.List.Sums.{count_by-le-length, length-filter}
use Rattle.perm_base.specs.Patterns.{is_pattern}
use Rattle.perm_base.specs.declared.shapes.Fit.{Fit}
use Rattle.policy_table.specs.Tables.{Fields, same}
use Rattle.role_domain.specs.Domains.{ArePatterns, Domains, IsDomain, IsRight, found}
use Rattle.role_domain.specs.Helps.OwnRows.{CanMake, HasRowsAt, HaveRows, Owned, is_plain_text, lent, named_rows}
use Rattle.role_domain.specs.Helps.Turns.{CanTurn, first_turn}
use Rattle.role_domain.specs.Relations.{Relation, Tells, counted, has_pattern, named, pair_of}
use Rattle.role_domain.specs.declared.domain.Domain.{Domain}
use Rattle.role_domain.specs.declared.terms.Terms.{Terms}
use Rattle.role_domain.proofs.CountLemmas.{count_agree, count_nothing, count_split, count_weaker, counted_long, times_pairs}
use Rattle.role_domain.proofs.Keyed.{same_text, text_itself}
use Rattle.role_domain.proofs.StepLemmas.{plain_told}
use Rattle.role_graph.specs.Groups.{times}
use Rattle.role_meaning.specs.Links.{domain_of}

-- ---- rows by their texts

-- before the first row
pub rows_none : (all rest : List Fields) (owned : Owned) → owned ≡ [] → rest ≡ all → HaveRows all rest owned
rows_none all rest owned none whole = record { at = λ text. subst (λ (l : Owned). HasRowsAt all rest text (found l text)) (sym none) (ap (named_rows text) whole) }

-- of the rest the first row is not of a text
skipped : (text : List ℕ) (row : Fields) (rest : List Fields) → bytes_eq text (domain_of row) ≡ false → named_rows text (row ∷ rest) ≡ named_rows text rest
skipped text row rest differ = ap (λ (b : Bool). cond b (row ∷ named_rows text rest) (named_rows text rest)) differ

-- or it is
taken : (row : Fields) (rest : List Fields) → named_rows (domain_of row) (row ∷ rest) ≡ row ∷ named_rows (domain_of row) rest
taken row rest = ap (λ (b : Bool). cond b (row ∷ named_rows (domain_of row) rest) (named_rows (domain_of row) rest)) (text_itself (domain_of row))

-- a row with another text changes nothing
rows_other : (all rest : List Fields) (text : List ℕ) (row : Fields) (there : Option (Vec (Bor Fields))) → bytes_eq text (domain_of row) ≡ false → HasRowsAt all (row ∷ rest) text there → HasRowsAt all rest text there
rows_other all rest text row None differ are = sym (skipped text row rest differ) ∙ are
rows_other all rest text row (Some own) differ (are, some) = (ap (λ (l : List Fields). lent own.items ++ l) (sym (skipped text row rest differ)) ∙ are, some)

-- one with the text is put behind the others
rows_more : (all rest : List Fields) (row : Bor Fields) (before : List (Bor Fields)) (after : Vec (Bor Fields)) → lent before ++ named_rows (domain_of row.now) (row.now ∷ rest) ≡ named_rows (domain_of row.now) all → after.items ≡ before ++ row ∷ [] → HasRowsAt all rest (domain_of row.now) (Some after)
rows_more all rest row before after are pushed = (
  ap (λ (l : List (Bor Fields)). lent l ++ named_rows (domain_of row.now) rest) pushed
      ∙ ap (λ (l : List Fields). l ++ named_rows (domain_of row.now) rest) (map-append (λ (r : Bor Fields). r.now) before (row ∷ []))
      ∙ append_assoc (lent before) (row.now ∷ []) (named_rows (domain_of row.now) rest)
      ∙ ap (λ (l : List Fields). lent before ++ l) (sym (taken row.now rest))
      ∙ are,
  omega (arith, ap (λ (l : List (Bor Fields)). length l) pushed, length-append before (row ∷ [])),
)

-- all of them, once those of the row's text have changed
pub rows_next : (all rest : List Fields) (row : Bor Fields) (old new : Owned) (before : List (Bor Fields)) (after : Vec (Bor Fields)) → lent before ++ named_rows (domain_of row.now) (row.now ∷ rest) ≡ named_rows (domain_of row.now) all → after.items ≡ before ++ row ∷ []
    → ((text : List ℕ) → found new text ≡ cond (bytes_eq text (domain_of row.now)) (Some after) (found old text)) → HaveRows all (row.now ∷ rest) old → HaveRows all rest new
rows_next all rest row old new before after are pushed wrote have = record { at = λ text. subst (HasRowsAt all rest text) (sym (wrote text)) (by text (bytes_eq text (domain_of row.now)) refl) }
  where
    by : (text : List ℕ) (b : Bool) → bytes_eq text (domain_of row.now) ≡ b → HasRowsAt all rest text (cond b (Some after) (found old text))
    by text true is = subst (λ (t : List ℕ). HasRowsAt all rest t (Some after)) (sym (same_text text (domain_of row.now) is)) (rows_more all rest row before after are pushed)
    by text false differ = rows_other all rest text row.now (found old text) differ (have.at text)

-- what is there are the rows of the text so far, and where nothing is there are none
pub rows_there : (all rest : List Fields) (text domain : List ℕ) (owned : Owned) (own : Vec (Bor Fields)) → text ≡ domain → Some own ≡ found owned text → HaveRows all rest owned → lent own.items ++ named_rows domain rest ≡ named_rows domain all
rows_there all rest text domain owned own same is have =
    subst (λ (t : List ℕ). lent own.items ++ named_rows t rest ≡ named_rows t all) same (subst (HasRowsAt all rest text) (sym is) (have.at text)).0

pub rows_nowhere : (all rest : List Fields) (text domain : List ℕ) (owned : Owned) → text ≡ domain → None ≡ found owned text → HaveRows all rest owned → named_rows domain rest ≡ named_rows domain all
rows_nowhere all rest text domain owned same is have = subst (λ (t : List ℕ). named_rows t rest ≡ named_rows t all) same (subst (HasRowsAt all rest text) (sym is) (have.at text))

-- ---- the rows of one text

-- there are as many as rows with the text
own_long : (text : List ℕ) (all own : List Fields) → own ≡ named_rows text all → length own ≡ named text all
own_long text all own has = ap (λ (l : List Fields). length l) has ∙ length-filter (λ (row : Fields). bytes_eq text (domain_of row)) all

lent_long : (own : List (Bor Fields)) → length (lent own) ≡ length own
lent_long own = length-map own (λ (row : Bor Fields). row.now)

pub own_few : (terms : Terms) (text : List ℕ) (all : List Fields) (own : List (Bor Fields)) (patterns : List Fields) → CanMake terms text all (lent own) patterns → length own ≤ 200000
own_few terms text all own patterns can =
    omega (arith, lent_long own, own_long text all (lent own) can.has, count_by-le-length (λ (row : Fields). bytes_eq text (domain_of row)) all, can.few)

lent_all : (P : Fields → Type 0) (own : List (Bor Fields)) → All P (lent own) → All (λ (row : Bor Fields). P row.now) own
lent_all P [] all = All-nil (λ (row : Bor Fields). P row.now)
lent_all P (row ∷ own) all = All-cons (λ (r : Bor Fields). P r.now) row own (All-head P row.now (lent own) all) (lent_all P own (All-tail P row.now (lent own) all))

-- each has a user and a role
pub own_wide : (terms : Terms) (text : List ℕ) (all : List Fields) (own : List (Bor Fields)) (patterns : List Fields) → CanMake terms text all (lent own) patterns → All (λ (row : Bor Fields). 2 ≤ length row.now) own
own_wide terms text all own patterns can =
    lent_all (λ (row : Fields). 2 ≤ length row) own
    (subst (All (λ (row : Fields). 2 ≤ length row)) (sym can.has) (All-filter (λ (row : Fields). bytes_eq text (domain_of row)) (λ (row : Fields). 2 ≤ length row) all can.wide))

-- one more of them
pub own_next : (own : List (Bor Fields)) (at : ℕ) (row : Bor Fields) → at < length own → row ≡ get_or own at row → map pair_of (lent (take (at + 1) own)) ≡ map pair_of (lent (take at own)) ++ pair_of row.now ∷ []
own_next own at row within is =
    ap (λ (l : List (Bor Fields)). map pair_of (lent l)) (take_more own at row within ∙ ap (λ (r : Bor Fields). take at own ++ r ∷ []) (sym is))
    ∙ ap (map pair_of) (map-append (λ (r : Bor Fields). r.now) (take at own) (row ∷ []))
    ∙ map-append pair_of (lent (take at own)) (row.now ∷ [])

and_false : (b : Bool) → (b && false) ≡ false
and_false true = refl
and_false false = refl

plain_is : (fit : Fit) (text domain : List ℕ) → is_pattern fit text ≡ false → bytes_eq text domain ≡ is_plain_text fit text domain
plain_is fit text domain plain = by (bytes_eq text domain) refl
  where
    by : (b : Bool) → bytes_eq text domain ≡ b → b ≡ (not (is_pattern fit domain) && b)
    by true is = sym (ap (λ (p : Bool). not p && true) (ap (is_pattern fit) (sym (same_text text domain is)) ∙ plain))
    by false is = sym (and_false (not (is_pattern fit domain)))

never_plain : (fit : Fit) (text domain : List ℕ) → is_pattern fit text ≡ true → is_plain_text fit text domain ≡ false
never_plain fit text domain pattern = by (bytes_eq text domain) refl
  where
    by : (b : Bool) → bytes_eq text domain ≡ b → (not (is_pattern fit domain) && b) ≡ false
    by true is = ap (λ (p : Bool). not p && true) (ap (is_pattern fit) (sym (same_text text domain is)) ∙ pattern)
    by false is = and_false (not (is_pattern fit domain))

-- those of a text that is no pattern count there, and of one that is none do
pub own_counted : (fit : Fit) (text : List ℕ) (all own : List Fields) → is_pattern fit text ≡ false → own ≡ named_rows text all → (one : Fields) → times one (map pair_of own) ≡ counted (is_plain_text fit text) one all
own_counted fit text all own plain has one =
    ap (λ (l : List Fields). times one (map pair_of l)) has ∙ times_pairs (bytes_eq text) one all
    ∙ count_agree (λ (row : Fields). bytes_eq text (domain_of row) && same one (pair_of row)) (λ (row : Fields). is_plain_text fit text (domain_of row) && same one (pair_of row)) all
    (λ row. ap (λ (b : Bool). b && same one (pair_of row)) (plain_is fit text (domain_of row) plain))

pub none_counted : (fit : Fit) (text : List ℕ) (all rows : List Fields) → is_pattern fit text ≡ true → rows ≡ [] → (one : Fields) → times one rows ≡ counted (is_plain_text fit text) one all
none_counted fit text all rows pattern none one =
    ap (times one) none
    ∙ sym (count_nothing (λ (row : Fields). is_plain_text fit text (domain_of row) && same one (pair_of row)) all (λ row. ap (λ (b : Bool). b && same one (pair_of row)) (never_plain fit text (domain_of row) pattern)))

-- ---- all rows came

-- the rows of a text and the rows with a pattern as their domain are all that count
all_count : (terms : Terms) (text : List ℕ) (test : List ℕ → Bool) → Tells terms.domains text test → (one : Fields) (all patterns : List Fields) → ArePatterns (record { terms = terms; rows = all }) patterns → counted (is_plain_text terms.domains text) one all + counted test one patterns ≡ counted test one all
all_count terms text test tells one all patterns are =
    let passes : Fields → Bool = λ row. test (domain_of row) && same one (pair_of row) in
    let plain : count_by (λ (row : Fields). not (has_pattern terms.domains row) && passes row) all ≡ counted (is_plain_text terms.domains text) one all =
    count_agree (λ (row : Fields). not (has_pattern terms.domains row) && passes row) (λ (row : Fields). is_plain_text terms.domains text (domain_of row) && same one (pair_of row)) all
    (λ row. by (is_pattern terms.domains (domain_of row)) (test (domain_of row)) (bytes_eq text (domain_of row)) (same one (pair_of row)) (λ plain. plain_told terms.domains text test (domain_of row) tells plain)) in
    omega (arith, are.rows passes, count_split (has_pattern terms.domains) passes all, plain)
  where
    by : (p t b s : Bool) → (p ≡ false → t ≡ b) → (not p && (t && s)) ≡ ((not p && b) && s)
    by true t b s plain = refl
    by false t b s plain = ap (λ (c : Bool). c && s) (plain refl)

-- and there are no more of them than rows
pub all_few : (terms : Terms) (text : List ℕ) (test : List ℕ → Bool) (own pairs all patterns : List Fields) → ArePatterns (record { terms = terms; rows = all }) patterns → ((one : Fields) → times one own ≡ counted (is_plain_text terms.domains text) one all) → ((one : Fields) → times one pairs ≡ counted test one patterns) → length own + length pairs ≤ length all
all_few terms text test own pairs all patterns are own_are pairs_are =
    let passes : Fields → Bool = λ row. test (domain_of row) in
    let is_there : Fields → Bool = λ row. true in
    let plain : count_by (λ (row : Fields). is_plain_text terms.domains text (domain_of row)) all ≤ count_by (λ (row : Fields). not (has_pattern terms.domains row) && true) all =
    count_weaker (λ (row : Fields). is_plain_text terms.domains text (domain_of row)) (λ (row : Fields). not (has_pattern terms.domains row) && true) all
    (λ row is. ap (λ (b : Bool). b && true) (and_parts (not (has_pattern terms.domains row)) (bytes_eq text (domain_of row)) is).0) in
    let others : count_by (λ (row : Fields). has_pattern terms.domains row && passes row) all ≤ count_by (λ (row : Fields). has_pattern terms.domains row && true) all =
    count_weaker (λ (row : Fields). has_pattern terms.domains row && passes row) (λ (row : Fields). has_pattern terms.domains row && true) all
    (λ row is. ap (λ (b : Bool). b && true) (and_parts (has_pattern terms.domains row) (passes row) is).0) in
    omega (
      arith,
      counted_long (is_plain_text terms.domains text) own all own_are,
      counted_long test pairs patterns pairs_are,
      are.rows passes,
      plain,
      others,
      count_split (has_pattern terms.domains) is_there all,
      count_by-le-length is_there all,
    )

-- so the domain that is made of them is right
pub made_right : (terms : Terms) (text : List ℕ) (all patterns : List Fields) (own : List (Bor Fields)) (new : Domain) → CanMake terms text all (lent own) patterns → new.own ≡ length own → new.graph.names ≡ terms.names → new.graph.limit ≡ terms.limit
    → ((test : List ℕ → Bool) → Tells terms.domains text test → (one : Fields) → times one new.graph.rows ≡ counted (is_plain_text terms.domains text) one all + counted test one patterns) → IsDomain (record { terms = terms; rows = all }) text new
made_right terms text all patterns own new can count names limit made = record {
  own = count ∙ sym (lent_long own) ∙ own_long text all (lent own) can.has;
  some = omega (arith, count, lent_long own, can.some);
  names = names;
  limited = limit;
  rows = λ test tells one. omega (arith, made test tells one, all_count terms text test tells one all patterns can.are);
}

-- ---- domains are made one after the other

-- each of them can be made where all can be told
pub can_make : (terms : Terms) (text : List ℕ) (all patterns : List Fields) (own : Vec (Bor Fields)) (domains : Domains) → HasRowsAt all [] text (Some own) → CanTurn (first_turn terms all) domains patterns → CanMake terms text all (lent own.items) patterns
can_make terms text all patterns own domains (has, some) can = record {
  has = sym (append-nil (lent own.items)) ∙ has;
  some = omega (arith, some, lent_long own.items);
  are = can.patterns;
  columns = can.columns;
  wide = can.columns_come;
  few = can.few;
  least = can.some;
  most = can.most;
}

-- a text has rows still, or what is to be found at it
abbrev pub IsFilling : Relation → List ℕ → Option (Vec (Bor Fields)) → Option Domain → Type 0
IsFilling relation text (Some own) there = HasRowsAt relation.rows [] text (Some own)
IsFilling relation text None there = IsRight relation text there

-- no domain is right where there are no rows
none_there : (terms : Terms) (text : List ℕ) (there : Option Domain) → IsRight (record { terms = terms; rows = [] }) text there → there ≡ None
none_there terms text None right = refl
none_there terms text (Some domain) right = absurd (omega (arith, right.own, right.some))

-- no row has a text where none is named so
none_named : (text : List ℕ) (all : List Fields) → [] ≡ named_rows text all → named text all ≡ 0
none_named text all none = sym (own_long text all [] none)

pub filling_first : (relation : Relation) (text : List ℕ) (own : Option (Vec (Bor Fields))) (there : Option Domain) → HasRowsAt relation.rows [] text own → IsRight (record { terms = relation.terms; rows = [] }) text there → IsFilling relation text own there
filling_first relation text (Some own) there has right = has
filling_first relation text None there none right = subst (IsRight relation text) (sym (none_there relation.terms text there right)) (none_named text relation.rows none)

-- one of them is taken out, and its domain is put in
pub filling_next : (relation : Relation) (key text : List ℕ) (own now : Option (Vec (Bor Fields))) (old new : Option Domain) (domain : Domain) → IsDomain relation key domain → IsFilling relation text own old
    → (bytes_eq text key ≡ true → (now ≡ None) × (new ≡ Some domain)) → (bytes_eq text key ≡ false → (now ≡ own) × (new ≡ old)) → IsFilling relation text now new
filling_next relation key text own now old new domain right filling here other = by (bytes_eq text key) refl
  where
    by : (b : Bool) → bytes_eq text key ≡ b → IsFilling relation text now new
    by true is =
        subst (λ (o : Option (Vec (Bor Fields))). IsFilling relation text o new) (sym (here is).0)
        (subst (IsRight relation text) (sym (here is).1) (subst (λ (t : List ℕ). IsDomain relation t domain) (sym (same_text text key is)) right))
    by false is =
        subst (λ (o : Option (Vec (Bor Fields))). IsFilling relation text o new) (sym (other is).0)
        (subst (IsFilling relation text own) (sym (other is).1) filling)
