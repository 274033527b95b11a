-- What becomes of the domain of a text while rows come and go.
use Rattle.std.proofs.Common.{◌≡◌, ◌<◌, ◌≤◌, ◌+◌, ◌-◌, ◌^◌, ◌&&◌, ℕ, Bool, true, false, not, List, [], Option, None, Some, if◌then◌else◌, length, refl, sym, ap, ◌∙◌, arith}
use Rattle.std.specs.List.{count_by}
use Rattle.std.specs.Str.{bytes_eq}
use Rattle.std.proofs.lemmas.Bool.{and_parts, false≢true}
use Rattle.std.proofs.lemmas.List.Sums.{count_by-le-length}
use Rattle.std.proofs.lemmas.Slice.Eq.{bytes_eq-Decides}
use Rattle.perm_base.specs.Patterns.{is_pattern}
use Rattle.perm_base.specs.declared.shapes.Fit.{Fit}
use Rattle.policy_table.specs.Tables.{Fields, same}
use Rattle.role_domain.specs.Domains.{IsDomain, IsRight}
use Rattle.role_domain.specs.Helps.Tallies.{Tallies, meets, own_at, rows_at}
use Rattle.role_domain.specs.Helps.Turns.{CanStep, Turn, after_of}
use Rattle.role_domain.specs.Relations.{Relation, Tells, counted, has_pattern, named, pair_of}
use Rattle.role_domain.specs.Steps.{IsReady}
use Rattle.role_domain.specs.declared.domain.Domain.{Domain}
use Rattle.role_domain.specs.declared.prepared.DomainStep.TheVariants.{Changed}
use Rattle.role_domain.proofs.CountLemmas.{count_agree, count_split, count_weaker, counted_long}
use Rattle.role_domain.proofs.FitLemmas.{fits_same}
use Rattle.role_graph.specs.Graph.{Edit, IsPreparedFor}
use Rattle.role_graph.specs.Groups.{after, times}
use Rattle.role_meaning.specs.Links.{domain_of}
use Rattle.role_meaning.proofs.CallerLemmas.{plain_fits}

-- a test tells of a text that is no pattern whether it is that text
pub plain_told : (fit : Fit) (text : List ℕ) (test : List ℕ → Bool) (domain : List ℕ) → Tells fit text test → is_pattern fit domain ≡ false → test domain ≡ bytes_eq text domain
plain_told fit text test domain tells plain = by (test domain) refl (bytes_eq text domain) refl
  where
    by : (t : Bool) → test domain ≡ t → (b : Bool) → bytes_eq text domain ≡ b → t ≡ b
    by true told true is = refl
    by false told false is = refl
    by true told false is = absurd (false≢true (sym is ∙ (bytes_eq-Decides text domain).1 (plain_fits fit text domain plain ((tells.told domain).0 told))))
    by false told true is = absurd (false≢true (sym told ∙ (tells.told domain).1 (fits_same fit text domain ((bytes_eq-Decides text domain).0 is))))

-- each row that counts in a domain that is there touches it
meets_there : (fit : Fit) (text : List ℕ) (test : List ℕ → Bool) → Tells fit text test → (domain : List ℕ) → meets fit true text test domain ≡ test domain
meets_there fit text test tells domain = by (is_pattern fit domain) refl
  where
    by : (b : Bool) → is_pattern fit domain ≡ b → (if b then true && test domain else bytes_eq text domain) ≡ test domain
    by true is = refl
    by false is = sym (plain_told fit text test domain tells is)

counted_there : (fit : Fit) (text : List ℕ) (test : List ℕ → Bool) → Tells fit text test → (one : Fields) (rows : List Fields) → counted (meets fit true text test) one rows ≡ counted test one rows
counted_there fit text test tells one rows =
    count_agree (λ (row : Fields). meets fit true text test (domain_of row) && same one (pair_of row)) (λ (row : Fields). test (domain_of row) && same one (pair_of row)) rows
    (λ row. ap (λ (b : Bool). b && same one (pair_of row)) (meets_there fit text test tells (domain_of row)))

-- the test that a row has this text as its domain
abbrev has_text : List ℕ → Fields → Bool
has_text text row = bytes_eq text (domain_of row)

-- ---- a domain that is there

module _ (turn : Turn) (text : List ℕ) (domain : Domain) (coming going : Tallies) (patterns : List Fields) (can : CanStep turn text (Some domain) coming going patterns) where
  pub come_rows : (test : List ℕ → Bool) → Tells turn.terms.domains text test → (one : Fields) → times one (rows_at coming text) ≡ counted test one turn.come
  come_rows test tells one = can.come.pairs test tells one ∙ counted_there turn.terms.domains text test tells one turn.come

  pub go_rows : (test : List ℕ → Bool) → Tells turn.terms.domains text test → (one : Fields) → times one (rows_at going text) ≡ counted test one turn.go
  go_rows test tells one = can.go.pairs test tells one ∙ counted_there turn.terms.domains text test tells one turn.go

  -- the rows that go stand in its graph
  pub rows_stand : (test : List ℕ → Bool) → Tells turn.terms.domains text test → (one : Fields) → times one (rows_at going text) ≤ times one domain.graph.rows
  rows_stand test tells one = omega (arith, go_rows test tells one, can.turned.stood (λ (row : Fields). test (domain_of row) && same one (pair_of row)), can.right.rows test tells one)

  -- and there are not too many afterwards
  pub rows_few : (test : List ℕ → Bool) → Tells turn.terms.domains text test → length domain.graph.rows + length (rows_at coming text) ≤ 200000 + length (rows_at going text)
  rows_few test tells =
      omega (
        arith,
        counted_long test domain.graph.rows turn.before (can.right.rows test tells),
        counted_long test (rows_at coming text) turn.come (come_rows test tells),
        counted_long test (rows_at going text) turn.go (go_rows test tells),
        can.turned.balance (λ (row : Fields). test (domain_of row)),
        count_by-le-length (λ (row : Fields). test (domain_of row)) turn.after,
        can.few,
      )

  -- how many rows have its text afterwards
  pub own_after : (own : ℕ) → own ≡ domain.own + own_at coming text - own_at going text → own ≡ named text turn.after
  own_after own is = omega (arith, is, can.right.own, can.come.own, can.go.own, can.turned.balance (has_text text))

  pub own_small : domain.own + own_at coming text < 2 ^ 64
  own_small =
      omega (
        arith,
        can.right.own,
        can.come.own,
        can.turned.balance (has_text text),
        can.turned.stood (has_text text),
        count_by-le-length (has_text text) turn.after,
        count_by-le-length (has_text text) turn.before,
        can.few,
        can.few_before,
      )

  pub own_enough : own_at going text ≤ domain.own + own_at coming text
  own_enough = omega (arith, can.right.own, can.go.own, can.turned.stood (has_text text))

  -- the edit of its graph is ready
  pub changed_ready : (new : Domain) (own : ℕ) (edit : Edit) (come go : List Fields) → own ≡ domain.own + own_at coming text - own_at going text → (own ≡ 0 → ⊥)
      → new.graph.names ≡ domain.graph.names → new.graph.limit ≡ domain.graph.limit → new.graph.rows ≡ domain.graph.rows → IsPreparedFor new.graph edit
      → come ≡ rows_at coming text → go ≡ rows_at going text
      → ((one : Fields) → times one (after edit.changed domain.graph.rows) + times one go ≡ times one domain.graph.rows + times one come)
      → IsReady (after_of turn) text (Some new) (Changed own edit)
  changed_ready new own edit come go is some names limit rows good come_is go_is made = record {
    domain = new;
    is = refl;
    good = good;
    counts = own_after own is;
    some = omega (arith, some);
    names = names ∙ can.right.names;
    limited = limit ∙ can.right.limited;
    rows = λ test tells one. omega (
      arith,
      ap (λ (l : List Fields). times one (after edit.changed l)) rows,
      made one,
      ap (times one) come_is,
      ap (times one) go_is,
      come_rows test tells one,
      go_rows test tells one,
      can.right.rows test tells one,
      can.turned.balance (λ (row : Fields). test (domain_of row) && same one (pair_of row)),
    );
  }

-- a domain stays right where its graph has the same rows
pub same_domain : (relation : Relation) (text : List ℕ) (old new : Domain) → new.own ≡ old.own → new.graph.names ≡ old.graph.names → new.graph.limit ≡ old.graph.limit → new.graph.rows ≡ old.graph.rows → IsDomain relation text old → IsDomain relation text new
same_domain relation text old new own names limit rows right = record {
  own = own ∙ right.own;
  some = omega (arith, own, right.some);
  names = names ∙ right.names;
  limited = limit ∙ right.limited;
  rows = λ test tells one. ap (times one) rows ∙ right.rows test tells one;
}

-- ---- a domain that is not there

module _ (turn : Turn) (text : List ℕ) (coming going : Tallies) (patterns : List Fields) (can : CanStep turn text None coming going patterns) where
  pub new_own : own_at coming text ≡ named text turn.after
  new_own = omega (arith, can.right, can.come.own, can.turned.balance (has_text text), can.turned.stood (has_text text))

  plain_has : (test : List ℕ → Bool) (row : Fields) → meets turn.terms.domains false text test (domain_of row) ≡ true → has_text text row ≡ true
  plain_has test row is = by (is_pattern turn.terms.domains (domain_of row)) is
    where
      by : (b : Bool) → (if b then false && test (domain_of row) else bytes_eq text (domain_of row)) ≡ true → has_text text row ≡ true
      by true none = absurd (false≢true none)
      by false same = same

  -- the rows that come are all rows with this text, which is no pattern
  pub new_come : (test : List ℕ → Bool) → Tells turn.terms.domains text test → (one : Fields) → times one (rows_at coming text) ≡ counted (meets turn.terms.domains false text test) one turn.after
  new_come test tells one =
      let passes : Fields → Bool = λ row. meets turn.terms.domains false text test (domain_of row) && same one (pair_of row) in
      let few : count_by passes turn.before ≤ named text turn.before = count_weaker passes (has_text text) turn.before (λ row is. plain_has test row (and_parts (meets turn.terms.domains false text test (domain_of row)) (same one (pair_of row)) is).0) in
      omega (arith, can.come.pairs test tells one, can.turned.balance passes, can.turned.stood passes, few, can.right)

  -- those and the rows with a pattern as their domain that count here are all that do
  pub new_rows : (test : List ℕ → Bool) → Tells turn.terms.domains text test → (one : Fields) → times one (rows_at coming text) + counted test one patterns ≡ counted test one turn.after
  new_rows test tells one =
      let passes : Fields → Bool = λ row. test (domain_of row) && same one (pair_of row) in
      let plain : count_by (λ (row : Fields). not (has_pattern turn.terms.domains row) && passes row) turn.after ≡ counted (meets turn.terms.domains false text test) one turn.after =
      count_agree (λ (row : Fields). not (has_pattern turn.terms.domains row) && passes row) (λ (row : Fields). meets turn.terms.domains false text test (domain_of row) && same one (pair_of row)) turn.after
      (λ row. by (is_pattern turn.terms.domains (domain_of row)) (test (domain_of row)) (bytes_eq text (domain_of row)) (same one (pair_of row)) (λ plain. plain_told turn.terms.domains text test (domain_of row) tells plain)) in
      omega (arith, new_come test tells one, can.patterns.rows passes, count_split (has_pattern turn.terms.domains) passes turn.after, plain)
    where
      by : (p t b s : Bool) → (p ≡ false → t ≡ b) → (not p && (t && s)) ≡ ((if p then false && t else b) && s)
      by true t b s plain = refl
      by false t b s plain = ap (λ (c : Bool). c && s) (plain refl)

  -- and there are not too many
  pub new_few : (test : List ℕ → Bool) → Tells turn.terms.domains text test → (pairs : List Fields) → ((one : Fields) → times one pairs ≡ counted test one patterns) → length (rows_at coming text) + length pairs ≤ 200000
  new_few test tells pairs are =
      let passes : Fields → Bool = λ row. test (domain_of row) in
      let own : Fields → Bool = λ row. meets turn.terms.domains false text test (domain_of row) in
      let is_there : Fields → Bool = λ row. true in
      let plain : count_by own turn.after ≤ count_by (λ (row : Fields). not (has_pattern turn.terms.domains row) && true) turn.after =
      count_weaker own (λ (row : Fields). not (has_pattern turn.terms.domains row) && true) turn.after (λ row is. by (is_pattern turn.terms.domains (domain_of row)) (test (domain_of row)) (bytes_eq text (domain_of row)) is) in
      let others : count_by (λ (row : Fields). has_pattern turn.terms.domains row && passes row) turn.after ≤ count_by (λ (row : Fields). has_pattern turn.terms.domains row && true) turn.after =
      count_weaker (λ (row : Fields). has_pattern turn.terms.domains row && passes row) (λ (row : Fields). has_pattern turn.terms.domains row && true) turn.after
      (λ row is. ap (λ (b : Bool). b && true) (and_parts (has_pattern turn.terms.domains row) (passes row) is).0) in
      omega (
        arith,
        counted_long (meets turn.terms.domains false text test) (rows_at coming text) turn.after (new_come test tells),
        counted_long test pairs patterns are,
        can.patterns.rows passes,
        plain,
        others,
        count_split (has_pattern turn.terms.domains) is_there turn.after,
        count_by-le-length is_there turn.after,
        can.few,
      )
    where
      by : (p t b : Bool) → (if p then false && t else b) ≡ true → (not p && true) ≡ true
      by true t b is = absurd (false≢true is)
      by false t b is = refl

  -- so is the new domain
  pub new_right : (new : Domain) → new.own ≡ own_at coming text → 0 < own_at coming text → new.graph.names ≡ turn.terms.names → new.graph.limit ≡ turn.terms.limit
      → ((test : List ℕ → Bool) → Tells turn.terms.domains text test → (one : Fields) → times one new.graph.rows ≡ times one (rows_at coming text) + counted test one patterns)
      → IsDomain (after_of turn) text new
  new_right new own some names limit rows = record {
    own = own ∙ new_own;
    some = omega (arith, own, some);
    names = names;
    limited = limit;
    rows = λ test tells one. rows test tells one ∙ new_rows test tells one;
  }

-- ---- a domain that no row touches

pub untouched : (turn : Turn) (text : List ℕ) (there : Option Domain) (coming going : Tallies) (patterns : List Fields) → CanStep turn text there coming going patterns → own_at coming text ≡ 0 → rows_at coming text ≡ [] → own_at going text ≡ 0 → rows_at going text ≡ [] → IsRight (after_of turn) text there
untouched turn text None coming going patterns can own_come rows_come own_go rows_go =
    omega (arith, can.right, can.come.own, can.go.own, own_come, own_go, can.turned.balance (has_text text))
untouched turn text (Some domain) coming going patterns can own_come rows_come own_go rows_go = record {
  own = omega (arith, can.right.own, can.come.own, can.go.own, own_come, own_go, can.turned.balance (has_text text));
  some = can.right.some;
  names = can.right.names;
  limited = can.right.limited;
  rows = λ test tells one. omega (
    arith,
    can.right.rows test tells one,
    come_rows turn text domain coming going patterns can test tells one,
    go_rows turn text domain coming going patterns can test tells one,
    ap (times one) rows_come,
    ap (times one) rows_go,
    can.turned.balance (λ (row : Fields). test (domain_of row) && same one (pair_of row)),
  );
}
