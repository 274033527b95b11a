-- What changes say of rules, and which come and go.
use Rattle.std.proofs.Common.{◌≡◌, ◌⊎◌, inl, inr, ◌<◌, ◌+◌, ℕ, Bool, true, false, not, ◌&&◌, ◌||◌, cond, List, [], ◌∷◌, ◌++◌, Option, None, Some, filter, length, take, get_or, refl, sym, ap, subst, ◌∙◌, arith}
use Rattle.std.specs.Prelude.{All, if◌then◌else◌, is_some, unwrap_or}
use Rattle.std.specs.List.{Contains, IsDistinct, count_by}
use Rattle.std.specs.Map.{keys_of, lookup}
use Rattle.std.proofs.lemmas.Bool.{and_parts, false≢true}
use Rattle.std.proofs.lemmas.List.{take_more}
use Rattle.std.proofs.lemmas.List.Elements.{All-head, All-tail, filter-append}
use Rattle.std.proofs.lemmas.Map.Made.{is_some-lookup}
use Rattle.perm_base.specs.declared.shapes.TableId.{TableId}
use Rattle.perm_base.specs.declared.shapes.TableId.TheVariants.{G}
use Rattle.policy_table.specs.Changes.{applies, changed, changed_rules, edited, is_possible, is_table, own, suits, table_of}
use Rattle.policy_table.specs.Tables.{AreOrdered, Fields, Policy, is_ranked, place, rows, same, stands}
use Rattle.policy_table.specs.declared.change.Change.{Change}
use Rattle.policy_table.specs.declared.change.Change.TheVariants.{Insert, Remove, Replace}
use Rattle.policy_table.proofs.CallerLemmas.{first_possible, ordered_changed, distinct_filter, rest_possible, rows_other, rows_possible, same-Decides, same_symm, same_table, stands-in_place, stands-inserted, stands-without}
use Rattle.role_domain.specs.Domains.{ArePatterns}
use Rattle.role_domain.specs.Helps.Turns.{IsTurned, said_of, stands_after, stands_behind, turns}
use Rattle.role_domain.specs.Relations.{has_pattern}
use Rattle.role_domain.specs.declared.terms.Terms.{Terms}
use Rattle.role_domain.proofs.CountLemmas.{count_agree_on, count_alike, count_both, count_filter, times_distinct}
use Rattle.role_graph.specs.Groups.{times}
use Rattle.role_graph.proofs.CallerLemmas.{once, times_both, times_filter}
use Rattle.role_meaning.proofs.CallerLemmas.{stands_cases, stands_nowhere}

-- changes behind others
pub stands_both : (changes more : List Change) (one : Fields) (stood : Bool) → stands_after (changes ++ more) one stood ≡ stands_after more one (stands_after changes one stood)
stands_both [] more one stood = refl
stands_both (first ∷ changes) more one stood = stands_both changes more one (stands_behind first one stood)

-- one change more, of the table or of another
pub stands_next : (table : TableId) (changes : List Change) (at : ℕ) (change : Change) → at < length changes → change ≡ get_or changes at change → (one : Fields) (stood : Bool)
    → stands_after (own table (take (at + 1) changes)) one stood
    ≡ (if is_table table (table_of change) then stands_behind change one (stands_after (own table (take at changes)) one stood) else stands_after (own table (take at changes)) one stood)
stands_next table changes at change within is one stood =
    ap (λ (l : List Change). stands_after (own table l) one stood) (take_more changes at change within ∙ ap (λ (x : Change). take at changes ++ x ∷ []) (sym is))
    ∙ ap (λ (l : List Change). stands_after l one stood) (filter-append (λ (c : Change). is_table table (table_of c)) (take at changes) (change ∷ []))
    ∙ stands_both (own table (take at changes)) (own table (change ∷ [])) one stood
    ∙ by (is_table table (table_of change)) (stands_after (own table (take at changes)) one stood)
  where
    by : (b s : Bool) → stands_after (cond b (change ∷ []) []) one s ≡ (if b then stands_behind change one s else s)
    by true s = refl
    by false s = refl

-- what was said so far, behind a change of another table and behind one of the table
pub said_past : (table : TableId) (changes : List Change) (at : ℕ) (change : Change) (one : Fields) (stood now : Bool) → at < length changes → change ≡ get_or changes at change → is_table table (table_of change) ≡ false
    → now ≡ stands_after (own table (take at changes)) one stood → now ≡ stands_after (own table (take (at + 1) changes)) one stood
said_past table changes at change one stood now within is other before =
    before
    ∙ sym (stands_next table changes at change within is one stood
    ∙ ap (λ (b : Bool). if b then stands_behind change one (stands_after (own table (take at changes)) one stood) else stands_after (own table (take at changes)) one stood) other)

pub said_more : (table : TableId) (changes : List Change) (at : ℕ) (change : Change) (one : Fields) (stood was now : Bool) → at < length changes → change ≡ get_or changes at change → is_table table (table_of change) ≡ true
    → was ≡ stands_after (own table (take at changes)) one stood → now ≡ stands_behind change one was → now ≡ stands_after (own table (take (at + 1) changes)) one stood
said_more table changes at change one stood was now within is here before behind =
    behind ∙ ap (stands_behind change one) before
    ∙ sym (stands_next table changes at change within is one stood
    ∙ ap (λ (b : Bool). if b then stands_behind change one (stands_after (own table (take at changes)) one stood) else stands_after (own table (take at changes)) one stood) here)

-- what stands in a list passes the test
there_stands : (rules : List Fields) (one : Fields) → Contains rules one → stands one rules ≡ true
there_stands [] one none = absurd (stands_nowhere one none)
there_stands (rule ∷ rules) one there = by (stands_cases rule rules one there) (there_stands rules one)
  where
    or_true : (b : Bool) → (b || true) ≡ true
    or_true true = refl
    or_true false = refl

    by : (rule ≡ one) ⊎ Contains rules one → (Contains rules one → stands one rules ≡ true) → (same one rule || stands one rules) ≡ true
    by (inl is) more = ap (λ (b : Bool). b || stands one rules) ((same-Decides one rule).1 (sym is))
    by (inr behind) more = ap (λ (b : Bool). same one rule || b) (more behind) ∙ or_true (same one rule)

-- ---- which rules stand behind changes

-- behind a change of unranked rules that suits them
one_stands : (change : Change) (rules : List Fields) (one : Fields) → suits change rules ≡ true → stands one (changed_rules false change rules) ≡ stands_behind change one (stands one rules)
one_stands (Insert table rule) rules one fits = stands-inserted false one rule rules ∙ ap (λ (b : Bool). b || stands one rules) (same_symm one rule) ∙ by (same rule one) (stands one rules)
  where
    by : (b s : Bool) → (b || s) ≡ (if b then true else s)
    by true s = refl
    by false s = refl
one_stands (Remove table rule) rules one fits = stands-without one rule rules ∙ by (same rule one) (stands one rules)
  where
    by : (b s : Bool) → (s && not b) ≡ (if b then false else s)
    by true true = refl
    by true false = refl
    by false true = refl
    by false false = refl
one_stands (Replace table old new) rules one fits =
    stands-in_place old new one rules
    ∙ ap (λ (b : Bool). (same one new && b) || (stands one rules && not (same old one))) (and_parts (stands old rules) (not (stands new rules)) fits).0
    ∙ ap (λ (b : Bool). (b && true) || (stands one rules && not (same old one))) (same_symm one new)
    ∙ by (same new one) (same old one) (stands one rules)
  where
    by : (n o s : Bool) → ((n && true) || (s && not o)) ≡ (if n then true else (if o then false else s))
    by true o s = refl
    by false true true = refl
    by false true false = refl
    by false false true = refl
    by false false false = refl

-- behind changes, as those of the relation say
pub stands_changed : (number : ℕ) (changes : List Change) (policy : Policy) → AreOrdered policy → applies changes policy ≡ true → (one : Fields) → stands one (rows (edited changes policy) (G number)) ≡ stands_after (own (G number) changes) one (stands one (rows policy (G number)))
unfolding edited
stands_changed number [] policy order possible one = refl
stands_changed number (change ∷ changes) policy order possible one =
    by (is_table (G number) (table_of change)) refl (stands_changed number changes (changed change policy) (ordered_changed change policy order first) (rest_possible change changes policy possible) one)
  where
    first : is_possible change policy ≡ true
    first = first_possible change changes policy possible

    here : is_table (G number) (table_of change) ≡ true → stands one (rows (changed change policy) (G number)) ≡ stands_behind change one (stands one (rows policy (G number)))
    here e =
        let table : G number ≡ table_of change = same_table (G number) (table_of change) e in
        ap (λ (t : TableId). stands one (rows (changed change policy) t)) table
        ∙ ap (stands one) (rows_possible change policy order.counted first)
        ∙ ap (λ (t : TableId). stands one (changed_rules (is_ranked policy t) change (rows policy t))) (sym table)
        ∙ one_stands change (rows policy (G number)) one
        (ap (λ (t : TableId). suits change (rows policy t)) table ∙ (and_parts (is_some (place (table_of change))) (suits change (rows policy (table_of change))) first).1)

    by : (b : Bool) → is_table (G number) (table_of change) ≡ b
        → stands one (rows (edited changes (changed change policy)) (G number)) ≡ stands_after (own (G number) changes) one (stands one (rows (changed change policy) (G number)))
        → stands one (rows (edited changes (changed change policy)) (G number)) ≡ stands_after (cond b (change ∷ own (G number) changes) (own (G number) changes)) one (stands one (rows policy (G number)))
    by true e rest = rest ∙ ap (stands_after (own (G number) changes) one) (here e)
    by false e rest = rest ∙ ap (λ (l : List Fields). stands_after (own (G number) changes) one (stands one l)) (rows_other change policy (G number) e)

-- ---- which rules come and go

-- what stands passes what all pass
pub all_stands : (P : Fields → Type 0) (rules : List Fields) (one : Fields) → All P rules → stands one rules ≡ true → P one
all_stands P [] one all none = absurd (false≢true none)
all_stands P (rule ∷ rules) one all there = by (same one rule) refl there (all_stands P rules one (All-tail P rule rules all))
  where
    by : (b : Bool) → same one rule ≡ b → (b || stands one rules) ≡ true → (stands one rules ≡ true → P one) → P one
    by true is there more = subst P (sym ((same-Decides one rule).0 is)) (All-head P rule rules all)
    by false is there more = more there

-- a rule of which nothing was said stands as it stood
unsaid : (said : List (Fields × Bool)) (one : Fields) (stood : Bool) → stands one (keys_of said) ≡ false → said_of said one stood ≡ stood
unsaid said one stood none = by (lookup (same one) said) (is_some-lookup (same one) said ∙ none)
  where
    by : (o : Option Bool) → is_some o ≡ false → unwrap_or o stood ≡ stood
    by None none = refl
    by (Some b) none = absurd cc

-- rules before and after changes, and those of which something was said
module _ (before after : List Fields) (said : List (Fields × Bool)) (once_before : IsDistinct same before) (once_after : IsDistinct same after) (once_said : IsDistinct same (keys_of said))
    (stand : (one : Fields) → stands one after ≡ said_of said one (stands one before)) where
  abbrev moving : Bool → List Fields
  moving comes = filter (λ (rule : Fields). turns comes (stands rule before) (said_of said rule (stands rule before))) (keys_of said)

  times_moving : (comes : Bool) (one : Fields) → times one (moving comes) ≡ (if turns comes (stands one before) (stands one after) then once (stands one (keys_of said)) else 0)
  times_moving comes one =
      times_filter (λ (rule : Fields). turns comes (stands rule before) (said_of said rule (stands rule before))) one (keys_of said)
      ∙ ap (λ (b : Bool). cond (turns comes (stands one before) b) (times one (keys_of said)) 0) (sym (stand one))
      ∙ ap (λ (n : ℕ). cond (turns comes (stands one before) (stands one after)) n 0) (times_distinct one (keys_of said) once_said)

  silent : (one : Fields) → stands one (keys_of said) ≡ false → stands one after ≡ stands one before
  silent one none = stand one ∙ unsaid said one (stands one before) none

  balanced : (one : Fields) → times one (after ++ moving false) ≡ times one (before ++ moving true)
  balanced one =
      times_both one after (moving false) ∙ ap (λ (n : ℕ). n + times one (moving false)) (times_distinct one after once_after)
      ∙ ap (λ (n : ℕ). once (stands one after) + n) (times_moving false one)
      ∙ by (stands one before) (stands one after) (stands one (keys_of said)) (silent one)
      ∙ sym (times_both one before (moving true) ∙ ap (λ (n : ℕ). n + times one (moving true)) (times_distinct one before once_before)
      ∙ ap (λ (n : ℕ). once (stands one before) + n) (times_moving true one))
    where
      by : (b a k : Bool) → (k ≡ false → a ≡ b) → once a + (if turns false b a then once k else 0) ≡ once b + (if turns true b a then once k else 0)
      by true true k none = refl
      by false false k none = refl
      by true false true none = refl
      by true false false none = absurd (false≢true (none refl))
      by false true true none = refl
      by false true false none = absurd (false≢true (sym (none refl)))

  -- the rules that go, and those that stay, are those of before
  parted : (one : Fields) → times one before ≡ times one (moving false ++ filter (λ (rule : Fields). not (stands rule (moving false))) before)
  parted one =
      times_distinct one before once_before
      ∙ by (stands one before) (stands one after) (stands one (keys_of said)) (silent one) (stands one (moving false)) gone
      ∙ sym (times_both one (moving false) (filter (λ (rule : Fields). not (stands rule (moving false))) before)
      ∙ ap (λ (n : ℕ). n + times one (filter (λ (rule : Fields). not (stands rule (moving false))) before)) (times_moving false one)
      ∙ ap (λ (n : ℕ). (if turns false (stands one before) (stands one after) then once (stands one (keys_of said)) else 0) + n)
      (times_filter (λ (rule : Fields). not (stands rule (moving false))) one before ∙ ap (λ (n : ℕ). cond (not (stands one (moving false))) n 0) (times_distinct one before once_before)))
    where
      gone : once (stands one (moving false)) ≡ (if turns false (stands one before) (stands one after) then once (stands one (keys_of said)) else 0)
      gone = by_times (stands one (moving false)) refl
        where
          by_times : (b : Bool) → stands one (moving false) ≡ b → once b ≡ (if turns false (stands one before) (stands one after) then once (stands one (keys_of said)) else 0)
          by_times b is = ap once (sym is) ∙ sym (times_distinct one (moving false) (distinct_filter _ (keys_of said) once_said)) ∙ times_moving false one

      by : (b a k : Bool) → (k ≡ false → a ≡ b) → (m : Bool) → once m ≡ (if turns false b a then once k else 0)
          → once b ≡ (if turns false b a then once k else 0) + cond (not m) (once b) 0
      by true true k none true is = absurd (omega (arith, is))
      by true true k none false is = refl
      by false a k none true is = absurd (omega (arith, is))
      by false a k none false is = omega arith
      by true false true none true is = refl
      by true false true none false is = absurd (omega (arith, is))
      by true false false none m is = absurd (false≢true (none refl))

  -- what passes a test before, after, among those that come and among those that go
  pub turned : (terms : Terms) (come go : List Fields) → come ≡ moving true → go ≡ moving false → IsTurned (record { terms = terms; before = before; after = after; come = come; go = go })
  turned terms come go come_is go_is = record {
    balance = λ test. omega (
      arith,
      count_alike test (after ++ moving false) (before ++ moving true) balanced,
      count_both test after (moving false),
      count_both test before (moving true),
      ap (count_by test) come_is,
      ap (count_by test) go_is,
    );
    stood = λ test. omega (
      arith,
      count_alike test before (moving false ++ filter (λ (rule : Fields). not (stands rule (moving false))) before) parted,
      count_both test (moving false) (filter (λ (rule : Fields). not (stands rule (moving false))) before),
      ap (count_by test) go_is,
    );
  }

  -- those that stand before and after, and those that come, are those afterwards
  staying : (one : Fields) → times one after ≡ times one (filter (λ (rule : Fields). stands rule after) before ++ moving true)
  staying one =
      times_distinct one after once_after
      ∙ by (stands one before) (stands one after) (stands one (keys_of said)) (silent one)
      ∙ sym (times_both one (filter (λ (rule : Fields). stands rule after) before) (moving true)
      ∙ ap (λ (n : ℕ). n + times one (moving true)) (times_filter (λ (rule : Fields). stands rule after) one before ∙ ap (λ (n : ℕ). cond (stands one after) n 0) (times_distinct one before once_before))
      ∙ ap (λ (n : ℕ). cond (stands one after) (once (stands one before)) 0 + n) (times_moving true one))
    where
      by : (b a k : Bool) → (k ≡ false → a ≡ b) → once a ≡ cond a (once b) 0 + (if turns true b a then once k else 0)
      by true true k none = refl
      by false false k none = refl
      by true false k none = refl
      by false true true none = refl
      by false true false none = absurd (false≢true (sym (none refl)))

  -- so the rows with a pattern as their domain are those of before that still stand, and those that come
  pub patterns_turned : (terms : Terms) (old new : List Fields) → ArePatterns (record { terms = terms; rows = before }) old
      → new ≡ filter (λ (rule : Fields). said_of said rule true) old ++ filter (has_pattern terms.domains) (moving true) → (test : Fields → Bool) → count_by test new ≡ count_by (λ (row : Fields). has_pattern terms.domains row && test row) after
  patterns_turned terms old new are is test =
      let passes : Fields → Bool = λ row. has_pattern terms.domains row && test row in
      let kept : count_by test (filter (λ (rule : Fields). said_of said rule true) old) ≡ count_by (λ (row : Fields). has_pattern terms.domains row && (said_of said row true && test row)) before =
      count_filter test (λ (rule : Fields). said_of said rule true) old ∙ are.rows (λ (row : Fields). said_of said row true && test row) in
      let alike : count_by (λ (row : Fields). has_pattern terms.domains row && (said_of said row true && test row)) before ≡ count_by (λ (row : Fields). stands row after && passes row) before =
      count_agree_on (λ (row : Fields). has_pattern terms.domains row && (said_of said row true && test row)) (λ (row : Fields). stands row after && passes row) before
      (λ row there. ap (λ (b : Bool). has_pattern terms.domains row && (b && test row)) (ap (said_of said row) (sym (there_stands before row there)) ∙ sym (stand row)) ∙ swap (has_pattern terms.domains row) (stands row after) (test row)) in
      omega (
        arith,
        ap (count_by test) is,
        count_both test (filter (λ (rule : Fields). said_of said rule true) old) (filter (has_pattern terms.domains) (moving true)),
        count_filter test (has_pattern terms.domains) (moving true),
        kept,
        alike,
        count_alike passes after (filter (λ (rule : Fields). stands rule after) before ++ moving true) staying,
        count_both passes (filter (λ (rule : Fields). stands rule after) before) (moving true),
        count_filter passes (λ (rule : Fields). stands rule after) before,
      )
    where
      swap : (p s t : Bool) → (p && (s && t)) ≡ (s && (p && t))
      swap true s t = refl
      swap false true t = refl
      swap false false t = refl
