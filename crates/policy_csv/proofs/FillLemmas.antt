-- The rules of tables, put in again from the first, are these tables.
use Rattle.std.proofs.Common.{◌≡◌, ℕ, suc, ◌<◌, Bool, true, false, not, List, [], ◌∷◌, ◌++◌, append_assoc, append-nil, length, map, filter, get_or, set, Option, Some, IsTrue, refl, sym, ap, subst, ◌∙◌, true≢false, arith, length-append}
use Rattle.std.specs.Prelude.{if◌then◌else◌, flat_map}
use Rattle.std.specs.List.{AllByRecursion, IsDistinct}
use Rattle.std.specs.Option.{option_map_or}
use Rattle.std.proofs.lemmas.List.{get_or-set_same, length-set, set-get_or, set-set}
use Rattle.perm_base.specs.declared.shapes.TableId.{TableId}
use Rattle.perm_base.specs.declared.shapes.TableId.TheVariants.{P, G}
use Rattle.policy_csv.specs.Policy.{with_entries, with_entry}
use Rattle.policy_csv.specs.Printed.{all_tables}
use Rattle.policy_csv.specs.declared.entry.Entry.{Entry}
use Rattle.policy_table.proofs.CallerLemmas.{rows_at, same_symm}
use Rattle.policy_table.specs.Changes.{changed, inserted}
use Rattle.policy_table.specs.Ranks.{is_above}
use Rattle.policy_table.specs.Tables.{AreRising, Fields, IsKept, Policy, is_ranked, most_tables, place, rows, same, stands, without_rules}
use Rattle.policy_table.specs.declared.change.Change.TheVariants.{Insert}

-- the rules of a table as entries
abbrev pub entry_of : TableId → Fields → Entry
entry_of table rule = record { table = table; rule = rule }

abbrev pub table_entries : Policy → TableId → List Entry
table_entries policy table = map (entry_of table) (rows policy table)

-- rules that come one after the other, each of them absent and behind those before it
abbrev Follow : Bool → List Fields → List Fields → Type 0
Follow ranked front [] = Unit {0}
Follow ranked front (rule ∷ rules) = (stands rule front ≡ false) × (inserted ranked rule front ≡ front ++ rule ∷ []) × Follow ranked (front ++ rule ∷ []) rules

-- ---- distinct rules in rising order come so

in_middle : (Q : Fields → Type 0) (front back : List Fields) (rule : Fields) → AllByRecursion Q (front ++ rule ∷ back) → Q rule
in_middle Q [] back rule all = all.0
in_middle Q (first ∷ front) back rule all = in_middle Q front back rule all.1

absent : (front back : List Fields) (rule : Fields) → IsDistinct same (front ++ rule ∷ back) → stands rule front ≡ false
unfolding IsDistinct
absent [] back rule distinct = refl
absent (first ∷ front) back rule distinct =
    let apart : same rule first ≡ false = same_symm rule first ∙ in_middle (λ (other : Fields). same first other ≡ false) front back rule distinct.0 in
    rw (apart, absent front back rule distinct.1) refl

at_length : (front back : List Fields) (rule d : Fields) → get_or (front ++ rule ∷ back) (length front) d ≡ rule
at_length [] back rule d = refl
at_length (first ∷ front) back rule d =
    let next : length (first ∷ front) ≡ suc (length front) = omega arith in
    ap (λ (n : ℕ). get_or (first ∷ front ++ rule ∷ back) n d) next ∙ at_length front back rule d

rising_tail : (first : Fields) (rules : List Fields) → AreRising (first ∷ rules) → AreRising rules
rising_tail first rules rising i j d before within = rising (suc i) (suc j) d (omega (arith, before)) (omega (arith, within))

not_above : (b : Bool) → IsTrue (not b) → b ≡ false
not_above true e = absurd (true≢false (sym e))
not_above false e = refl

none_above : (front back : List Fields) (rule : Fields) → AreRising (front ++ rule ∷ back) → AllByRecursion (λ (other : Fields). is_above other rule ≡ false) front
none_above [] back rule rising = tt
none_above (first ∷ front) back rule rising =
    let behind : IsTrue (not (is_above first (get_or (front ++ rule ∷ back) (length front) rule)))
    = rising 0 (suc (length front)) rule (omega arith) (omega (arith, length-append front (rule ∷ back))) in
    (not_above (is_above first rule) (subst (λ (r : Fields). IsTrue (not (is_above first r))) (at_length front back rule rule) behind), none_above front back rule (rising_tail first (front ++ rule ∷ back) rising))

all_low : (front : List Fields) (rule : Fields) → AllByRecursion (λ (other : Fields). is_above other rule ≡ false) front → filter (λ (other : Fields). not (is_above other rule)) front ≡ front
all_low [] rule low = refl
all_low (first ∷ front) rule low = rw (low.0) (ap (λ (l : List Fields). first ∷ l) (all_low front rule low.1))

none_high : (front : List Fields) (rule : Fields) → AllByRecursion (λ (other : Fields). is_above other rule ≡ false) front → filter (λ (other : Fields). is_above other rule) front ≡ []
none_high [] rule low = refl
none_high (first ∷ front) rule low = rw (low.0) (none_high front rule low.1)

goes_last : (ranked : Bool) (front back : List Fields) (rule : Fields) → (IsTrue ranked → AreRising (front ++ rule ∷ back)) → inserted ranked rule front ≡ front ++ rule ∷ []
goes_last false front back rule rising = refl
goes_last true front back rule rising =
    let low = none_above front back rule (rising refl) in
    ap (λ (l : List Fields). l ++ rule ∷ filter (λ (other : Fields). is_above other rule) front) (all_low front rule low) ∙ ap (λ (l : List Fields). front ++ rule ∷ l) (none_high front rule low)

follow : (ranked : Bool) (front rules : List Fields) → IsDistinct same (front ++ rules) → (IsTrue ranked → AreRising (front ++ rules)) → Follow ranked front rules
follow ranked front [] distinct rising = tt
follow ranked front (rule ∷ rules) distinct rising =
    let parts : front ++ rule ∷ rules ≡ (front ++ rule ∷ []) ++ rules = sym (append_assoc front (rule ∷ []) rules) in (
      absent front rules rule distinct,
      goes_last ranked front rules rule rising,
      follow ranked (front ++ rule ∷ []) rules (subst (IsDistinct same) parts distinct) (λ mark. subst AreRising parts (rising mark)),
    )

-- ---- they fill their table in their order

-- the tables with these rules at a place
abbrev with_rows : Policy → ℕ → List Fields → Policy
with_rows policy at rules = record policy { lists = set policy.lists at rules }

same_mark : (policy : Policy) (at : ℕ) (rules : List Fields) (table : TableId) → is_ranked (with_rows policy at rules) table ≡ is_ranked policy table
same_mark policy at rules P = refl
same_mark policy at rules (G number) = refl

with_one : (policy : Policy) (table : TableId) (at : ℕ) (front : List Fields) (rule : Fields) → place table ≡ Some at → rows policy table ≡ front → stands rule front ≡ false → inserted (is_ranked policy table) rule front ≡ front ++ rule ∷ []
    → with_entry (entry_of table rule) policy ≡ with_rows policy at (front ++ rule ∷ [])
with_one policy table at front rule here are missing last =
    ap (λ (b : Bool). if b then policy else changed (Insert table rule) policy) (ap (stands rule) are ∙ missing)
    ∙ ap (λ (p : Option ℕ). record policy { lists = option_map_or (λ (i : ℕ). set policy.lists i (inserted (is_ranked policy table) rule (rows policy table))) p policy.lists }) here
    ∙ ap (with_rows policy at) (ap (inserted (is_ranked policy table) rule) are ∙ last)

fill : (table : TableId) (at : ℕ) (rules front : List Fields) (policy : Policy) (ranked : Bool) → place table ≡ Some at → at < length policy.lists → is_ranked policy table ≡ ranked → rows policy table ≡ front → Follow ranked front rules
    → with_entries (map (entry_of table) rules) policy ≡ with_rows policy at (front ++ rules)
unfolding with_entries
fill table at [] front policy ranked here within mark are follows =
    let own : front ++ [] ≡ get_or policy.lists at [] = append-nil front ∙ sym are ∙ rows_at policy table at here in
    sym (ap (with_rows policy at) own ∙ ap (λ lists. record policy { lists = lists }) (set-get_or policy.lists at []))
fill table at (rule ∷ rules) front policy ranked here within mark are follows =
    let one : with_entry (entry_of table rule) policy ≡ with_rows policy at (front ++ rule ∷ [])
    = with_one policy table at front rule here are follows.0 (ap (λ (b : Bool). inserted b rule front) mark ∙ follows.1) in
    let still : at < length (set policy.lists at (front ++ rule ∷ [])) = omega (arith, within, length-set policy.lists at (front ++ rule ∷ [])) in
    let own : rows (with_rows policy at (front ++ rule ∷ [])) table ≡ front ++ rule ∷ [] = rows_at (with_rows policy at (front ++ rule ∷ [])) table at here ∙ get_or-set_same policy.lists at (front ++ rule ∷ []) [] within in
    ap (with_entries (map (entry_of table) rules)) one
    ∙ fill table at rules (front ++ rule ∷ []) (with_rows policy at (front ++ rule ∷ [])) ranked here still (same_mark policy at (front ++ rule ∷ []) table ∙ mark) own follows.2
    ∙ ap (λ lists. record policy { lists = lists }) (set-set policy.lists at (front ++ rule ∷ []) ((front ++ rule ∷ []) ++ rules))
    ∙ ap (with_rows policy at) (append_assoc front (rule ∷ []) rules)

with_entries_both : (first second : List Entry) (policy : Policy) → with_entries (first ++ second) policy ≡ with_entries second (with_entries first policy)
unfolding with_entries
with_entries_both [] second policy = refl
with_entries_both (entry ∷ first) second policy = with_entries_both first second (with_entry entry policy)

-- a table of its own rules, and then the others
with_table : (table : TableId) (at : ℕ) (rules : List Fields) (policy : Policy) (rest : List Entry) (ranked : Bool) → place table ≡ Some at → at < length policy.lists → is_ranked policy table ≡ ranked → rows policy table ≡ []
    → IsDistinct same rules → (IsTrue ranked → AreRising rules) → with_entries (map (entry_of table) rules ++ rest) policy ≡ with_entries rest (with_rows policy at rules)
with_table table at rules policy rest ranked here within mark none distinct rising =
    with_entries_both (map (entry_of table) rules) rest policy ∙ ap (with_entries rest) (fill table at rules [] policy ranked here within mark none (follow ranked [] rules distinct rising))

-- ---- all nine tables

record Nine (lists : List (List Fields)) : Type 0 where
  l0 : List Fields
  l1 : List Fields
  l2 : List Fields
  l3 : List Fields
  l4 : List Fields
  l5 : List Fields
  l6 : List Fields
  l7 : List Fields
  l8 : List Fields
  are : lists ≡ l0 ∷ l1 ∷ l2 ∷ l3 ∷ l4 ∷ l5 ∷ l6 ∷ l7 ∷ l8 ∷ []

nine : (lists : List (List Fields)) → length lists ≡ most_tables → Nine lists
nine (l0 ∷ l1 ∷ l2 ∷ l3 ∷ l4 ∷ l5 ∷ l6 ∷ l7 ∷ l8 ∷ []) counted = record {
  l0 = l0;
  l1 = l1;
  l2 = l2;
  l3 = l3;
  l4 = l4;
  l5 = l5;
  l6 = l6;
  l7 = l7;
  l8 = l8;
  are = refl;
}
nine _ counted = absurd (omega (arith, counted))

no_mark : {X : Type 0} → IsTrue false → X
no_mark e = absurd (true≢false (sym e))

abbrev of_lists : Bool → List (List Fields) → Policy
of_lists ranked lists = record { lists = lists; ranked = ranked }

nine_again : (ranked : Bool) (l0 l1 l2 l3 l4 l5 l6 l7 l8 : List Fields) → IsKept (of_lists ranked (l0 ∷ l1 ∷ l2 ∷ l3 ∷ l4 ∷ l5 ∷ l6 ∷ l7 ∷ l8 ∷ []))
    → with_entries (flat_map (table_entries (of_lists ranked (l0 ∷ l1 ∷ l2 ∷ l3 ∷ l4 ∷ l5 ∷ l6 ∷ l7 ∷ l8 ∷ []))) all_tables) (without_rules ranked) ≡ of_lists ranked (l0 ∷ l1 ∷ l2 ∷ l3 ∷ l4 ∷ l5 ∷ l6 ∷ l7 ∷ l8 ∷ [])
unfolding with_entries
nine_again ranked l0 l1 l2 l3 l4 l5 l6 l7 l8 kept =
    let all : Policy = of_lists ranked (l0 ∷ l1 ∷ l2 ∷ l3 ∷ l4 ∷ l5 ∷ l6 ∷ l7 ∷ l8 ∷ []) in
    with_table P 0 l0 (of_lists ranked ([] ∷ [] ∷ [] ∷ [] ∷ [] ∷ [] ∷ [] ∷ [] ∷ [] ∷ [])) (flat_map (table_entries all) (G 1 ∷ G 2 ∷ G 3 ∷ G 4 ∷ G 5 ∷ G 6 ∷ G 7 ∷ G 8 ∷ [])) ranked refl (omega arith) refl refl (kept.once P) kept.rising
    ∙ with_table (G 1) 1 l1 (of_lists ranked (l0 ∷ [] ∷ [] ∷ [] ∷ [] ∷ [] ∷ [] ∷ [] ∷ [] ∷ [])) (flat_map (table_entries all) (G 2 ∷ G 3 ∷ G 4 ∷ G 5 ∷ G 6 ∷ G 7 ∷ G 8 ∷ [])) false refl (omega arith) refl refl (kept.once (G 1)) no_mark
    ∙ with_table (G 2) 2 l2 (of_lists ranked (l0 ∷ l1 ∷ [] ∷ [] ∷ [] ∷ [] ∷ [] ∷ [] ∷ [] ∷ [])) (flat_map (table_entries all) (G 3 ∷ G 4 ∷ G 5 ∷ G 6 ∷ G 7 ∷ G 8 ∷ [])) false refl (omega arith) refl refl (kept.once (G 2)) no_mark
    ∙ with_table (G 3) 3 l3 (of_lists ranked (l0 ∷ l1 ∷ l2 ∷ [] ∷ [] ∷ [] ∷ [] ∷ [] ∷ [] ∷ [])) (flat_map (table_entries all) (G 4 ∷ G 5 ∷ G 6 ∷ G 7 ∷ G 8 ∷ [])) false refl (omega arith) refl refl (kept.once (G 3)) no_mark
    ∙ with_table (G 4) 4 l4 (of_lists ranked (l0 ∷ l1 ∷ l2 ∷ l3 ∷ [] ∷ [] ∷ [] ∷ [] ∷ [] ∷ [])) (flat_map (table_entries all) (G 5 ∷ G 6 ∷ G 7 ∷ G 8 ∷ [])) false refl (omega arith) refl refl (kept.once (G 4)) no_mark
    ∙ with_table (G 5) 5 l5 (of_lists ranked (l0 ∷ l1 ∷ l2 ∷ l3 ∷ l4 ∷ [] ∷ [] ∷ [] ∷ [] ∷ [])) (flat_map (table_entries all) (G 6 ∷ G 7 ∷ G 8 ∷ [])) false refl (omega arith) refl refl (kept.once (G 5)) no_mark
    ∙ with_table (G 6) 6 l6 (of_lists ranked (l0 ∷ l1 ∷ l2 ∷ l3 ∷ l4 ∷ l5 ∷ [] ∷ [] ∷ [] ∷ [])) (flat_map (table_entries all) (G 7 ∷ G 8 ∷ [])) false refl (omega arith) refl refl (kept.once (G 6)) no_mark
    ∙ with_table (G 7) 7 l7 (of_lists ranked (l0 ∷ l1 ∷ l2 ∷ l3 ∷ l4 ∷ l5 ∷ l6 ∷ [] ∷ [] ∷ [])) (flat_map (table_entries all) (G 8 ∷ [])) false refl (omega arith) refl refl (kept.once (G 7)) no_mark
    ∙ with_table (G 8) 8 l8 (of_lists ranked (l0 ∷ l1 ∷ l2 ∷ l3 ∷ l4 ∷ l5 ∷ l6 ∷ l7 ∷ [] ∷ [])) (flat_map (table_entries all) ([])) false refl (omega arith) refl refl (kept.once (G 8)) no_mark

-- the rules of all tables, put in again, are the tables
pub again : (policy : Policy) → IsKept policy → with_entries (flat_map (table_entries policy) all_tables) (without_rules policy.ranked) ≡ policy
again policy kept =
    let parts = nine policy.lists kept.lists.counted in
    let whole : policy ≡ of_lists policy.ranked (parts.l0 ∷ parts.l1 ∷ parts.l2 ∷ parts.l3 ∷ parts.l4 ∷ parts.l5 ∷ parts.l6 ∷ parts.l7 ∷ parts.l8 ∷ []) = ap (of_lists policy.ranked) parts.are in
    subst (λ (p : Policy). with_entries (flat_map (table_entries p) all_tables) (without_rules p.ranked) ≡ p) (sym whole)
    (nine_again policy.ranked parts.l0 parts.l1 parts.l2 parts.l3 parts.l4 parts.l5 parts.l6 parts.l7 parts.l8 (subst IsKept whole kept))
