-- What edits leave as it is, how they compose, and that each table sees its own changes alone.
use Rattle.std.proofs.Common.{◌≡◌, ℕ, zero, suc, ◌<◌, Bool, true, false, ◌&&◌, cond, List, [], ◌∷◌, ◌++◌, length, get_or, Option, Some, None, refl, sym, ap, subst, ◌∙◌, arith, true≢false}
use Rattle.std.specs.Prelude.{if◌then◌else◌, is_some, nat_lt, IsTrue}
use Rattle.std.specs.List.{IsDistinct}
use Rattle.std.specs.Option.{option_map_or}
use Rattle.std.proofs.Math.ListN.{set}
use Rattle.std.proofs.lemmas.Bool.{and_parts, le-ltb, lt-ltb, ltb-false, ltb-true}
use Rattle.std.proofs.lemmas.List.{get_or-set_other, length-set}
use Rattle.perm_base.specs.declared.shapes.TableId.{TableId}
use Rattle.perm_base.specs.declared.shapes.TableId.TheVariants.{P, G}
use Rattle.policy_table.specs.Changes.{applies, changed, changed_rules, edited, flat, is_possible, is_table, own, replay, suits, table_of}
use Rattle.policy_table.specs.Tables.{AreLists, AreOrdered, AreRising, Fields, IsKept, Lists, Policy, is_ranked, most_tables, place, rows, same}
use Rattle.policy_table.specs.declared.change.Change.{Change}
use Rattle.policy_table.proofs.RuleLemmas.{distinct_changed}
use Rattle.policy_table.proofs.PlaceLemmas.{place_few, same_table, told_table}
use Rattle.policy_table.proofs.RankLemmas.{rising_changed}

-- the tables after the changes of two lists
pub edited_both : (first second : List Change) (policy : Policy) → edited (first ++ second) policy ≡ edited second (edited first policy)
unfolding edited
edited_both [] second policy = refl
edited_both (change ∷ first) second policy = edited_both first second (changed change policy)

-- and where these apply
pub applies_both : (first second : List Change) (policy : Policy) → applies (first ++ second) policy ≡ (applies first policy && applies second (edited first policy))
unfolding applies edited
applies_both [] second policy = refl
applies_both (change ∷ first) second policy =
    ap (λ (b : Bool). is_possible change policy && b) (applies_both first second (changed change policy)) ∙ grouped (is_possible change policy) (applies first (changed change policy)) _
  where
    grouped : (a b c : Bool) → (a && (b && c)) ≡ (a && b && c)
    grouped true b c = refl
    grouped false b c = refl

-- edits that are made one after the other are one edit
pub replayed : (edits : List (List Change)) (policy : Policy) → replay edits policy ≡ edited (flat edits) policy
unfolding edited
replayed [] policy = refl
replayed (edit ∷ edits) policy = replayed edits (edited edit policy) ∙ sym (edited_both edit (flat edits) policy)

-- the first change of an edit is possible
pub first_possible : (change : Change) (changes : List Change) (policy : Policy) → applies (change ∷ changes) policy ≡ true → is_possible change policy ≡ true
unfolding applies
first_possible change changes policy possible = (and_parts (is_possible change policy) (applies changes (changed change policy)) possible).0

-- and the rest applies behind it
pub rest_possible : (change : Change) (changes : List Change) (policy : Policy) → applies (change ∷ changes) policy ≡ true → applies changes (changed change policy) ≡ true
unfolding applies
rest_possible change changes policy possible = (and_parts (is_possible change policy) (applies changes (changed change policy)) possible).1

-- the rules that a change makes of its own table's
abbrev pub new_rules : Change → Policy → List Fields
new_rules change policy = changed_rules (is_ranked policy (table_of change)) change (rows policy (table_of change))

-- a change leaves the number of tables
pub counted_changed : (change : Change) (policy : Policy) → length (changed change policy).lists ≡ length policy.lists
counted_changed change policy = by (place (table_of change))
  where
    by : (p : Option ℕ) → length (option_map_or (λ at. set policy.lists at (new_rules change policy)) p policy.lists) ≡ length policy.lists
    by None = refl
    by (Some at) = length-set policy.lists at _

-- so does an edit
pub counted_edited : (changes : List Change) (policy : Policy) → length (edited changes policy).lists ≡ length policy.lists
unfolding edited
counted_edited [] policy = refl
counted_edited (change ∷ changes) policy = counted_edited changes (changed change policy) ∙ counted_changed change policy

-- and it leaves the mark
pub ranked_edited : (changes : List Change) (policy : Policy) → (edited changes policy).ranked ≡ policy.ranked
unfolding edited
ranked_edited [] policy = refl
ranked_edited (change ∷ changes) policy = ranked_edited changes (changed change policy)

-- the rules of another table stay
pub rows_other : (change : Change) (policy : Policy) (table : TableId) → is_table table (table_of change) ≡ false → rows (changed change policy) table ≡ rows policy table
rows_other change policy table other = by (place (table_of change)) refl (place table) refl
  where
    apart : (at here : ℕ) → place (table_of change) ≡ Some at → place table ≡ Some here → here ≡ at → ⊥
    apart at here a b e = true≢false (sym (told_table table (table_of change) at (b ∙ ap (λ n. Some n) e) a) ∙ other)

    by : (p : Option ℕ) → place (table_of change) ≡ p → (q : Option ℕ) → place table ≡ q
        → option_map_or (λ (i : ℕ). get_or (option_map_or (λ at. set policy.lists at (new_rules change policy)) p policy.lists) i []) q [] ≡ option_map_or (λ (i : ℕ). get_or policy.lists i []) q []
    by p a None b = refl
    by None a (Some here) b = refl
    by (Some at) a (Some here) b = get_or-set_other policy.lists at here _ [] (apart at here a b)

-- what is written at a place, where there is one
read_back : (lists : Lists) (at : ℕ) (rules : List Fields) → get_or (set lists at rules) at [] ≡ (if nat_lt at (length lists) then rules else [])
read_back [] zero rules = refl
read_back [] (suc at) rules = rw (le-ltb (suc at) 0 (omega arith)) refl
read_back (l ∷ lists) zero rules = rw (lt-ltb 0 (length (l ∷ lists)) (omega arith)) refl
read_back (l ∷ lists) (suc at) rules = read_back lists at rules ∙ by (nat_lt at (length lists)) refl
  where
    by : (b : Bool) → nat_lt at (length lists) ≡ b → (if b then rules else []) ≡ (if nat_lt (suc at) (length (l ∷ lists)) then rules else [])
    by true e = rw (lt-ltb (suc at) (length (l ∷ lists)) (omega (arith, ltb-true at (length lists) e))) refl
    by false e = rw (le-ltb (suc at) (length (l ∷ lists)) (omega (arith, ltb-false at (length lists) e))) refl

-- the rules of its own table are those that the change makes
pub rows_own : (change : Change) (policy : Policy) (at : ℕ) → place (table_of change) ≡ Some at
    → rows (changed change policy) (table_of change) ≡ (if nat_lt at (length policy.lists) then new_rules change policy else [])
rows_own change policy at here =
    ap (λ (p : Option ℕ). option_map_or (λ (i : ℕ). get_or (option_map_or (λ at. set policy.lists at (new_rules change policy)) p policy.lists) i []) p []) here ∙ read_back policy.lists at (new_rules change policy)

-- where there are nine tables and the change is possible
pub rows_possible : (change : Change) (policy : Policy) → length policy.lists ≡ most_tables → is_possible change policy ≡ true → rows (changed change policy) (table_of change) ≡ new_rules change policy
rows_possible change policy counted possible = by (place (table_of change)) refl (and_parts (is_some (place (table_of change))) (suits change (rows policy (table_of change))) possible).0
  where
    by : (p : Option ℕ) → place (table_of change) ≡ p → is_some p ≡ true → rows (changed change policy) (table_of change) ≡ new_rules change policy
    by None here some = absurd (true≢false (sym some))
    by (Some at) here some =
        rows_own change policy at here
        ∙ ap (λ (b : Bool). if b then new_rules change policy else []) (lt-ltb at (length policy.lists) (subst (λ n. at < n) (sym counted) (place_few (table_of change) at here)))

-- what tables keep whatever their lengths stays with a change that is possible
pub ordered_changed : (change : Change) (policy : Policy) → AreOrdered policy → is_possible change policy ≡ true → AreOrdered (changed change policy)
ordered_changed change policy order possible = record {
  counted = counted_changed change policy ∙ order.counted;
  once = λ table. once_by table (is_table table (table_of change)) refl;
  rising = λ mark. rising_by (is_table P (table_of change)) refl mark;
}
  where
    fits : suits change (rows policy (table_of change)) ≡ true
    fits = (and_parts (is_some (place (table_of change))) (suits change (rows policy (table_of change))) possible).1

    made : rows (changed change policy) (table_of change) ≡ new_rules change policy
    made = rows_possible change policy order.counted possible

    once_by : (table : TableId) (b : Bool) → is_table table (table_of change) ≡ b → IsDistinct same (rows (changed change policy) table)
    once_by table true e =
        subst (λ (t : TableId). IsDistinct same (rows (changed change policy) t)) (sym (same_table table (table_of change) e))
        (subst (IsDistinct same) (sym made) (distinct_changed (is_ranked policy (table_of change)) change (rows policy (table_of change)) (order.once (table_of change)) fits))
    once_by table false e = subst (IsDistinct same) (sym (rows_other change policy table e)) (order.once table)

    rising_by : (b : Bool) → is_table P (table_of change) ≡ b → IsTrue policy.ranked → AreRising (rows (changed change policy) P)
    rising_by true e mark =
        let own : P ≡ table_of change = same_table P (table_of change) e in
        let here : rows (changed change policy) P ≡ changed_rules policy.ranked change (rows policy P)
        = subst (λ (t : TableId). rows (changed change policy) t ≡ changed_rules (is_ranked policy t) change (rows policy t)) (sym own) made in
        subst AreRising (sym here) (rising_changed policy.ranked change (rows policy P) order.rising mark)
    rising_by false e mark = subst AreRising (sym (rows_other change policy P e)) (order.rising mark)

-- and with an edit that applies
pub ordered_edited : (changes : List Change) (policy : Policy) → AreOrdered policy → applies changes policy ≡ true → AreOrdered (edited changes policy)
unfolding edited
ordered_edited [] policy order possible = order
ordered_edited (change ∷ changes) policy order possible =
    ordered_edited changes (changed change policy) (ordered_changed change policy order (first_possible change changes policy possible)) (rest_possible change changes policy possible)

-- what all tables keep is this and that none is too long
pub order_of : (policy : Policy) → IsKept policy → AreOrdered policy
order_of policy kept = record { counted = kept.lists.counted; once = kept.once; rising = kept.rising }

pub kept_of : (policy : Policy) → AreOrdered policy → AreLists policy.lists → IsKept policy
kept_of policy order lists = record { lists = lists; once = order.once; rising = order.rising }

-- tables in which one table has the same rules
record Agree (table : TableId) (first second : Policy) : Type 0 where
  counted : length first.lists ≡ length second.lists
  mark : first.ranked ≡ second.ranked
  rules : rows first table ≡ rows second table

agree_itself : (table : TableId) (policy : Policy) → Agree table policy policy
agree_itself table policy = record { counted = refl; mark = refl; rules = refl }

-- do so after a change of another table in the first
agree_past : (table : TableId) (change : Change) (first second : Policy) → is_table table (table_of change) ≡ false → Agree table first second → Agree table (changed change first) second
agree_past table change first second other agree = record {
  counted = counted_changed change first ∙ agree.counted;
  mark = agree.mark;
  rules = rows_other change first table other ∙ agree.rules;
}

same_mark : (table : TableId) (first second : Policy) → first.ranked ≡ second.ranked → is_ranked first table ≡ is_ranked second table
same_mark P first second mark = mark
same_mark (G number) first second mark = refl

-- and after a change of that table in both
agree_after : (table : TableId) (change : Change) (first second : Policy) → table ≡ table_of change → Agree table first second → Agree table (changed change first) (changed change second)
agree_after table change first second own agree = record {
  counted = counted_changed change first ∙ agree.counted ∙ sym (counted_changed change second);
  mark = agree.mark;
  rules = subst (λ (t : TableId). rows (changed change first) t ≡ rows (changed change second) t) (sym own) (by (place (table_of change)) refl);
}
  where
    at_table : Agree (table_of change) first second
    at_table = subst (λ (t : TableId). Agree t first second) own agree

    made : new_rules change first ≡ new_rules change second
    made = ap (λ (ranked : Bool). changed_rules ranked change (rows first (table_of change))) (same_mark (table_of change) first second agree.mark)
        ∙ ap (changed_rules (is_ranked second (table_of change)) change) at_table.rules

    by : (p : Option ℕ) → place (table_of change) ≡ p → rows (changed change first) (table_of change) ≡ rows (changed change second) (table_of change)
    by None here = no_rules first here ∙ sym (no_rules second here)
      where
        no_rules : (policy : Policy) → place (table_of change) ≡ None → rows (changed change policy) (table_of change) ≡ []
        no_rules policy none = ap (λ (p : Option ℕ). option_map_or (λ (i : ℕ). get_or (changed change policy).lists i []) p []) none
    by (Some at) here =
        rows_own change first at here ∙ ap (λ (n : ℕ). if nat_lt at n then new_rules change first else []) agree.counted
        ∙ ap (λ (rules : List Fields). if nat_lt at (length second.lists) then rules else []) made ∙ sym (rows_own change second at here)

-- the rules of a table after an edit are those after its own changes
own_rows : (table : TableId) (changes : List Change) (first second : Policy) → Agree table first second → rows (edited changes first) table ≡ rows (edited (own table changes) second) table
unfolding edited
own_rows table [] first second agree = agree.rules
own_rows table (change ∷ changes) first second agree = by (is_table table (table_of change)) refl (λ p q a. own_rows table changes p q a)
  where
    by : (b : Bool) → is_table table (table_of change) ≡ b → ((p q : Policy) → Agree table p q → rows (edited changes p) table ≡ rows (edited (own table changes) q) table)
        → rows (edited changes (changed change first)) table ≡ rows (edited (cond b (change ∷ own table changes) (own table changes)) second) table
    by true e rest = rest (changed change first) (changed change second) (agree_after table change first second (same_table table (table_of change) e) agree)
    by false e rest = rest (changed change first) second (agree_past table change first second e agree)

pub rows_by_table : (table : TableId) (changes : List Change) (policy : Policy) → rows (edited changes policy) table ≡ rows (edited (own table changes) policy) table
rows_by_table table changes policy = own_rows table changes policy policy (agree_itself table policy)

-- and these apply where the edit does
own_applies : (table : TableId) (changes : List Change) (first second : Policy) → Agree table first second → applies changes first ≡ true → applies (own table changes) second ≡ true
unfolding applies
own_applies table [] first second agree possible = refl
own_applies table (change ∷ changes) first second agree possible = by (is_table table (table_of change)) refl (λ p q a. own_applies table changes p q a)
  where
    rest_is : applies changes (changed change first) ≡ true
    rest_is = rest_possible change changes first possible

    by : (b : Bool) → is_table table (table_of change) ≡ b → ((p q : Policy) → Agree table p q → applies changes p ≡ true → applies (own table changes) q ≡ true)
        → applies (cond b (change ∷ own table changes) (own table changes)) second ≡ true
    by true e rest =
        let own_table = same_table table (table_of change) e in
        let same_rules : rows first (table_of change) ≡ rows second (table_of change) = (subst (λ (t : TableId). Agree t first second) own_table agree).rules in
        let now : is_possible change second ≡ true
        = sym (ap (λ (rules : List Fields). is_some (place (table_of change)) && suits change rules) same_rules) ∙ first_possible change changes first possible in
        ap (λ (b : Bool). b && applies (own table changes) (changed change second)) now
        ∙ rest (changed change first) (changed change second) (agree_after table change first second own_table agree) rest_is
    by false e rest = rest (changed change first) second (agree_past table change first second e agree) rest_is

pub applies_by_table : (table : TableId) (changes : List Change) (policy : Policy) → applies changes policy ≡ true → applies (own table changes) policy ≡ true
applies_by_table table changes policy possible = own_applies table changes policy policy (agree_itself table policy) possible
