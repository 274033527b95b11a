-- The edits of calls apply.
use Rattle.std.proofs.Common.{◌≡◌, ℕ, Bool, true, false, not, ◌&&◌, ◌||◌, cond}
use Rattle.std.proofs.Common.{List, [], ◌∷◌, ◌++◌, length, map, filter, Some, is_some, refl, sym, ap, subst, ◌∙◌, true≢false}
use Rattle.std.specs.Prelude.{if◌then◌else◌}
use Rattle.std.specs.List.{list_any, AllByRecursion, IsDistinct}
use Rattle.std.proofs.Math.Bool.{or-true}
use Rattle.std.proofs.lemmas.Bool.{and_parts, or_parts}
use Rattle.std.proofs.lemmas.Option.{same_Some}
use Rattle.perm_base.specs.declared.shapes.Shapes.{Shapes}
use Rattle.perm_base.specs.declared.shapes.TableId.{TableId}
use Rattle.perm_base.specs.declared.shapes.TableId.TheVariants.{P, G}
use Rattle.policy_table.specs.Changes.{applies, changed, changed_rules, edited, in_place, inserted, is_possible, is_table, ranked_in, replaced, suits, table_of, without}
use Rattle.policy_table.specs.Filters.{fits_filter}
use Rattle.policy_table.specs.Ranks.{is_level}
use Rattle.policy_table.specs.Tables.{Fields, Policy, is_ranked, most_tables, place, rows, same, stands}
use Rattle.policy_table.specs.declared.change.Change.{Change}
use Rattle.policy_table.specs.declared.change.Change.TheVariants as change
use Rattle.policy_table.proofs.CallerLemmas.{applies_both, counted_edited, keeps_all, out_and_out, rows_other, rows_possible, same-Decides, same_symm, stands-filter, stands-inserted, stands-without}
use Rattle.edit_calls.specs.Edits.{edit_by, fitting, has_repeat, inserts, one_is_absent, one_stands, removes, rows_with, unless, without_name}
use Rattle.edit_calls.specs.Refusals.{table_of as call_table}
use Rattle.edit_calls.specs.declared.call.Call.{Call}
use Rattle.edit_calls.specs.declared.call.Call.TheVariants.{Add, AddAll, AddEx, Remove, RemoveAll, Update, RemoveFiltered, UpdateFiltered, DeleteUser, DeleteRole}

-- what is not false is true
not_false : (a : Bool) → not a ≡ false → a ≡ true
not_false true e = refl
not_false false e = absurd (true≢false e)

both_true : (a b : Bool) → a ≡ true → b ≡ true → (a && b) ≡ true
both_true a b x y = rw (x, y) refl

same_self : (x : Fields) → same x x ≡ true
same_self x = (same-Decides x x).1 refl

-- the changes are of one table
abbrev AreOf : TableId → List Change → Type 0
AreOf table [] = Unit {0}
AreOf table (first ∷ changes) = (table_of first ≡ table) × AreOf table changes

module _ (ranked : Bool) where
  -- the rules of a table, ranked or not, after its changes
  abbrev made : List Change → List Fields → List Fields
  made [] rules = rules
  made (first ∷ changes) rules = made changes (changed_rules ranked first rules)

  -- each suits the rules at its turn
  abbrev suit : List Change → List Fields → Bool
  suit [] rules = true
  suit (first ∷ changes) rules = suits first rules && suit changes (changed_rules ranked first rules)

-- a change leaves the mark of each table
mark_kept : (table : TableId) (first : Change) (policy : Policy) → is_ranked (changed first policy) table ≡ is_ranked policy table
mark_kept P first policy = refl
mark_kept (G number) first policy = refl

-- and how many tables there are
counted_after : (first : Change) (policy : Policy) → length policy.lists ≡ most_tables → length (changed first policy).lists ≡ most_tables
unfolding edited
counted_after first policy counted = counted_edited (first ∷ []) policy ∙ counted

-- changes that suit the rules of their table apply
applies_here : (table : TableId) (changes : List Change) (policy : Policy) → length policy.lists ≡ most_tables → is_some (place table) ≡ true → AreOf table changes
    → suit (is_ranked policy table) changes (rows policy table) ≡ true → applies changes policy ≡ true
unfolding applies
applies_here table [] policy counted there of suited = refl
applies_here table (first ∷ changes) policy counted there of suited =
    let parts = and_parts (suits first (rows policy table)) (suit (is_ranked policy table) changes (changed_rules (is_ranked policy table) first (rows policy table))) suited in
    let here : is_some (place (table_of first)) ≡ true = ap (λ (t : TableId). is_some (place t)) of.0 ∙ there in
    let now : is_possible first policy ≡ true = both_true _ _ here (ap (λ (t : TableId). suits first (rows policy t)) of.0 ∙ parts.0) in
    let after : rows (changed first policy) table ≡ changed_rules (is_ranked policy table) first (rows policy table)
    = subst (λ (t : TableId). rows (changed first policy) t ≡ changed_rules (is_ranked policy t) first (rows policy t)) of.0 (rows_possible first policy counted now) in
    let later : suit (is_ranked (changed first policy) table) changes (rows (changed first policy) table) ≡ true
    = ap (λ (ranked : Bool). suit ranked changes (rows (changed first policy) table)) (mark_kept table first policy)
    ∙ ap (suit (is_ranked policy table) changes) after ∙ parts.1 in
    both_true _ _ now (applies_here table changes (changed first policy) (counted_after first policy counted) there of.1 later)

-- changes of two lists
AreOf-append : (table : TableId) (front back : List Change) → AreOf table front → AreOf table back → AreOf table (front ++ back)
AreOf-append table [] back _ of = of
AreOf-append table (first ∷ front) back of ofs = (of.0, AreOf-append table front back of.1 ofs)

suit-append : (ranked : Bool) (front back : List Change) (rules : List Fields) → suit ranked front rules ≡ true → suit ranked back (made ranked front rules) ≡ true → suit ranked (front ++ back) rules ≡ true
suit-append ranked [] back rules first second = second
suit-append ranked (change ∷ front) back rules first second =
    let parts = and_parts (suits change rules) (suit ranked front (changed_rules ranked change rules)) first in
    both_true _ _ parts.0 (suit-append ranked front back (changed_rules ranked change rules) parts.1 second)

-- none of those that pass is named twice where none is
has_repeat-filter : (test : Fields → Bool) (rules : List Fields) → has_repeat rules ≡ false → has_repeat (filter test rules) ≡ false
unfolding has_repeat
has_repeat-filter test [] once = refl
has_repeat-filter test (x ∷ xs) once = by (test x) (has_repeat-filter test xs parts.1)
  where
    parts : (stands x xs ≡ false) × (has_repeat xs ≡ false)
    parts = or_parts (stands x xs) (has_repeat xs) once

    by : (kept : Bool) → has_repeat (filter test xs) ≡ false → has_repeat (cond kept (x ∷ filter test xs) (filter test xs)) ≡ false
    by true rest = rw (stands-filter test x xs, parts.0, rest) refl
    by false rest = rest

-- distinct rules are named once
once_named : (rules : List Fields) → IsDistinct same rules → has_repeat rules ≡ false
unfolding has_repeat IsDistinct
once_named [] distinct = refl
once_named (x ∷ xs) distinct = rw (apart xs distinct.0, once_named xs distinct.1) refl
  where
    apart : (ys : List Fields) → AllByRecursion (λ (y : Fields). same x y ≡ false) ys → stands x ys ≡ false
    apart [] all = refl
    apart (y ∷ ys) all = rw (all.0, apart ys all.1) refl

-- where no rule passes a test, none of a filter's does
none_filtered : (test kept : Fields → Bool) (rules : List Fields) → list_any test rules ≡ false → list_any test (filter kept rules) ≡ false
none_filtered test kept [] none = refl
none_filtered test kept (x ∷ xs) none = by (kept x) (none_filtered test kept xs parts.1)
  where
    parts : (test x ≡ false) × (list_any test xs ≡ false)
    parts = or_parts (test x) (list_any test xs) none

    by : (b : Bool) → list_any test (filter kept xs) ≡ false → list_any test (cond b (x ∷ filter kept xs) (filter kept xs)) ≡ false
    by true rest = rw (parts.0, rest) refl
    by false rest = rest

-- none of those that fail a test passes it
none_passes : (test : Fields → Bool) (rules : List Fields) → list_any test (filter (λ (rule : Fields). not (test rule)) rules) ≡ false
none_passes test [] = refl
none_passes test (x ∷ xs) = by (test x) refl (none_passes test xs)
  where
    by : (b : Bool) → test x ≡ b → list_any test (filter (λ (rule : Fields). not (test rule)) xs) ≡ false
        → list_any test (cond (not b) (x ∷ filter (λ (rule : Fields). not (test rule)) xs) (filter (λ (rule : Fields). not (test rule)) xs)) ≡ false
    by true e rest = rest
    by false e rest = rw e rest

-- rules that stand among some stand among those and one more
still_stand : (named rules : List Fields) (x : Fields) → one_is_absent named rules ≡ false → one_is_absent named (x ∷ rules) ≡ false
still_stand [] rules x none = refl
still_stand (n ∷ named) rules x none =
    let parts = or_parts (not (stands n rules)) (one_is_absent named rules) none in
    rw (not_false (stands n rules) parts.0, or-true (same n x), still_stand named rules x parts.1) refl

-- each of some rules stands among them
all_stand : (rules : List Fields) → one_is_absent rules rules ≡ false
all_stand [] = refl
all_stand (x ∷ xs) = rw (same_self x) (still_stand xs xs x (all_stand xs))

-- rules that are removed go, and the others stay in order
made_removes : (ranked : Bool) (table : TableId) (gone rules : List Fields) → made ranked (removes table gone) rules ≡ filter (λ (other : Fields). not (stands other gone)) rules
made_removes ranked table [] rules = sym (keeps_all rules)
made_removes ranked table (rule ∷ gone) rules = made_removes ranked table gone (without rule rules) ∙ out_and_out rule gone rules

-- absent rules are absent where another rule is put in
absent_beside : (ranked : Bool) (new : Fields) (news rules : List Fields) → stands new news ≡ false → one_stands news rules ≡ false → one_stands news (inserted ranked new rules) ≡ false
absent_beside ranked new [] rules apart absent = refl
absent_beside ranked new (x ∷ xs) rules apart absent =
    let one = or_parts (same new x) (stands new xs) apart in
    let parts = or_parts (stands x rules) (one_stands xs rules) absent in
    let first : stands x (inserted ranked new rules) ≡ false = stands-inserted ranked x new rules ∙ rw (same_symm x new, one.0, parts.0) refl in
    rw (first, absent_beside ranked new xs rules one.1 parts.1) refl

-- distinct rules that are absent can be inserted
suit_inserts : (ranked : Bool) (table : TableId) (news rules : List Fields) → has_repeat news ≡ false → one_stands news rules ≡ false → suit ranked (inserts table news) rules ≡ true
unfolding has_repeat
suit_inserts ranked table [] rules once absent = refl
suit_inserts ranked table (new ∷ news) rules once absent =
    let one = or_parts (stands new news) (has_repeat news) once in
    let parts = or_parts (stands new rules) (one_stands news rules) absent in
    both_true _ _ (ap not parts.0) (suit_inserts ranked table news (inserted ranked new rules) one.1 (absent_beside ranked new news rules one.0 parts.1))

-- rules that stand do so without another rule
stand_without : (rule : Fields) (gone rules : List Fields) → stands rule gone ≡ false → one_is_absent gone rules ≡ false → one_is_absent gone (without rule rules) ≡ false
stand_without rule [] rules apart present = refl
stand_without rule (x ∷ xs) rules apart present =
    let one = or_parts (same rule x) (stands rule xs) apart in
    let parts = or_parts (not (stands x rules)) (one_is_absent xs rules) present in
    let first : stands x (without rule rules) ≡ true = stands-without x rule rules ∙ both_true _ _ (not_false (stands x rules) parts.0) (ap not one.0) in
    rw (first, stand_without rule xs rules one.1 parts.1) refl

-- distinct rules that stand can be removed
suit_removes : (ranked : Bool) (table : TableId) (gone rules : List Fields) → has_repeat gone ≡ false → one_is_absent gone rules ≡ false → suit ranked (removes table gone) rules ≡ true
unfolding has_repeat
suit_removes ranked table [] rules once present = refl
suit_removes ranked table (rule ∷ gone) rules once present =
    let one = or_parts (stands rule gone) (has_repeat gone) once in
    let parts = or_parts (not (stands rule rules)) (one_is_absent gone rules) present in
    both_true _ _ (not_false (stands rule rules) parts.0) (suit_removes ranked table gone (without rule rules) one.1 (stand_without rule gone rules one.0 parts.1))

-- the rules that pass a test can be removed from distinct rules
suit_filtered : (ranked : Bool) (table : TableId) (test : Fields → Bool) (rules : List Fields) → IsDistinct same rules → suit ranked (removes table (filter test rules)) rules ≡ true
suit_filtered ranked table test rules distinct =
    suit_removes ranked table (filter test rules) rules (has_repeat-filter test rules (once_named rules distinct))
    (none_filtered (λ (rule : Fields). not (stands rule rules)) test rules (all_stand rules))

-- what does not stand among the rules that fail a test does not stand among those that are left without those that pass it
absent_from_rest : (test : Fields → Bool) (named rules : List Fields) → one_stands named (filter (λ (rule : Fields). not (test rule)) rules) ≡ false
    → one_stands named (filter (λ (other : Fields). not (stands other (filter test rules))) rules) ≡ false
absent_from_rest test named rules absent = (λ j. list_any (λ (rule : Fields). alike rule j) named) ∙ absent
  where
    left : (a b : Bool) → (a && not (a && b)) ≡ (a && not b)
    left true b = refl
    left false b = refl

    alike : (rule : Fields) → stands rule (filter (λ (other : Fields). not (stands other (filter test rules))) rules) ≡ stands rule (filter (λ (other : Fields). not (test other)) rules)
    alike rule =
        stands-filter (λ (other : Fields). not (stands other (filter test rules))) rule rules
        ∙ ap (λ (b : Bool). stands rule rules && not b) (stands-filter test rule rules)
        ∙ left (stands rule rules) (test rule)
        ∙ sym (stands-filter (λ (other : Fields). not (test other)) rule rules)

-- the rules that pass a test can be removed, and distinct rules that do not stand among the others be inserted
suit_exchanged : (ranked : Bool) (table : TableId) (test : Fields → Bool) (news rules : List Fields) → IsDistinct same rules → has_repeat news ≡ false
    → one_stands news (filter (λ (rule : Fields). not (test rule)) rules) ≡ false
    → suit ranked (removes table (filter test rules) ++ inserts table news) rules ≡ true
suit_exchanged ranked table test news rules distinct once absent =
    suit-append ranked (removes table (filter test rules)) (inserts table news) rules (suit_filtered ranked table test rules distinct)
    (suit_inserts ranked table news (made ranked (removes table (filter test rules)) rules) once
    (ap (one_stands news) (made_removes ranked table (filter test rules) rules) ∙ absent_from_rest test news rules absent))

-- new rules for old ones
abbrev pub replaces : TableId → List (Fields × Fields) → List Change
replaces table pairs = map (λ (pair : Fields × Fields). change.Replace table pair.0 pair.1) pairs

abbrev pub olds_of : List (Fields × Fields) → List Fields
olds_of pairs = map (λ (pair : Fields × Fields). pair.0) pairs

abbrev pub news_of : List (Fields × Fields) → List Fields
news_of pairs = map (λ (pair : Fields × Fields). pair.1) pairs

-- another rule stays where a new one takes a place
stays_in_place : (old new rule : Fields) (rules : List Fields) → same old rule ≡ false → stands rule rules ≡ true → stands rule (in_place old new rules) ≡ true
stays_in_place old new rule [] other present = absurd (true≢false (sym present))
stays_in_place old new rule (x ∷ xs) other present = by (same rule x) refl present (stays_in_place old new rule xs other)
  where
    by : (is : Bool) → same rule x ≡ is → (is || stands rule xs) ≡ true → (stands rule xs ≡ true → stands rule (in_place old new xs) ≡ true) → stands rule (in_place old new (x ∷ xs)) ≡ true
    by true e here rest =
        let kept : same old x ≡ false = ap (same old) (sym ((same-Decides rule x).0 e)) ∙ other in
        rw (kept, e) refl
    by false e here rest = rw (rest here) (or-true _)

-- another absent rule stays absent there
away_in_place : (old new rule : Fields) (rules : List Fields) → same rule new ≡ false → stands rule rules ≡ false → stands rule (in_place old new rules) ≡ false
away_in_place old new rule [] other absent = refl
away_in_place old new rule (x ∷ xs) other absent = by (same old x) (away_in_place old new rule xs other parts.1)
  where
    parts : (same rule x ≡ false) × (stands rule xs ≡ false)
    parts = or_parts (same rule x) (stands rule xs) absent

    by : (b : Bool) → stands rule (in_place old new xs) ≡ false → (same rule (if b then new else x) || stands rule (in_place old new xs)) ≡ false
    by true rest = rw (other, rest) refl
    by false rest = rw (parts.0, rest) refl

-- so it is where the new one goes where its rank belongs
stays : (ranked : Bool) (old new rule : Fields) (rules : List Fields) → same old rule ≡ false → stands rule rules ≡ true → stands rule (replaced ranked old new rules) ≡ true
stays ranked old new rule rules other present = by (ranked && not (is_level old new))
  where
    left : stands rule (without old rules) ≡ true
    left = stands-without rule old rules ∙ both_true _ _ present (ap not other)

    by : (b : Bool) → stands rule (if b then ranked_in new (without old rules) else in_place old new rules) ≡ true
    by true = stands-inserted true rule new (without old rules) ∙ ap (λ (b : Bool). same rule new || b) left ∙ or-true (same rule new)
    by false = stays_in_place old new rule rules other present

stays_away : (ranked : Bool) (old new rule : Fields) (rules : List Fields) → same rule new ≡ false → stands rule rules ≡ false → stands rule (replaced ranked old new rules) ≡ false
stays_away ranked old new rule rules other absent = by (ranked && not (is_level old new))
  where
    left : stands rule (without old rules) ≡ false
    left = stands-without rule old rules ∙ ap (λ (b : Bool). b && not (same old rule)) absent

    by : (b : Bool) → stands rule (if b then ranked_in new (without old rules) else in_place old new rules) ≡ false
    by true = stands-inserted true rule new (without old rules) ∙ (λ j. other j || left j)
    by false = away_in_place old new rule rules other absent

-- and so it is with all others
all_stay : (ranked : Bool) (old new : Fields) (named rules : List Fields) → stands old named ≡ false → one_is_absent named rules ≡ false → one_is_absent named (replaced ranked old new rules) ≡ false
all_stay ranked old new [] rules apart present = refl
all_stay ranked old new (x ∷ xs) rules apart present =
    let one = or_parts (same old x) (stands old xs) apart in
    let parts = or_parts (not (stands x rules)) (one_is_absent xs rules) present in
    rw (stays ranked old new x rules one.0 (not_false (stands x rules) parts.0), all_stay ranked old new xs rules one.1 parts.1) refl

all_stay_away : (ranked : Bool) (old new : Fields) (named rules : List Fields) → stands new named ≡ false → one_stands named rules ≡ false → one_stands named (replaced ranked old new rules) ≡ false
all_stay_away ranked old new [] rules apart absent = refl
all_stay_away ranked old new (x ∷ xs) rules apart absent =
    let one = or_parts (same new x) (stands new xs) apart in
    let parts = or_parts (stands x rules) (one_stands xs rules) absent in
    rw (stays_away ranked old new x rules (same_symm x new ∙ one.0) parts.0, all_stay_away ranked old new xs rules one.1 parts.1) refl

-- distinct rules that are absent can take the places of distinct rules that stand
suit_replaces : (ranked : Bool) (table : TableId) (pairs : List (Fields × Fields)) (rules : List Fields) → has_repeat (olds_of pairs) ≡ false → has_repeat (news_of pairs) ≡ false
    → one_is_absent (olds_of pairs) rules ≡ false → one_stands (news_of pairs) rules ≡ false → suit ranked (replaces table pairs) rules ≡ true
unfolding has_repeat
suit_replaces ranked table [] rules olds news present absent = refl
suit_replaces ranked table (pair ∷ pairs) rules olds news present absent =
    let old = or_parts (stands pair.0 (olds_of pairs)) (has_repeat (olds_of pairs)) olds in
    let new = or_parts (stands pair.1 (news_of pairs)) (has_repeat (news_of pairs)) news in
    let here = or_parts (not (stands pair.0 rules)) (one_is_absent (olds_of pairs) rules) present in
    let there = or_parts (stands pair.1 rules) (one_stands (news_of pairs) rules) absent in
    both_true _ _ (both_true _ _ (not_false (stands pair.0 rules) here.0) (ap not there.0))
    (suit_replaces ranked table pairs (replaced ranked pair.0 pair.1 rules) old.1 new.1
    (all_stay ranked pair.0 pair.1 (olds_of pairs) rules old.0 here.1) (all_stay_away ranked pair.0 pair.1 (news_of pairs) rules new.0 there.1))

-- such changes are of one table
of_inserts : (table : TableId) (rules : List Fields) → AreOf table (inserts table rules)
of_inserts table [] = tt
of_inserts table (rule ∷ rules) = (refl, of_inserts table rules)

of_removes : (table : TableId) (rules : List Fields) → AreOf table (removes table rules)
of_removes table [] = tt
of_removes table (rule ∷ rules) = (refl, of_removes table rules)

of_replaces : (table : TableId) (pairs : List (Fields × Fields)) → AreOf table (replaces table pairs)
of_replaces table [] = tt
of_replaces table (pair ∷ pairs) = (refl, of_replaces table pairs)

-- changes of one table leave the rules of another
rows_kept : (table other : TableId) (changes : List Change) (policy : Policy) → is_table other table ≡ false → AreOf table changes → rows (edited changes policy) other ≡ rows policy other
unfolding edited
rows_kept table other [] policy apart of = refl
rows_kept table other (first ∷ changes) policy apart of =
    rows_kept table other changes (changed first policy) apart of.1 ∙ rows_other first policy other (ap (is_table other) of.0 ∙ apart)

-- and the mark of each table
ranked_kept : (table : TableId) (changes : List Change) (policy : Policy) → is_ranked (edited changes policy) table ≡ is_ranked policy table
unfolding edited
ranked_kept table [] policy = refl
ranked_kept table (first ∷ changes) policy = ranked_kept table changes (changed first policy) ∙ mark_kept table first policy

-- changes of two tables apply where each suits its own
applies_two : (table other : TableId) (front back edit : List Change) (policy : Policy) → length policy.lists ≡ most_tables → is_some (place table) ≡ true → is_some (place other) ≡ true
    → is_table other table ≡ false → AreOf table front → AreOf other back → suit (is_ranked policy table) front (rows policy table) ≡ true → suit (is_ranked policy other) back (rows policy other) ≡ true
    → front ++ back ≡ edit → applies edit policy ≡ true
applies_two table other front back edit policy counted here there apart of ofs first second is =
    let after : Policy = edited front policy in
    let suited : suit (is_ranked after other) back (rows after other) ≡ true
    = ap (λ (ranked : Bool). suit ranked back (rows after other)) (ranked_kept other front policy) ∙ ap (suit (is_ranked policy other) back) (rows_kept table other front policy apart of) ∙ second in
    ap (λ (l : List Change). applies l policy) (sym is) ∙ applies_both front back policy
    ∙ both_true _ _ (applies_here table front policy counted here of first) (applies_here other back after (counted_edited front policy ∙ counted) there ofs suited)

-- an edit that there is
pub edit_of : (nothing : Bool) (changes edit : List Change) → unless nothing changes ≡ Some edit → (nothing ≡ false) × (changes ≡ edit)
edit_of true changes edit is = absurd cc
edit_of false changes edit is = (refl, same_Some changes edit is)

-- the rules of g and of p that have a name can be removed
name_applies : (column : ℕ) (shapes : Shapes) (policy : Policy) (name : List ℕ) (edit : List Change) → length policy.lists ≡ most_tables → IsDistinct same (rows policy (G 1)) → IsDistinct same (rows policy P)
    → without_name column shapes policy name ≡ edit → applies edit policy ≡ true
name_applies column shapes policy name edit counted once base is =
    let links = rows_with column name (rows policy (G 1)) in
    let subjects = rows_with shapes.subject_column name (rows policy P) in
    applies_two (G 1) P (removes (G 1) links) (removes P subjects) edit policy counted refl refl refl
    (of_removes (G 1) links) (of_removes P subjects) (suit_filtered false (G 1) _ (rows policy (G 1)) once) (suit_filtered policy.ranked P _ (rows policy P) base) is

-- changes that are made unless there is nothing to make apply where they suit their table then
applied_unless : {nothing : Bool} (table : TableId) (changes edit : List Change) (policy : Policy) → length policy.lists ≡ most_tables → is_some (place table) ≡ true → AreOf table changes
    → unless nothing changes ≡ Some edit → (nothing ≡ false → suit (is_ranked policy table) changes (rows policy table) ≡ true) → applies edit policy ≡ true
applied_unless table changes edit policy counted there of is suits =
    let found = edit_of _ changes edit is in
    ap (λ (l : List Change). applies l policy) (sym found.1) ∙ applies_here table changes policy counted there of (suits found.0)

-- the edit of a call applies
pub edit_applies : (shapes : Shapes) (policy : Policy) (call : Call) (edit : List Change) → length policy.lists ≡ most_tables → IsDistinct same (rows policy (call_table call)) → IsDistinct same (rows policy P)
    → is_some (place (call_table call)) ≡ true → edit_by shapes policy call ≡ Some edit → applies edit policy ≡ true
unfolding has_repeat
edit_applies shapes policy (Add table rule) edit counted once base there is =
    applied_unless table (inserts table (rule ∷ [])) edit policy counted there (of_inserts table (rule ∷ [])) is
    (λ nothing. suit_inserts (is_ranked policy table) table (rule ∷ []) (rows policy table) refl (rw nothing refl))
edit_applies shapes policy (AddAll table rules) edit counted once base there is =
    applied_unless table (inserts table rules) edit policy counted there (of_inserts table rules) is
    (λ nothing. let last = or_parts _ _ nothing in suit_inserts (is_ranked policy table) table rules (rows policy table) (or_parts _ _ last.0).1 last.1)
edit_applies shapes policy (AddEx table rules) edit counted once base there is =
    let now = rows policy table in
    let absent : Fields → Bool = λ rule. not (stands rule now) in
    applied_unless table (inserts table (filter absent rules)) edit policy counted there (of_inserts table (filter absent rules)) is
    (λ nothing. suit_inserts (is_ranked policy table) table (filter absent rules) now (has_repeat-filter absent rules (or_parts _ _ nothing).0) (none_passes (λ (rule : Fields). stands rule now) rules))
edit_applies shapes policy (Remove table rule) edit counted once base there is =
    applied_unless table (removes table (rule ∷ [])) edit policy counted there (of_removes table (rule ∷ [])) is
    (λ nothing. suit_removes (is_ranked policy table) table (rule ∷ []) (rows policy table) refl (rw nothing refl))
edit_applies shapes policy (RemoveAll table rules) edit counted once base there is =
    applied_unless table (removes table rules) edit policy counted there (of_removes table rules) is
    (λ nothing. let last = or_parts _ _ nothing in suit_removes (is_ranked policy table) table rules (rows policy table) (or_parts _ _ last.0).1 last.1)
edit_applies shapes policy (Update table pairs) edit counted once base there is =
    applied_unless table (replaces table pairs) edit policy counted there (of_replaces table pairs) is
    (λ nothing.
    let news = or_parts _ _ nothing in
    let olds = or_parts _ _ news.0 in
    let absent = or_parts _ _ olds.0 in
    suit_replaces (is_ranked policy table) table pairs (rows policy table) olds.1 news.1 (or_parts _ _ absent.0).1 absent.1)
edit_applies shapes policy (RemoveFiltered table at values) edit counted once base there is =
    let gone = fitting at values (rows policy table) in
    applied_unless table (removes table gone) edit policy counted there (of_removes table gone) is
    (λ nothing. suit_filtered (is_ranked policy table) table (λ (rule : Fields). fits_filter rule at values) (rows policy table) once)
edit_applies shapes policy (UpdateFiltered table at values rules) edit counted once base there is =
    let gone = fitting at values (rows policy table) in
    applied_unless table (removes table gone ++ inserts table rules) edit policy counted there
    (AreOf-append table (removes table gone) (inserts table rules) (of_removes table gone) (of_inserts table rules)) is
    (λ nothing.
    let last = or_parts _ _ nothing in
    suit_exchanged (is_ranked policy table) table (λ (rule : Fields). fits_filter rule at values) rules (rows policy table) once (or_parts _ _ last.0).1 last.1)
edit_applies shapes policy (DeleteUser name) edit counted once base there is = name_applies 0 shapes policy name edit counted once base (edit_of _ _ edit is).1
edit_applies shapes policy (DeleteRole name) edit counted once base there is = name_applies 1 shapes policy name edit counted once base (edit_of _ _ edit is).1
