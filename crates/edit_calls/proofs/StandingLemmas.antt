-- Which rules stand behind changes that are told and not made.
use Rattle.std.proofs.Common.{◌≡◌, ℕ, ◌+◌, Bool, true, false, not, ◌||◌, ◌&&◌, cond, List, [], ◌∷◌, ◌++◌, length, take, drop, slice_get, Option, Some, refl, sym, ap, subst, ◌∙◌, true≢false, arith}
use Rattle.std.specs.Prelude.{if◌then◌else◌, is_some, nat_eq, unwrap_or}
use Rattle.std.specs.Map.{lookup}
use Rattle.std.proofs.lemmas.Bool.{eqb-true}
use Rattle.std.proofs.lemmas.Bool.Decides.{Decides-eqb}
use Rattle.std.proofs.lemmas.List.{take-append-drop}
use Rattle.std.proofs.lemmas.Option.{same_Some}
use Rattle.perm_base.specs.declared.shapes.TableId.{TableId}
use Rattle.policy_table.specs.Changes.{applies, changed, changed_rules, edited, in_place, inserted, is_possible, is_table, ranked_in, replaced, suits, table_of, without}
use Rattle.policy_table.specs.Ranks.{is_level}
use Rattle.policy_table.specs.Tables.{AreLists, Fields, Policy, is_ranked, place, rows, same, stands}
use Rattle.policy_table.specs.declared.change.Change.{Change}
use Rattle.policy_table.specs.declared.change.Change.TheVariants.{Insert, Remove, Replace}
use Rattle.policy_table.proofs.CallerLemmas.{applies_both, counted_changed, edited_both, rows_other, rows_possible, same-Decides, same_symm, same_table, stands-in_place, stands-inserted, stands-without, told_table}
use Rattle.edit_calls.specs.Helps.ToldRules.{AreTold, TellsOf, Told, is_key, stands_told}
use Rattle.edit_calls.proofs.EditLemmas.{left, taken}

-- the new rule stands then, the old one does not, and others as before
stands-replaced : (ranked : Bool) (old new x : Fields) (rules : List Fields) → stands old rules ≡ true
    → stands x (replaced ranked old new rules) ≡ cond (same new x) true (cond (same old x) false (stands x rules))
stands-replaced ranked old new x rules some = by (ranked && not (is_level old new)) ∙ ap (λ (b : Bool). cond b true (cond (same old x) false (stands x rules))) (same_symm x new)
  where
    both : (n o s : Bool) → (n || (s && not o)) ≡ cond n true (cond o false s)
    both true o s = refl
    both false true true = refl
    both false true false = refl
    both false false true = refl
    both false false false = refl

    all : (n : Bool) → ((n && true) || (stands x rules && not (same old x))) ≡ (n || (stands x rules && not (same old x)))
    all true = refl
    all false = refl

    by : (b : Bool) → stands x (if b then ranked_in new (without old rules) else in_place old new rules) ≡ cond (same x new) true (cond (same old x) false (stands x rules))
    by true =
        stands-inserted true x new (without old rules) ∙ ap (λ (b : Bool). same x new || b) (stands-without x old rules)
        ∙ both (same x new) (same old x) (stands x rules)
    by false =
        stands-in_place old new x rules ∙ ap (λ (b : Bool). (same x new && b) || (stands x rules && not (same old x))) some ∙ all (same x new)
        ∙ both (same x new) (same old x) (stands x rules)

-- what is told of one rule
one_told : (at : ℕ) (rule : Fields) (standing : Bool) (old new : Told) → TellsOf at rule standing old new → (before : Policy) (table : TableId) (other : ℕ) (x : Fields)
    → stands_told new before table other x ≡ cond (nat_eq at other) (cond (same rule x) standing (stands_told old before table other x)) (stands_told old before table other x)
one_told at rule standing old new tells before table other x =
    ap (λ (o : Option Bool). unwrap_or o (stands x (rows before table))) (tells other x) ∙ by (nat_eq at other) (same rule x) (lookup (is_key other x) old)
  where
    by : (a s : Bool) (o : Option Bool) → unwrap_or (cond (a && s) (Some standing) o) (stands x (rows before table))
        ≡ cond a (cond s standing (unwrap_or o (stands x (rows before table)))) (unwrap_or o (stands x (rows before table)))
    by true true o = refl
    by true false o = refl
    by false s o = refl

-- and of two rules of one table
two_told : (at : ℕ) (gone come : Fields) (old between new : Told) → TellsOf at gone false old between → TellsOf at come true between new → (before : Policy) (table : TableId) (other : ℕ) (x : Fields)
    → stands_told new before table other x ≡ cond (nat_eq at other) (cond (same come x) true (cond (same gone x) false (stands_told old before table other x))) (stands_told old before table other x)
two_told at gone come old between new first second before table other x =
    one_told at come true between new second before table other x
    ∙ ap (λ (b : Bool). cond (nat_eq at other) (cond (same come x) true b) b) (one_told at gone false old between first before table other x)
    ∙ by (nat_eq at other) (cond (same gone x) false (stands_told old before table other x)) (stands_told old before table other x)
  where
    by : (a p s : Bool) → cond a (cond (same come x) true (cond a p s)) (cond a p s) ≡ cond a (cond (same come x) true p) s
    by true p s = refl
    by false p s = refl

-- a change that is possible is told where each rule of its table stands as the change makes it stand, and others as before
module _ (told : Told) (before after : Policy) (are : AreTold told before after) (change : Change) (at : ℕ) (here : place (table_of change) ≡ Some at) (possible : is_possible change after ≡ true) (turned : Fields → Bool → Bool) where
  told_changed : (new : Told)
      → ((x : Fields) → stands x (changed_rules (is_ranked after (table_of change)) change (rows after (table_of change))) ≡ turned x (stands x (rows after (table_of change))))
      → ((table : TableId) (other : ℕ) (x : Fields) → stands_told new before table other x ≡ cond (nat_eq at other) (turned x (stands_told told before table other x)) (stands_told told before table other x))
      → AreTold new before (changed change after)
  told_changed new makes tells = record {
    counted = counted_changed change after ∙ are.counted;
    each = λ table other x there. by table other x there (is_table table (table_of change)) refl;
  }
    where
      by : (table : TableId) (other : ℕ) (x : Fields) → place table ≡ Some other → (b : Bool) → is_table table (table_of change) ≡ b
          → stands_told new before table other x ≡ stands x (rows (changed change after) table)
      by table other x there true e =
          let own : table ≡ table_of change = same_table table (table_of change) e in
          let one : nat_eq at other ≡ true = (Decides-eqb at other).1 (same_Some at other (sym here ∙ ap place (sym own) ∙ there)) in
          tells table other x
          ∙ ap (λ (b : Bool). cond b (turned x (stands_told told before table other x)) (stands_told told before table other x)) one
          ∙ ap (turned x) (are.each table other x there)
          ∙ ap (λ (t : TableId). turned x (stands x (rows after t))) own
          ∙ sym (ap (λ (t : TableId). stands x (rows (changed change after) t)) own ∙ ap (stands x) (rows_possible change after are.counted possible) ∙ makes x)
      by table other x there false e =
          tells table other x
          ∙ ap (λ (b : Bool). cond b (turned x (stands_told told before table other x)) (stands_told told before table other x)) (apart (nat_eq at other) refl)
          ∙ are.each table other x there
          ∙ sym (ap (stands x) (rows_other change after table e))
        where
          apart : (b : Bool) → nat_eq at other ≡ b → nat_eq at other ≡ false
          apart true is = absurd (true≢false (sym (told_table table (table_of change) at (there ∙ ap (λ (n : ℕ). Some n) (sym (eqb-true at other is))) here) ∙ e))
          apart false is = is

-- which rules stand with one more
inserted_stands : (ranked : Bool) (rule x : Fields) (rules : List Fields) → stands x (inserted ranked rule rules) ≡ cond (same rule x) true (stands x rules)
inserted_stands ranked rule x rules = stands-inserted ranked x rule rules ∙ ap (λ (b : Bool). b || stands x rules) (same_symm x rule) ∙ by (same rule x)
  where
    by : (b : Bool) → (b || stands x rules) ≡ cond b true (stands x rules)
    by true = refl
    by false = refl

-- and without one
removed_stands : (rule x : Fields) (rules : List Fields) → stands x (without rule rules) ≡ cond (same rule x) false (stands x rules)
removed_stands rule x rules = stands-without x rule rules ∙ by (same rule x) (stands x rules)
  where
    by : (b s : Bool) → (s && not b) ≡ cond b false s
    by true true = refl
    by true false = refl
    by false true = refl
    by false false = refl

module _ (told : Told) (before after : Policy) (are : AreTold told before after) (change : Change) (table : TableId) (own : table ≡ table_of change) (at : ℕ) (here : place table ≡ Some at) where
  -- a change of a table that has a place is possible where it suits the rules
  suits_there : is_possible change after ≡ suits change (rows after table)
  suits_there =
      ap (λ (t : TableId). is_some (place t) && suits change (rows after t)) (sym own) ∙ ap (λ (p : Option ℕ). is_some p && suits change (rows after table)) here

  -- the place of its table
  own_place : place (table_of change) ≡ Some at
  own_place = ap place (sym own) ∙ here

  -- an insertion is told by its rule
  pub insert_told : (named : TableId) (rule : Fields) (stood : Bool) (new : Told) → change ≡ Insert named rule → stood ≡ stands_told told before table at rule → not stood ≡ true
      → TellsOf at rule true told new → AreTold new before (changed change after)
  insert_told named rule stood new is was passes tells =
      told_changed told before after are change at own_place possible (λ (x : Fields) (s : Bool). cond (same rule x) true s) new makes (one_told at rule true told new tells before)
    where
      possible : is_possible change after ≡ true
      possible = suits_there ∙ ap (λ (c : Change). suits c (rows after table)) is ∙ ap not (sym (was ∙ are.each table at rule here)) ∙ passes

      makes : (x : Fields) → stands x (changed_rules (is_ranked after (table_of change)) change (rows after (table_of change))) ≡ cond (same rule x) true (stands x (rows after (table_of change)))
      makes x =
          ap (λ (c : Change). stands x (changed_rules (is_ranked after (table_of change)) c (rows after (table_of change)))) is
          ∙ inserted_stands (is_ranked after (table_of change)) rule x (rows after (table_of change))

  -- so is a removal
  pub remove_told : (named : TableId) (rule : Fields) (stood : Bool) (new : Told) → change ≡ Remove named rule → stood ≡ stands_told told before table at rule → stood ≡ true
      → TellsOf at rule false told new → AreTold new before (changed change after)
  remove_told named rule stood new is was passes tells =
      told_changed told before after are change at own_place possible (λ (x : Fields) (s : Bool). cond (same rule x) false s) new makes (one_told at rule false told new tells before)
    where
      possible : is_possible change after ≡ true
      possible = suits_there ∙ ap (λ (c : Change). suits c (rows after table)) is ∙ sym (was ∙ are.each table at rule here) ∙ passes

      makes : (x : Fields) → stands x (changed_rules (is_ranked after (table_of change)) change (rows after (table_of change))) ≡ cond (same rule x) false (stands x (rows after (table_of change)))
      makes x =
          ap (λ (c : Change). stands x (changed_rules (is_ranked after (table_of change)) c (rows after (table_of change)))) is
          ∙ removed_stands rule x (rows after (table_of change))

  module _ (named : TableId) (old new : Fields) (is : change ≡ Replace named old new) where
    -- a replacement is possible where the old rule stands and the new one does not
    replaces : is_possible change after ≡ (stands old (rows after table) && not (stands new (rows after table)))
    replaces = suits_there ∙ ap (λ (c : Change). suits c (rows after table)) is

    -- no rule is replaced by itself
    pub replace_same : same old new ≡ true → false ≡ is_possible change after
    replace_same alike = sym (replaces ∙ ap (λ (rule : Fields). stands old (rows after table) && not (stands rule (rows after table))) (sym ((same-Decides old new).0 alike)) ∙ by (stands old (rows after table)))
      where
        by : (b : Bool) → (b && not b) ≡ false
        by true = refl
        by false = refl

    -- behind the old one that stood, and of which it is told that it does not, the new one decides
    module _ (between : Told) (first second : Bool) (apart : same old new ≡ false) (was : first ≡ stands_told told before table at old) (stood : first ≡ true)
        (tells : TellsOf at old false told between) (later : second ≡ stands_told between before table at new) where
      still : second ≡ stands new (rows after table)
      still =
          later ∙ one_told at old false told between tells before table at new
          ∙ ap (λ (b : Bool). cond (nat_eq at at) (cond b false (stands_told told before table at new)) (stands_told told before table at new)) apart
          ∙ by (nat_eq at at) ∙ are.each table at new here
        where
          by : (b : Bool) → cond b (stands_told told before table at new) (stands_told told before table at new) ≡ stands_told told before table at new
          by true = refl
          by false = refl

      old_stands : stands old (rows after table) ≡ true
      old_stands = sym (was ∙ are.each table at old here) ∙ stood

      replace_possible : not second ≡ is_possible change after
      replace_possible = sym (replaces ∙ ap (λ (b : Bool). b && not (stands new (rows after table))) old_stands ∙ ap not (sym still))

      pub replace_told : (end : Told) → not second ≡ true → TellsOf at new true between end → AreTold end before (changed change after)
      replace_told end passes last =
          told_changed told before after are change at own_place (sym replace_possible ∙ passes) (λ (x : Fields) (s : Bool). cond (same new x) true (cond (same old x) false s)) end makes
          (two_told at old new told between end tells last before)
        where
          makes : (x : Fields) → stands x (changed_rules (is_ranked after (table_of change)) change (rows after (table_of change)))
              ≡ cond (same new x) true (cond (same old x) false (stands x (rows after (table_of change))))
          makes x =
              ap (λ (c : Change). stands x (changed_rules (is_ranked after (table_of change)) c (rows after (table_of change)))) is
              ∙ stands-replaced (is_ranked after (table_of change)) old new x (rows after (table_of change)) (ap (λ (t : TableId). stands old (rows after t)) (sym own) ∙ old_stands)

-- nothing is told, and the rules stand as they do
pub none_told : (told : Told) (policy : Policy) → AreLists policy.lists → told ≡ [] → AreTold told policy (edited [] policy)
unfolding edited
none_told told policy lists none = subst (λ (t : Told). AreTold t policy policy) (sym none) (record { counted = lists.counted; each = λ table at rule here. refl })

-- no change always applies
pub none_applies : (policy : Policy) → applies [] policy ≡ true
unfolding applies
none_applies policy = refl

-- an edit of one change applies where this is possible
pub alone_applies : (changes : List Change) (change : Change) (policy : Policy) → length changes ≡ 1 → slice_get changes 0 ≡ Some change → is_possible change policy ≡ applies changes policy
unfolding applies
alone_applies [] change policy one here = absurd cc
alone_applies (first ∷ []) change policy one here =
    ap (λ (c : Change). is_possible c policy) (sym (same_Some first change here)) ∙ by (is_possible first policy)
  where
    by : (b : Bool) → b ≡ (b && true)
    by true = refl
    by false = refl
alone_applies (first ∷ second ∷ changes) change policy one here = absurd (omega (arith, one))

-- the changes in front apply, and behind them rules stand as is told
module _ (changes : List Change) (at : ℕ) (change : Change) (here : slice_get changes at ≡ Some change) (policy : Policy) (front : applies (take at changes) policy ≡ true) where
  -- a change that is not possible there stops the edit
  pub stops : is_possible change (edited (take at changes) policy) ≡ false → false ≡ applies changes policy
  unfolding applies
  stops fails = sym (
      ap (λ (l : List Change). applies l policy) (sym (take-append-drop at changes) ∙ ap (λ (l : List Change). take at changes ++ l) (left changes at change here))
      ∙ applies_both (take at changes) (change ∷ drop (at + 1) changes) policy
      ∙ ap (λ (b : Bool). b && applies (change ∷ drop (at + 1) changes) (edited (take at changes) policy)) front
      ∙ ap (λ (b : Bool). b && applies (drop (at + 1) changes) (changed change (edited (take at changes) policy))) fails)

  -- one that is goes on
  pub goes_on : is_possible change (edited (take at changes) policy) ≡ true → applies (take (at + 1) changes) policy ≡ true
  unfolding applies
  goes_on passes =
      ap (λ (l : List Change). applies l policy) (taken changes at change here)
      ∙ applies_both (take at changes) (change ∷ []) policy
      ∙ ap (λ (b : Bool). b && applies (change ∷ []) (edited (take at changes) policy)) front
      ∙ ap (λ (b : Bool). b && true) passes

  -- and its rules are those behind it
  pub made_behind : edited (take (at + 1) changes) policy ≡ changed change (edited (take at changes) policy)
  unfolding edited
  made_behind = ap (λ (l : List Change). edited l policy) (taken changes at change here) ∙ edited_both (take at changes) (change ∷ []) policy
