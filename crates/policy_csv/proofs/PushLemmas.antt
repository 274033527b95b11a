-- The text of tables, as it is pushed rule by rule.
use Rattle.std.proofs.Common.{◌≡◌, ℕ, zero, suc, ◌+◌, ◌<◌, ◌≤◌, ◌&&◌, Bool, true, false, List, [], ◌∷◌, ◌++◌, append_assoc, append-nil, codes, length, map, take, get_or, All, Option, Some, None, refl, sym, ap, subst, ◌∙◌, arith}
use Rattle.std.specs.Prelude.{if◌then◌else◌, flat_map, nat_lt}
use Rattle.std.specs.List.{AllByRecursion}
use Rattle.std.specs.Option.{option_map_or}
use Rattle.std.proofs.lemmas.Bool.{le-ltb}
use Rattle.std.proofs.lemmas.List.{map_push, nil_from_length, take_all, take_more}
use Rattle.std.proofs.lemmas.List.Concat.{flat_map-append}
use Rattle.std.proofs.lemmas.List.Elements.{All-append, All-cons, All-from_recursion, All-nil}
use Rattle.std.proofs.lemmas.Option.{get_or_from_slice_get, slice_get_within}
use Rattle.perm_base.specs.FieldLine as field
use Rattle.perm_base.specs.FieldLine.{printed_field}
use Rattle.perm_base.specs.LineEnds.{AreFields}
use Rattle.perm_base.specs.TableNames.{name_of, table_names}
use Rattle.perm_base.specs.declared.shapes.TableId.{TableId}
use Rattle.perm_base.specs.declared.shapes.TableId.TheVariants.{P, G}
use Rattle.policy_csv.proofs.GrowthLemmas.{no_rules}
use Rattle.policy_csv.specs.Printed.{HaveFields, all_tables, printed, table_lines}
use Rattle.policy_table.specs.Tables.{Fields, Policy, place, rows}
use Rattle.text_parts.specs.Lines.{with_ends}

-- ---- the rules of a table

-- lines with one more
more_ends : (lines : List (List ℕ)) (text : List ℕ) → with_ends (lines ++ text ∷ []) ≡ with_ends lines ++ (text ++ 10 ∷ [])
more_ends lines text =
    flat_map-append (λ (t : List ℕ). t ++ 10 ∷ []) lines (text ∷ []) ∙ ap (λ (t : List ℕ). with_ends lines ++ t) (append-nil (text ++ 10 ∷ []))

next_row : (rules : List Fields) (at : ℕ) (rule : Fields) → at < length rules → rule ≡ get_or rules at rule → take (at + 1) rules ≡ take at rules ++ rule ∷ []
next_row rules at rule within is = take_more rules at rule within ∙ ap (λ (r : Fields). take at rules ++ r ∷ []) (sym is)

pub pushed_row : (name : List ℕ) (rules : List Fields) (at : ℕ) (rule : Fields) (old now new : List ℕ) → at < length rules → rule ≡ get_or rules at rule
    → now ≡ old ++ with_ends (map (λ (r : Fields). field.printed (name ∷ r)) (take at rules)) → new ≡ now ++ (field.printed (name ∷ rule) ++ 10 ∷ []) → new ≡ old ++ with_ends (map (λ (r : Fields). field.printed (name ∷ r)) (take (at + 1) rules))
pushed_row name rules at rule old now new within is was pushed =
    let all : with_ends (map (λ (r : Fields). field.printed (name ∷ r)) (take (at + 1) rules)) ≡ with_ends (map (λ (r : Fields). field.printed (name ∷ r)) (take at rules)) ++ (field.printed (name ∷ rule) ++ 10 ∷ [])
    = ap (λ (l : List Fields). with_ends (map (λ (r : Fields). field.printed (name ∷ r)) l)) (next_row rules at rule within is) ∙ ap with_ends (map_push (λ (r : Fields). field.printed (name ∷ r)) (take at rules) rule)
    ∙ more_ends (map (λ (r : Fields). field.printed (name ∷ r)) (take at rules)) (field.printed (name ∷ rule)) in
    pushed ∙ ap (λ (t : List ℕ). t ++ (field.printed (name ∷ rule) ++ 10 ∷ [])) was
    ∙ append_assoc old (with_ends (map (λ (r : Fields). field.printed (name ∷ r)) (take at rules))) (field.printed (name ∷ rule) ++ 10 ∷ []) ∙ ap (λ (t : List ℕ). old ++ t) (sym all)

-- the lines of rules of a table with this name
abbrev pub lines_named : Option (List ℕ) → List Fields → List (List ℕ)
lines_named named rules = option_map_or (λ (name : List ℕ). map (λ (rule : Fields). field.printed (name ∷ rule)) rules) named []

pub pushed_line : (named : Option (List ℕ)) (name : List ℕ) (rules : List Fields) (at : ℕ) (rule : Fields) (old now new : List ℕ) → Some name ≡ named → at < length rules → rule ≡ get_or rules at rule
    → now ≡ old ++ with_ends (lines_named named (take at rules)) → new ≡ now ++ (field.printed (name ∷ rule) ++ 10 ∷ []) → new ≡ old ++ with_ends (lines_named named (take (at + 1) rules))
pushed_line named name rules at rule old now new is_named within is was pushed =
    subst (λ (o : Option (List ℕ)). now ≡ old ++ with_ends (lines_named o (take at rules)) → new ≡ old ++ with_ends (lines_named o (take (at + 1) rules))) is_named
    (λ before. pushed_row name rules at rule old now new within is before pushed) was

pub fields_more : (rules : List Fields) (at : ℕ) (rule : Fields) → at < length rules → rule ≡ get_or rules at rule → All AreFields (take at rules) → AreFields rule → All AreFields (take (at + 1) rules)
fields_more rules at rule within is all one =
    subst (All AreFields) (sym (next_row rules at rule within is)) (All-append AreFields (take at rules) (rule ∷ []) all (All-cons AreFields rule [] one (All-nil AreFields)))

pub no_lines : (policy : Policy) (table : TableId) → None ≡ name_of table → with_ends (table_lines policy table) ≡ []
no_lines policy table none = sym (ap (λ (o : Option (List ℕ)). with_ends (option_map_or (λ (n : List ℕ). map (λ (rule : Fields). field.printed (n ∷ rule)) (rows policy table)) o [])) none)

-- a table without a name has no place
no_place : (table : TableId) → None ≡ name_of table → place table ≡ None
no_place P none = absurd cc
no_place (G zero) none = refl
no_place (G (suc zero)) none = absurd cc
no_place (G (suc (suc zero))) none = absurd cc
no_place (G (suc (suc (suc zero)))) none = absurd cc
no_place (G (suc (suc (suc (suc zero))))) none = absurd cc
no_place (G (suc (suc (suc (suc (suc zero)))))) none = absurd cc
no_place (G (suc (suc (suc (suc (suc (suc zero))))))) none = absurd cc
no_place (G (suc (suc (suc (suc (suc (suc (suc zero)))))))) none = absurd cc
no_place (G (suc (suc (suc (suc (suc (suc (suc (suc zero))))))))) none = absurd cc
no_place (G (suc (suc (suc (suc (suc (suc (suc (suc (suc more)))))))))) none = far (suc (suc (suc (suc (suc (suc (suc (suc (suc more))))))))) (omega arith)
  where
    far : (number : ℕ) → 9 ≤ number → place (G number) ≡ None
    far number many = rw (le-ltb number 9 many) (by (nat_lt 0 number))
      where
        by : (b : Bool) → (if b && false then Some number else None) ≡ None
        by true = refl
        by false = refl

pub no_fields : (policy : Policy) (table : TableId) → None ≡ name_of table → HaveFields policy table
no_fields policy table none = subst (All AreFields) (sym (no_rules policy table (no_place table none))) (All-nil AreFields)

-- ---- all tables

next_table : (at : ℕ) → at < length all_tables → take (at + 1) all_tables ≡ take at all_tables ++ get_or all_tables at P ∷ []
next_table at within = take_more all_tables at P within

pub pushed_table : (policy : Policy) (at : ℕ) (now new : List ℕ) → at < length all_tables → now ≡ with_ends (flat_map (table_lines policy) (take at all_tables))
    → new ≡ now ++ with_ends (table_lines policy (get_or all_tables at P)) → new ≡ with_ends (flat_map (table_lines policy) (take (at + 1) all_tables))
pushed_table policy at now new within was pushed =
    let all : flat_map (table_lines policy) (take (at + 1) all_tables) ≡ flat_map (table_lines policy) (take at all_tables) ++ table_lines policy (get_or all_tables at P)
    = ap (flat_map (table_lines policy)) (next_table at within) ∙ flat_map-append (table_lines policy) (take at all_tables) (get_or all_tables at P ∷ [])
    ∙ ap (λ (l : List (List ℕ)). flat_map (table_lines policy) (take at all_tables) ++ l) (append-nil (table_lines policy (get_or all_tables at P))) in
    pushed ∙ ap (λ (t : List ℕ). t ++ with_ends (table_lines policy (get_or all_tables at P))) was
    ∙ sym (ap with_ends all ∙ flat_map-append (λ (text : List ℕ). text ++ 10 ∷ []) (flat_map (table_lines policy) (take at all_tables)) (table_lines policy (get_or all_tables at P)))

all_push : (Q : TableId → Type 0) (tables : List TableId) (table : TableId) → AllByRecursion Q tables → Q table → AllByRecursion Q (tables ++ table ∷ [])
all_push Q [] table all one = (one, tt)
all_push Q (first ∷ tables) table all one = (all.0, all_push Q tables table all.1 one)

pub tables_more : (policy : Policy) (at : ℕ) → at < length all_tables → AllByRecursion (HaveFields policy) (take at all_tables) → HaveFields policy (get_or all_tables at P) → AllByRecursion (HaveFields policy) (take (at + 1) all_tables)
tables_more policy at within all one = subst (AllByRecursion (HaveFields policy)) (sym (next_table at within)) (all_push (HaveFields policy) (take at all_tables) (get_or all_tables at P) all one)

pub whole_text : (policy : Policy) (at : ℕ) (text : List ℕ) → 9 ≤ at → text ≡ with_ends (flat_map (table_lines policy) (take at all_tables)) → text ≡ printed policy
unfolding printed
whole_text policy at text all is = is ∙ ap (λ (tables : List TableId). with_ends (flat_map (table_lines policy) tables)) (take_all at all_tables all)

pub all_fields : (policy : Policy) (at : ℕ) → 9 ≤ at → AllByRecursion (HaveFields policy) (take at all_tables) → AllByRecursion (HaveFields policy) all_tables
all_fields policy at all each = subst (AllByRecursion (HaveFields policy)) (take_all at all_tables all) each
