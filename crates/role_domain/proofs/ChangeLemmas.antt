-- The changes of one relation among those of edits.
use Rattle.std.proofs.Common.{◌≡◌, ◌<◌, ◌+◌, ℕ, Bool, true, false, cond, List, [], ◌∷◌, ◌++◌, length, take, get_or, refl, sym, ap, subst, ◌∙◌, append_assoc, append-nil, true≢false}
use Rattle.std.specs.Prelude.{All}
use Rattle.std.proofs.lemmas.Bool.{and_parts, eqb-true}
use Rattle.std.proofs.lemmas.List.{take_more}
use Rattle.std.proofs.lemmas.List.Elements.{All-weaker, filter-append}
use Rattle.perm_base.specs.declared.shapes.TableId.{TableId}
use Rattle.perm_base.specs.declared.shapes.TableId.TheVariants.{G, P}
use Rattle.policy_table.specs.Changes.{edited, flat, is_table, own, table_of}
use Rattle.policy_table.specs.Tables.{Fields, Policy, rows}
use Rattle.policy_table.specs.declared.change.Change.{Change}
use Rattle.policy_table.specs.declared.change.Change.TheVariants.{Insert, Remove, Replace}
use Rattle.policy_table.proofs.CallerLemmas.{PutAll, all_edited, itself, same_table}
use Rattle.role_domain.specs.Sections.{all_columns, puts_columns}

flat_push : (edits : List (List Change)) (edit : List Change) → flat (edits ++ edit ∷ []) ≡ flat edits ++ edit
flat_push [] edit = append-nil edit
flat_push (e ∷ es) edit = ap (λ (l : List Change). e ++ l) (flat_push es edit) ∙ sym (append_assoc e (flat es) edit)

-- one edit more
pub own_flat_more : (table : TableId) (edits : List (List Change)) (at : ℕ) (edit : List Change) → at < length edits → edit ≡ get_or edits at edit → own table (flat (take (at + 1) edits)) ≡ own table (flat (take at edits)) ++ own table edit
own_flat_more table edits at edit within here =
    ap (λ (l : List (List Change)). own table (flat l)) (take_more edits at edit within ∙ ap (λ (e : List Change). take at edits ++ e ∷ []) (sym here))
    ∙ ap (own table) (flat_push (take at edits) edit)
    ∙ filter-append (λ (c : Change). is_table table (table_of c)) (flat (take at edits)) edit

-- ---- what edits keep of a relation

-- a rule of the relation has the columns
abbrev HasColumns : ℕ → ℕ → TableId → Fields → Type 0
HasColumns number columns table rule = is_table (G number) table ≡ true → length rule ≡ columns

all_put : (number columns : ℕ) (changes : List Change) → all_columns columns (own (G number) changes) ≡ true → PutAll (HasColumns number columns) changes
all_put number columns [] fit = tt
all_put number columns (Insert table rule ∷ changes) fit = by (is_table (G number) table) refl fit (all_put number columns changes)
  where
    by : (b : Bool) → is_table (G number) table ≡ b → all_columns columns (cond b (Insert table rule ∷ own (G number) changes) (own (G number) changes)) ≡ true
        → (all_columns columns (own (G number) changes) ≡ true → PutAll (HasColumns number columns) changes) → PutAll (HasColumns number columns) (Insert table rule ∷ changes)
    by true e fit more =
        let both = and_parts (puts_columns columns (Insert table rule)) (all_columns columns (own (G number) changes)) fit in (λ here. eqb-true (length rule) columns both.0, more both.1)
    by false e fit more = (λ here. absurd (true≢false (sym here ∙ e)), more fit)
all_put number columns (Remove table rule ∷ changes) fit = (tt, all_put number columns changes (by (is_table (G number) table) fit))
  where
    by : (b : Bool) → all_columns columns (cond b (Remove table rule ∷ own (G number) changes) (own (G number) changes)) ≡ true → all_columns columns (own (G number) changes) ≡ true
    by true fit = fit
    by false fit = fit
all_put number columns (Replace table old new ∷ changes) fit = by (is_table (G number) table) refl fit (all_put number columns changes)
  where
    by : (b : Bool) → is_table (G number) table ≡ b → all_columns columns (cond b (Replace table old new ∷ own (G number) changes) (own (G number) changes)) ≡ true
        → (all_columns columns (own (G number) changes) ≡ true → PutAll (HasColumns number columns) changes) → PutAll (HasColumns number columns) (Replace table old new ∷ changes)
    by true e fit more =
        let both = and_parts (puts_columns columns (Replace table old new)) (all_columns columns (own (G number) changes)) fit in (λ here. eqb-true (length new) columns both.0, more both.1)
    by false e fit more = (λ here. absurd (true≢false (sym here ∙ e)), more fit)

-- its rows have their columns after edits that put in rules of the relation with them
pub columns_after : (number columns : ℕ) (changes : List Change) (policy : Policy) → all_columns columns (own (G number) changes) ≡ true → All (λ (rule : Fields). length rule ≡ columns) (rows policy (G number)) → All (λ (rule : Fields). length rule ≡ columns) (rows (edited changes policy) (G number))
columns_after number columns changes policy fit have =
    All-weaker (HasColumns number columns (G number)) (λ (rule : Fields). length rule ≡ columns) (λ rule has. has (itself (G number))) (rows (edited changes policy) (G number)) (all_edited (HasColumns number columns) changes policy (all_put number columns changes fit) of_each (G number))
  where
    of_each : (table : TableId) → All (HasColumns number columns table) (rows policy table)
    of_each P = λ k d within own. absurd (true≢false (sym own))
    of_each (G other) = λ k d within own. subst (λ (t : TableId). All (λ (rule : Fields). length rule ≡ columns) (rows policy t)) (same_table (G number) (G other) own) have k d within
