-- The index of a policy: what is asked of its key, and of which rows it is one while edits are made.
use Rattle.std.proofs.Common.{◌≡◌, ℕ, Bool, true, false, cond, List, [], length, get_or, Option, Some, None, refl, sym, ap, subst, ◌∙◌}
use Rattle.std.specs.Prelude.{IfSome}
use Rattle.std.specs.List.{list_all}
use Rattle.std.proofs.lemmas.Option.{same_Some}
use Rattle.edit_calls.specs.Admitted.{is_fitting}
use Rattle.perm_base.specs.declared.shapes.Shapes.{Shapes}
use Rattle.perm_base.specs.declared.shapes.TableId.TheVariants.{P}
use Rattle.policy_index.specs.Indexed.{Indexed, all_fit, slots_behind}
use Rattle.policy_index.specs.Keys.{HaveColumns, KeyParts, is_below}
use Rattle.policy_state.specs.Helps.Kept.{AreIndexed, key_of}
use Rattle.policy_state.proofs.AdmittedLemmas.{all_fit_key}
use Rattle.policy_table.specs.Changes.{is_table, table_of}
use Rattle.policy_table.specs.Held.{Held}
use Rattle.policy_table.specs.Limits.{HaveShapes}
use Rattle.policy_table.specs.Slots.{slots, slots_after, slots_changed}
use Rattle.policy_table.specs.Tables.{Lists, Policy, most_tables, rows}
use Rattle.policy_table.specs.declared.change.Change.{Change}
use Rattle.policy_table.proofs.CallerLemmas.{slots_other, slots_own}

-- rules with the columns of the shapes have those of a key whose columns are below
pub have_columns : (shapes : Shapes) (policy : Policy) (key : Option KeyParts) → HaveShapes shapes policy → IfSome key (λ (k : KeyParts). is_below shapes.columns k ≡ true) → IfSome key (λ (k : KeyParts). HaveColumns k (rows policy P))
have_columns shapes policy None shaped below = tt
have_columns shapes policy (Some key) shaped below = λ k d within.
    let size : shapes.columns ≡ length (get_or (rows policy P) k d) = same_Some shapes.columns _ (shaped.columns P k d within) in
    ap (λ (n : ℕ). is_below n key) (sym size) ∙ below

-- changes that put in rules which may stand there have them
pub all_fit_index : (shapes : Shapes) (index : Option Indexed) (changes : List Change) → IfSome (key_of index) (λ (k : KeyParts). is_below shapes.columns k ≡ true)
    → list_all (is_fitting shapes) changes ≡ true → IfSome index (λ (i : Indexed). all_fit i.key changes ≡ true)
all_fit_index shapes None changes below fit = tt
all_fit_index shapes (Some index) changes below fit = all_fit_key shapes index.key changes below fit

-- an index of the slots as they are kept is one of those of another view of the same
pub indexed_same : (index : Option Indexed) (before after : Held) → after.slots ≡ before.slots → AreIndexed index (slots before P) → AreIndexed index (slots after P)
indexed_same index before after same is = subst (λ (l : Lists). AreIndexed index (get_or l 0 [])) (sym same) is

-- the slots of p after a change of tables
pub slots_made : (change : Change) (old new : Held) → length old.slots ≡ most_tables → new.slots ≡ slots_changed change old.slots → slots new P ≡ slots_behind change (slots old P)
slots_made change old new nine made = by (is_table P (table_of change)) refl
  where
    by : (b : Bool) → is_table P (table_of change) ≡ b → slots new P ≡ cond b (slots_after change (slots old P)) (slots old P)
    by true e = slots_own change old new P 0 e refl nine made
    by false e = slots_other change old new P 0 e refl made
