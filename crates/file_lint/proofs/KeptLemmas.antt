-- How many rules are kept.
use Rattle.std.proofs.Common.{◌≡◌, ℕ, zero, suc, ◌+◌, ◌<◌, ◌≤◌, Bool, true, false, List, [], ◌∷◌, Option, Some, None, inl, inr, length, not, refl, sym, ap, subst, ◌∙◌, arith}
use Rattle.std.specs.Prelude.{is_some, nat_lt, if◌then◌else◌}
use Rattle.model_conf.specs.ModelText.{ModelParts}
use Rattle.perm_base.specs.RoleShapes.{AreRoles}
use Rattle.perm_base.specs.declared.shapes.Shapes.{Shapes}
use Rattle.perm_base.specs.declared.shapes.TableId.{TableId}
use Rattle.policy_csv.proofs.CallerLemmas.{place_known}
use Rattle.policy_csv.specs.Policy.{with_entry}
use Rattle.policy_csv.specs.declared.entry.Entry.{Entry}
use Rattle.policy_csv.specs.declared.fault.PolicyFault.{PolicyFault}
use Rattle.policy_table.specs.Changes.{changed, changed_rules, is_table}
use Rattle.policy_table.specs.Tables.{Fields, Policy, is_ranked, place, rows, stands}
use Rattle.policy_table.specs.declared.change.Change.TheVariants.{Insert}
use Rattle.policy_table.proofs.CallerLemmas.{one_longer, rows_other, rows_own, same_table}
use Rattle.text_parts.specs.Numbered.{Line}
use Rattle.file_lint.specs.declared.finding.Finding.{Finding}
use Rattle.file_lint.specs.Helps.Rows.{LineFinds, LineTells}

-- a rule that is kept makes no table longer by more than one
pub few_kept : (entry : Entry) (before : Policy) (at : ℕ) (table : TableId) → place entry.table ≡ Some at → length (rows (with_entry entry before) table) ≤ length (rows before table) + 1
few_kept entry before at table here = by (stands entry.rule (rows before entry.table))
  where
    own : length (rows (changed (Insert entry.table entry.rule) before) entry.table) ≤ length (rows before entry.table) + 1
    own = subst (λ (l : List Fields). length l ≤ length (rows before entry.table) + 1) (sym (rows_own (Insert entry.table entry.rule) before at here)) (within (nat_lt at (length before.lists)))
      where
        within : (there : Bool) → length (if there then changed_rules (is_ranked before entry.table) (Insert entry.table entry.rule) (rows before entry.table) else []) ≤ length (rows before entry.table) + 1
        within true = one_longer (is_ranked before entry.table) (Insert entry.table entry.rule) (rows before entry.table)
        within false = omega arith

    put : (own_table : Bool) → is_table table entry.table ≡ own_table → length (rows (changed (Insert entry.table entry.rule) before) table) ≤ length (rows before table) + 1
    put true e = subst (λ (t : TableId). length (rows (changed (Insert entry.table entry.rule) before) t) ≤ length (rows before t) + 1) (sym (same_table table entry.table e)) own
    put false e = subst (λ (l : List Fields). length l ≤ length (rows before table) + 1) (sym (rows_other (Insert entry.table entry.rule) before table e)) (omega arith)

    by : (stood : Bool) → length (rows (if stood then before else changed (Insert entry.table entry.rule) before) table) ≤ length (rows before table) + 1
    by true = omega arith
    by false = put (is_table table entry.table) refl

-- a rule that was put in, unless it stood, is kept
pub kept_by : (entry : Entry) (before after : Policy) (new : Bool) → new ≡ not (stands entry.rule (rows before entry.table)) → after ≡ (if new then changed (Insert entry.table entry.rule) before else before) → after ≡ with_entry entry before
kept_by entry before after new is now = now ∙ by (stands entry.rule (rows before entry.table)) is
  where
    by : (stood : Bool) → new ≡ not stood → (if new then changed (Insert entry.table entry.rule) before else before) ≡ (if stood then before else changed (Insert entry.table entry.rule) before)
    by true none = ap (λ (b : Bool). if b then changed (Insert entry.table entry.rule) before else before) none
    by false some = ap (λ (b : Bool). if b then changed (Insert entry.table entry.rule) before else before) some

placed : (p : Option ℕ) → is_some p ≡ true → (at : ℕ) × (p ≡ Some at)
placed None is = absurd cc
placed (Some at) is = (at, refl)

-- a line makes no table longer by more than one rule
few_judged : (model : ModelParts) (shapes : Shapes) (line : Line) (before after : Policy) (findings now : List Finding) → AreRoles shapes.roles → LineFinds model shapes line before after findings now
    → (table : TableId) → length (rows after table) ≤ length (rows before table) + 1
few_judged model shapes line before after findings now roles (inl (entry, says, kept, more)) table =
    let at = placed (place entry.table) (place_known shapes entry.table (length entry.rule) roles says.columns) in
    subst (λ (p : Policy). length (rows p table) ≤ length (rows before table) + 1) (sym kept) (few_kept entry before at.0 table at.1)
few_judged model shapes line before after findings now roles (inr (why, no_want, is, kept, grown)) table =
    subst (λ (p : Policy). length (rows p table) ≤ length (rows before table) + 1) (sym kept) (omega arith)

pub few_after : (model : ModelParts) (shapes : Shapes) (first : Option PolicyFault) (line : Line) (before after : Policy) (findings now : List Finding) → AreRoles shapes.roles
    → LineTells model shapes first line before after findings now → (table : TableId) → length (rows after table) ≤ length (rows before table) + 1
few_after model shapes first line before after findings now roles (inl (why, is, kept, grown)) table =
    subst (λ (p : Policy). length (rows p table) ≤ length (rows before table) + 1) (sym kept) (omega arith)
few_after model shapes first line before after findings now roles (inr (none, finds)) table = few_judged model shapes line before after findings now roles finds table
