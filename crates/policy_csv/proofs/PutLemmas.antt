-- The tables with a further rule, table by table.
use Rattle.std.proofs.Common.{◌≡◌, ℕ, Bool, true, false, length, Option, Some, None, refl, subst}
use Rattle.std.specs.Prelude.{if◌then◌else◌, is_some}
use Rattle.std.specs.Option.{option_map_or}
use Rattle.perm_base.specs.RoleShapes.{AreRoles, shape_of}
use Rattle.perm_base.specs.declared.shapes.RoleShape.{RoleShape}
use Rattle.perm_base.specs.declared.shapes.Shapes.{Shapes}
use Rattle.perm_base.specs.declared.shapes.TableId.{TableId}
use Rattle.perm_base.specs.declared.shapes.TableId.TheVariants.{P, G}
use Rattle.perm_base.proofs.CallerLemmas.{found_number}
use Rattle.policy_csv.proofs.RelationLemmas.{found_place}
use Rattle.policy_csv.specs.Policy.{with_entry}
use Rattle.policy_csv.specs.declared.entry.Entry.{Entry}
use Rattle.policy_table.proofs.CallerLemmas.{counted_changed, rows_other, rows_possible}
use Rattle.policy_table.specs.Changes.{changed, inserted, is_possible, is_table}
use Rattle.policy_table.specs.Limits.{columns_of, role_columns}
use Rattle.policy_table.specs.Tables.{Policy, is_ranked, most_tables, place, rows, stands}
use Rattle.policy_table.specs.declared.change.Change.TheVariants.{Insert}

module _ (entry : Entry) (policy : Policy) where
  pub with_entry_counted : length (with_entry entry policy).lists ≡ length policy.lists
  with_entry_counted = by (stands entry.rule (rows policy entry.table))
    where
      by : (b : Bool) → length (if b then policy else changed (Insert entry.table entry.rule) policy).lists ≡ length policy.lists
      by true = refl
      by false = counted_changed (Insert entry.table entry.rule) policy

  pub with_entry_ranked : (with_entry entry policy).ranked ≡ policy.ranked
  with_entry_ranked = by (stands entry.rule (rows policy entry.table))
    where
      by : (b : Bool) → (if b then policy else changed (Insert entry.table entry.rule) policy).ranked ≡ policy.ranked
      by true = refl
      by false = refl

  -- the other tables stay
  pub with_entry_other : (table : TableId) → is_table table entry.table ≡ false → rows (with_entry entry policy) table ≡ rows policy table
  with_entry_other table apart = by (stands entry.rule (rows policy entry.table))
    where
      by : (b : Bool) → rows (if b then policy else changed (Insert entry.table entry.rule) policy) table ≡ rows policy table
      by true = refl
      by false = rows_other (Insert entry.table entry.rule) policy table apart

  -- its own table has it
  pub with_entry_own : length policy.lists ≡ most_tables → is_some (place entry.table) ≡ true
      → rows (with_entry entry policy) entry.table ≡ (if stands entry.rule (rows policy entry.table) then rows policy entry.table else inserted (is_ranked policy entry.table) entry.rule (rows policy entry.table))
  with_entry_own counted known = by (stands entry.rule (rows policy entry.table)) refl
    where
      possible : stands entry.rule (rows policy entry.table) ≡ false → is_possible (Insert entry.table entry.rule) policy ≡ true
      possible absent = rw (known, absent) refl

      by : (b : Bool) → stands entry.rule (rows policy entry.table) ≡ b
          → rows (if b then policy else changed (Insert entry.table entry.rule) policy) entry.table ≡ (if b then rows policy entry.table else inserted (is_ranked policy entry.table) entry.rule (rows policy entry.table))
      by true e = refl
      by false e = rows_possible (Insert entry.table entry.rule) policy counted (possible e)

-- a table of the shapes has a place
pub place_known : (shapes : Shapes) (table : TableId) (columns : ℕ) → AreRoles shapes.roles → columns_of shapes table ≡ Some columns → is_some (place table) ≡ true
place_known shapes P columns roles e = refl
place_known shapes (G number) columns roles e = by (shape_of shapes.roles number) refl e
  where
    by : (p : Option RoleShape) → shape_of shapes.roles number ≡ p → option_map_or (λ (shape : RoleShape). Some (role_columns shape)) p None ≡ Some columns → is_some (place (G number)) ≡ true
    by None found is = absurd cc
    by (Some shape) found is = subst (λ (n : ℕ). is_some (place (G n)) ≡ true) (found_number shapes.roles number shape found) (found_place shapes.roles number shape roles found)
