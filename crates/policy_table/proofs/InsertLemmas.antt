-- A rule that is put into one of the tables, unless it stands there.
use Rattle.std.proofs.Common.{◌≡◌, ℕ, ◌+◌, ◌<◌, ◌^◌, Bool, true, false, not, ◌&&◌, List, [], length, get_or, Some, Result, Ok, Err, IfOk, OnErr, OnOk, refl, sym, ap, subst, ◌∙◌}
use Rattle.std.specs.Prelude.{if◌then◌else◌, is_some}
use Rattle.std.proofs.Math.ListN.{set}
use Rattle.std.proofs.lemmas.List.{map-set, get_or-map, set-get_or}
use Rattle.outside.specs.declared.fault.NoMemory.{NoMemory}
use Rattle.perm_base.specs.declared.shapes.TableId.{TableId}
use Rattle.policy_table.specs.Changes.{changed, inserted, is_possible}
use Rattle.policy_table.specs.Held.{Held}
use Rattle.policy_table.specs.Helps.Rows.{AreTables, Rows, held_of, lists_of, policy_of, slots_of}
use Rattle.policy_table.specs.Tables.{Fields, IsKept, is_ranked, place, rows, stands}
use Rattle.policy_table.specs.declared.change.Change.TheVariants as change
use Rattle.policy_table.proofs.RuleLemmas.{changed_few}
use Rattle.policy_table.proofs.LawLemmas.{kept_of, order_of, ordered_changed}
use Rattle.policy_table.proofs.TableLemmas.{counted_after, policy_after, rows_here}

-- the lists with the same rules in one place
pub same_lists : (tables : List Rows) (at : ℕ) (after d : Rows) → at < length tables → after.rules ≡ (get_or tables at d).rules → lists_of (set tables at after) ≡ lists_of tables
same_lists tables at after d within same =
    map-set (λ (r : Rows). r.rules) tables at after
    ∙ ap (set (lists_of tables) at) (same ∙ sym (get_or-map (λ (r : Rows). r.rules) tables at d [] within))
    ∙ set-get_or (lists_of tables) at []

-- and those by slots
pub same_slots : (tables : List Rows) (at : ℕ) (after d : Rows) → at < length tables → after.slots ≡ (get_or tables at d).slots → slots_of (set tables at after) ≡ slots_of tables
same_slots tables at after d within same =
    map-set (λ (r : Rows). r.slots) tables at after
    ∙ ap (set (slots_of tables) at) (same ∙ sym (get_or-map (λ (r : Rows). r.slots) tables at d [] within))
    ∙ set-get_or (slots_of tables) at []

-- the tables before are seen as held, and a table has its place among them
pub record IsAt (ranked here_ranked : Bool) (tables : List Rows) (at : ℕ) (table : TableId) (held : Held) : Type 0 where
  pub here : place table ≡ Some at
  pub within : at < length tables
  pub told : here_ranked ≡ is_ranked (policy_of ranked tables) table
  pub view : held_of ranked tables ≡ held

module _ (ranked here_ranked : Bool) (tables : List Rows) (at : ℕ) (table : TableId) (held : Held) (is : IsAt ranked here_ranked tables at table held) (rule : Fields) (after d : Rows) where
  -- the tables with the same rules there
  unchanged : after.rules ≡ (get_or tables at d).rules → policy_of ranked (set tables at after) ≡ policy_of ranked tables
  unchanged same = ap (λ l. record { lists = l; ranked = ranked }) (same_lists tables at after d is.within same)

  -- or with one more
  with_one : after.rules ≡ inserted here_ranked rule (get_or tables at d).rules → policy_of ranked (set tables at after) ≡ changed (change.Insert table rule) (policy_of ranked tables)
  with_one made = policy_after ranked here_ranked tables at after d (change.Insert table rule) is.here is.within is.told made

  -- unless it stands there
  pub policy_unless : after.rules ≡ (if stands rule (get_or tables at d).rules then (get_or tables at d).rules else inserted here_ranked rule (get_or tables at d).rules)
      → policy_of ranked (set tables at after) ≡ (if not (stands rule (get_or tables at d).rules) then changed (change.Insert table rule) (policy_of ranked tables) else policy_of ranked tables)
  policy_unless made = by (stands rule (get_or tables at d).rules) made
    where
      by : (b : Bool) → after.rules ≡ (if b then (get_or tables at d).rules else inserted here_ranked rule (get_or tables at d).rules)
          → policy_of ranked (set tables at after) ≡ (if not b then changed (change.Insert table rule) (policy_of ranked tables) else policy_of ranked tables)
      by true e = unchanged e
      by false e = with_one e

  -- and the answer tells which
  pub policy_inserted : (r : Result Bool NoMemory) → IfOk r (λ new. new ≡ not (stands rule (get_or tables at d).rules))
      → OnOk r (after.rules ≡ (if stands rule (get_or tables at d).rules then (get_or tables at d).rules else inserted here_ranked rule (get_or tables at d).rules))
      → IfOk r (λ new. policy_of ranked (set tables at after) ≡ (if new then changed (change.Insert table rule) held.policy else held.policy))
  policy_inserted (Err e) told made = tt
  policy_inserted (Ok new) told made =
      subst (λ (h : Held). policy_of ranked (set tables at after) ≡ (if new then changed (change.Insert table rule) h.policy else h.policy)) is.view
      (policy_unless made ∙ ap (λ (b : Bool). if b then changed (change.Insert table rule) (policy_of ranked tables) else policy_of ranked tables) (sym told))

  -- without memory the tables stay
  pub policy_refused : (r : Result Bool NoMemory) → OnErr r (after.rules ≡ (get_or tables at d).rules) → OnErr r (policy_of ranked (set tables at after) ≡ held.policy)
  policy_refused (Ok new) same = tt
  policy_refused (Err e) same = unchanged same ∙ ap (λ (h : Held). h.policy) is.view

  -- whatever the answer, they keep what tables keep
  pub kept_inserted : (r : Result Bool NoMemory)
      → OnOk r (after.rules ≡ (if stands rule (get_or tables at d).rules then (get_or tables at d).rules else inserted here_ranked rule (get_or tables at d).rules))
      → OnErr r (after.rules ≡ (get_or tables at d).rules) → length (rows held.policy table) + 1 < 2 ^ 32 → IsKept (policy_of ranked tables) → IsKept (policy_of ranked (set tables at after))
  kept_inserted r made refused few kept = by r made refused
    where
      stays : after.rules ≡ (get_or tables at d).rules → IsKept (policy_of ranked (set tables at after))
      stays same = subst IsKept (sym (unchanged same)) kept

      room : length (rows (policy_of ranked tables) table) + 1 < 2 ^ 32
      room = subst (λ (h : Held). length (rows h.policy table) + 1 < 2 ^ 32) (sym is.view) few

      possible : stands rule (get_or tables at d).rules ≡ false → is_possible (change.Insert table rule) (policy_of ranked tables) ≡ true
      possible absent =
          ap (λ p. is_some p && not (stands rule (rows (policy_of ranked tables) table))) is.here
          ∙ ap (λ (rules : List Fields). not (stands rule rules)) (rows_here ranked tables at d table is.here is.within) ∙ ap not absent

      grows : stands rule (get_or tables at d).rules ≡ false → after.rules ≡ inserted here_ranked rule (get_or tables at d).rules → IsKept (policy_of ranked (set tables at after))
      grows absent e =
          subst IsKept (sym (with_one e))
          (kept_of (changed (change.Insert table rule) (policy_of ranked tables)) (ordered_changed (change.Insert table rule) (policy_of ranked tables) (order_of (policy_of ranked tables) kept) (possible absent))
          (changed_few (change.Insert table rule) (policy_of ranked tables) kept.lists room))

      by_test : (b : Bool) → stands rule (get_or tables at d).rules ≡ b → after.rules ≡ (if b then (get_or tables at d).rules else inserted here_ranked rule (get_or tables at d).rules) → IsKept (policy_of ranked (set tables at after))
      by_test true e same = stays same
      by_test false e more = grows e more

      by : (result : Result Bool NoMemory)
          → OnOk result (after.rules ≡ (if stands rule (get_or tables at d).rules then (get_or tables at d).rules else inserted here_ranked rule (get_or tables at d).rules))
          → OnErr result (after.rules ≡ (get_or tables at d).rules) → IsKept (policy_of ranked (set tables at after))
      by (Ok new) e _ = by_test (stands rule (get_or tables at d).rules) refl e
      by (Err _) _ e = stays e

  -- and stay tables
  pub tables_inserted : (r : Result Bool NoMemory)
      → OnOk r (after.rules ≡ (if stands rule (get_or tables at d).rules then (get_or tables at d).rules else inserted here_ranked rule (get_or tables at d).rules))
      → OnErr r (after.rules ≡ (get_or tables at d).rules) → after.counted ≡ (get_or tables at d).counted → length (rows held.policy table) + 1 < 2 ^ 32 → AreTables ranked tables
      → AreTables ranked (set tables at after)
  tables_inserted r made refused marked few are = record {
    kept = kept_inserted r made refused few are.kept;
    counted = counted_after tables at after d is.within marked ∙ are.counted;
  }
