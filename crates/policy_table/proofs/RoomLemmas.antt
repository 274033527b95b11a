-- Tables that get room one after the other, and tables that are copied so.
use Rattle.std.proofs.Common.{◌≡◌, ℕ, ◌+◌, ◌<◌, ◌≤◌, ◌^◌, Bool, true, false, List, [], length, get_or, replicate, Option, Some, None, eqb, refl, sym, ap, subst, ◌∙◌, arith}
use Rattle.std.proofs.Math.ListN.{set}
use Rattle.std.proofs.lemmas.Bool.{eqb-true, eqb-false}
use Rattle.std.proofs.lemmas.List.{get_or-map, get_or-set_other, get_or-set_same, get_or_default, length-map, length-set, map-set}
use Rattle.std.proofs.lemmas.List.{same_lists as lists_by_places, get_or-replicate}
use Rattle.std.proofs.lemmas.List.Elements.{All-replicate}
use Rattle.std.specs.List.{IsDistinct}
use Rattle.std.specs.Option.{option_map_or}
use Rattle.perm_base.specs.declared.shapes.TableId.{TableId}
use Rattle.policy_table.specs.Held.{needed}
use Rattle.policy_table.specs.Helps.Rows.{AreTables, Rows, counted_of, counting, lists_of, policy_of, slots_of, spare_of}
use Rattle.policy_table.specs.Tables.{Fields, IsKept, Lists, Policy, most_tables, place, rows, same}
use Rattle.policy_table.specs.declared.change.Change.{Change}
use Rattle.policy_table.proofs.InsertLemmas.{same_lists, same_slots}
use Rattle.policy_table.proofs.PlaceLemmas.{place_few}
use Rattle.policy_table.proofs.TableLemmas.{counted_after}

-- a fact of each place below one more
below_next : (P : ℕ → Type 0) (i : ℕ) → ((k : ℕ) → k < i → P k) → P i → (k : ℕ) → k < i + 1 → P k
below_next P i before here k few = by_test (eqb k i) refl
  where
    by_test : (test : Bool) → eqb k i ≡ test → P k
    by_test true e = subst P (sym (eqb-true k i e)) here
    by_test false e = before k (nearer k i (eqb-false k i e) few)
      where
        nearer : (k i : ℕ) → ¬ (k ≡ i) → k < i + 1 → k < i
        nearer k i differs le = grind arith

-- the rules are those of before, and the tables in front of a place have the room that the changes need
pub record HaveRoom (old : List Rows) (changes : List Change) (i : ℕ) (tables : List Rows) : Type 0 where
  pub unchanged : lists_of tables ≡ lists_of old
  pub slots : slots_of tables ≡ slots_of old
  pub counted : length tables ≡ most_tables
  pub counting : counted_of tables ≡ counted_of old
  pub room : (k : ℕ) → k < i → needed k changes ≤ get_or (spare_of tables) k 0
  pub more : (k : ℕ) → get_or (spare_of old) k 0 ≤ get_or (spare_of tables) k 0

pub no_room_yet : (old : List Rows) (changes : List Change) → length old ≡ most_tables → HaveRoom old changes 0 old
no_room_yet old changes counted = record { unchanged = refl; slots = refl; counted = counted; counting = refl; room = λ k few. absurd (omega arith); more = λ k. omega arith }

-- the same rules in one place leave the lists
pub unchanged_at : (old : List Rows) (changes : List Change) (i : ℕ) (tables : List Rows) (after d : Rows) → HaveRoom old changes i tables → i < most_tables → after.rules ≡ (get_or tables i d).rules → lists_of (set tables i after) ≡ lists_of old
unchanged_at old changes i tables after d have few same =
    same_lists tables i after d (subst (λ n. i < n) (sym have.counted) few) same ∙ have.unchanged

-- and so do the same slots
pub slots_at : (old : List Rows) (changes : List Change) (i : ℕ) (tables : List Rows) (after d : Rows) → HaveRoom old changes i tables → i < most_tables → after.slots ≡ (get_or tables i d).slots → slots_of (set tables i after) ≡ slots_of old
slots_at old changes i tables after d have few same =
    same_slots tables i after d (subst (λ n. i < n) (sym have.counted) few) same ∙ have.slots

-- and so does the same mark there leave which count domains
pub counting_at : (old : List Rows) (changes : List Change) (i : ℕ) (tables : List Rows) (after d : Rows) → HaveRoom old changes i tables → i < most_tables → after.counted ≡ (get_or tables i d).counted → counted_of (set tables i after) ≡ counted_of old
counting_at old changes i tables after d have few same = counted_after tables i after d (subst (λ n. i < n) (sym have.counted) few) same ∙ have.counting

-- more room in one place takes none elsewhere
pub room_at : (old : List Rows) (changes : List Change) (i : ℕ) (tables : List Rows) (after d : Rows) → HaveRoom old changes i tables → i < most_tables → (get_or tables i d).spare ≤ after.spare
    → (k : ℕ) → get_or (spare_of old) k 0 ≤ get_or (spare_of (set tables i after)) k 0
room_at old changes i tables after d have few grown = λ k. by_test k (eqb k i) refl
  where
    moved : spare_of (set tables i after) ≡ set (spare_of tables) i after.spare
    moved = map-set (λ (r : Rows). r.spare) tables i after

    among : i < length tables
    among = subst (λ n. i < n) (sym have.counted) few

    here : get_or (spare_of tables) i 0 ≡ (get_or tables i d).spare
    here = get_or-map (λ (r : Rows). r.spare) tables i d 0 among

    now : get_or (spare_of (set tables i after)) i 0 ≡ after.spare
    now = ap (λ (l : List ℕ). get_or l i 0) moved ∙ get_or-set_same (spare_of tables) i after.spare 0 (subst (λ n. i < n) (sym (length-map tables (λ (r : Rows). r.spare))) among)

    by_test : (k : ℕ) (test : Bool) → eqb k i ≡ test → get_or (spare_of old) k 0 ≤ get_or (spare_of (set tables i after)) k 0
    by_test k true e = subst (λ (n : ℕ). get_or (spare_of old) n 0 ≤ get_or (spare_of (set tables i after)) n 0) (sym (eqb-true k i e)) (omega (arith, have.more i, here, now, grown))
    by_test k false e =
        let other : get_or (spare_of (set tables i after)) k 0 ≡ get_or (spare_of tables) k 0 = ap (λ (l : List ℕ). get_or l k 0) moved ∙ get_or-set_other (spare_of tables) i k after.spare 0 (eqb-false k i e) in
        omega (arith, other, have.more k)

-- room for one table more
pub more_room : (old : List Rows) (changes : List Change) (i : ℕ) (tables : List Rows) (after d : Rows) → HaveRoom old changes i tables → i < most_tables → after.rules ≡ (get_or tables i d).rules → after.slots ≡ (get_or tables i d).slots → after.counted ≡ (get_or tables i d).counted → needed i changes ≤ after.spare → (get_or tables i d).spare ≤ after.spare
    → HaveRoom old changes (i + 1) (set tables i after)
more_room old changes i tables after d have few same stay marked enough grown = record {
  unchanged = unchanged_at old changes i tables after d have few same;
  slots = slots_at old changes i tables after d have few stay;
  counted = length-set tables i after ∙ have.counted;
  counting = counting_at old changes i tables after d have few marked;
  room = below_next (λ (k : ℕ). needed k changes ≤ get_or (spare_of (set tables i after)) k 0) i
      (λ k before. subst (λ n. needed k changes ≤ n) (sym (ap (λ (l : List ℕ). get_or l k 0) moved ∙ get_or-set_other (spare_of tables) i k after.spare 0 (λ e. absurd (omega (arith, e))))) (have.room k before))
      (subst (λ n. needed i changes ≤ n) (sym (ap (λ (l : List ℕ). get_or l i 0) moved ∙ get_or-set_same (spare_of tables) i after.spare 0 within)) enough);
  more = room_at old changes i tables after d have few grown;
}
  where
    moved : spare_of (set tables i after) ≡ set (spare_of tables) i after.spare
    moved = map-set (λ (r : Rows). r.spare) tables i after

    within : i < length (spare_of tables)
    within = subst (λ n. i < n) (sym (length-map tables (λ (r : Rows). r.spare) ∙ have.counted)) few

-- there are nine tables without rules
pub nine_empty : (tables : List Rows) → lists_of tables ≡ replicate most_tables [] → length tables ≡ most_tables
nine_empty tables none = sym (length-map tables (λ (r : Rows). r.rules)) ∙ ap length none

-- the tables in front of a place are copies
pub record AreCopied (old : List Rows) (i : ℕ) (tables : List Rows) : Type 0 where
  pub counted : length tables ≡ most_tables
  pub copied : (k : ℕ) → k < i → get_or (lists_of tables) k [] ≡ get_or (lists_of old) k []
  pub slotted : (k : ℕ) → k < i → get_or (slots_of tables) k [] ≡ get_or (slots_of old) k []
  pub counting : counted_of tables ≡ counting

pub none_copied : (old tables : List Rows) → length tables ≡ most_tables → counted_of tables ≡ counting → AreCopied old 0 tables
none_copied old tables counted marked = record { counted = counted; copied = λ k few. absurd (omega arith); slotted = λ k few. absurd (omega arith); counting = marked }

-- one table more is copied
pub more_copied : (old : List Rows) (i : ℕ) (tables : List Rows) (after d : Rows) → length (lists_of old) ≡ most_tables → AreCopied old i tables → i < most_tables → after.rules ≡ (get_or old i d).rules → after.slots ≡ (get_or old i d).slots → counted_of old ≡ counting → after.counted ≡ (get_or old i d).counted
    → AreCopied old (i + 1) (set tables i after)
more_copied old i tables after d nine copies few same stay marks marked = record {
  counted = length-set tables i after ∙ copies.counted;
  copied = below_next (λ (k : ℕ). get_or (lists_of (set tables i after)) k [] ≡ get_or (lists_of old) k []) i
      (λ k before. ap (λ (l : Lists). get_or l k []) moved ∙ get_or-set_other (lists_of tables) i k after.rules [] (λ e. absurd (omega (arith, e))) ∙ copies.copied k before)
      (ap (λ (l : Lists). get_or l i []) moved ∙ get_or-set_same (lists_of tables) i after.rules [] within ∙ here);
  slotted = below_next (λ (k : ℕ). get_or (slots_of (set tables i after)) k [] ≡ get_or (slots_of old) k []) i
      (λ k before. ap (λ (l : Lists). get_or l k []) moved_slots ∙ get_or-set_other (slots_of tables) i k after.slots [] (λ e. absurd (omega (arith, e))) ∙ copies.slotted k before)
      (ap (λ (l : Lists). get_or l i []) moved_slots ∙ get_or-set_same (slots_of tables) i after.slots [] (subst (λ n. i < n) (sym (length-map tables (λ (r : Rows). r.slots))) among)
      ∙ stay ∙ sym (get_or-map (λ (r : Rows). r.slots) old i d [] inside));
  counting = counted_after tables i after d among (marked ∙ there) ∙ copies.counting;
}
  where
    moved_slots : slots_of (set tables i after) ≡ set (slots_of tables) i after.slots
    moved_slots = map-set (λ (r : Rows). r.slots) tables i after

    inside : i < length old
    inside = subst (λ n. i < n) (sym nine ∙ length-map old (λ (r : Rows). r.rules)) few

    among : i < length tables
    among = subst (λ n. i < n) (sym copies.counted) few

    there : (get_or old i d).counted ≡ (get_or tables i d).counted
    there =
        sym (get_or-map (λ (r : Rows). r.counted) old i d false (subst (λ n. i < n) (sym nine ∙ length-map old (λ (r : Rows). r.rules)) few))
        ∙ ap (λ (l : List Bool). get_or l i false) (marks ∙ sym copies.counting) ∙ get_or-map (λ (r : Rows). r.counted) tables i d false among

    moved : lists_of (set tables i after) ≡ set (lists_of tables) i after.rules
    moved = map-set (λ (r : Rows). r.rules) tables i after

    within : i < length (lists_of tables)
    within = subst (λ n. i < n) (sym (length-map tables (λ (r : Rows). r.rules) ∙ copies.counted)) few

    here : after.rules ≡ get_or (lists_of old) i []
    here = same ∙ sym (get_or-map (λ (r : Rows). r.rules) old i d [] (subst (λ n. i < n) (sym nine ∙ length-map old (λ (r : Rows). r.rules)) few))

-- all are copied
pub all_copied : (old : List Rows) (i : ℕ) (tables : List Rows) → length (lists_of old) ≡ most_tables → AreCopied old i tables → most_tables ≤ i → lists_of tables ≡ lists_of old
all_copied old i tables nine copies past =
    lists_by_places (lists_of tables) (lists_of old) (counted ∙ sym nine)
    (λ k d within. get_or_default (lists_of tables) k d [] within ∙ copies.copied k (below k within) ∙ get_or_default (lists_of old) k [] d (subst (λ n. k < n) (counted ∙ sym nine) within))
  where
    counted : length (lists_of tables) ≡ most_tables
    counted = length-map tables (λ (r : Rows). r.rules) ∙ copies.counted

    below : (k : ℕ) → k < length (lists_of tables) → k < i
    below k within = omega (arith, within, past, counted)

pub slots_copied : (old : List Rows) (i : ℕ) (tables : List Rows) → length (lists_of old) ≡ most_tables → AreCopied old i tables → most_tables ≤ i → slots_of tables ≡ slots_of old
slots_copied old i tables nine copies past =
    lists_by_places (slots_of tables) (slots_of old) (counted ∙ sym many)
    (λ k d within. get_or_default (slots_of tables) k d [] within ∙ copies.slotted k (below k within) ∙ get_or_default (slots_of old) k [] d (subst (λ n. k < n) (counted ∙ sym many) within))
  where
    counted : length (slots_of tables) ≡ most_tables
    counted = length-map tables (λ (r : Rows). r.slots) ∙ copies.counted

    many : length (slots_of old) ≡ most_tables
    many = length-map old (λ (r : Rows). r.slots) ∙ sym (length-map old (λ (r : Rows). r.rules)) ∙ nine

    below : (k : ℕ) → k < length (slots_of tables) → k < i
    below k within = omega (arith, within, past, counted)

pub policy_copied : (ranked : Bool) (old : List Rows) (i : ℕ) (tables : List Rows) → length (lists_of old) ≡ most_tables → AreCopied old i tables → most_tables ≤ i → policy_of ranked tables ≡ policy_of ranked old
policy_copied ranked old i tables nine copies past = ap (λ l. record { lists = l; ranked = ranked }) (all_copied old i tables nine copies past)

-- and they are tables
pub tables_copied : (ranked : Bool) (old : List Rows) (i : ℕ) (tables : List Rows) → AreTables ranked old → AreCopied old i tables → most_tables ≤ i → AreTables ranked tables
tables_copied ranked old i tables are copies past = record {
  kept = subst IsKept (sym (policy_copied ranked old i tables are.kept.lists.counted copies past)) are.kept;
  counted = copies.counting;
}

-- tables without rules keep what tables keep
pub empty_kept : (ranked : Bool) (tables : List Rows) → lists_of tables ≡ replicate most_tables [] → IsKept (policy_of ranked tables)
unfolding IsDistinct
empty_kept ranked tables none = subst (λ (l : Lists). IsKept (record { lists = l; ranked = ranked })) (sym none) (record {
  lists = record { counted = refl; few = All-replicate (λ (rules : List Fields). length rules < 2 ^ 32) most_tables [] (omega arith) };
  once = λ table. no_repeat (rows empty table) (no_rows table);
  rising = λ mark i j d below within. absurd (omega arith);
})
  where
    empty : Policy
    empty = record { lists = replicate most_tables []; ranked = ranked }

    no_rows : (table : TableId) → rows empty table ≡ []
    no_rows table = by (place table) refl
      where
        by : (p : Option ℕ) → place table ≡ p → option_map_or (λ (at : ℕ). get_or empty.lists at []) p [] ≡ []
        by None e = refl
        by (Some at) e = get_or-replicate most_tables at [] [] (place_few table at e)

    no_repeat : (rules : List Fields) → rules ≡ [] → IsDistinct same rules
    no_repeat rules e = subst (IsDistinct same) (sym e) tt

-- and the relations count their domains
pub empty_tables : (ranked : Bool) (tables : List Rows) → lists_of tables ≡ replicate most_tables [] → counted_of tables ≡ counting → AreTables ranked tables
empty_tables ranked tables none marks = record { kept = empty_kept ranked tables none; counted = marks }
