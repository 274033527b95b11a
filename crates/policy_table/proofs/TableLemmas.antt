-- What a change of one table is to all tables.
use Rattle.std.proofs.Common.{◌≡◌, ℕ, zero, suc, ◌+◌, ◌<◌, ◌≤◌, ◌^◌, Bool, true, false, eqb, List, [], ◌∷◌, length, get_or, Option, Some, None, refl, sym, ap, subst, ◌∙◌, arith, true≢false}
use Rattle.std.specs.Prelude.{is_some}
use Rattle.std.specs.List.{IsDistinct}
use Rattle.std.specs.Option.{option_map_or}
use Rattle.std.proofs.Math.ListN.{set}
use Rattle.std.proofs.lemmas.Bool.{and_parts, eqb-true, eqb-false}
use Rattle.std.proofs.lemmas.Bool.Decides.{Decides-eqb}
use Rattle.std.proofs.lemmas.List.{map-set, get_or-map, get_or-replicate, get_or-set_same, get_or-set_other, set-get_or, length-map}
use Rattle.perm_base.specs.declared.shapes.TableId.{TableId}
use Rattle.perm_base.specs.declared.shapes.TableId.TheVariants.{P, G}
use Rattle.policy_table.specs.Changes.{changed, changed_rules, is_possible, is_table, suits, table_of}
use Rattle.policy_table.specs.Held.{HasRoom, Held, needed}
use Rattle.policy_table.specs.Helps.Moves.{puts}
use Rattle.policy_table.specs.Helps.Rows.{AreTables, RiseWhere, Rows, counted_of, counting, held_of, lists_of, policy_of, slots_of, spare_of}
use Rattle.policy_table.specs.Slots.{AreSlots, slots, slots_after, slots_changed}
use Rattle.policy_table.specs.Tables.{AreLists, AreOrdered, Fields, Lists, Policy, is_ranked, most_tables, place, rows, same}
use Rattle.policy_table.specs.declared.change.Change.{Change}
use Rattle.policy_table.specs.declared.change.Change.TheVariants.{Insert, Remove, Replace}
use Rattle.policy_table.proofs.PlaceLemmas.{place_few, place_number, rows_at, same_table, told_table}
use Rattle.policy_table.proofs.StepLemmas.{needed-append}

-- a change needs its room in the place of its table
room_here : (change : Change) (at : ℕ) → place (table_of change) ≡ Some at → needed at (change ∷ []) ≡ puts change
room_here (Insert table rule) at here = rw (here, (Decides-eqb at at).1 refl) refl
room_here (Remove table rule) at here = refl
room_here (Replace table old new) at here = rw (here, (Decides-eqb at at).1 refl) refl

-- the room after a change of the table at a place
pub room_after : (tables : List Rows) (at : ℕ) (after : Rows) (d : Rows) (change : Change) → place (table_of change) ≡ Some at → at < length tables → (get_or tables at d).spare ≤ after.spare + puts change
    → (i : ℕ) → get_or (spare_of tables) i 0 ≤ get_or (spare_of (set tables at after)) i 0 + needed i (change ∷ [])
room_after tables at after d change here within enough i = by_test (eqb i at) refl
  where
    moved : spare_of (set tables at after) ≡ set (spare_of tables) at after.spare
    moved = map-set (λ (r : Rows). r.spare) tables at after

    there : get_or (spare_of tables) at 0 ≡ (get_or tables at d).spare
    there = get_or-map (λ (r : Rows). r.spare) tables at d 0 within

    now : get_or (spare_of (set tables at after)) at 0 ≡ after.spare
    now = ap (λ (l : List ℕ). get_or l at 0) moved ∙ get_or-set_same (spare_of tables) at after.spare 0 (subst (λ n. at < n) (sym (length-map tables (λ (r : Rows). r.spare))) within)

    used : needed at (change ∷ []) ≡ puts change
    used = room_here change at here

    by_test : (test : Bool) → eqb i at ≡ test → get_or (spare_of tables) i 0 ≤ get_or (spare_of (set tables at after)) i 0 + needed i (change ∷ [])
    by_test true e = subst (λ (k : ℕ). get_or (spare_of tables) k 0 ≤ get_or (spare_of (set tables at after)) k 0 + needed k (change ∷ [])) (sym (eqb-true i at e)) (omega (arith, there, now, used, enough))
    by_test false e =
        let other : get_or (spare_of (set tables at after)) i 0 ≡ get_or (spare_of tables) i 0 = ap (λ (l : List ℕ). get_or l i 0) moved ∙ get_or-set_other (spare_of tables) at i after.spare 0 (eqb-false i at e) in
        omega (arith, other)

-- the room that the table has for the first of changes
pub room_needed : (tables : List Rows) (at : ℕ) (d : Rows) (change : Change) (changes : List Change) → place (table_of change) ≡ Some at → at < length tables → at < most_tables → HasRoom (spare_of tables) (change ∷ changes) → puts change ≤ (get_or tables at d).spare
room_needed tables at d change changes here within few room =
    omega (arith, room at few, needed-append at (change ∷ []) changes, room_here change at here, get_or-map (λ (r : Rows). r.spare) tables at d 0 within)

-- the rules of the table at a place
pub rows_here : (ranked : Bool) (tables : List Rows) (at : ℕ) (d : Rows) (table : TableId) → place table ≡ Some at → at < length tables → rows (policy_of ranked tables) table ≡ (get_or tables at d).rules
rows_here ranked tables at d table here within = rows_at (policy_of ranked tables) table at here ∙ get_or-map (λ (r : Rows). r.rules) tables at d [] within

-- and those by slots
pub slots_here : (ranked : Bool) (tables : List Rows) (at : ℕ) (d : Rows) (table : TableId) → place table ≡ Some at → at < length tables → slots (held_of ranked tables) table ≡ (get_or tables at d).slots
slots_here ranked tables at d table here within =
    ap (λ (p : Option ℕ). option_map_or (λ (i : ℕ). get_or (slots_of tables) i []) p []) here ∙ get_or-map (λ (r : Rows). r.slots) tables at d [] within

-- the tables after a change of the table at a place
pub policy_after : (ranked here_ranked : Bool) (tables : List Rows) (at : ℕ) (after : Rows) (d : Rows) (change : Change) → place (table_of change) ≡ Some at → at < length tables
    → here_ranked ≡ is_ranked (policy_of ranked tables) (table_of change) → after.rules ≡ changed_rules here_ranked change (get_or tables at d).rules → policy_of ranked (set tables at after) ≡ changed change (policy_of ranked tables)
policy_after ranked here_ranked tables at after d change here within told made =
    ap (λ l. record { lists = l; ranked = ranked })
    (map-set (λ (r : Rows). r.rules) tables at after
    ∙ ap (set (lists_of tables) at)
    (made ∙ ap (λ b. changed_rules b change (get_or tables at d).rules) told
    ∙ ap (changed_rules (is_ranked (policy_of ranked tables) (table_of change)) change) (sym (rows_here ranked tables at d (table_of change) here within)))
    ∙ sym (ap (λ (p : Option ℕ). option_map_or (λ i. set (lists_of tables) i (changed_rules (is_ranked (policy_of ranked tables) (table_of change)) change (rows (policy_of ranked tables) (table_of change)))) p (lists_of tables)) here))

-- and their slots
pub slots_made : (tables : List Rows) (at : ℕ) (after : Rows) (d : Rows) (change : Change) → place (table_of change) ≡ Some at → at < length tables
    → after.slots ≡ slots_after change (get_or tables at d).slots → slots_of (set tables at after) ≡ slots_changed change (slots_of tables)
slots_made tables at after d change here within made =
    map-set (λ (r : Rows). r.slots) tables at after
    ∙ ap (set (slots_of tables) at) (made ∙ ap (slots_after change) (sym (get_or-map (λ (r : Rows). r.slots) tables at d [] within)))
    ∙ sym (ap (λ (p : Option ℕ). option_map_or (λ i. set (slots_of tables) i (slots_after change (get_or (slots_of tables) i []))) p (slots_of tables)) here)

-- a change that is possible suits the rules at the place
pub may_here : (ranked : Bool) (tables : List Rows) (at : ℕ) (d : Rows) (change : Change) → place (table_of change) ≡ Some at → at < length tables → is_possible change (policy_of ranked tables) ≡ true → suits change (get_or tables at d).rules ≡ true
may_here ranked tables at d change here within possible =
    ap (suits change) (sym (rows_here ranked tables at d (table_of change) here within))
    ∙ (and_parts (is_some (place (table_of change))) (suits change (rows (policy_of ranked tables) (table_of change))) possible).1

-- and its table has a place
pub has_place : (change : Change) (policy : Policy) → is_possible change policy ≡ true → place (table_of change) ≡ None → ⊥
has_place change policy possible none = true≢false (sym (and_parts (is_some (place (table_of change))) (suits change (rows policy (table_of change))) possible).0 ∙ ap is_some none)

-- the rules at a place rise where they are ranked
pub rise_here : (ranked here_ranked : Bool) (tables : List Rows) (at : ℕ) (d : Rows) (table : TableId) → place table ≡ Some at → at < length tables
    → AreOrdered (policy_of ranked tables) → here_ranked ≡ is_ranked (policy_of ranked tables) table → RiseWhere here_ranked (get_or tables at d).rules
rise_here ranked here_ranked tables at d table here within order told =
    subst (λ (b : Bool). RiseWhere b (get_or tables at d).rules) (sym told) (subst (RiseWhere (is_ranked (policy_of ranked tables) table)) (rows_here ranked tables at d table here within) (by table))
  where
    by : (t : TableId) → RiseWhere (is_ranked (policy_of ranked tables) t) (rows (policy_of ranked tables) t)
    by P = order.rising
    by (G number) = λ e. absurd (true≢false (sym e))

-- a table without a place has no rules, and so none twice
pub nowhere_once : (policy : Policy) (table : TableId) → place table ≡ None → IsDistinct same (rows policy table)
unfolding IsDistinct
nowhere_once policy table none = subst (λ (p : Option ℕ). IsDistinct same (option_map_or (λ (at : ℕ). get_or policy.lists at []) p [])) (sym none) tt

-- the place of a table lies among nine tables
few_tables : (tables : List Rows) → length (lists_of tables) ≡ most_tables → (table : TableId) (at : ℕ) → place table ≡ Some at → at < length tables
few_tables tables counted table at here = subst (λ n. at < n) (sym counted ∙ length-map tables (λ (r : Rows). r.rules)) (place_few table at here)

-- no table has too many rules
rules_few : (tables : List Rows) (at : ℕ) (d : Rows) → AreLists (lists_of tables) → at < length tables → length (get_or tables at d).rules < 2 ^ 32
rules_few tables at d are within =
    subst (λ (rules : List Fields). length rules < 2 ^ 32) (get_or-map (λ (r : Rows). r.rules) tables at d [] within) (are.few at [] (subst (λ n. at < n) (sym (length-map tables (λ (r : Rows). r.rules))) within))

-- a table that counts domains as the one in its place did leaves which do
pub counted_after : (tables : List Rows) (at : ℕ) (after d : Rows) → at < length tables → after.counted ≡ (get_or tables at d).counted → counted_of (set tables at after) ≡ counted_of tables
counted_after tables at after d within same =
    map-set (λ (r : Rows). r.counted) tables at after
    ∙ ap (set (counted_of tables) at) (same ∙ sym (get_or-map (λ (r : Rows). r.counted) tables at d false within))
    ∙ set-get_or (counted_of tables) at false

-- the table of a relation counts its domains
counts_here : (tables : List Rows) (number at : ℕ) (d : Rows) → counted_of tables ≡ counting → place (G number) ≡ Some at → at < length tables → (get_or tables at d).counted ≡ true
counts_here tables number at d marks here within =
    sym (get_or-map (λ (r : Rows). r.counted) tables at d false within) ∙ ap (λ (l : List Bool). get_or l at false) marks ∙ marked at (place_number number at here).1 (place_number number at here).2
  where
    marked : (i : ℕ) → 0 < i → i < most_tables → get_or counting i false ≡ true
    marked zero some few = absurd (omega (arith, some))
    marked (suc i) some few = get_or-replicate 8 i true false (omega (arith, few))

-- the table that was found in the place of one: it is among the nine, has not too many rules, and counts domains where it is a relation's
pub found_within : {ranked : Bool} {tables : List Rows} (table : TableId) (at : ℕ) (found : Option ℕ) → AreTables ranked tables → found ≡ place table → found ≡ Some at → at < length tables
found_within table at found are is there = few_tables _ are.kept.lists.counted table at (sym is ∙ there)

pub found_few : {ranked : Bool} {tables : List Rows} (table : TableId) (at : ℕ) (found : Option ℕ) (d : Rows) → AreTables ranked tables → found ≡ place table → found ≡ Some at → length (get_or tables at d).rules < 2 ^ 32
found_few table at found d are is there = rules_few _ at d are.kept.lists (found_within table at found are is there)

pub found_counts : {ranked : Bool} {tables : List Rows} (number at : ℕ) (found : Option ℕ) (d : Rows) → AreTables ranked tables → found ≡ place (G number) → found ≡ Some at → (get_or tables at d).counted ≡ true
found_counts number at found d are is there = counts_here _ number at d are.counted (sym is ∙ there) (found_within (G number) at found are is there)

-- a place among the nine
pub found_few_tables : {ranked : Bool} {tables : List Rows} (table : TableId) (at : ℕ) (found : Option ℕ) → AreTables ranked tables → found ≡ place table → found ≡ Some at → at < most_tables
found_few_tables table at found are is there = place_few table at (sym is ∙ there)

-- a table without a place has no rules and no slots
pub nowhere_rows : (policy : Policy) (table : TableId) → place table ≡ None → rows policy table ≡ []
nowhere_rows policy table none = ap (λ (p : Option ℕ). option_map_or (λ (i : ℕ). get_or policy.lists i []) p []) none

pub nowhere_slots : (held : Held) (table : TableId) → place table ≡ None → slots held table ≡ []
nowhere_slots held table none = ap (λ (p : Option ℕ). option_map_or (λ (i : ℕ). get_or held.slots i []) p []) none

-- what is held of the table that was found in a place
module _ {ranked : Bool} {tables : List Rows} {held : Held} (table : TableId) (at : ℕ) (found : Option ℕ) (d : Rows) (are : AreTables ranked tables) (view : held_of ranked tables ≡ held) (is : found ≡ place table) (there : found ≡ Some at) where
  pub found_rows : rows held.policy table ≡ (get_or tables at d).rules
  found_rows = subst (λ (h : Held). rows h.policy table ≡ (get_or tables at d).rules) view (rows_here ranked tables at d table (sym is ∙ there) (found_within table at found are is there))

  pub found_slots : slots held table ≡ (get_or tables at d).slots
  found_slots = subst (λ (h : Held). slots h table ≡ (get_or tables at d).slots) view (slots_here ranked tables at d table (sym is ∙ there) (found_within table at found are is there))

  pub found_are : AreSlots (get_or tables at d).slots (get_or tables at d).rules → AreSlots (slots held table) (rows held.policy table)
  found_are slotted = subst (λ (l : List Fields). AreSlots l (rows held.policy table)) (sym found_slots) (subst (λ (l : List Fields). AreSlots (get_or tables at d).slots l) (sym found_rows) slotted)

-- there are nine lists of slots
pub nine_slots : {ranked : Bool} {tables : List Rows} {held : Held} → AreTables ranked tables → held_of ranked tables ≡ held → length held.slots ≡ most_tables
nine_slots {tables = tables} are view =
    ap (λ (h : Held). length h.slots) (sym view) ∙ length-map tables (λ (r : Rows). r.slots) ∙ sym (length-map tables (λ (r : Rows). r.rules)) ∙ are.kept.lists.counted

-- no rules stand in no slots
pub none_are : (by_slot rules : List Fields) → by_slot ≡ [] → rules ≡ [] → AreSlots by_slot rules
unfolding IsDistinct
none_are by_slot rules no_slots no_rules = subst (λ (l : List Fields). AreSlots l rules) (sym no_slots) (subst (λ (l : List Fields). AreSlots [] l) (sym no_rules) (record { once = tt; count = refl; all = λ rule. refl }))

-- the slots of the table of a change, and those of others
pub slots_own : (change : Change) (old new : Held) (table : TableId) (at : ℕ) → is_table table (table_of change) ≡ true → place table ≡ Some at → length old.slots ≡ most_tables → new.slots ≡ slots_changed change old.slots
    → slots new table ≡ slots_after change (slots old table)
slots_own change old new table at own here nine moved =
    ap (λ (p : Option ℕ). option_map_or (λ (i : ℕ). get_or new.slots i []) p []) here
    ∙ ap (λ (l : Lists). get_or l at []) (moved ∙ ap (λ (p : Option ℕ). option_map_or (λ i. set old.slots i (slots_after change (get_or old.slots i []))) p old.slots) there)
    ∙ get_or-set_same old.slots at (slots_after change (get_or old.slots at [])) [] (subst (λ n. at < n) (sym nine) (place_few table at here))
    ∙ ap (slots_after change) (sym (ap (λ (p : Option ℕ). option_map_or (λ (i : ℕ). get_or old.slots i []) p []) here))
  where
    there : place (table_of change) ≡ Some at
    there = subst (λ (t : TableId). place t ≡ Some at) (same_table table (table_of change) own) here

pub slots_other : (change : Change) (old new : Held) (table : TableId) (at : ℕ) → is_table table (table_of change) ≡ false → place table ≡ Some at → new.slots ≡ slots_changed change old.slots → slots new table ≡ slots old table
slots_other change old new table at apart here moved =
    ap (λ (p : Option ℕ). option_map_or (λ (i : ℕ). get_or new.slots i []) p []) here
    ∙ ap (λ (l : Lists). get_or l at []) moved ∙ by (place (table_of change)) refl
    ∙ sym (ap (λ (p : Option ℕ). option_map_or (λ (i : ℕ). get_or old.slots i []) p []) here)
  where
    by : (p : Option ℕ) → place (table_of change) ≡ p → get_or (option_map_or (λ i. set old.slots i (slots_after change (get_or old.slots i []))) p old.slots) at [] ≡ get_or old.slots at []
    by None e = refl
    by (Some i) e = get_or-set_other old.slots i at _ [] (λ same. true≢false (sym (told_table table (table_of change) at here (e ∙ ap Some (sym same))) ∙ apart))
