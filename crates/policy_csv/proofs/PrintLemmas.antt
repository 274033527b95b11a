-- The printed text of tables says these tables.
use Rattle.std.proofs.Common.{◌≡◌, ℕ, zero, suc, ◌+◌, ◌<◌, ◌≤◌, Bool, true, false, not, cond, List, [], ◌∷◌, ◌++◌, append-nil, codes, length, map, filter, eqb, All, Option, Some, None, IsTrue, refl, sym, ap, subst, ◌∙◌, true≢false, arith}
use Rattle.std.specs.Prelude.{IsUtf8, flat_map}
use Rattle.std.specs.List.{AllByRecursion, AllZip, list_any}
use Rattle.std.specs.Option.{option_map_or}
use Rattle.std.proofs.lemmas.Bool.{or_parts}
use Rattle.std.proofs.lemmas.List.Elements.{All-nil, recursion_from_All}
use Rattle.perm_base.proofs.CallerLemmas.{named_from_name, printed_is}
use Rattle.perm_base.specs.FieldLine as field
use Rattle.perm_base.specs.FieldLine.{IsFields, printed_field}
use Rattle.perm_base.specs.LineEnds.{AreFields, has_line_end, is_line_end}
use Rattle.perm_base.specs.RoleShapes.{shape_of}
use Rattle.perm_base.specs.Shapes.{AreValid}
use Rattle.perm_base.specs.TableNames.{name_of}
use Rattle.perm_base.specs.declared.shapes.RoleShape.{RoleShape}
use Rattle.perm_base.specs.declared.shapes.Shapes.{Shapes}
use Rattle.perm_base.specs.declared.shapes.TableId.{TableId}
use Rattle.perm_base.specs.declared.shapes.TableId.TheVariants.{P, G}
use Rattle.policy_csv.proofs.FillLemmas.{again, entry_of, table_entries}
use Rattle.policy_csv.proofs.GrowthLemmas.{no_rules}
use Rattle.policy_csv.proofs.SpelledLemmas.{whole_line}
use Rattle.text_parts.specs.Full.{full_lines}
use Rattle.policy_csv.specs.Policy.{IsPolicy, SaysRule, SayRules, with_entries}
use Rattle.policy_csv.specs.Printed.{all_tables, printed, table_lines}
use Rattle.policy_csv.specs.declared.entry.Entry.{Entry}
use Rattle.policy_table.proofs.CallerLemmas.{place_number}
use Rattle.policy_table.specs.Limits.{AreSound, columns_of, has_short_fields, role_columns}
use Rattle.policy_table.specs.Tables.{Fields, IsKept, Policy, place, rows, without_rules}
use Rattle.text_parts.proofs.CallerLemmas.{has_byte-here, lines_of-with_ends, without_cr-other}
use Rattle.text_parts.specs.Lines.{has_byte, lines_of, with_ends, without_cr}
use Rattle.text_parts.specs.Numbered.{Line, line, numbered, text_lines}
use Rattle.text_parts.specs.Passed.{is_passed}

-- ---- lines that count, without line ends

record Counts (text : List ℕ) : Type 0 where
  no_feed : has_byte 10 text ≡ false
  no_return : has_byte 13 text ≡ false
  counts : is_passed text ≡ false

no_feeds : (lines : List (List ℕ)) → AllByRecursion Counts lines → AllByRecursion (λ (text : List ℕ). has_byte 10 text ≡ false) lines
no_feeds [] all = tt
no_feeds (text ∷ lines) all = (all.0.no_feed, no_feeds lines all.1)

uncut : (lines : List (List ℕ)) → AllByRecursion Counts lines → map without_cr lines ≡ lines
uncut [] all = refl
uncut (text ∷ lines) all =
    let same : without_cr text ≡ text = without_cr-other text (λ front e. true≢false (sym (has_byte-here 13 front []) ∙ sym (ap (has_byte 13) e) ∙ all.0.no_return)) in
    ap (λ (t : List ℕ). t ∷ map without_cr lines) same ∙ ap (λ (l : List (List ℕ)). text ∷ l) (uncut lines all.1)

all_count : (number : ℕ) (lines : List (List ℕ)) → AllByRecursion Counts lines → filter (λ (l : Line). not (is_passed l.text)) (numbered number lines) ≡ numbered number lines
all_count number [] all = refl
all_count number (text ∷ lines) all = rw (all.0.counts) (ap (λ (l : List Line). line number text ∷ l) (all_count (number + 1) lines all.1))

lines_of_ends : (lines : List (List ℕ)) → AllByRecursion (λ (text : List ℕ). has_byte 10 text ≡ false) lines → lines_of (with_ends lines) ≡ lines
unfolding lines_of
lines_of_ends lines all = ap lines_of (sym (append-nil (with_ends lines))) ∙ lines_of-with_ends lines [] all ∙ append-nil lines

lines_are : (lines : List (List ℕ)) → AllByRecursion Counts lines → full_lines 1 (with_ends lines) ≡ numbered 1 lines
unfolding full_lines text_lines
lines_are lines all =
    ap (λ (l : List (List ℕ)). filter (λ (l : Line). not (is_passed l.text)) (numbered 1 (map without_cr l))) (lines_of_ends lines (no_feeds lines all))
    ∙ ap (λ (l : List (List ℕ)). filter (λ (l : Line). not (is_passed l.text)) (numbered 1 l)) (uncut lines all) ∙ all_count 1 lines all

-- ---- the line of a rule

-- the name of a table, as it begins lines
record Names (table : TableId) : Type 0 where
  name : List ℕ
  named : name_of table ≡ Some name
  whole : has_line_end name ≡ false
  plain : printed_field name ≡ name
  counts : (rest : List ℕ) → is_passed (name ++ rest) ≡ false

all_named : AllByRecursion Names all_tables
unfolding printed_field
all_named = (
  record { name = codes "p"; named = refl; whole = refl; plain = refl; counts = λ rest. refl },
  (
    record { name = codes "g"; named = refl; whole = refl; plain = refl; counts = λ rest. refl },
    (
      record { name = codes "g2"; named = refl; whole = refl; plain = refl; counts = λ rest. refl },
      (
        record { name = codes "g3"; named = refl; whole = refl; plain = refl; counts = λ rest. refl },
        (
          record { name = codes "g4"; named = refl; whole = refl; plain = refl; counts = λ rest. refl },
          (
            record { name = codes "g5"; named = refl; whole = refl; plain = refl; counts = λ rest. refl },
            (
              record { name = codes "g6"; named = refl; whole = refl; plain = refl; counts = λ rest. refl },
              (record { name = codes "g7"; named = refl; whole = refl; plain = refl; counts = λ rest. refl }, (record { name = codes "g8"; named = refl; whole = refl; plain = refl; counts = λ rest. refl }, tt)),
            ),
          ),
        ),
      ),
    ),
  ),
)

-- a table of the shapes has 32 columns at most
few_columns : (shapes : Shapes) (table : TableId) (columns : ℕ) → AreValid shapes → columns_of shapes table ≡ Some columns → columns ≤ 32
few_columns shapes P columns valid e =
    let same : shapes.columns ≡ columns = cc in
    omega (arith, valid.few)
few_columns shapes (G number) columns valid e = by (shape_of shapes.roles number) e
  where
    by_domain : (b : Bool) → Some (cond {A = ℕ} b 3 2) ≡ Some columns → columns ≤ 32
    by_domain true is = let same : 3 ≡ columns = cc in omega arith
    by_domain false is = let same : 2 ≡ columns = cc in omega arith

    by : (p : Option RoleShape) → option_map_or (λ (shape : RoleShape). Some (role_columns shape)) p None ≡ Some columns → columns ≤ 32
    by None is = absurd cc
    by (Some shape) is = by_domain shape.with_domain is

-- a text without line ends has neither CR nor LF
apart : (text : List ℕ) → has_line_end text ≡ false → (has_byte 10 text ≡ false) × (has_byte 13 text ≡ false)
apart [] none = (refl, refl)
apart (byte ∷ text) none =
    let here = or_parts (is_line_end byte) (has_line_end text) none in
    let ends = or_parts (eqb byte 13) (eqb byte 10) here.0 in
    let rest = apart text here.1 in
    (rw (ends.1) (rest.0), rw (ends.0) (rest.1))

-- what printing asks of a rule of a table
record IsRowOf (shapes : Shapes) (table : TableId) (rule : Fields) : Type 0 where
  columns : columns_of shapes table ≡ Some (length rule)
  short : IsTrue (has_short_fields rule)
  fields : AreFields rule

-- what the line of a rule then is
record IsLineOf (shapes : Shapes) (text : List ℕ) (entry : Entry) : Type 0 where
  says : SaysRule shapes text entry
  counts : Counts text

line_of : (shapes : Shapes) (table : TableId) (rule : Fields) (names : Names table) → AreValid shapes → IsRowOf shapes table rule → IsLineOf shapes (field.printed (names.name ∷ rule)) (entry_of table rule)
line_of shapes table rule names valid row =
    let few : length rule ≤ 32 = few_columns shapes table (length rule) valid row.columns in
    let none : list_any has_line_end (names.name ∷ rule) ≡ false = rw (names.whole, row.fields.whole_lines) refl in
    let fields : AreFields (names.name ∷ rule) = record { few = omega (arith, few); whole_lines = none } in
    let is : IsFields (field.printed (names.name ∷ rule)) (names.name ∷ rule) = printed_is (names.name ∷ rule) fields (omega arith) (omega (arith, few)) in
    let ends = apart (field.printed (names.name ∷ rule)) (whole_line (field.printed (names.name ∷ rule)) (names.name ∷ rule) is none) in
    record {
      says = record {
        name = names.name;
        fields = is;
        named = named_from_name table names.name names.named;
        columns = row.columns;
        short = row.short;
      };
      counts = record {
        no_feed = ends.0;
        no_return = ends.1;
        counts = ap (λ (n : List ℕ). is_passed (n ++ flat_map (λ (text : List ℕ). (44 ∷ 32 ∷ []) ++ text) (map printed_field rule))) names.plain ∙ names.counts _;
      };
    }

-- ---- the lines of all tables

-- lines and rules, side by side
abbrev AreLinesOf : Shapes → List (List ℕ) → List Entry → Type 0
AreLinesOf shapes lines entries = AllZip (IsLineOf shapes) lines entries

both : (shapes : Shapes) (lines others : List (List ℕ)) (entries more : List Entry) → AreLinesOf shapes lines entries → AreLinesOf shapes others more → AreLinesOf shapes (lines ++ others) (entries ++ more)
both shapes [] others [] more one other = other
both shapes [] others (entry ∷ entries) more one other = absurd one
both shapes (text ∷ lines) others [] more one other = absurd one
both shapes (text ∷ lines) others (entry ∷ entries) more one other = (one.0, both shapes lines others entries more one.1 other)

lines_of_rules : (shapes : Shapes) (table : TableId) (names : Names table) (rules : List Fields) → AreValid shapes → AllByRecursion (IsRowOf shapes table) rules
    → AreLinesOf shapes (map (λ (rule : Fields). field.printed (names.name ∷ rule)) rules) (map (entry_of table) rules)
lines_of_rules shapes table names [] valid each = tt
lines_of_rules shapes table names (rule ∷ rules) valid each = (line_of shapes table rule names valid each.0, lines_of_rules shapes table names rules valid each.1)

lines_of_tables : (shapes : Shapes) (policy : Policy) (tables : List TableId) → AllByRecursion Names tables → AreValid shapes → ((table : TableId) → AllByRecursion (IsRowOf shapes table) (rows policy table))
    → AreLinesOf shapes (flat_map (table_lines policy) tables) (flat_map (table_entries policy) tables)
lines_of_tables shapes policy [] names valid each = tt
lines_of_tables shapes policy (table ∷ tables) names valid each =
    let own : table_lines policy table ≡ map (λ (rule : Fields). field.printed (names.0.name ∷ rule)) (rows policy table)
    = ap (λ (o : Option (List ℕ)). option_map_or (λ (name : List ℕ). map (λ (rule : Fields). field.printed (name ∷ rule)) (rows policy table)) o []) names.0.named in
    both shapes (table_lines policy table) (flat_map (table_lines policy) tables) (table_entries policy table) (flat_map (table_entries policy) tables)
    (subst (λ (lines : List (List ℕ)). AreLinesOf shapes lines (table_entries policy table)) (sym own) (lines_of_rules shapes table names.0 (rows policy table) valid (each table)))
    (lines_of_tables shapes policy tables names.1 valid each)

say_rules : (shapes : Shapes) (number : ℕ) (lines : List (List ℕ)) (entries : List Entry) → AreLinesOf shapes lines entries → SayRules shapes (numbered number lines) entries
say_rules shapes number [] [] are = tt
say_rules shapes number [] (entry ∷ entries) are = absurd are
say_rules shapes number (text ∷ lines) [] are = absurd are
say_rules shapes number (text ∷ lines) (entry ∷ entries) are = (are.0.says, say_rules shapes (number + 1) lines entries are.1)

they_count : (shapes : Shapes) (lines : List (List ℕ)) (entries : List Entry) → AreLinesOf shapes lines entries → AllByRecursion Counts lines
they_count shapes [] entries are = tt
they_count shapes (text ∷ lines) [] are = absurd are
they_count shapes (text ∷ lines) (entry ∷ entries) are = (are.0.counts, they_count shapes lines entries are.1)

-- ---- the text of tables

rows_of : (shapes : Shapes) (policy : Policy) (table : TableId) → AreSound shapes policy → All AreFields (rows policy table) → AllByRecursion (IsRowOf shapes table) (rows policy table)
rows_of shapes policy table sound fields =
    recursion_from_All (IsRowOf shapes table) (rows policy table)
    (λ k d within. record {
      columns = sound.shaped.columns table k d within;
      short = sound.short table k d within;
      fields = fields k d within;
    })

pub printed_is_policy : (shapes : Shapes) (policy : Policy) → AreValid shapes → IsKept policy → AreSound shapes policy → ((table : TableId) → All AreFields (rows policy table)) → IsUtf8 (printed policy) → IsPolicy shapes (printed policy) policy
unfolding printed
printed_is_policy shapes policy valid kept sound fields utf8 =
    let lines : List (List ℕ) = flat_map (table_lines policy) all_tables in
    let are = lines_of_tables shapes policy all_tables all_named valid (λ table. rows_of shapes policy table sound (fields table)) in
    record {
      utf8 = utf8;
      entries = flat_map (table_entries policy) all_tables;
      lines = subst (λ (l : List Line). SayRules shapes l (flat_map (table_entries policy) all_tables))
          (sym (lines_are (flat_map (table_lines policy) all_tables) (they_count shapes (flat_map (table_lines policy) all_tables) (flat_map (table_entries policy) all_tables) are)))
          (say_rules shapes 1 (flat_map (table_lines policy) all_tables) (flat_map (table_entries policy) all_tables) are);
      tables = sym (ap (λ (mark : Bool). with_entries (flat_map (table_entries policy) all_tables) (without_rules mark)) (sym sound.shaped.ranked) ∙ again policy kept);
      within = sound.within;
    }

-- ---- what is known of the rules of each of the nine tables is known of all

at_number : (policy : Policy) (number : ℕ) → 0 < number → number < 9 → AllByRecursion (λ (table : TableId). All AreFields (rows policy table)) all_tables → All AreFields (rows policy (G number))
at_number policy zero some few all = absurd (omega arith)
at_number policy (suc zero) some few all = all.1.0
at_number policy (suc (suc zero)) some few all = all.1.1.0
at_number policy (suc (suc (suc zero))) some few all = all.1.1.1.0
at_number policy (suc (suc (suc (suc zero)))) some few all = all.1.1.1.1.0
at_number policy (suc (suc (suc (suc (suc zero))))) some few all = all.1.1.1.1.1.0
at_number policy (suc (suc (suc (suc (suc (suc zero)))))) some few all = all.1.1.1.1.1.1.0
at_number policy (suc (suc (suc (suc (suc (suc (suc zero))))))) some few all = all.1.1.1.1.1.1.1.0
at_number policy (suc (suc (suc (suc (suc (suc (suc (suc zero)))))))) some few all = all.1.1.1.1.1.1.1.1.0
at_number policy (suc (suc (suc (suc (suc (suc (suc (suc (suc more))))))))) some few all = absurd (omega (arith, few))

pub fields_of_all : (policy : Policy) → AllByRecursion (λ (table : TableId). All AreFields (rows policy table)) all_tables → (table : TableId) → All AreFields (rows policy table)
fields_of_all policy all P = all.0
fields_of_all policy all (G number) = by (place (G number)) refl
  where
    by : (p : Option ℕ) → place (G number) ≡ p → All AreFields (rows policy (G number))
    by None none = subst (All AreFields) (sym (no_rules policy (G number) none)) (All-nil AreFields)
    by (Some at) here =
        let known = place_number number at here in
        at_number policy number (omega (arith, known.0, known.1)) (omega (arith, known.0, known.2)) all
