-- Items that pass: those that a command takes, none of them twice. What is found among the rows behind them.
use Rattle.std.proofs.Common.{◌≡◌, ◌∙◌, ◌&&◌, ◌||◌, Bool, true, false, cond, not, List, [], ◌∷◌, ◌++◌, append_assoc, append-nil, is_some, option_map, unwrap_or, Option, Some, None, refl, sym, ap, ap₂, subst, true≢false, bytes_eq, codes}
use Rattle.std.specs.List.{list_all, list_any}
use Rattle.std.proofs.lemmas.Bool.{and_from, and_parts, not-true, or_parts}
use Rattle.clap.specs.Walk.{Row, Text, has_row, without}
use Rattle.clap.specs.declared.builder.value_parser.Reading.TheVariants.{AsWritten}
use Rattle.clap.specs.declared.parser.matches.ValueSource.TheVariants.{CommandLine}
use Rattle.command_words.specs.Items.{Item, operand, flag, option, stray, are_different, is_same, operands, value_of}
use Rattle.command_words.proofs.AppLemmas.{Apart}
use Rattle.command_words.proofs.MetItems.{after_item, after_items, item_passes, items_pass}
use Rattle.command_words.proofs.RowLemmas.{has_row_is, new_row, no_row, row_of_id, values_more, values_new, values_other, without_none}
use Rattle.command_words.proofs.TextLemmas.{apart_names, bytes_flip, bytes_same, clash, same_test}

-- the id of an item's row
abbrev pub id_of : Item → Text
id_of (operand word) = codes "operands"
id_of flag = codes "json"
id_of (option name value) = name
id_of stray = []

-- whether a command takes it
abbrev pub taken : List Text → Bool → Item → Bool
taken names json (operand word) = true
taken names json flag = json
taken names json (option name value) = list_any (bytes_eq name) names
taken names json stray = false

-- no row stands there yet
abbrev pub is_new : List Row → Item → Bool
is_new rows (operand word) = true
is_new rows flag = not (has_row (codes "json") rows)
is_new rows (option name value) = not (has_row name rows)
is_new rows stray = true

-- the row of the flag, and that of an option
abbrev pub flag_row : Row
flag_row = new_row (codes "json") AsWritten CommandLine (codes "true" ∷ [])

abbrev pub option_row : Text → Text → Row
option_row name value = new_row name AsWritten CommandLine (value ∷ [])

abbrev pub chosen : {X : Type 0} → Option X → Option X → Option X
chosen (Some x) later = Some x
chosen None later = later

chosen_none : {X : Type 0} (o : Option X) → o ≡ chosen o None
chosen_none None = refl
chosen_none (Some x) = refl

new_all : (items : List Item) → list_all (is_new []) items ≡ true
new_all [] = refl
new_all (operand word ∷ items) = new_all items
new_all (flag ∷ items) = new_all items
new_all (option name value ∷ items) = new_all items
new_all (stray ∷ items) = new_all items

module _ (names : List Text) (json : Bool) (apart : Apart names) where
  abbrev passes : List Item → List Row → Bool
  passes items rows = items_pass names json items rows

  -- ---- one item

  -- what stands under another id stays
  item_other : (other : Text) (item : Item) (rows : List Row) → item_passes names json item rows ≡ true → bytes_eq (id_of item) other ≡ false → row_of_id other (after_item item rows) ≡ row_of_id other rows
  item_other other (operand word) rows ok differs = values_other (codes "operands") AsWritten CommandLine (word ∷ []) other rows differs
  item_other other flag rows ok differs =
      values_other (codes "json") AsWritten CommandLine (codes "true" ∷ []) other (without (codes "json") rows) differs
      ∙ ap (row_of_id other) (without_none (codes "json") rows (not-true (has_row (codes "json") rows) (and_parts json (not (has_row (codes "json") rows)) ok).1))
  item_other other (option name value) rows ok differs =
      values_other name AsWritten CommandLine (value ∷ []) other (without name rows) differs
      ∙ ap (row_of_id other) (without_none name rows (not-true (has_row name rows) (and_parts (list_any (bytes_eq name) names) (not (has_row name rows)) ok).1))
  item_other other stray rows ok differs = refl

  has_other : (other : Text) (item : Item) (rows : List Row) → item_passes names json item rows ≡ true → bytes_eq (id_of item) other ≡ false → has_row other (after_item item rows) ≡ has_row other rows
  has_other other item rows ok differs = has_row_is other (after_item item rows) ∙ ap (λ (o : Option Row). is_some o) (item_other other item rows ok differs) ∙ sym (has_row_is other rows)

  -- the flag and an option make a row
  flag_made : (rows : List Row) → item_passes names json flag rows ≡ true → row_of_id (codes "json") (after_item flag rows) ≡ Some flag_row
  flag_made rows ok =
      let free = not-true (has_row (codes "json") rows) (and_parts json (not (has_row (codes "json") rows)) ok).1 in
      values_new (codes "json") AsWritten CommandLine (codes "true" ∷ []) (without (codes "json") rows)
      (ap (row_of_id (codes "json")) (without_none (codes "json") rows free) ∙ no_row (codes "json") rows free)

  option_made : (name value : Text) (rows : List Row) → item_passes names json (option name value) rows ≡ true → row_of_id name (after_item (option name value) rows) ≡ Some (option_row name value)
  option_made name value rows ok =
      let free = not-true (has_row name rows) (and_parts (list_any (bytes_eq name) names) (not (has_row name rows)) ok).1 in
      values_new name AsWritten CommandLine (value ∷ []) (without name rows) (ap (row_of_id name) (without_none name rows free) ∙ no_row name rows free)

  -- no option has the id of the operands or of the flag
  not_operands : (name : Text) → list_any (bytes_eq name) names ≡ true → bytes_eq (codes "operands") name ≡ false
  not_operands name within = apart_names names (codes "operands") name apart.operands within

  not_json : (name : Text) → list_any (bytes_eq name) names ≡ true → bytes_eq (codes "json") name ≡ false
  not_json name within = apart_names names (codes "json") name apart.json within

  -- ---- items that pass are taken, none of them twice

  -- behind the flag no flag passes
  flags_end : (items : List Item) (rows : List Row) → has_row (codes "json") rows ≡ true → passes items rows ≡ true → list_any (is_same flag) items ≡ false
  flags_end [] rows has ok = refl
  flags_end (operand word ∷ items) rows has ok = flags_end items (after_item (operand word) rows) (has_other (codes "json") (operand word) rows refl refl ∙ has) ok
  flags_end (flag ∷ items) rows has ok =
      let first = and_parts (item_passes names json flag rows) (passes items (after_item flag rows)) ok in
      clash (has_row (codes "json") rows) has (not-true (has_row (codes "json") rows) (and_parts json (not (has_row (codes "json") rows)) first.0).1)
  flags_end (option name value ∷ items) rows has ok =
      let first = and_parts (item_passes names json (option name value) rows) (passes items (after_item (option name value) rows)) ok in
      let within = (and_parts (list_any (bytes_eq name) names) (not (has_row name rows)) first.0).0 in
      flags_end items (after_item (option name value) rows) (has_other (codes "json") (option name value) rows first.0 (bytes_flip name (codes "json") ∙ not_json name within) ∙ has) first.1
  flags_end (stray ∷ items) rows has ok = absurd (true≢false (sym ok))

  -- behind an option none of its name passes
  options_end : (name value : Text) (items : List Item) (rows : List Row) → list_any (bytes_eq name) names ≡ true → has_row name rows ≡ true → passes items rows ≡ true → list_any (is_same (option name value)) items ≡ false
  options_end name value [] rows within has ok = refl
  options_end name value (operand word ∷ items) rows within has ok =
      options_end name value items (after_item (operand word) rows) within (has_other name (operand word) rows refl (not_operands name within) ∙ has) ok
  options_end name value (flag ∷ items) rows within has ok =
      let first = and_parts (item_passes names json flag rows) (passes items (after_item flag rows)) ok in
      options_end name value items (after_item flag rows) within (has_other name flag rows first.0 (not_json name within) ∙ has) first.1
  options_end name value (option other given ∷ items) rows within has ok =
      let first = and_parts (item_passes names json (option other given) rows) (passes items (after_item (option other given) rows)) ok in
      let free = not-true (has_row other rows) (and_parts (list_any (bytes_eq other) names) (not (has_row other rows)) first.0).1 in
      go (bytes_eq name other) refl free (λ differs. options_end name value items (after_item (option other given) rows) within (has_other name (option other given) rows first.0 (bytes_flip other name ∙ differs) ∙ has) first.1)
    where
      go : (test : Bool) → bytes_eq name other ≡ test → has_row other rows ≡ false → (bytes_eq name other ≡ false → list_any (is_same (option name value)) items ≡ false) → (bytes_eq name other || list_any (is_same (option name value)) items) ≡ false
      go true same free rest = clash (has_row name rows) has (ap (λ (t : Text). has_row t rows) (bytes_same name other same) ∙ free)
      go false differs free rest = ap (λ (t : Bool). t || list_any (is_same (option name value)) items) differs ∙ rest differs
  options_end name value (stray ∷ items) rows within has ok = absurd (true≢false (sym ok))

  operands_end : (word : Text) (items : List Item) → list_any (is_same (operand word)) items ≡ false
  operands_end word [] = refl
  operands_end word (operand other ∷ items) = operands_end word items
  operands_end word (flag ∷ items) = operands_end word items
  operands_end word (option name value ∷ items) = operands_end word items
  operands_end word (stray ∷ items) = operands_end word items

  passes_taken : (items : List Item) (rows : List Row) → passes items rows ≡ true → (list_all (taken names json) items ≡ true) × (are_different items ≡ true)
  passes_taken [] rows ok = (refl, refl)
  passes_taken (operand word ∷ items) rows ok =
      let rest = passes_taken items (after_item (operand word) rows) ok in
      (rest.0, and_from (not (list_any (is_same (operand word)) items)) (are_different items) (ap not (operands_end word items)) rest.1)
  passes_taken (flag ∷ items) rows ok =
      let first = and_parts (item_passes names json flag rows) (passes items (after_item flag rows)) ok in
      let rest = passes_taken items (after_item flag rows) first.1 in
      let has : has_row (codes "json") (after_item flag rows) ≡ true = has_row_is (codes "json") (after_item flag rows) ∙ ap (λ (o : Option Row). is_some o) (flag_made rows first.0) in
      (and_from json (list_all (taken names json) items) (and_parts json (not (has_row (codes "json") rows)) first.0).0 rest.0, and_from (not (list_any (is_same flag) items)) (are_different items) (ap not (flags_end items (after_item flag rows) has first.1)) rest.1)
  passes_taken (option name value ∷ items) rows ok =
      let first = and_parts (item_passes names json (option name value) rows) (passes items (after_item (option name value) rows)) ok in
      let within = (and_parts (list_any (bytes_eq name) names) (not (has_row name rows)) first.0).0 in
      let rest = passes_taken items (after_item (option name value) rows) first.1 in
      let has : has_row name (after_item (option name value) rows) ≡ true = has_row_is name (after_item (option name value) rows) ∙ ap (λ (o : Option Row). is_some o) (option_made name value rows first.0) in
      (and_from (list_any (bytes_eq name) names) (list_all (taken names json) items) within rest.0, and_from (not (list_any (is_same (option name value)) items)) (are_different items) (ap not (options_end name value items (after_item (option name value) rows) within has first.1)) rest.1)
  passes_taken (stray ∷ items) rows ok = absurd (true≢false (sym ok))

  -- ---- items that are taken, none of them twice, pass

  -- another item than these leaves their rows alone
  still_new : (item other : Item) (rows : List Row) → item_passes names json item rows ≡ true → taken names json other ≡ true → is_same item other ≡ false → is_new rows other ≡ true → is_new (after_item item rows) other ≡ true
  still_new item (operand word) rows ok takes differs new = refl
  still_new item stray rows ok takes differs new = refl
  still_new (operand word) flag rows ok takes differs new = ap not (has_other (codes "json") (operand word) rows ok refl) ∙ new
  still_new flag flag rows ok takes differs new = absurd (true≢false differs)
  still_new (option name value) flag rows ok takes differs new =
      let within = (and_parts (list_any (bytes_eq name) names) (not (has_row name rows)) ok).0 in
      ap not (has_other (codes "json") (option name value) rows ok (bytes_flip name (codes "json") ∙ not_json name within)) ∙ new
  still_new stray flag rows ok takes differs new = new
  still_new (operand word) (option other given) rows ok takes differs new = ap not (has_other other (operand word) rows ok (not_operands other takes)) ∙ new
  still_new flag (option other given) rows ok takes differs new = ap not (has_other other flag rows ok (not_json other takes)) ∙ new
  still_new (option name value) (option other given) rows ok takes differs new = ap not (has_other other (option name value) rows ok differs) ∙ new
  still_new stray (option other given) rows ok takes differs new = new

  all_new : (item : Item) (items : List Item) (rows : List Row) → item_passes names json item rows ≡ true → list_all (taken names json) items ≡ true → list_any (is_same item) items ≡ false → list_all (is_new rows) items ≡ true → list_all (is_new (after_item item rows)) items ≡ true
  all_new item [] rows ok takes differs new = refl
  all_new item (other ∷ items) rows ok takes differs new =
      let t = and_parts (taken names json other) (list_all (taken names json) items) takes in
      let d = or_parts (is_same item other) (list_any (is_same item) items) differs in
      let n = and_parts (is_new rows other) (list_all (is_new rows) items) new in
      and_from (is_new (after_item item rows) other) (list_all (is_new (after_item item rows)) items) (still_new item other rows ok t.0 d.0 n.0) (all_new item items rows ok t.1 d.1 n.1)

  one_passes : (item : Item) (rows : List Row) → taken names json item ≡ true → is_new rows item ≡ true → item_passes names json item rows ≡ true
  one_passes (operand word) rows takes new = refl
  one_passes flag rows takes new = and_from json (not (has_row (codes "json") rows)) takes new
  one_passes (option name value) rows takes new = and_from (list_any (bytes_eq name) names) (not (has_row name rows)) takes new
  one_passes stray rows takes new = absurd (true≢false (sym takes))

  taken_passes : (items : List Item) (rows : List Row) → list_all (taken names json) items ≡ true → are_different items ≡ true → list_all (is_new rows) items ≡ true → passes items rows ≡ true
  taken_passes [] rows takes differ new = refl
  taken_passes (item ∷ items) rows takes differ new =
      let t = and_parts (taken names json item) (list_all (taken names json) items) takes in
      let d = and_parts (not (list_any (is_same item) items)) (are_different items) differ in
      let n = and_parts (is_new rows item) (list_all (is_new rows) items) new in
      let ok = one_passes item rows t.0 n.0 in
      and_from (item_passes names json item rows) (passes items (after_item item rows)) ok (taken_passes items (after_item item rows) t.1 d.1 (all_new item items rows ok t.1 (not-true (list_any (is_same item) items) d.0) n.1))

  pub passes_is : (items : List Item) → passes items [] ≡ (list_all (taken names json) items && are_different items)
  passes_is items = same_test (passes items []) (list_all (taken names json) items && are_different items)
      (λ ok. let both = passes_taken items [] ok in and_from (list_all (taken names json) items) (are_different items) both.0 both.1)
      (λ both. let parts = and_parts (list_all (taken names json) items) (are_different items) both in taken_passes items [] parts.0 parts.1 (new_all items))

  -- ---- what is found behind them

  -- the value of an option
  pub option_found : (name : Text) → list_any (bytes_eq name) names ≡ true → (items : List Item) (rows : List Row) → passes items rows ≡ true → row_of_id name (after_items items rows) ≡ chosen (row_of_id name rows) (option_map (option_row name) (value_of name items))
  option_found name within [] rows ok = chosen_none (row_of_id name rows)
  option_found name within (operand word ∷ items) rows ok =
      option_found name within items (after_item (operand word) rows) ok
      ∙ ap (λ (o : Option Row). chosen o (option_map (option_row name) (value_of name items))) (item_other name (operand word) rows refl (not_operands name within))
  option_found name within (flag ∷ items) rows ok =
      let first = and_parts (item_passes names json flag rows) (passes items (after_item flag rows)) ok in
      option_found name within items (after_item flag rows) first.1
      ∙ ap (λ (o : Option Row). chosen o (option_map (option_row name) (value_of name items))) (item_other name flag rows first.0 (not_json name within))
  option_found name within (option other given ∷ items) rows ok =
      let first = and_parts (item_passes names json (option other given) rows) (passes items (after_item (option other given) rows)) ok in
      go (bytes_eq other name) refl first.0 (option_found name within items (after_item (option other given) rows) first.1)
    where
      later : Option Row
      later = option_map (option_row name) (value_of name items)

      go : (test : Bool) → bytes_eq other name ≡ test → item_passes names json (option other given) rows ≡ true → row_of_id name (after_items items (after_item (option other given) rows)) ≡ chosen (row_of_id name (after_item (option other given) rows)) later
          → row_of_id name (after_items items (after_item (option other given) rows)) ≡ chosen (row_of_id name rows) (option_map (option_row name) (cond (bytes_eq other name) (Some given) (value_of name items)))
      go true same made found =
          let is : other ≡ name = bytes_same other name same in
          let free : has_row name rows ≡ false = ap (λ (t : Text). has_row t rows) (sym is) ∙ not-true (has_row other rows) (and_parts (list_any (bytes_eq other) names) (not (has_row other rows)) made).1 in
          let row : row_of_id name (after_item (option other given) rows) ≡ Some (option_row name given) =
          subst (λ (t : Text). row_of_id t (after_item (option other given) rows) ≡ Some (option_row t given)) is (option_made other given rows made) in
          found ∙ ap (λ (o : Option Row). chosen o later) row
          ∙ sym (ap₂ (λ (o : Option Row) (t : Bool). chosen o (option_map (option_row name) (cond t (Some given) (value_of name items)))) (no_row name rows free) same)
      go false differs made found =
          found ∙ ap (λ (o : Option Row). chosen o later) (item_other name (option other given) rows made differs)
          ∙ sym (ap (λ (t : Bool). chosen (row_of_id name rows) (option_map (option_row name) (cond t (Some given) (value_of name items)))) differs)
  option_found name within (stray ∷ items) rows ok = absurd (true≢false (sym ok))

  -- the flag
  abbrev told_flag : List Item → Option Row
  told_flag items = cond (list_any (is_same flag) items) (Some flag_row) None

  pub flag_found : (items : List Item) (rows : List Row) → passes items rows ≡ true → row_of_id (codes "json") (after_items items rows) ≡ chosen (row_of_id (codes "json") rows) (told_flag items)
  flag_found [] rows ok = chosen_none (row_of_id (codes "json") rows)
  flag_found (operand word ∷ items) rows ok =
      flag_found items (after_item (operand word) rows) ok
      ∙ ap (λ (o : Option Row). chosen o (told_flag items)) (item_other (codes "json") (operand word) rows refl refl)
  flag_found (flag ∷ items) rows ok =
      let first = and_parts (item_passes names json flag rows) (passes items (after_item flag rows)) ok in
      let free = not-true (has_row (codes "json") rows) (and_parts json (not (has_row (codes "json") rows)) first.0).1 in
      flag_found items (after_item flag rows) first.1
      ∙ ap (λ (o : Option Row). chosen o (told_flag items)) (flag_made rows first.0)
      ∙ sym (ap (λ (o : Option Row). chosen o (Some flag_row)) (no_row (codes "json") rows free))
  flag_found (option name value ∷ items) rows ok =
      let first = and_parts (item_passes names json (option name value) rows) (passes items (after_item (option name value) rows)) ok in
      let within = (and_parts (list_any (bytes_eq name) names) (not (has_row name rows)) first.0).0 in
      flag_found items (after_item (option name value) rows) first.1
      ∙ ap (λ (o : Option Row). chosen o (told_flag items)) (item_other (codes "json") (option name value) rows first.0 (bytes_flip name (codes "json") ∙ not_json name within))
  flag_found (stray ∷ items) rows ok = absurd (true≢false (sym ok))

  -- the operands
  abbrev words_in : Option Row → List Text
  words_in found = unwrap_or (option_map (λ (r : Row). r.values) found) []

  operand_made : (word : Text) (rows : List Row) → words_in (row_of_id (codes "operands") (after_item (operand word) rows)) ≡ words_in (row_of_id (codes "operands") rows) ++ word ∷ []
  operand_made word rows = go (row_of_id (codes "operands") rows) refl
    where
      go : (had : Option Row) → row_of_id (codes "operands") rows ≡ had → words_in (row_of_id (codes "operands") (after_item (operand word) rows)) ≡ words_in (row_of_id (codes "operands") rows) ++ word ∷ []
      go None e =
          ap words_in (values_new (codes "operands") AsWritten CommandLine (word ∷ []) rows e)
          ∙ sym (ap (λ (o : Option Row). words_in o ++ word ∷ []) e)
      go (Some r) e =
          ap words_in (values_more (codes "operands") AsWritten CommandLine (word ∷ []) rows r e)
          ∙ sym (ap (λ (o : Option Row). words_in o ++ word ∷ []) e)

  pub operands_found : (items : List Item) (rows : List Row) → passes items rows ≡ true → words_in (row_of_id (codes "operands") (after_items items rows)) ≡ words_in (row_of_id (codes "operands") rows) ++ operands items
  operands_found [] rows ok = sym (append-nil (words_in (row_of_id (codes "operands") rows)))
  operands_found (operand word ∷ items) rows ok =
      operands_found items (after_item (operand word) rows) ok
      ∙ ap (λ (ws : List Text). ws ++ operands items) (operand_made word rows)
      ∙ append_assoc (words_in (row_of_id (codes "operands") rows)) (word ∷ []) (operands items)
  operands_found (flag ∷ items) rows ok =
      let first = and_parts (item_passes names json flag rows) (passes items (after_item flag rows)) ok in
      operands_found items (after_item flag rows) first.1
      ∙ ap (λ (o : Option Row). words_in o ++ operands items) (item_other (codes "operands") flag rows first.0 refl)
  operands_found (option name value ∷ items) rows ok =
      let first = and_parts (item_passes names json (option name value) rows) (passes items (after_item (option name value) rows)) ok in
      let within = (and_parts (list_any (bytes_eq name) names) (not (has_row name rows)) first.0).0 in
      operands_found items (after_item (option name value) rows) first.1
      ∙ ap (λ (o : Option Row). words_in o ++ operands items) (item_other (codes "operands") (option name value) rows first.0 (bytes_flip name (codes "operands") ∙ not_operands name within))
  operands_found (stray ∷ items) rows ok = absurd (true≢false (sym ok))
