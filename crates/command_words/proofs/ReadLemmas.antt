-- What a parse tells is what the words ask for.
use Rattle.std.proofs.Common.{◌≡◌, ◌∙◌, ◌&&◌, ◌||◌, ℕ, Bool, true, false, cond, not, List, [], ◌∷◌, ◌++◌, fold, is_some, map, option_map, unwrap_or, slice_get, string_bytes, Global, String, Option, Some, None, refl, sym, ap, ap₂, bytes_eq, codes}
use Rattle.std.specs.Prelude.{option_and_then}
use Rattle.std.specs.Borrow.{Bor}
use Rattle.std.specs.List.{after_first, before_first, list_all, list_any}
use Rattle.std.proofs.lemmas.Bool.{false_from_ne_true, or_right}
use Rattle.clap.specs.Faults.{check_fault, default_fault, defaults_fault, given_default_fault, settle_fault, walk_fault}
use Rattle.clap.specs.Kinds.{Kinds, check_kinds, or_else}
use Rattle.clap.specs.Matches.{first_value, matched_of, one_text, raw_values}
use Rattle.clap.specs.Simple.{matches_of}
use Rattle.clap.specs.Takes.{is_given}
use Rattle.clap.specs.Walk.{Row, Rule, Text, default_rows, finished, reading_by, has_row, idle, is_empty, nothing_held, row_text, rows_of, settled, walk, with_default}
use Rattle.clap.specs.Faults.{fault_of}
use Rattle.clap.specs.declared.builder.value_parser.Reading.TheVariants.{AsWritten}
use Rattle.clap.specs.declared.parser.matches.Found.{Found}
use Rattle.clap.specs.declared.parser.matches.ValueSource.TheVariants.{DefaultValue}
use Rattle.clap.proofs.WalkLemmas.{first_value-rows, one_text-rows, raw_values-rows}
use Rattle.command_words.specs.Commands.{command_from, command_of, command_with, count_of, enforcing, explaining, files_of, first_files, has_json, implying, kind_named, on_files, options_in, options_of, options_with, serving, showing, subject_of, takes, value_or}
use Rattle.command_words.specs.Helps.Matched.{app_for, command_told, operands_told, options_told}
use Rattle.command_words.specs.Items.{Item, flag, are_different, is_dashes, is_same, items, operands, texts, value_of}
use Rattle.command_words.specs.Values.{fits_of, number_between}
use Rattle.command_words.specs.declared.command.Command.{Command}
use Rattle.command_words.specs.declared.command.Command.TheVariants as asked
use Rattle.command_words.specs.declared.command.Options.{Options}
use Rattle.command_words.specs.declared.kind.Kind.{Kind}
use Rattle.command_words.specs.declared.kind.Kind.TheVariants.{Enforce, Explain, Session, Check, Format, Implicit, Report, Ship, Follow, Lint, Demo}
use Rattle.command_words.proofs.AppLemmas.{apart, fault_is, matches_are, ready_flag, ready_flags, ready_operands, ready_option, ready_rules, ready_shape}
use Rattle.command_words.proofs.CutLemmas.{front_met, met_command}
use Rattle.command_words.proofs.ItemLemmas.{flag_found, flag_row, operands_found, option_found, option_row, passes_is, taken}
use Rattle.command_words.proofs.MeetLemmas.{end_rows, held_at, left_fault, resting, words_meet}
use Rattle.command_words.proofs.MetItems.{after_items, is_none, items_pass, met_items, none}
use Rattle.command_words.proofs.RowLemmas.{has_row_is, new_row, row_of_id, values_new, values_other}
use Rattle.command_words.proofs.TextLemmas.{AreTexts}

-- ---- behind the last word

or_nil : (kinds : Kinds) → or_else kinds [] ≡ kinds
or_nil [] = refl
or_nil (k ∷ kinds) = refl

no_default : (rows : List Row) (a : Rule) → is_empty a.defaults ≡ true → default_fault rows a ≡ []
no_default rows a empty = ap (λ (t : Bool). cond t [] (given_default_fault a a.defaults)) (or_right (has_row a.id rows) (is_empty a.defaults) empty)

flag_default : (rows : List Row) → default_fault rows ready_flag ≡ []
flag_default rows = go (has_row (codes "json") rows || false)
  where
    go : (test : Bool) → cond test [] (given_default_fault ready_flag (codes "false" ∷ [])) ≡ []
    go true = refl
    go false = refl

options_default : (names : List Text) (json : Bool) (rows : List Row) → defaults_fault rows (map ready_option names ++ ready_flags json) ≡ []
unfolding defaults_fault
options_default [] true rows = ap (λ (f : Kinds). or_else f []) (flag_default rows)
options_default [] false rows = refl
options_default (name ∷ names) json rows =
    ap (λ (f : Kinds). or_else f (defaults_fault (with_default rows (ready_option name)) (map ready_option names ++ ready_flags json))) (no_default rows (ready_option name) refl)
    ∙ options_default names json (with_default rows (ready_option name))

defaults_pass : (names : List Text) (json : Bool) (rows : List Row) → defaults_fault rows (ready_rules names json) ≡ []
unfolding defaults_fault
defaults_pass names json rows =
    ap (λ (f : Kinds). or_else f (defaults_fault (with_default rows ready_operands) (map ready_option names ++ ready_flags json))) (no_default rows ready_operands refl)
    ∙ options_default names json (with_default rows ready_operands)

none_required : (names : List Text) (json : Bool) (rows : List Row) → list_any (λ (a : Rule). a.required && not (is_given a.id rows)) (map ready_option names ++ ready_flags json) ≡ false
none_required [] true rows = refl
none_required [] false rows = refl
none_required (name ∷ names) json rows = none_required names json rows

checks_pass : (names : List Text) (json : Bool) (rows : List Row) → check_fault (ready_shape names json) rows false ≡ []
checks_pass names json rows = ap (λ (t : Bool). check_kinds false false t) (none_required names json rows)

-- the rows that default values add
abbrev with_flag : Bool → List Row → List Row
with_flag true rows = with_default rows ready_flag
with_flag false rows = rows

no_value : (rows : List Row) (a : Rule) → a.defaults ≡ [] → with_default rows a ≡ rows
no_value rows a empty = go (has_row a.id rows)
  where
    go : (test : Bool) → cond test rows (default_rows a.id (reading_by a) a.defaults rows) ≡ rows
    go true = refl
    go false = ap (λ (values : List Text). default_rows a.id (reading_by a) values rows) empty

options_finish : (names : List Text) (json : Bool) (rows : List Row) → fold with_default rows (map ready_option names ++ ready_flags json) ≡ with_flag json rows
options_finish [] true rows = refl
options_finish [] false rows = refl
options_finish (name ∷ names) json rows = ap (λ (r : List Row). fold with_default r (map ready_option names ++ ready_flags json)) (no_value rows (ready_option name) refl) ∙ options_finish names json rows

rows_finish : (names : List Text) (json : Bool) (rows : List Row) → fold with_default rows (ready_rules names json) ≡ with_flag json rows
rows_finish names json rows = ap (λ (r : List Row). fold with_default r (map ready_option names ++ ready_flags json)) (no_value rows ready_operands refl) ∙ options_finish names json rows

flag_other : (json : Bool) (other : Text) (rows : List Row) → bytes_eq (codes "json") other ≡ false → row_of_id other (with_flag json rows) ≡ row_of_id other rows
flag_other false other rows differs = refl
flag_other true other rows differs = go (has_row (codes "json") rows)
  where
    go : (test : Bool) → row_of_id other (cond test rows (default_rows (codes "json") AsWritten (codes "false" ∷ []) rows)) ≡ row_of_id other rows
    go true = refl
    go false = values_other (codes "json") AsWritten DefaultValue (codes "false" ∷ []) other rows differs

-- ---- a parse of words, by the items that are met

module _ (kind : Kind) (words : List Text) (utf8 : AreTexts words) where
  abbrev names : List Text
  names = options_of kind

  abbrev met : List Item
  met = met_items words

  abbrev passes : Bool
  passes = items_pass names (has_json kind) met []

  meets : (none (left_fault names (has_json kind) (apart kind) (resting idle (held_at [] None)) words) ≡ passes) × (passes ≡ true → end_rows names (has_json kind) (apart kind) (resting idle (held_at [] None)) words ≡ after_items met [])
  meets = words_meet names (has_json kind) (apart kind) words utf8

  fault_none : none (fault_of (app_for kind) words) ≡ passes
  fault_none =
      let held = (walk (ready_rules names (has_json kind)) [] nothing_held words).held in
      let walks = walk_fault (ready_shape names (has_json kind)) [] (resting idle (held_at [] None)) words in
      let settles = settle_fault (ready_rules names (has_json kind)) false held in
      ap none (fault_is kind words)
      ∙ ap₂ (λ (d k : Kinds). none (or_else walks (or_else settles (or_else d k)))) (defaults_pass names (has_json kind) (settled (ready_rules names (has_json kind)) held).rows) (checks_pass names (has_json kind) (finished (ready_rules names (has_json kind)) held))
      ∙ ap (λ (k : Kinds). none (or_else walks k)) (or_nil settles)
      ∙ meets.0

  passes_test : passes ≡ (list_all (taken names (has_json kind)) met && are_different met)
  passes_test = passes_is names (has_json kind) (apart kind) met

  -- words that are refused ask for nothing
  pub refused_words : (fault_of (app_for kind) words ≡ [] → ⊥) → command_from kind (items (before_first is_dashes words)) (after_first is_dashes words) ≡ None
  refused_words bad =
      let given : List Item = items (before_first is_dashes words) in
      let others : List Text = after_first is_dashes words in
      let fails : (list_all (takes kind) given && are_different given) ≡ false =
      false_from_ne_true (list_all (takes kind) given && are_different given) (λ ok. bad (is_none (fault_of (app_for kind) words) (fault_none ∙ passes_test ∙ front_met kind words ok))) in
      ap (λ (t : Bool). cond t (command_with kind given (operands given ++ others)) None) fails

  -- words that are not refused
  module _ (f : Found) (whole : fault_of (app_for kind) words ≡ []) (rows_are : rows_of f ≡ matches_of (app_for kind) words) where
    ok : passes ≡ true
    ok = sym fault_none ∙ ap none whole

    told_rows : rows_of f ≡ with_flag (has_json kind) (after_items met [])
    told_rows = rows_are ∙ matches_are kind words ∙ ap (λ (r : List Row). fold with_default r (ready_rules names (has_json kind))) (meets.1 ok) ∙ rows_finish names (has_json kind) (after_items met [])

    -- the values of options
    value_told : (name : Text) → list_any (bytes_eq name) names ≡ true → bytes_eq (codes "json") name ≡ false → first_value f name ≡ value_of name met
    value_told name within differs =
        first_value-rows f name
        ∙ ap (λ (r : List Row). option_and_then (λ (x : Row). slice_get x.values 0) (row_of_id name r)) told_rows
        ∙ ap (λ (o : Option Row). option_and_then (λ (x : Row). slice_get x.values 0) o) (flag_other (has_json kind) name (after_items met []) differs ∙ option_found names (has_json kind) (apart kind) name within met [] ok)
        ∙ go (value_of name met)
      where
        go : (value : Option Text) → option_and_then (λ (x : Row). slice_get x.values 0) (option_map (option_row name) value) ≡ value
        go None = refl
        go (Some text) = refl

    -- the operands
    operands_are : operands_told f ≡ operands met
    operands_are =
        ap (λ (o : Option (List Text)). unwrap_or o []) (raw_values-rows f (codes "operands"))
        ∙ ap (λ (r : List Row). unwrap_or (option_map (λ (x : Row). x.values) (row_of_id (codes "operands") r)) []) told_rows
        ∙ ap (λ (o : Option Row). unwrap_or (option_map (λ (x : Row). x.values) o) []) (flag_other (has_json kind) (codes "operands") (after_items met []) refl)
        ∙ operands_found names (has_json kind) (apart kind) met [] ok

    -- the flag
    flag_text : one_text f (codes "json") ≡ option_and_then row_text (row_of_id (codes "json") (with_flag (has_json kind) (after_items met [])))
    flag_text = one_text-rows f (codes "json") ∙ ap (λ (r : List Row). option_and_then row_text (row_of_id (codes "json") r)) told_rows

    flag_stands : row_of_id (codes "json") (after_items met []) ≡ cond (list_any (is_same flag) met) (Some flag_row) None
    flag_stands = flag_found names (has_json kind) (apart kind) met [] ok

    flag_is : (json : Bool) → (one_text f (codes "json") ≡ None → json ≡ false) → (one_text f (codes "json") ≡ Some (codes "true") → json ≡ true) → (one_text f (codes "json") ≡ Some (codes "false") → json ≡ false) → json ≡ list_any (is_same flag) met
    flag_is json none_told true_told false_told = go (list_any (is_same flag) met) refl
      where
        -- the flag stands there
        stands : (has : Bool) → row_of_id (codes "json") (after_items met []) ≡ Some flag_row → row_of_id (codes "json") (with_flag has (after_items met [])) ≡ Some flag_row
        stands false row = row
        stands true row = ap (λ (t : Bool). row_of_id (codes "json") (cond t (after_items met []) (default_rows (codes "json") AsWritten (codes "false" ∷ []) (after_items met [])))) (has_row_is (codes "json") (after_items met []) ∙ ap (λ (o : Option Row). is_some o) row) ∙ row

        -- it does not
        lacks : (has : Bool) → row_of_id (codes "json") (after_items met []) ≡ None → row_of_id (codes "json") (with_flag has (after_items met [])) ≡ cond has (Some (new_row (codes "json") AsWritten DefaultValue (codes "false" ∷ []))) None
        lacks false row = row
        lacks true row =
            ap (λ (t : Bool). row_of_id (codes "json") (cond t (after_items met []) (default_rows (codes "json") AsWritten (codes "false" ∷ []) (after_items met [])))) (has_row_is (codes "json") (after_items met []) ∙ ap (λ (o : Option Row). is_some o) row)
            ∙ values_new (codes "json") AsWritten DefaultValue (codes "false" ∷ []) (after_items met []) row

        untold : (has : Bool) → one_text f (codes "json") ≡ option_and_then row_text (cond has (Some (new_row (codes "json") AsWritten DefaultValue (codes "false" ∷ []))) None) → json ≡ false
        untold true text = false_told text
        untold false text = none_told text

        go : (test : Bool) → list_any (is_same flag) met ≡ test → json ≡ list_any (is_same flag) met
        go true is =
            true_told (flag_text ∙ ap (λ (o : Option Row). option_and_then row_text o) (stands (has_json kind) (flag_stands ∙ ap (λ (t : Bool). cond t (Some flag_row) None) is))) ∙ sym is
        go false is =
            untold (has_json kind) (flag_text ∙ ap (λ (o : Option Row). option_and_then row_text o) (lacks (has_json kind) (flag_stands ∙ ap (λ (t : Bool). cond t (Some flag_row) None) is))) ∙ sym is

-- the values of options, by their names
abbrev Told : Kind → Found → List Item → Type 0
Told kind f met = (name : Text) → list_any (bytes_eq name) (options_of kind) ≡ true → bytes_eq (codes "json") name ≡ false → first_value f name ≡ value_of name met

told_options : (f : Found) (met : List Item) → first_value f (codes "limit") ≡ value_of (codes "limit") met → first_value f (codes "match") ≡ value_of (codes "match") met → first_value f (codes "domain-match") ≡ value_of (codes "domain-match") met → options_told f ≡ options_in met
told_options f met limit names domains = λ i. options_with (value_or 10 (number_between 3 1 250) (limit i)) (value_or [] fits_of (names i)) (value_or [] fits_of (domains i))

told_command : (kind : Kind) (f : Found) (met : List Item) (json : Bool) → Told kind f met → operands_told f ≡ operands met → json ≡ list_any (is_same flag) met → command_told kind json f ≡ command_with kind met (operands met)
told_command Enforce f met json value words flags =
    let options = told_options f met (value (codes "limit") refl refl) (value (codes "match") refl refl) (value (codes "domain-match") refl refl) in
    let cache = value (codes "cache") refl refl in
    λ i. enforcing (flags i) (files_of (words i)) (options i) (value_or None (λ text. option_map (λ count. Some count) (number_between 5 1 10000 text)) (cache i))
told_command Explain f met json value words flags =
    let options = told_options f met (value (codes "limit") refl refl) (value (codes "match") refl refl) (value (codes "domain-match") refl refl) in
    let most = value (codes "most") refl refl in
    λ i. explaining (flags i) (files_of (words i)) (options i) (value_or 10 (number_between 4 1 1000) (most i))
told_command Session f met json value words flags =
    let options = told_options f met (value (codes "limit") refl refl) (value (codes "match") refl refl) (value (codes "domain-match") refl refl) in
    let workers = value (codes "workers") refl refl in
    λ i. serving (flags i) (files_of (words i)) (options i) (value_or 0 (number_between 3 0 8) (workers i))
told_command Check f met json value words flags = ap (λ (l : List Text). option_map asked.Check (files_of l)) words
told_command Format f met json value words flags = ap (λ (l : List Text). option_map asked.Format (files_of l)) words
told_command Implicit f met json value words flags =
    ap₂ (λ (l : List Text) (o : Option Options). implying (first_files l) (subject_of l) o) words (told_options f met (value (codes "limit") refl refl) (value (codes "match") refl refl) (value (codes "domain-match") refl refl))
told_command Report f met json value words flags =
    ap₂ (λ (l : List Text) (o : Option Options). on_files asked.Report (files_of l) o) words (told_options f met (value (codes "limit") refl refl) (value (codes "match") refl refl) (value (codes "domain-match") refl refl))
told_command Ship f met json value words flags =
    ap₂ (λ (l : List Text) (o : Option Options). on_files asked.Ship (files_of l) o) words (told_options f met (value (codes "limit") refl refl) (value (codes "match") refl refl) (value (codes "domain-match") refl refl))
told_command Follow f met json value words flags =
    ap₂ (λ (l : List Text) (o : Option Options). on_files asked.Follow (files_of l) o) words (told_options f met (value (codes "limit") refl refl) (value (codes "match") refl refl) (value (codes "domain-match") refl refl))
told_command Lint f met json value words flags =
    ap₂ (λ (l : List Text) (o : Option Options). on_files asked.Lint (files_of l) o) words (told_options f met (value (codes "limit") refl refl) (value (codes "match") refl refl) (value (codes "domain-match") refl refl))
told_command Demo f met json value words flags =
    ap₂ (λ (l : List Text) (o : Option Text). showing (count_of l) (value_or 0 (number_between 3 0 8) o)) words (value (codes "workers") refl refl)

-- what the matches tell is what the words ask for
pub parsed_words : (kind : Kind) (words : List Text) (f : Found) (json : Bool) → AreTexts words → fault_of (app_for kind) words ≡ [] → rows_of f ≡ matches_of (app_for kind) words
    → (one_text f (codes "json") ≡ None → json ≡ false) → (one_text f (codes "json") ≡ Some (codes "true") → json ≡ true) → (one_text f (codes "json") ≡ Some (codes "false") → json ≡ false)
    → command_told kind json f ≡ command_from kind (items (before_first is_dashes words)) (after_first is_dashes words)
parsed_words kind words f json utf8 whole rows_are none_told true_told false_told =
    told_command kind f (met_items words) json (value_told kind words utf8 f whole rows_are) (operands_are kind words utf8 f whole rows_are) (flag_is kind words utf8 f whole rows_are json none_told true_told false_told)
    ∙ met_command kind words (sym (passes_test kind words utf8) ∙ ok kind words utf8 f whole rows_are)

-- ---- the first word

module _ (words : List (String Global)) (first : String Global) (others : List (String Global)) (is : words ≡ first ∷ others) where
  abbrev by_kind : Option Kind → Option Command
  by_kind found = option_and_then (λ (kind : Kind). command_from kind (items (before_first is_dashes (texts others))) (after_first is_dashes (texts others))) found

  pub command_named : (kind : Kind) → kind_named (string_bytes first) ≡ Some kind → command_of (texts words) ≡ command_from kind (items (before_first is_dashes (texts others))) (after_first is_dashes (texts others))
  command_named kind named = ap (λ (ws : List (String Global)). command_of (texts ws)) is ∙ ap by_kind named

  pub no_command_named : kind_named (string_bytes first) ≡ None → command_of (texts words) ≡ None
  no_command_named none_named = ap (λ (ws : List (String Global)). command_of (texts ws)) is ∙ ap by_kind none_named

-- ---- the operands of the matches

module _ (f : Found) (lent : Option (Bor (List (Bor Text)))) (told : option_map (λ (words : Bor (List (Bor Text))). map (λ (word : Bor Text). word.now) words.now) lent ≡ option_map raw_values (matched_of f (codes "operands"))) (at : ℕ) where
  pub no_operand : lent ≡ None → None ≡ slice_get (operands_told f) at
  no_operand is =
      ap (λ (o : Option (List Text)). slice_get (unwrap_or o []) at)
      (sym (ap (λ (l : Option (Bor (List (Bor Text)))). option_map (λ (words : Bor (List (Bor Text))). map (λ (word : Bor Text). word.now) words.now) l) is) ∙ told)

  pub some_operand : (words : Bor (List (Bor Text))) → lent ≡ Some words → slice_get (map (λ (word : Bor Text). word.now) words.now) at ≡ slice_get (operands_told f) at
  some_operand words is =
      ap (λ (o : Option (List Text)). slice_get (unwrap_or o []) at)
      (sym (ap (λ (l : Option (Bor (List (Bor Text)))). option_map (λ (ws : Bor (List (Bor Text))). map (λ (word : Bor Text). word.now) ws.now) l) is) ∙ told)
