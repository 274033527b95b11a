-- A walk of `clap` over the words meets the items, and finds no fault exactly where each of them passes.
use Rattle.std.proofs.Common.{◌≡◌, ◌∙◌, ◌&&◌, ℕ, suc, Bool, true, false, cond, not, List, [], ◌∷◌, length, drop, map, fold, is_some, encode_utf8, Option, Some, None, refl, sym, ap, ap₂, subst, true≢false, bytes_eq, codes, IsUtf8, nat_lt}
use Rattle.std.specs.Option.{option_map_or}
use Rattle.std.specs.List.{after_first, before_first, list_any}
use Rattle.std.proofs.lemmas.Bool.{and_parts}
use Rattle.clap.specs.Faults.{bundle_fault, bundle_step_fault, flag_word_fault, flags_fault, long_fault, option_fault, other_fault, settle_fault, short_fault, step_fault, turn_fault, use_fault, walk_fault, word_fault}
use Rattle.clap.specs.Kinds.{Kinds, or_else}
use Rattle.clap.specs.Lexer.{long_of, name_and_value}
use Rattle.clap.specs.Walk.{Held, Row, Rule, Step, Text, Waiting, Walk, idle, positional, next, trailing, value, after_flag, after_step, arg_by_long, has_row, is_pending, long_met, long_or_other, option_word, plain_word, pushed, settled, short_or_plain, subcommand_met, subcommand_or_other, takes_values, used_by_id, walked, word_met}
use Rattle.clap.specs.Walk as walk
use Rattle.clap.specs.Simple.{Shape}
use Rattle.clap.specs.declared.error.kind.ErrorKind.TheVariants as kind
use Rattle.command_words.specs.Items.{Item, operand, flag, option, stray, is_dashes, is_equals, is_name, is_operand, item_of}
use Rattle.command_words.proofs.AppLemmas.{Apart, found_flag, found_id, found_letter, found_option, found_other, ready_flag, ready_operands, ready_option, ready_rules, ready_shape}
use Rattle.command_words.proofs.FormLemmas.{AssignedWord, FlagWord, Form, NameWord, PlainWord, ShortWord, assigned_word, dashes_form, flag_word, form, long_form, name_word, plain_form, short_form}
use Rattle.command_words.proofs.MetItems.{after_item, after_items, item_passes, items_pass, met_behind, met_items, met_valued, none, none_first, none_or, step_splits}
use Rattle.command_words.proofs.TextLemmas.{AreTexts, and_false, and_true, bytes_self, clash, first_char}

-- what is held between two words
abbrev pub held_at : List Row → Option (Text × List Text) → Held
held_at rows pending = record { rows = rows; pending = pending; skip = 0 }

-- between two words before `--`, and behind it
abbrev pub resting : Waiting → Held → Walk
resting waiting held = record { held = held; waiting = waiting; position = 1; is_trailing = false; stopped = None }

abbrev pub behind : Waiting → Held → Walk
behind waiting held = record { held = held; waiting = waiting; position = 1; is_trailing = true; stopped = None }

none_met : (waiting : Waiting) (word : Text) → subcommand_met [] waiting word ≡ None
none_met idle word = refl
none_met _ word = refl

four : (s t u p : Bool) → ((s && t) && (u && p)) ≡ (s && ((t && u) && p))
four true true u p = refl
four true false u p = refl
four false t u p = refl

module _ (names : List Text) (json : Bool) (apart : Apart names) where
  abbrev rules : List Rule
  rules = ready_rules names json

  abbrev shape : Shape
  shape = ready_shape names json

  abbrev passes : List Item → List Row → Bool
  passes items rows = items_pass names json items rows

  -- the fault of what is pending, and the rows with it
  abbrev pub owed : Held → Kinds
  owed held = settle_fault rules false held

  abbrev pub paid : Held → List Row
  paid held = (settled rules held).rows

  abbrev pub left_fault : Walk → List Text → Kinds
  left_fault w words = or_else (walk_fault shape [] w words) (owed (fold (walked rules []) w words).held)

  abbrev pub end_rows : Walk → List Text → List Row
  end_rows w words = paid (fold (walked rules []) w words).held

  -- what a walk comes to that meets these items with these rows; `owes_none` says that what was pending before has no fault
  abbrev pub Meets : Walk → List Text → Bool → List Row → List Item → Type 0
  Meets w words owes_none rows items = (none (left_fault w words) ≡ (owes_none && passes items rows)) × (passes items rows ≡ true → end_rows w words ≡ after_items items rows)

  -- ---- one more word

  left_step : (w : Walk) (word : Text) (words : List Text) → none (left_fault w (word ∷ words)) ≡ (none (turn_fault shape [] w word) && none (left_fault (walked rules [] w word) words))
  unfolding walk_fault
  left_step w word words = step_splits (turn_fault shape [] w word) (walk_fault shape [] (walked rules [] w word) words) (owed (fold (walked rules []) (walked rules [] w word) words).held)

  left_end : (w : Walk) → none (left_fault w []) ≡ none (owed w.held)
  unfolding walk_fault
  left_end w = refl

  ended : (w : Walk) → Meets w [] (none (owed w.held)) (paid w.held) []
  ended w = (left_end w ∙ sym (and_true (none (owed w.held))), λ ok. refl)

  refused_at : (w : Walk) (word : Text) (words : List Text) (owes_none : Bool) (rows : List Row) (items : List Item) → none (turn_fault shape [] w word) ≡ false → passes items rows ≡ false → Meets w (word ∷ words) owes_none rows items
  refused_at w word words owes_none rows items bad fails = (
    left_step w word words ∙ ap (λ (t : Bool). t && none (left_fault (walked rules [] w word) words)) bad ∙ sym (ap (λ (t : Bool). owes_none && t) fails ∙ and_false owes_none),
    λ ok. clash (passes items rows) ok fails,
  )

  -- the word ends an item, of which `before` and `later` are the tests
  taken_at : (w after : Walk) (word : Text) (words : List Text) (owes_none before later : Bool) (item : Item) (rows : List Row) (items : List Item) → none (turn_fault shape [] w word) ≡ (owes_none && before) → walked rules [] w word ≡ after
      → item_passes names json item rows ≡ (before && later) → Meets after words later (after_item item rows) items → Meets w (word ∷ words) owes_none rows (item ∷ items)
  taken_at w after word words owes_none before later item rows items turn moves test rest = (
    left_step w word words ∙ ap₂ (λ (a b : Bool). a && b) turn (ap (λ (v : Walk). none (left_fault v words)) moves ∙ rest.0)
        ∙ four owes_none before later (passes items (after_item item rows))
        ∙ sym (ap (λ (t : Bool). owes_none && (t && passes items (after_item item rows))) test),
    λ ok. ap (λ (v : Walk). end_rows v words) moves ∙ rest.1 (and_parts (item_passes names json item rows) (passes items (after_item item rows)) ok).1,
  )

  -- the word begins an option
  begun_at : (w after : Walk) (word : Text) (words : List Text) (owes_none : Bool) (rows : List Row) (items : List Item) → none (turn_fault shape [] w word) ≡ owes_none → walked rules [] w word ≡ after → Meets after words true rows items
      → Meets w (word ∷ words) owes_none rows items
  begun_at w after word words owes_none rows items turn moves rest = (
    left_step w word words ∙ ap₂ (λ (a b : Bool). a && b) turn (ap (λ (v : Walk). none (left_fault v words)) moves ∙ rest.0),
    λ ok. ap (λ (v : Walk). end_rows v words) moves ∙ rest.1 ok,
  )

  -- the word has no fault and is no item
  passed_at : (w after : Walk) (word : Text) (words : List Text) (owes_none : Bool) (rows : List Row) (items : List Item) → none (turn_fault shape [] w word) ≡ true → walked rules [] w word ≡ after → Meets after words owes_none rows items
      → Meets w (word ∷ words) owes_none rows items
  passed_at w after word words owes_none rows items turn moves rest = (
    left_step w word words ∙ ap₂ (λ (a b : Bool). a && b) turn (ap (λ (v : Walk). none (left_fault v words)) moves ∙ rest.0),
    λ ok. ap (λ (v : Walk). end_rows v words) moves ∙ rest.1 ok,
  )

  as_items : (w : Walk) (words : List Text) (owes_none : Bool) (rows : List Row) (items same : List Item) → items ≡ same → Meets w words owes_none rows same → Meets w words owes_none rows items
  as_items w words owes_none rows items same is meets = subst (λ (l : List Item). Meets w words owes_none rows l) (sym is) meets

  as_owed : (w : Walk) (words : List Text) (a b : Bool) (rows same : List Row) (items : List Item) → a ≡ b → rows ≡ same → Meets w words a rows items → Meets w words b same items
  as_owed w words a b rows same items is are meets = subst (λ (t : Bool). Meets w words t same items) is (subst (λ (r : List Row). Meets w words a r items) are meets)

  -- ---- uses of arguments

  use_option : (name text : Text) (rows : List Row) → none (use_fault false (ready_option name) (text ∷ []) rows) ≡ not (has_row name rows)
  use_option name text rows = go (has_row name rows)
    where
      go : (test : Bool) → none (or_else (cond (test && true) (kind.ArgumentConflict ∷ []) []) []) ≡ not test
      go true = refl
      go false = refl

  use_flag : (rows : List Row) → none (use_fault false ready_flag [] rows) ≡ not (has_row (codes "json") rows)
  use_flag rows = go (has_row (codes "json") rows)
    where
      go : (test : Bool) → none (or_else (cond (test && true) (kind.ArgumentConflict ∷ []) []) []) ≡ not test
      go true = refl
      go false = refl

  module _ (name : Text) (rows : List Row) (within : list_any (bytes_eq name) names ≡ true) where
    -- an option with its value, and without it
    owed_option : (text : Text) → none (owed (held_at rows (Some (name, text ∷ [])))) ≡ not (has_row name rows)
    owed_option text =
        ap (λ (found : Option Rule). none (option_map_or (λ (a : Rule). use_fault false a (text ∷ []) rows) found [])) (found_id names json apart name within)
        ∙ use_option name text rows

    paid_option : (text : Text) → paid (held_at rows (Some (name, text ∷ []))) ≡ after_item (option name text) rows
    paid_option text = ap (λ (found : Option Rule). used_by_id found (text ∷ []) rows) (found_id names json apart name within)

    owed_name : none (owed (held_at rows (Some (name, [])))) ≡ false
    owed_name = ap (λ (found : Option Rule). none (option_map_or (λ (a : Rule). use_fault false a [] rows) found [])) (found_id names json apart name within)

  -- ---- words that go to the operands

  to_operands : (held : Held) → none (step_fault shape 1 held value) ≡ (none (owed held) && true)
  to_operands held = ap (λ (t : Bool). none (cond t [] (owed held))) (and_false (is_pending ready_operands held.pending)) ∙ sym (and_true (none (owed held)))

  held_operand : (word : Text) (rows : List Row) (pending : Option (Text × List Text)) (wrap : Held → Walk)
      → wrap (pushed (codes "operands") word (cond (is_pending ready_operands pending && false) (held_at rows pending) (settled rules (held_at rows pending)))) ≡ wrap (held_at (paid (held_at rows pending)) (Some (codes "operands", word ∷ [])))
  held_operand word rows pending wrap = ap (λ (t : Bool). wrap (pushed (codes "operands") word (cond t (held_at rows pending) (settled rules (held_at rows pending))))) (and_false (is_pending ready_operands pending))

  -- behind `--`
  behind_moves : (word : Text) (waiting : Waiting) (rows : List Row) (pending : Option (Text × List Text))
      → walked rules [] (behind waiting (held_at rows pending)) word ≡ behind positional (held_at (paid (held_at rows pending)) (Some (codes "operands", word ∷ [])))
  unfolding walked
  behind_moves word waiting rows pending = held_operand word rows pending (behind positional)

  all_behind : (words : List Text) (waiting : Waiting) (rows : List Row) (pending : Option (Text × List Text)) → Meets (behind waiting (held_at rows pending)) words (none (owed (held_at rows pending))) (paid (held_at rows pending)) (map operand words)
  all_behind [] waiting rows pending = ended (behind waiting (held_at rows pending))
  all_behind (word ∷ words) waiting rows pending =
      taken_at (behind waiting (held_at rows pending)) (behind positional (held_at (paid (held_at rows pending)) (Some (codes "operands", word ∷ [])))) word words
      (none (owed (held_at rows pending))) true true (operand word) (paid (held_at rows pending)) (map operand words)
      (to_operands (held_at rows pending)) (behind_moves word waiting rows pending) refl (all_behind words positional (paid (held_at rows pending)) (Some (codes "operands", word ∷ [])))

  -- ---- a word by its form

  -- a word that is no flag goes where it is waited for
  module _ (word : Text) (p : PlainWord word) where
    met_plain : (waiting : Waiting) (held : Held) → word_met rules [] false waiting 1 word held ≡ plain_word rules waiting word held
    met_plain waiting held =
        ap (λ (o : Option Text). subcommand_or_other rules o waiting 1 word held) (none_met waiting word)
        ∙ ap (λ (t : Bool). cond t (held, trailing 1) (long_or_other rules waiting word (long_of word) held)) p.dashes
        ∙ ap (λ (o : Option (Text × Option Text)). long_or_other rules waiting word o held) p.long
        ∙ ap (λ (o : Option Text). short_or_plain rules waiting word o held) p.short

    fault_plain : (waiting : Waiting) (held : Held) → word_fault shape [] false waiting word held ≡ []
    fault_plain waiting held =
        ap (λ (o : Option Text). other_fault shape o word held) (none_met waiting word)
        ∙ ap (λ (t : Bool). cond t [] (flag_word_fault rules false (long_of word) word held)) p.dashes
        ∙ ap (λ (o : Option (Text × Option Text)). flag_word_fault rules false o word held) p.long
        ∙ ap (λ (o : Option Text). option_map_or (λ flags. bundle_fault rules false flags held) o []) p.short

    turn_plain : (waiting : Waiting) (held after : Held) (step : Step) → plain_word rules waiting word held ≡ (after, step) → turn_fault shape [] (resting waiting held) word ≡ step_fault shape 1 after step
    turn_plain waiting held after step is = ap₂ (λ (f : Kinds) (m : Held × Step). or_else f (step_fault shape 1 m.0 m.1)) (fault_plain waiting held) (met_plain waiting held ∙ is)

    moves_plain : (waiting : Waiting) (held after : Held) (step : Step) → plain_word rules waiting word held ≡ (after, step) → walked rules [] (resting waiting held) word ≡ after_step rules word (resting waiting held) after step
    unfolding walked
    moves_plain waiting held after step is = ap (λ (m : Held × Step). after_step rules word (resting waiting held) m.0 m.1) (met_plain waiting held ∙ is)

  -- no argument has a letter
  bundle_refused : (byte : ℕ) (bytes : Text) (held : Held) → IsUtf8 (byte ∷ bytes) → none (flags_fault rules false (suc (length bytes)) (byte ∷ bytes) 0 held) ≡ false
  unfolding flags_fault
  bundle_refused byte bytes held utf8 =
      let char = first_char byte bytes utf8 in
      ap (λ (o : Option ℕ). none (bundle_step_fault rules false o (byte ∷ bytes) 0 held (flags_fault rules false (length bytes)))) char.1
      ∙ ap (λ (found : Option Rule). none (short_fault rules false found (drop (length (encode_utf8 char.0)) (byte ∷ bytes)) held (flags_fault rules false (length bytes) (drop (length (encode_utf8 char.0)) (byte ∷ bytes)) 0))) (found_letter names json apart char.0)

  short_refused : (word : Text) (q : ShortWord word) (waiting : Waiting) (rows : List Row) (pending : Option (Text × List Text)) → none (turn_fault shape [] (resting waiting (held_at rows pending)) word) ≡ false
  short_refused word q waiting rows pending =
      let held = held_at rows pending in
      let bad : none (word_fault shape [] false waiting word held) ≡ false =
      ap (λ (o : Option Text). none (other_fault shape o word held)) (none_met waiting word)
      ∙ ap (λ (t : Bool). none (cond t [] (flag_word_fault rules false (long_of word) word held))) q.dashes
      ∙ ap (λ (o : Option (Text × Option Text)). none (flag_word_fault rules false o word held)) q.long
      ∙ ap (λ (o : Option Text). none (option_map_or (λ flags. bundle_fault rules false flags held) o [])) q.short
      ∙ bundle_refused q.byte q.bytes held q.utf8 in
      none_first (word_fault shape [] false waiting word held) (step_fault shape 1 (word_met rules [] false waiting 1 word held).0 (word_met rules [] false waiting 1 word held).1) bad

  -- `--`
  dashes_turn : (waiting : Waiting) (held : Held) → none (turn_fault shape [] (resting waiting held) (45 ∷ 45 ∷ [])) ≡ true
  dashes_turn waiting held =
      ap₂ (λ (f : Kinds) (m : Held × Step). none (or_else f (step_fault shape 1 m.0 m.1)))
      (ap (λ (o : Option Text). other_fault shape o (45 ∷ 45 ∷ []) held) (none_met waiting (45 ∷ 45 ∷ [])))
      (ap (λ (o : Option Text). subcommand_or_other rules o waiting 1 (45 ∷ 45 ∷ []) held) (none_met waiting (45 ∷ 45 ∷ [])))

  dashes_move : (waiting : Waiting) (held : Held) → walked rules [] (resting waiting held) (45 ∷ 45 ∷ []) ≡ behind waiting held
  unfolding walked
  dashes_move waiting held =
      ap (λ (m : Held × Step). after_step rules (45 ∷ 45 ∷ []) (resting waiting held) m.0 m.1) (ap (λ (o : Option Text). subcommand_or_other rules o waiting 1 (45 ∷ 45 ∷ []) held) (none_met waiting (45 ∷ 45 ∷ [])))

  -- `--` and a text, by what its name finds
  module _ (byte : ℕ) (bytes : Text) where
    abbrev text : Text
    text = byte ∷ bytes

    abbrev word : Text
    word = 45 ∷ 45 ∷ text

    fault_long : (waiting : Waiting) (held : Held) → word_fault shape [] false waiting word held ≡ long_fault rules false (arg_by_long rules (name_and_value text).0) (name_and_value text).1 held
    fault_long waiting held = ap (λ (o : Option Text). other_fault shape o word held) (none_met waiting word)

    met_long : (waiting : Waiting) (held : Held) → word_met rules [] false waiting 1 word held
        ≡ after_flag rules waiting word (long_met rules (arg_by_long rules (name_and_value text).0) (name_and_value text).1 held).0 (long_met rules (arg_by_long rules (name_and_value text).0) (name_and_value text).1 held).1
    met_long waiting held = ap (λ (o : Option Text). subcommand_or_other rules o waiting 1 word held) (none_met waiting word)

    module _ (name : Text) (told : Option Text) (found : Option Rule) (parts : name_and_value text ≡ (name, told)) (finds : arg_by_long rules name ≡ found) where
      fault_found : (waiting : Waiting) (held : Held) → word_fault shape [] false waiting word held ≡ long_fault rules false found told held
      fault_found waiting held =
          fault_long waiting held
          ∙ ap (λ (q : Text × Option Text). long_fault rules false (arg_by_long rules q.0) q.1 held) parts
          ∙ ap (λ (f : Option Rule). long_fault rules false f told held) finds

      met_found : (waiting : Waiting) (held : Held) → word_met rules [] false waiting 1 word held ≡ after_flag rules waiting word (long_met rules found told held).0 (long_met rules found told held).1
      met_found waiting held =
          met_long waiting held
          ∙ ap (λ (q : Text × Option Text). after_flag rules waiting word (long_met rules (arg_by_long rules q.0) q.1 held).0 (long_met rules (arg_by_long rules q.0) q.1 held).1) parts
          ∙ ap (λ (f : Option Rule). after_flag rules waiting word (long_met rules f told held).0 (long_met rules f told held).1) finds

      turn_found : (waiting : Waiting) (held after : Held) (step : Step) → after_flag rules waiting word (long_met rules found told held).0 (long_met rules found told held).1 ≡ (after, step)
          → turn_fault shape [] (resting waiting held) word ≡ or_else (long_fault rules false found told held) (step_fault shape 1 after step)
      turn_found waiting held after step is = ap₂ (λ (f : Kinds) (m : Held × Step). or_else f (step_fault shape 1 m.0 m.1)) (fault_found waiting held) (met_found waiting held ∙ is)

      moves_found : (waiting : Waiting) (held after : Held) (step : Step) → after_flag rules waiting word (long_met rules found told held).0 (long_met rules found told held).1 ≡ (after, step)
          → walked rules [] (resting waiting held) word ≡ after_step rules word (resting waiting held) after step
      unfolding walked
      moves_found waiting held after step is = ap (λ (m : Held × Step). after_step rules word (resting waiting held) m.0 m.1) (met_found waiting held ∙ is)

      refused_found : (waiting : Waiting) (held : Held) → none (long_fault rules false found told held) ≡ false → none (turn_fault shape [] (resting waiting held) word) ≡ false
      refused_found waiting held bad =
          none_first (word_fault shape [] false waiting word held) (step_fault shape 1 (word_met rules [] false waiting 1 word held).0 (word_met rules [] false waiting 1 word held).1)
          (ap none (fault_found waiting held) ∙ bad)

  -- ---- what is left of the words

  abbrev Rests : Waiting → Type 0
  Rests waiting = (word : Text) (held : Held) → plain_word rules waiting word held ≡ (held, value)

  abbrev MeetsResting : List Text → Type 0
  MeetsResting words = (waiting : Waiting) (rows : List Row) (pending : Option (Text × List Text)) → Rests waiting
      → Meets (resting waiting (held_at rows pending)) words (none (owed (held_at rows pending))) (paid (held_at rows pending)) (met_items words)

  abbrev MeetsNamed : List Text → Type 0
  MeetsNamed words = (name : Text) (rows : List Row) → list_any (bytes_eq name) names ≡ true → Meets (resting (walk.option name) (held_at rows (Some (name, [])))) words true rows (met_behind name words)

  -- ---- between two words

  plain_rested : (word : Text) (words : List Text) → PlainWord word → MeetsResting words → MeetsResting (word ∷ words)
  plain_rested word words p rest waiting rows pending rests =
      let held = held_at rows pending in
      let items : met_items (word ∷ words) ≡ operand word ∷ met_items words =
      ap (λ (t : Bool). cond t (map operand words) (cond (is_name word) (met_behind (drop 2 word) words) (item_of word ∷ met_items words))) p.dashes
      ∙ ap (λ (t : Bool). cond t (met_behind (drop 2 word) words) (item_of word ∷ met_items words)) p.unnamed
      ∙ ap (λ (i : Item). i ∷ met_items words) p.item in
      as_items (resting waiting held) (word ∷ words) (none (owed held)) (paid held) (met_items (word ∷ words)) (operand word ∷ met_items words) items
      (taken_at (resting waiting held) (resting positional (held_at (paid held) (Some (codes "operands", word ∷ [])))) word words (none (owed held)) true true (operand word) (paid held) (met_items words)
      (ap none (turn_plain word p waiting held held value (rests word held)) ∙ to_operands held)
      (moves_plain word p waiting held held value (rests word held) ∙ held_operand word rows pending (resting positional))
      refl (rest positional (paid held) (Some (codes "operands", word ∷ [])) (λ other now. refl)))

  short_rested : (word : Text) (words : List Text) → ShortWord word → MeetsResting (word ∷ words)
  short_rested word words q waiting rows pending rests =
      let held = held_at rows pending in
      let items : met_items (word ∷ words) ≡ stray ∷ met_items words =
      ap (λ (t : Bool). cond t (map operand words) (cond (is_name word) (met_behind (drop 2 word) words) (item_of word ∷ met_items words))) q.dashes
      ∙ ap (λ (t : Bool). cond t (met_behind (drop 2 word) words) (item_of word ∷ met_items words)) q.unnamed
      ∙ ap (λ (i : Item). i ∷ met_items words) q.item in
      as_items (resting waiting held) (word ∷ words) (none (owed held)) (paid held) (met_items (word ∷ words)) (stray ∷ met_items words) items
      (refused_at (resting waiting held) word words (none (owed held)) (paid held) (stray ∷ met_items words) (short_refused word q waiting rows pending) refl)

  dashes_rested : (words : List Text) → MeetsResting ((45 ∷ 45 ∷ []) ∷ words)
  dashes_rested words waiting rows pending rests =
      let held = held_at rows pending in
      passed_at (resting waiting held) (behind waiting held) (45 ∷ 45 ∷ []) words (none (owed held)) (paid held) (map operand words) (dashes_turn waiting held) (dashes_move waiting held) (all_behind words waiting rows pending)

  module _ (byte : ℕ) (bytes : Text) (words : List Text) where
    abbrev said : Text
    said = byte ∷ bytes

    abbrev spelled : Text
    spelled = 45 ∷ 45 ∷ said

    -- `--name=VALUE`
    assigned_rested : MeetsResting words → AssignedWord said → MeetsResting (spelled ∷ words)
    assigned_rested rest a waiting rows pending rests =
        as_items (resting waiting held) (spelled ∷ words) (none (owed held)) (paid held) (met_items (spelled ∷ words)) (option name given ∷ met_items words) items (go (list_any (bytes_eq name) names) refl)
      where
        held : Held
        held = held_at rows pending

        name : Text
        name = before_first is_equals said

        given : Text
        given = after_first is_equals said

        items : met_items (spelled ∷ words) ≡ option name given ∷ met_items words
        items =
            ap (λ (t : Bool). cond t (met_behind said words) (item_of spelled ∷ met_items words)) a.unnamed
            ∙ ap (λ (i : Item). i ∷ met_items words) a.item

        lacks : list_any (bytes_eq name) names ≡ false → passes (option name given ∷ met_items words) (paid held) ≡ false
        lacks out = ap (λ (t : Bool). t && not (has_row name (paid held)) && passes (met_items words) (after_item (option name given) (paid held))) out

        unfound : (test : Bool) → arg_by_long rules name ≡ cond test (Some ready_flag) None → none (turn_fault shape [] (resting waiting held) spelled) ≡ false
        unfound true finds = refused_found byte bytes name (Some given) (Some ready_flag) a.parts finds waiting held refl
        unfound false finds = refused_found byte bytes name (Some given) None a.parts finds waiting held refl

        go : (test : Bool) → list_any (bytes_eq name) names ≡ test → Meets (resting waiting held) (spelled ∷ words) (none (owed held)) (paid held) (option name given ∷ met_items words)
        go false out =
            refused_at (resting waiting held) spelled words (none (owed held)) (paid held) (option name given ∷ met_items words)
            (unfound (json && bytes_eq name (codes "json")) (found_other names json apart name out)) (lacks out)
        go true within =
            let finds = found_option names json apart name within in
            let after : Held = held_at (after_item (option name given) (paid held)) None in
            let turn : none (turn_fault shape [] (resting waiting held) spelled) ≡ (none (owed held) && not (has_row name (paid held))) =
            ap none (turn_found byte bytes name (Some given) (Some (ready_option name)) a.parts finds waiting held after (next idle) refl)
            ∙ none_or (or_else (owed held) (use_fault false (ready_option name) (given ∷ []) (paid held))) []
            ∙ and_true (none (or_else (owed held) (use_fault false (ready_option name) (given ∷ []) (paid held))))
            ∙ none_or (owed held) (use_fault false (ready_option name) (given ∷ []) (paid held))
            ∙ ap (λ (t : Bool). none (owed held) && t) (use_option name given (paid held)) in
            taken_at (resting waiting held) (resting idle after) spelled words (none (owed held)) (not (has_row name (paid held))) true (option name given) (paid held) (met_items words)
            turn
            (moves_found byte bytes name (Some given) (Some (ready_option name)) a.parts finds waiting held after (next idle) refl)
            (ap (λ (t : Bool). t && not (has_row name (paid held))) within ∙ sym (and_true (not (has_row name (paid held)))))
            (rest idle (after_item (option name given) (paid held)) None (λ other now. refl))

    -- `--json`
    flag_rested : MeetsResting words → FlagWord said → MeetsResting (spelled ∷ words)
    flag_rested rest f waiting rows pending rests =
        as_items (resting waiting held) (spelled ∷ words) (none (owed held)) (paid held) (met_items (spelled ∷ words)) (flag ∷ met_items words) items (go json refl)
      where
        held : Held
        held = held_at rows pending

        items : met_items (spelled ∷ words) ≡ flag ∷ met_items words
        items =
            ap (λ (t : Bool). cond t (met_behind said words) (item_of spelled ∷ met_items words)) f.unnamed
            ∙ ap (λ (i : Item). i ∷ met_items words) f.item

        finds : (test : Bool) → json ≡ test → arg_by_long rules (codes "json") ≡ cond test (Some ready_flag) None
        finds test is = found_flag names json apart ∙ ap (λ (t : Bool). cond t (Some ready_flag) None) is

        go : (test : Bool) → json ≡ test → Meets (resting waiting held) (spelled ∷ words) (none (owed held)) (paid held) (flag ∷ met_items words)
        go false is =
            refused_at (resting waiting held) spelled words (none (owed held)) (paid held) (flag ∷ met_items words)
            (refused_found byte bytes (codes "json") None None f.parts (finds false is) waiting held refl)
            (ap (λ (t : Bool). t && not (has_row (codes "json") (paid held)) && passes (met_items words) (after_item flag (paid held))) is)
        go true is =
            let after : Held = held_at (after_item flag (paid held)) None in
            let turn : none (turn_fault shape [] (resting waiting held) spelled) ≡ (none (owed held) && not (has_row (codes "json") (paid held))) =
            ap none (turn_found byte bytes (codes "json") None (Some ready_flag) f.parts (finds true is) waiting held after (next idle) refl)
            ∙ none_or (or_else (owed held) (use_fault false ready_flag [] (paid held))) []
            ∙ and_true (none (or_else (owed held) (use_fault false ready_flag [] (paid held))))
            ∙ none_or (owed held) (use_fault false ready_flag [] (paid held))
            ∙ ap (λ (t : Bool). none (owed held) && t) (use_flag (paid held)) in
            taken_at (resting waiting held) (resting idle after) spelled words (none (owed held)) (not (has_row (codes "json") (paid held))) true flag (paid held) (met_items words)
            turn
            (moves_found byte bytes (codes "json") None (Some ready_flag) f.parts (finds true is) waiting held after (next idle) refl)
            (ap (λ (t : Bool). t && not (has_row (codes "json") (paid held))) is ∙ sym (and_true (not (has_row (codes "json") (paid held)))))
            (rest idle (after_item flag (paid held)) None (λ other now. refl))

    -- the name of no option, and a value
    no_option : (name : Text) (rows : List Row) (others : List Text) → list_any (bytes_eq name) names ≡ false → passes (met_behind name others) rows ≡ false
    no_option name rows [] out = refl
    no_option name rows (given ∷ others) out = go (is_dashes given) (is_operand given)
      where
        go : (ends stands : Bool) → passes (cond ends (stray ∷ map operand others) (cond stands (option name given) stray ∷ met_items others)) rows ≡ false
        go true stands = refl
        go false true = ap (λ (t : Bool). t && not (has_row name rows) && passes (met_items others) (after_item (option name given) rows)) out
        go false false = refl

    -- `--name`
    name_rested : MeetsNamed words → bytes_eq said (codes "json") ≡ false → NameWord said → MeetsResting (spelled ∷ words)
    name_rested rest other n waiting rows pending rests =
        as_items (resting waiting held) (spelled ∷ words) (none (owed held)) (paid held) (met_items (spelled ∷ words)) (met_behind said words) items (go (list_any (bytes_eq said) names) refl)
      where
        held : Held
        held = held_at rows pending

        items : met_items (spelled ∷ words) ≡ met_behind said words
        items = ap (λ (t : Bool). cond t (met_behind said words) (item_of spelled ∷ met_items words)) n.named

        go : (test : Bool) → list_any (bytes_eq said) names ≡ test → Meets (resting waiting held) (spelled ∷ words) (none (owed held)) (paid held) (met_behind said words)
        go false out =
            let finds : arg_by_long rules said ≡ None = found_other names json apart said out ∙ ap (λ (t : Bool). cond (json && t) (Some ready_flag) None) other ∙ ap (λ (t : Bool). cond t (Some ready_flag) None) (and_false json) in
            refused_at (resting waiting held) spelled words (none (owed held)) (paid held) (met_behind said words)
            (refused_found byte bytes said None None n.parts finds waiting held refl) (no_option said (paid held) words out)
        go true within =
            let finds = found_option names json apart said within in
            let after : Held = held_at (paid held) (Some (said, [])) in
            begun_at (resting waiting held) (resting (walk.option said) after) spelled words (none (owed held)) (paid held) (met_behind said words)
            (ap none (turn_found byte bytes said None (Some (ready_option said)) n.parts finds waiting held after (next (walk.option said)) refl) ∙ none_or (owed held) [] ∙ and_true (none (owed held)))
            (moves_found byte bytes said None (Some (ready_option said)) n.parts finds waiting held after (next (walk.option said)) refl)
            (rest said (paid held) within)

    long_rested : MeetsResting words → MeetsNamed words → MeetsResting (spelled ∷ words)
    long_rested rest named = go (list_any is_equals said) (bytes_eq said (codes "json")) refl refl
      where
        go : (assigns tells : Bool) → list_any is_equals said ≡ assigns → bytes_eq said (codes "json") ≡ tells → MeetsResting (spelled ∷ words)
        go true tells has e = assigned_rested rest (assigned_word said has)
        go false true none_of is = flag_rested rest (flag_word said is)
        go false false none_of other = name_rested named other (name_word said none_of other)

  -- ---- behind the name of an option

  module _ (name : Text) (rows : List Row) (within : list_any (bytes_eq name) names ≡ true) where
    abbrev waits : Held
    waits = held_at rows (Some (name, []))

    -- the word is its value
    met_value : (word : Text) → plain_word rules (walk.option name) word waits ≡ (held_at rows (Some (name, word ∷ [])), next idle)
    met_value word =
        ap (λ (found : Option Rule). ((option_word found name word waits).0, next (option_word found name word waits).1)) (found_id names json apart name within)
        ∙ ap (λ (t : Bool). (held_at rows (Some (name, word ∷ [])), next (cond (nat_lt (cond t (length (word ∷ [])) 0) 1) (walk.option name) idle))) (bytes_self name)

    plain_named : (word : Text) (words : List Text) → PlainWord word → MeetsResting words → Meets (resting (walk.option name) waits) (word ∷ words) true rows (met_behind name (word ∷ words))
    plain_named word words p rest =
        let items : met_behind name (word ∷ words) ≡ option name word ∷ met_items words =
        ap (λ (t : Bool). cond t (stray ∷ map operand words) (met_valued name word ∷ met_items words)) p.dashes
        ∙ ap (λ (t : Bool). cond t (option name word) stray ∷ met_items words) p.plain in
        let after : Held = held_at rows (Some (name, word ∷ [])) in
        as_items (resting (walk.option name) waits) (word ∷ words) true rows (met_behind name (word ∷ words)) (option name word ∷ met_items words) items
        (taken_at (resting (walk.option name) waits) (resting idle after) word words true true (not (has_row name rows)) (option name word) rows (met_items words)
        (ap none (turn_plain word p (walk.option name) waits after (next idle) (met_value word)))
        (moves_plain word p (walk.option name) waits after (next idle) (met_value word))
        (ap (λ (t : Bool). t && not (has_row name rows)) within)
        (as_owed (resting idle after) words (none (owed after)) (not (has_row name rows)) (paid after) (after_item (option name word) rows) (met_items words)
        (owed_option name rows within word) (paid_option name rows within word) (rest idle rows (Some (name, word ∷ [])) (λ other now. refl))))

    short_named : (word : Text) (words : List Text) → ShortWord word → Meets (resting (walk.option name) waits) (word ∷ words) true rows (met_behind name (word ∷ words))
    short_named word words q =
        let items : met_behind name (word ∷ words) ≡ stray ∷ met_items words =
        ap (λ (t : Bool). cond t (stray ∷ map operand words) (met_valued name word ∷ met_items words)) q.dashes
        ∙ ap (λ (t : Bool). cond t (option name word) stray ∷ met_items words) q.none in
        as_items (resting (walk.option name) waits) (word ∷ words) true rows (met_behind name (word ∷ words)) (stray ∷ met_items words) items
        (refused_at (resting (walk.option name) waits) word words true rows (stray ∷ met_items words) (short_refused word q (walk.option name) rows (Some (name, []))) refl)

    -- `--` ends the words that could be its value
    dashes_named : (words : List Text) → Meets (resting (walk.option name) waits) ((45 ∷ 45 ∷ []) ∷ words) true rows (met_behind name ((45 ∷ 45 ∷ []) ∷ words))
    dashes_named words = (
      left_step (resting (walk.option name) waits) (45 ∷ 45 ∷ []) words
          ∙ ap₂ (λ (a b : Bool). a && b) (dashes_turn (walk.option name) waits)
          (ap (λ (v : Walk). none (left_fault v words)) (dashes_move (walk.option name) waits) ∙ (all_behind words (walk.option name) rows (Some (name, []))).0
          ∙ ap (λ (t : Bool). t && passes (map operand words) (paid waits)) (owed_name name rows within)),
      λ ok. absurd (true≢false (sym ok)),
    )

    -- an option or a flag leaves it without a value
    without_value : (found : Option Rule) (told : Option Text) → none (long_fault rules false found told waits) ≡ false
    without_value None told = refl
    without_value (Some a) told = go (takes_values a) told
      where
        go : (takes : Bool) (given : Option Text) → none (cond takes (option_fault rules false a given waits) (cond (is_some given) (kind.TooManyValues ∷ []) (or_else (owed waits) (use_fault false a [] (paid waits))))) ≡ false
        go true (Some text) = none_first (owed waits) (use_fault false a (text ∷ []) (paid waits)) (owed_name name rows within)
        go true None = owed_name name rows within
        go false (Some text) = refl
        go false None = none_first (owed waits) (use_fault false a [] (paid waits)) (owed_name name rows within)

    long_named : (byte : ℕ) (bytes : Text) (words : List Text) → Meets (resting (walk.option name) waits) ((45 ∷ 45 ∷ byte ∷ bytes) ∷ words) true rows (met_behind name ((45 ∷ 45 ∷ byte ∷ bytes) ∷ words))
    long_named byte bytes words =
        refused_at (resting (walk.option name) waits) (45 ∷ 45 ∷ byte ∷ bytes) words true rows (stray ∷ met_items words)
        (refused_found byte bytes (name_and_value (byte ∷ bytes)).0 (name_and_value (byte ∷ bytes)).1 (arg_by_long rules (name_and_value (byte ∷ bytes)).0) refl refl (walk.option name) waits
        (without_value (arg_by_long rules (name_and_value (byte ∷ bytes)).0) (name_and_value (byte ∷ bytes)).1)) refl

  -- ---- all words

  one_rested : (word : Text) (words : List Text) → Form word → MeetsResting words → MeetsNamed words → MeetsResting (word ∷ words)
  one_rested word words (plain_form p) rest named = plain_rested word words p rest
  one_rested word words (short_form q) rest named = short_rested word words q
  one_rested word words (dashes_form is) rest named = subst (λ (w : Text). MeetsResting (w ∷ words)) (sym is) (dashes_rested words)
  one_rested word words (long_form byte bytes is) rest named = subst (λ (w : Text). MeetsResting (w ∷ words)) (sym is) (long_rested byte bytes words rest named)

  one_named : (word : Text) (words : List Text) → Form word → MeetsResting words → MeetsNamed (word ∷ words)
  one_named word words (plain_form p) rest name rows within = plain_named name rows within word words p rest
  one_named word words (short_form q) rest name rows within = short_named name rows within word words q
  one_named word words (dashes_form is) rest name rows within = subst (λ (w : Text). Meets (resting (walk.option name) (held_at rows (Some (name, [])))) (w ∷ words) true rows (met_behind name (w ∷ words))) (sym is) (dashes_named name rows within words)
  one_named word words (long_form byte bytes is) rest name rows within = subst (λ (w : Text). Meets (resting (walk.option name) (held_at rows (Some (name, [])))) (w ∷ words) true rows (met_behind name (w ∷ words))) (sym is) (long_named name rows within byte bytes words)

  both_ways : (words : List Text) → AreTexts words → MeetsResting words × MeetsNamed words
  both_ways [] texts = (
    λ waiting rows pending rests. ended (resting waiting (held_at rows pending)),
    λ name rows within. (left_end (resting (walk.option name) (held_at rows (Some (name, [])))) ∙ owed_name name rows within, λ ok. absurd (true≢false (sym ok))),
  )
  both_ways (word ∷ words) texts =
      let rest = both_ways words texts.1 in
      (one_rested word words (form word texts.0) rest.0 rest.1, one_named word words (form word texts.0) rest.0)

  -- from the first word on
  pub words_meet : (words : List Text) → AreTexts words → Meets (resting idle (held_at [] None)) words true [] (met_items words)
  words_meet words texts = (both_ways words texts).0 idle [] None (λ other now. refl)
