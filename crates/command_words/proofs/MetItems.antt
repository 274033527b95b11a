-- The items that `clap` meets: those of the definition, but that `-` is a value behind the name of an option. What each item does to
-- the rows of the matches.
use Rattle.std.proofs.Common.{◌≡◌, ◌∙◌, ◌&&◌, Bool, true, false, if◌then◌else◌, not, List, [], ◌∷◌, drop, map, refl, sym, ap, bytes_eq, codes, true≢false}
use Rattle.std.specs.List.{list_any}
use Rattle.clap.specs.Kinds.{Kinds, or_else}
use Rattle.clap.specs.Walk.{Row, Text, has_row, used}
use Rattle.command_words.specs.Items.{Item, operand, flag, option, stray, is_dashes, is_name, is_operand, item_of}
use Rattle.command_words.proofs.AppLemmas.{ready_flag, ready_operands, ready_option}

abbrev pub met_valued : Text → Text → Item
met_valued name value = if is_operand value then option name value else stray

abbrev mutual
  pub met_items : List Text → List Item
  met_items [] = []
  met_items (word ∷ words) = if is_dashes word then map operand words else if is_name word then met_behind (drop 2 word) words else item_of word ∷ met_items words

  -- behind the name of an option
  pub met_behind : Text → List Text → List Item
  met_behind name [] = stray ∷ []
  met_behind name (value ∷ words) = if is_dashes value then stray ∷ map operand words else met_valued name value ∷ met_items words

-- the rows behind an item
abbrev pub after_item : Item → List Row → List Row
after_item (operand word) rows = used ready_operands (word ∷ []) rows
after_item flag rows = used ready_flag [] rows
after_item (option name value) rows = used (ready_option name) (value ∷ []) rows
after_item stray rows = rows

abbrev pub after_items : List Item → List Row → List Row
after_items [] rows = rows
after_items (item ∷ items) rows = after_items items (after_item item rows)

-- no error comes of an item: the command has it, and it did not stand before
abbrev pub item_passes : List Text → Bool → Item → List Row → Bool
item_passes names json (operand word) rows = true
item_passes names json flag rows = json && not (has_row (codes "json") rows)
item_passes names json (option name value) rows = list_any (bytes_eq name) names && not (has_row name rows)
item_passes names json stray rows = false

abbrev pub items_pass : List Text → Bool → List Item → List Row → Bool
items_pass names json [] rows = true
items_pass names json (item ∷ items) rows = item_passes names json item rows && items_pass names json items (after_item item rows)

-- ---- no error

abbrev pub none : Kinds → Bool
none [] = true
none (kind ∷ kinds) = false

pub none_or : (a b : Kinds) → none (or_else a b) ≡ (none a && none b)
none_or [] b = refl
none_or (kind ∷ kinds) b = refl

pub none_first : (a b : Kinds) → none a ≡ false → none (or_else a b) ≡ false
none_first a b some = none_or a b ∙ ap (λ (t : Bool). t && none b) some

pub step_splits : (t a b : Kinds) → none (or_else (or_else t a) b) ≡ (none t && none (or_else a b))
step_splits [] a b = refl
step_splits (kind ∷ kinds) a b = refl

pub is_none : (kinds : Kinds) → none kinds ≡ true → kinds ≡ []
is_none [] e = refl
is_none (kind ∷ kinds) e = absurd (true≢false (sym e))
