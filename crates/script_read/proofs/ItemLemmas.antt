-- The first item of a text that was checked, and what is told of it.
use Rattle.std.proofs.Common.{◌≡◌, ℕ, zero, suc, ◌+◌, ◌-◌, ◌≤◌, ◌&&◌, leb, min, Bool, true, false, List, [], ◌∷◌, ◌++◌, append_assoc, length, length-append, take, Option, Some, None, Result, Ok, Err, refl, sym, ap, subst, ◌∙◌, arith}
use Rattle.std.specs.Prelude.{bytes_eq, codes, find, if◌then◌else◌}
use Rattle.std.proofs.Math.Nat.{min-le_left, min-le_right}
use Rattle.std.proofs.Math.Seq.{take-append-add}
use Rattle.std.proofs.lemmas.Bool.{eqb-true, leb-false, leb-true}
use Rattle.std.proofs.lemmas.List.Folds.{list_all-append}
use Rattle.std.proofs.lemmas.Slice.Eq.{bytes_eq-Decides}
use Rattle.policy_table.specs.Tables.{Fields}
use Rattle.edit_calls.specs.declared.call.Call.{Call}
use Rattle.perm_base.proofs.CallerLemmas.{take_take}
use Rattle.perm_base.specs.declared.shapes.TableId.{TableId}
use Rattle.script_read.proofs.AskLemmas.{asked_first, asked_test}
use Rattle.script_read.proofs.EndLemmas.{parts_first}
use Rattle.script_read.proofs.NamedLemmas.{Gives, ItemNamed, alone_gives, anything, choice_gives, line_gives, map_gives, part_named, step_gives}
use Rattle.script_read.proofs.ReadLemmas.{the_reader}
use Rattle.script_read.proofs.ScriptLemmas.{item_of, part_same}
use Rattle.script_read.proofs.WalkLemmas.{asked_goes, asked_is}
use Rattle.script_read.specs.Blocks.{Part, block, block_call, parts, single}
use Rattle.script_read.specs.Helps.Asks.{AreAskedBefore, IsAskedLine}
use Rattle.script_read.specs.Helps.Ends.{before_end, behind_part, end_number, first_part}
use Rattle.script_read.specs.Helps.Given.{fields_read}
use Rattle.script_read.specs.Helps.Checked.{AreChecked, is_spent, less_by, limited, lines_behind}
use Rattle.script_read.specs.ItemLines.{ArePassed, IsBuiltAs, IsTakenOff, IsToldAs, ScriptLines, items_from, items_in, onto_items, said, up_to}
use Rattle.script_read.specs.Items.{alone, count_of, line_item, names_of, rows_of, rule_of, verb_call, verb_item, verbs, word_item, word_of_verb, worded}
use Rattle.script_read.specs.Lines.{arguments_of, begins_block, word_of}
use Rattle.script_read.specs.Reads.{Reader}
use Rattle.script_read.specs.Readings.{request_read}
use Rattle.script_read.specs.Results.{mapped}
use Rattle.script_read.specs.Said.{Said, is_request, is_sync, seen}
use Rattle.script_read.specs.Said as said
use Rattle.script_read.specs.Script.{SayItems, SaysFrom}
use Rattle.script_read.specs.declared.fault.LineCause.{LineCause}
use Rattle.script_read.specs.declared.fault.ScriptFault.{ScriptFault}
use Rattle.script_read.specs.declared.word.CallVerb.{CallVerb}
use Rattle.script_read.specs.declared.word.Verb.{Verb}
use Rattle.script_read.specs.declared.word.Verb.TheVariants as verb
use Rattle.script_read.specs.declared.item.Item.{Item}
use Rattle.script_read.specs.declared.said_lines.BuiltItem.TheVariants as built
use Rattle.script_read.specs.declared.said_lines.FirstItem.TheVariants as first
use Rattle.text_parts.specs.Full.{full_lines, given_number}
use Rattle.text_parts.specs.Numbered as numbered

-- ---- all items of a text

items_some : (json : Bool) (part : Part) (others : List Part) (item : Said) → item_of json part ≡ Ok item → items_in json (part ∷ others) ≡ item ∷ items_in json others
unfolding items_in
items_some json part others item says = ap (λ (r : Result Said ScriptFault). onto_items r (items_in json others)) says

items_none : (json : Bool) → items_in json [] ≡ []
unfolding items_in
items_none json = refl

all_in : (json : Bool) (reader : Reader json) (texts : List Part) (items : List Said) → SayItems reader texts items → items_in json texts ≡ items
all_in json reader [] [] says = items_none json
all_in json reader [] (item ∷ items) says = absurd says
all_in json reader (part ∷ texts) [] says = absurd says
all_in json reader (part ∷ texts) (item ∷ items) says =
    items_some json part texts item (sym (part_same json reader part) ∙ says.0) ∙ ap (λ (l : List Said). item ∷ l) (all_in json reader texts items says.1)

-- what a text says is what its lines say
pub all_said : (json : Bool) (number : ℕ) (text : List ℕ) (items : List Said) → SaysFrom json number text items → items_from json number text ≡ items
all_said json number text items is = all_in json is.reader (parts (full_lines number text)) items is.says

pub none_from : (json : Bool) (number : ℕ) (text : List ℕ) → full_lines number text ≡ [] → items_from json number text ≡ []
none_from json number text none = ap (λ (l : List numbered.Line). items_in json (parts l)) none ∙ items_none json

-- ---- so many of them

pub spent_none : (most : Option ℕ) (items : List Said) → is_spent most ≡ true → up_to most items ≡ []
spent_none None items spent = absurd cc
spent_none (Some zero) items spent = refl
spent_none (Some (suc count)) items spent = let none : suc count ≡ 0 = eqb-true (suc count) 0 spent in absurd (omega (arith, none))

pub up_to_none : (most : Option ℕ) → up_to most [] ≡ []
up_to_none None = refl
up_to_none (Some zero) = refl
up_to_none (Some (suc count)) = refl

up_to_more : (most : Option ℕ) (item : Said) (items : List Said) → is_spent most ≡ false → up_to most (item ∷ items) ≡ item ∷ up_to (less_by 1 most) items
up_to_more None item items left = refl
up_to_more (Some zero) item items left = absurd cc
up_to_more (Some (suc count)) item items left = let less : count ≡ suc count - 1 = omega arith in ap (λ (k : ℕ). item ∷ take k items) less

-- the first is taken off
pub taken_off : (Holds : Said → Type 0) (old new : ScriptLines) (number : ℕ) (text : List ℕ) → is_spent old.most ≡ false → new ≡ lines_behind 1 number text old → IsTakenOff Holds (items_from old.json old.number old.text) (items_from old.json number text) → IsTakenOff Holds (said old) (said new)
unfolding said
taken_off Holds old new number text some goes is = record {
  item = is.item;
  parts =
      ap (up_to old.most) is.parts ∙ up_to_more old.most is.item (items_from old.json number text) some
      ∙ ap (λ (l : ScriptLines). is.item ∷ up_to l.most (items_from l.json l.number l.text)) (sym goes);
  holds = is.holds;
}

-- none is left
pub said_spent : (lines : ScriptLines) → is_spent lines.most ≡ true → said lines ≡ []
unfolding said
said_spent lines spent = spent_none lines.most (items_from lines.json lines.number lines.text) spent

pub said_none : (lines : ScriptLines) → items_from lines.json lines.number lines.text ≡ [] → said lines ≡ []
unfolding said
said_none lines none = ap (up_to lines.most) none ∙ up_to_none lines.most

-- a front of a front
take_less : (n m : ℕ) (xs : List Said) → m ≤ n → take n (take m xs) ≡ take m xs
take_less zero zero xs within = refl
take_less (suc n) zero xs within = refl
take_less zero (suc m) xs within = absurd (omega (arith, within))
take_less (suc n) (suc m) [] within = refl
take_less (suc n) (suc m) (x ∷ xs) within = ap (λ (l : List Said). x ∷ l) (take_less n m xs (omega (arith, within)))

take_min : (n m : ℕ) (xs : List Said) → take n (take m xs) ≡ take (min n m) xs
take_min n m xs = by (leb n m) refl
  where
    by : (test : Bool) → leb n m ≡ test → take n (take m xs) ≡ take (min n m) xs
    by true is = let within = leb-true n m is in let same : min n m ≡ n = omega (arith, within) in take_take n m xs within ∙ ap (λ (k : ℕ). take k xs) (sym same)
    by false is = let above = leb-false n m is in let same : min n m ≡ m = omega (arith, above) in take_less n m xs (omega (arith, above)) ∙ ap (λ (k : ℕ). take k xs) (sym same)

-- a front of them
take_limited : (most : Option ℕ) (count : ℕ) (items : List Said) → take (limited most count) items ≡ take count (up_to most items)
take_limited None count items = refl
take_limited (Some most) count items = sym (take_min count most items)

pub front_is : (lines front : ScriptLines) (count : ℕ) → front ≡ record lines { most = Some (limited lines.most count) } → said front ≡ take count (said lines)
unfolding said
front_is lines front count is = ap (λ (l : ScriptLines). up_to l.most (items_from l.json l.number l.text)) is ∙ take_limited lines.most count (items_from lines.json lines.number lines.text)

-- all of a text
pub said_all : (lines : ScriptLines) (items : List Said) → lines.most ≡ None → SaysFrom lines.json lines.number lines.text items → said lines ≡ items
unfolding said
said_all lines items all says = ap (λ (m : Option ℕ). up_to m (items_from lines.json lines.number lines.text)) all ∙ all_said lines.json lines.number lines.text items says

-- ---- what a line says that is no request

abbrev IsCalm : Said → Type 0
IsCalm item = (is_request item ≡ false) × (is_sync item ≡ false)

calm_call : (word : CallVerb) (fields : Fields) → Gives IsCalm (mapped (λ (call : Call). said.edits call) (verb_call word fields))
calm_call word fields = map_gives (λ (call : Call). Unit {0}) IsCalm (verb_call word fields) (λ (call : Call). said.edits call) (anything (verb_call word fields)) (λ call _. (refl, refl))

calm_verb : (word : Verb) (fields : Fields) → Gives IsCalm (verb_item word fields)
calm_verb (verb.Call word) fields = calm_call word fields
calm_verb verb.Has fields = map_gives (λ (found : TableId × Fields). Unit {0}) IsCalm (rule_of fields) (λ (found : TableId × Fields). said.has (found.0) (found.1)) (anything (rule_of fields)) (λ found _. (refl, refl))
calm_verb verb.Rows fields = map_gives (λ (found : TableId × ℕ × Fields). Unit {0}) IsCalm (rows_of fields) (λ (found : TableId × ℕ × Fields). said.rows (found.0) (found.1) (found.2)) (anything (rows_of fields)) (λ found _. (refl, refl))
calm_verb verb.Roles fields = map_gives (λ (found : ℕ × List ℕ × Option (List ℕ)). Unit {0}) IsCalm (names_of fields) (λ (found : ℕ × List ℕ × Option (List ℕ)). said.roles (found.0) (found.1) (found.2)) (anything (names_of fields)) (λ found _. (refl, refl))
calm_verb verb.Users fields = map_gives (λ (found : ℕ × List ℕ × Option (List ℕ)). Unit {0}) IsCalm (names_of fields) (λ (found : ℕ × List ℕ × Option (List ℕ)). said.users (found.0) (found.1) (found.2)) (anything (names_of fields)) (λ found _. (refl, refl))
calm_verb verb.Keep fields = map_gives (λ (count : ℕ). Unit {0}) IsCalm (count_of fields) (λ (count : ℕ). said.keeps count) (anything (count_of fields)) (λ count _. (refl, refl))
calm_verb verb.History fields = map_gives (λ (number : ℕ). Unit {0}) IsCalm (count_of fields) (λ (number : ℕ). said.recalls number) (anything (count_of fields)) (λ number _. (refl, refl))

calm_worded : (found : Option Verb) (arguments : List ℕ) → Gives IsCalm (worded fields_read found arguments)
calm_worded None arguments = tt
calm_worded (Some word) arguments = step_gives (λ (found : Fields). Unit {0}) IsCalm (fields_read arguments) (verb_item word) (anything (fields_read arguments)) (λ found _. calm_verb word found)

-- a line whose word is neither
calm_line : (json : Bool) (line : List ℕ) → bytes_eq (word_of line) (codes "ask") ≡ false → bytes_eq (word_of line) (codes "sync") ≡ false → Gives IsCalm (line_item fields_read (request_read json) line)
unfolding word_item
calm_line json line ask sync =
    subst (λ (b : Bool). Gives IsCalm (if b then Ok (said.asks (request_read json (arguments_of line))) else others)) (sym ask)
    (choice_gives IsCalm (bytes_eq (word_of line) (codes "publish")) (alone fields_read said.publishes (arguments_of line)) (if bytes_eq (word_of line) (codes "sync") then alone fields_read said.syncs (arguments_of line) else last)
    (alone_gives IsCalm fields_read said.publishes (arguments_of line) (refl, refl))
    (subst (λ (b : Bool). Gives IsCalm (if b then alone fields_read said.syncs (arguments_of line) else last)) (sym sync) (calm_worded (find (λ (named : Verb). bytes_eq (word_of line) (word_of_verb named)) verbs) (arguments_of line))))
  where
    last : Result Said LineCause
    last = worded fields_read (find (λ (named : Verb). bytes_eq (word_of line) (word_of_verb named)) verbs) (arguments_of line)

    others : Result Said LineCause
    others = if bytes_eq (word_of line) (codes "publish") then alone fields_read said.publishes (arguments_of line) else if bytes_eq (word_of line) (codes "sync") then alone fields_read said.syncs (arguments_of line) else last

-- one whose word is `sync`
abbrev IsSync : Said → Type 0
IsSync item = is_sync item ≡ true

sync_line : (json : Bool) (line : List ℕ) → word_of line ≡ codes "sync" → Gives IsSync (line_item fields_read (request_read json) line)
unfolding word_item
sync_line json line word =
    subst (λ (w : List ℕ). Gives IsSync (word_item fields_read (request_read json) w (arguments_of line))) (sym word) (alone_gives IsSync fields_read said.syncs (arguments_of line) refl)

-- ---- the first part of a text

sync_part : (json : Bool) (line : numbered.Line) (lines : List numbered.Line) → word_of line.text ≡ codes "sync" → Gives IsSync (item_of json (first_part line lines))
sync_part json line lines word =
    subst (Gives IsSync) (sym (ap (λ (w : List ℕ). item_of json (if bytes_eq w (codes "begin") then block line (before_end lines) (end_number lines) else single line)) word))
    (line_gives IsSync (given_number line.number) (line_item fields_read (request_read json) line.text) (sync_line json line.text word))

calm_part : (json : Bool) (line : numbered.Line) (lines : List numbered.Line) → bytes_eq (word_of line.text) (codes "ask") ≡ false → bytes_eq (word_of line.text) (codes "sync") ≡ false → Gives IsCalm (item_of json (first_part line lines))
calm_part json line lines ask sync = by (begins_block line.text)
  where
    by : (begins : Bool) → Gives IsCalm (item_of json (if begins then block line (before_end lines) (end_number lines) else single line))
    by true =
        map_gives (λ (it : Call). Unit {0}) IsCalm (block_call fields_read line (before_end lines) (end_number lines)) (λ (it : Call). said.edits it) (anything (block_call fields_read line (before_end lines) (end_number lines))) (λ it _. (refl, refl))
    by false = line_gives IsCalm (given_number line.number) (line_item fields_read (request_read json) line.text) (calm_line json line.text ask sync)

-- a line whose word is not `ask` is none of a request
other_part : (json : Bool) (line : numbered.Line) (lines : List numbered.Line) → bytes_eq (word_of line.text) (codes "ask") ≡ false → Gives (λ (item : Said). is_request item ≡ false) (item_of json (first_part line lines))
other_part json line lines ask = by (bytes_eq (word_of line.text) (codes "sync")) refl
  where
    by : (sync : Bool) → bytes_eq (word_of line.text) (codes "sync") ≡ sync → Gives (λ (item : Said). is_request item ≡ false) (item_of json (first_part line lines))
    by true e = weaker (item_of json (first_part line lines)) (sync_part json line lines ((bytes_eq-Decides (word_of line.text) (codes "sync")).0 e))
      where
        none : (item : Said) → is_sync item ≡ true → is_request item ≡ false
        none (said.asks reading) is = absurd cc
        none _ is = refl

        weaker : (r : Result Said ScriptFault) → Gives IsSync r → Gives (λ (item : Said). is_request item ≡ false) r
        weaker (Ok item) has = none item has
        weaker (Err fault) has = tt
    by false e = weaker (item_of json (first_part line lines)) (calm_part json line lines ask e)
      where
        weaker : (r : Result Said ScriptFault) → Gives IsCalm r → Gives (λ (item : Said). is_request item ≡ false) r
        weaker (Ok item) has = has.0
        weaker (Err fault) has = tt

named_here : (json : Bool) (part : Part) → Gives ItemNamed (item_of json part)
named_here json part = subst (Gives ItemNamed) (part_same json (the_reader json) part) (part_named json (the_reader json) part)

given : (Has : Said → Type 0) (r : Result Said ScriptFault) (item : Said) → r ≡ Ok item → Gives Has r → Has item
given Has r item is has = subst (Gives Has) is has

module _ (json : Bool) (number at : ℕ) (text rest after : List ℕ) (next : ℕ) (behind : List ℕ) (first_is : full_lines number text ≡ numbered.line at rest ∷ full_lines (at + 1) after)
    (goes : behind_part rest (full_lines (at + 1) after) ≡ full_lines next behind) where
  abbrev the_part : Part
  the_part = first_part (numbered.line at rest) (full_lines (at + 1) after)

  texts_are : parts (full_lines number text) ≡ the_part ∷ parts (full_lines next behind)
  texts_are = ap (λ (l : List numbered.Line). parts l) first_is ∙ parts_first (numbered.line at rest) (full_lines (at + 1) after) ∙ ap (λ (l : List numbered.Line). the_part ∷ parts l) goes

  -- it says an item, and those behind it say others
  record SaysFirst : Type 0 where
    item : Said
    says : item_of json the_part ≡ Ok item
    left : List Said
    others : SaysFrom json next behind left

  first_in : (reader : Reader json) (items : List Said) → SayItems reader (the_part ∷ parts (full_lines next behind)) items → SaysFirst
  first_in reader [] says = absurd says
  first_in reader (item ∷ left) says = record { item = item; says = sym (part_same json reader the_part) ∙ says.0; left = left; others = record { reader = reader; says = says.1 } }

  first_here : AreChecked json number text → SaysFirst
  first_here all = let is = all.checked.1 in first_in is.reader all.checked.0 (subst (λ (l : List Part). SayItems is.reader l all.checked.0) texts_are is.says)

  off : (Holds : Said → Type 0) (item : Said) → item_of json the_part ≡ Ok item → Holds item → IsTakenOff Holds (items_from json number text) (items_from json next behind)
  off Holds item says holds = record { item = item; parts = ap (items_in json) texts_are ∙ items_some json the_part (parts (full_lines next behind)) item says; holds = holds }

  -- what stands behind it was checked too
  pub rest_checked : AreChecked json number text → next + length behind ≤ number + length text → AreChecked json next behind
  rest_checked all within = let is = first_here all in record { few = omega (arith, all.few, within); checked = (is.left, is.others) }

  -- what is told of it
  pub told_request : bytes_eq (word_of rest) (codes "ask") ≡ true → IsTakenOff (λ (item : Said). item ≡ said.asks (request_read json (arguments_of rest))) (items_from json number text) (items_from json next behind)
  told_request ask = off (λ (item : Said). item ≡ said.asks (request_read json (arguments_of rest))) (said.asks (request_read json (arguments_of rest))) (asked_is json (numbered.line at rest) (full_lines (at + 1) after) ask) refl

  pub told_sync : AreChecked json number text → bytes_eq (word_of rest) (codes "sync") ≡ true → IsTakenOff (IsToldAs first.Sync) (items_from json number text) (items_from json next behind)
  told_sync all sync =
      let is = first_here all in
      off (IsToldAs first.Sync) is.item is.says (given IsSync (item_of json the_part) is.item is.says (sync_part json (numbered.line at rest) (full_lines (at + 1) after) ((bytes_eq-Decides (word_of rest) (codes "sync")).0 sync)))

  pub told_other : AreChecked json number text → bytes_eq (word_of rest) (codes "ask") ≡ false → bytes_eq (word_of rest) (codes "sync") ≡ false → IsTakenOff (IsToldAs first.Other) (items_from json number text) (items_from json next behind)
  told_other all ask sync =
      let is = first_here all in
      off (IsToldAs first.Other) is.item is.says (given IsCalm (item_of json the_part) is.item is.says (calm_part json (numbered.line at rest) (full_lines (at + 1) after) ask sync))

  -- what is built of it
  pub built_other : (it : Item) → bytes_eq (word_of rest) (codes "ask") ≡ false → item_of json the_part ≡ Ok (seen it) → IsTakenOff (IsBuiltAs (built.Other it)) (items_from json number text) (items_from json next behind)
  built_other it ask says =
      off (IsBuiltAs (built.Other it)) (seen it) says
      (refl, given (λ (item : Said). is_request item ≡ false) (item_of json the_part) (seen it) says (other_part json (numbered.line at rest) (full_lines (at + 1) after) ask), given ItemNamed (item_of json the_part) (seen it) says (named_here json the_part))

-- ---- requests in front

-- the line of a request that is told by its first bytes
module _ (json : Bool) (number : ℕ) (text line after : List ℕ) (is : IsAskedLine text line after) where
  goes_on : behind_part line (full_lines (number + 1) after) ≡ full_lines (number + 1) after
  goes_on = asked_goes line (full_lines (number + 1) after) (sym (asked_test line is.begins))

  pub asked_told : (arguments : List ℕ) → arguments ≡ arguments_of line → IsTakenOff (λ (item : Said). item ≡ said.asks (request_read json arguments)) (items_from json number text) (items_from json (number + 1) after)
  asked_told arguments same =
      subst (λ (l : List ℕ). IsTakenOff (λ (item : Said). item ≡ said.asks (request_read json l)) (items_from json number text) (items_from json (number + 1) after)) (sym same)
      (told_request json number number text line after (number + 1) after (asked_first number text line after is) goes_on (sym (asked_test line is.begins)))

  pub asked_off : IsTakenOff (λ (item : Said). is_request item ≡ true) (items_from json number text) (items_from json (number + 1) after)
  asked_off = let off = asked_told (arguments_of line) refl in record { item = off.item; parts = off.parts; holds = ap is_request off.holds }

  pub asked_checked : AreChecked json number text → AreChecked json (number + 1) after
  asked_checked all = rest_checked json number number text line after (number + 1) after (asked_first number text line after is) goes_on all (omega (arith, is.shorter))

pub passed_none : (old : List Said) → ArePassed 0 old old
passed_none old = record { passed = []; parts = refl; asked = refl; long = refl }

pub passed_more : (count : ℕ) (old mid new : List Said) → ArePassed count old mid → IsTakenOff (λ (item : Said). is_request item ≡ true) mid new → ArePassed (count + 1) old new
passed_more count old mid new so off = record {
  passed = so.passed ++ off.item ∷ [];
  parts = so.parts ∙ ap (λ (l : List Said). so.passed ++ l) off.parts ∙ sym (append_assoc so.passed (off.item ∷ []) new);
  asked = list_all-append is_request so.passed (off.item ∷ []) ∙ (λ j. so.asked j && (off.holds j && true));
  long = omega (arith, so.long, length-append so.passed (off.item ∷ []));
}

-- so many lines of requests, and one more
pub asked_none : (json : Bool) (number : ℕ) (text : List ℕ) → AreChecked json number text → AreAskedBefore json number 0 text text
asked_none json number text all =
    let same : number ≡ number + 0 = omega arith in
    record {
      passed = subst (λ (n : ℕ). ArePassed 0 (items_from json number text) (items_from json n text)) same (passed_none (items_from json number text));
      checked = subst (λ (n : ℕ). AreChecked json n text) same all;
    }

pub asked_more : (json : Bool) (number count : ℕ) (text rest line after : List ℕ) → AreAskedBefore json number count text rest → IsAskedLine rest line after → AreAskedBefore json number (count + 1) text after
asked_more json number count text rest line after so is =
    let same : number + count + 1 ≡ number + (count + 1) = omega arith in
    record {
      passed = subst (λ (n : ℕ). ArePassed (count + 1) (items_from json number text) (items_from json n after)) same
          (passed_more count (items_from json number text) (items_from json (number + count) rest) (items_from json (number + count + 1) after) so.passed (asked_off json (number + count) rest line after is));
      checked = subst (λ (n : ℕ). AreChecked json n after) same (asked_checked json (number + count) rest line after is so.checked);
    }

-- of the items that are meant
pub limited_few : (most : Option ℕ) (count limit : ℕ) → count ≤ limited most limit → count ≤ limit
limited_few None count limit within = within
limited_few (Some most) count limit within = omega (arith, within, min-le_left limit most)

passed_up_to : (most : Option ℕ) (count limit : ℕ) (old new : List Said) → count ≤ limited most limit → ArePassed count old new → ArePassed count (up_to most old) (up_to (less_by count most) new)
passed_up_to None count limit old new within so = so
passed_up_to (Some most) count limit old new within so =
    let all : most ≡ length so.passed + (most - count) = omega (arith, so.long, within, min-le_right limit most) in
    record {
      passed = so.passed;
      parts = ap (take most) so.parts ∙ ap (λ (n : ℕ). take n (so.passed ++ new)) all ∙ take-append-add so.passed new (most - count);
      asked = so.asked;
      long = so.long;
    }

pub passed_off : (count limit : ℕ) (old new : ScriptLines) (number : ℕ) (text : List ℕ) → count ≤ limited old.most limit → new ≡ lines_behind count number text old → ArePassed count (items_from old.json old.number old.text) (items_from old.json number text) → ArePassed count (said old) (said new)
unfolding said
passed_off count limit old new number text within goes so =
    subst (λ (l : ScriptLines). ArePassed count (up_to old.most (items_from old.json old.number old.text)) (up_to l.most (items_from l.json l.number l.text))) (sym goes)
    (passed_up_to old.most count limit (items_from old.json old.number old.text) (items_from old.json number text) within so)

-- the first of the items that are meant is taken off, which begins with `ask` and a blank
pub asked_taken : (inside now new : ScriptLines) (line after arguments : List ℕ) → inside ≡ now → is_spent inside.most ≡ false → new ≡ lines_behind 1 (inside.number + 1) after now → IsAskedLine inside.text line after → arguments ≡ arguments_of line → IsTakenOff (λ (item : Said). item ≡ said.asks (request_read inside.json arguments)) (said now) (said new)
asked_taken inside now new line after arguments view left goes is same =
    subst (λ (l : ScriptLines). IsTakenOff (λ (item : Said). item ≡ said.asks (request_read inside.json arguments)) (said l) (said new)) view
    (taken_off (λ (item : Said). item ≡ said.asks (request_read inside.json arguments)) inside new (inside.number + 1) after left (goes ∙ ap (λ (l : ScriptLines). lines_behind 1 (inside.number + 1) after l) (sym view))
    (asked_told inside.json inside.number inside.text line after is arguments same))
