-- What a line of an edit's text says, and where a reader of lines stands.
use Rattle.std.proofs.Common.{◌≡◌, ℕ, zero, suc, ◌≤◌, Bool, true, false, List, [], ◌∷◌, ◌++◌, append_assoc, append-nil, codes, length, eqb, All, Option, Some, None, option_map, option_and_then, option_to_list, refl, sym, ap, subst, ◌∙◌, arith}
use Rattle.std.specs.Prelude.{flat_map, if◌then◌else◌, ⊤, map}
use Rattle.std.specs.List.{AllByRecursion, list_any}
use Rattle.std.specs.Option.{option_map_or}
use Rattle.std.proofs.lemmas.Bool.{or_parts}
use Rattle.std.proofs.lemmas.List.Concat.{flat_map-append}
use Rattle.std.proofs.lemmas.List.Elements.{All-from_recursion}
use Rattle.std.proofs.lemmas.List.Folds.{list_any-append}
use Rattle.std.proofs.lemmas.Option.{get_or_from_slice_get, slice_get_within}
use Rattle.perm_base.proofs.FieldLineLemmas.{IsFields-once}
use Rattle.perm_base.proofs.PrintLemmas.{printed_is}
use Rattle.perm_base.proofs.QuotedLemmas.{printed_plain, printed_quoted}
use Rattle.perm_base.proofs.ReadLemmas.{doubled_whole}
use Rattle.perm_base.proofs.TableLemmas.{named_from_name}
use Rattle.perm_base.specs.FieldLine as field
use Rattle.perm_base.specs.FieldLine.{IsFields, doubled, needs_quotes, printed_field}
use Rattle.perm_base.specs.LineEnds.{AreFields, has_line_end, is_line_end}
use Rattle.perm_base.specs.TableNames.{name_of, table_named, table_names}
use Rattle.perm_base.specs.declared.shapes.TableId.{TableId}
use Rattle.perm_base.specs.declared.shapes.TableId.TheVariants.{P, G}
use Rattle.policy_table.proofs.CallerLemmas.{itself, same_table}
use Rattle.policy_table.specs.Changes.{is_table}
use Rattle.policy_table.specs.Tables.{Fields}
use Rattle.policy_table.specs.declared.change.Change.{Change}
use Rattle.policy_table.specs.declared.change.Change.TheVariants.{Insert, Remove, Replace}
use Rattle.text_parts.specs.Lines.{has_byte}
use Rattle.version_log.specs.EditText.{IsNamedRule, change_items, items_of, sign_byte}
use Rattle.version_log.specs.Helps.Items.{Says, items_at, items_by, step}
use Rattle.version_log.specs.declared.edit_read.Place.{Place}
use Rattle.version_log.specs.declared.edit_read.Place.TheVariants.{Between, Half, Ended}
use Rattle.version_log.specs.declared.item.EditItem.{EditItem}
use Rattle.version_log.specs.declared.item.EditItem.TheVariants.{Signed, End}
use Rattle.version_log.specs.declared.item.Sign.{Sign}
use Rattle.version_log.specs.declared.item.Sign.TheVariants.{Inserted, Removed, Old, New}

-- ---- names

-- a name needs no quotes and holds no line end
record IsPlain (text : List ℕ) : Type 0 where
  plain : printed_field text ≡ text
  whole : has_line_end text ≡ false

plain_names : AllByRecursion IsPlain table_names
unfolding printed_field
plain_names = (
  record { plain = refl; whole = refl },
  (
    record { plain = refl; whole = refl },
    (
      record { plain = refl; whole = refl },
      (
        record { plain = refl; whole = refl },
        (record { plain = refl; whole = refl }, (record { plain = refl; whole = refl }, (record { plain = refl; whole = refl }, (record { plain = refl; whole = refl }, (record { plain = refl; whole = refl }, tt))))),
      ),
    ),
  ),
)

is_plain : (table : TableId) (name : List ℕ) → name_of table ≡ Some name → IsPlain name
is_plain P name e = let same : codes "p" ≡ name = cc in subst IsPlain same plain_names.0
is_plain (G zero) name e = absurd cc
is_plain (G (suc at)) name e =
    let all : All IsPlain table_names = All-from_recursion IsPlain table_names plain_names in
    subst IsPlain (get_or_from_slice_get table_names (suc at) name name e) (all (suc at) name (slice_get_within table_names (suc at) name e))

-- the name of a table and a rule are fields, and printed they are read
pub named_fields : (table : TableId) (name : List ℕ) (rule : Fields) → name_of table ≡ Some name → length rule ≤ 32 → AreFields rule → AreFields (name ∷ rule)
named_fields table name rule named few fields = record { few = omega (arith, few); whole_lines = rw ((is_plain table name named).whole, fields.whole_lines) refl }

pub named_read : (table : TableId) (name : List ℕ) (rule : Fields) → name_of table ≡ Some name → length rule ≤ 32 → AreFields rule → IsFields (field.printed (name ∷ rule)) (name ∷ rule)
named_read table name rule named few fields = printed_is (name ∷ rule) (named_fields table name rule named few fields) (omega arith) (omega (arith, few))

-- ---- printed fields hold no LF

field_whole : (text : List ℕ) → has_line_end text ≡ false → has_line_end (printed_field text) ≡ false
field_whole text whole = by (needs_quotes text) refl
  where
    by : (quotes : Bool) → needs_quotes text ≡ quotes → has_line_end (printed_field text) ≡ false
    by true e =
        let inside : has_line_end (doubled text ++ 34 ∷ []) ≡ false = list_any-append is_line_end (doubled text) (34 ∷ []) ∙ rw (doubled_whole text whole) refl in
        ap has_line_end (printed_quoted text e) ∙ inside
    by false e = ap has_line_end (printed_plain text e) ∙ whole

further_whole : (fields : Fields) → list_any has_line_end fields ≡ false → has_line_end (flat_map (λ (text : List ℕ). (44 ∷ 32 ∷ []) ++ text) (map printed_field fields)) ≡ false
further_whole [] whole = refl
further_whole (text ∷ fields) whole =
    let here = or_parts (has_line_end text) (list_any has_line_end fields) whole in
    list_any-append is_line_end (printed_field text) (flat_map (λ (t : List ℕ). (44 ∷ 32 ∷ []) ++ t) (map printed_field fields)) ∙ rw (field_whole text here.0, further_whole fields here.1) refl

printed_whole : (fields : Fields) → list_any has_line_end fields ≡ false → has_line_end (field.printed fields) ≡ false
printed_whole [] whole = refl
printed_whole (text ∷ fields) whole =
    let here = or_parts (has_line_end text) (list_any has_line_end fields) whole in
    list_any-append is_line_end (printed_field text) (flat_map (λ (t : List ℕ). (44 ∷ 32 ∷ []) ++ t) (map printed_field fields)) ∙ rw (field_whole text here.0, further_whole fields here.1) refl

no_feed : (text : List ℕ) → has_line_end text ≡ false → has_byte 10 text ≡ false
no_feed [] none = refl
no_feed (byte ∷ text) none =
    let here = or_parts (is_line_end byte) (has_line_end text) none in
    let ends = or_parts (eqb byte 13) (eqb byte 10) here.0 in
    rw (ends.1) (no_feed text here.1)

-- ---- one line

-- a line of a rule
pub record IsLine (line : List ℕ) (sign : Sign) (table : TableId) (rule : Fields) : Type 0 where
  pub name : List ℕ
  pub named : name_of table ≡ Some name
  pub spelling : line ≡ sign_byte sign ∷ 32 ∷ field.printed (name ∷ rule)
  pub writable : IsNamedRule table rule
  pub fields : AreFields rule

pub line_is : (line : List ℕ) (sign : Sign) (table : TableId) (rule : Fields) → Says line (Signed sign table rule) → IsLine line sign table rule
line_is line sign table rule says = by (name_of table) refl says.spelling
  where
    by : (named : Option (List ℕ)) → name_of table ≡ named → line ∷ [] ≡ option_map_or (λ (name : List ℕ). (sign_byte sign ∷ 32 ∷ field.printed (name ∷ rule)) ∷ []) named [] → IsLine line sign table rule
    by None is e = absurd cc
    by (Some name) is e = record { name = name; named = is; spelling = cc; writable = says.written.names; fields = says.written.whole }

pub says_line : (line : List ℕ) (sign : Sign) (table : TableId) (rule : Fields) → IsLine line sign table rule → Says line (Signed sign table rule)
says_line line sign table rule is = record {
  spelling = ap (λ (l : List ℕ). l ∷ []) is.spelling ∙ sym (ap (λ (o : Option (List ℕ)). option_map_or (λ (name : List ℕ). (sign_byte sign ∷ 32 ∷ field.printed (name ∷ rule)) ∷ []) o []) is.named);
  written = record { names = is.writable; whole = is.fields };
}

pub sign_at : ℕ → Sign
sign_at byte = if eqb byte 43 then Inserted else if eqb byte 45 then Removed else if eqb byte 60 then Old else New

pub sign_back : (sign : Sign) → sign_at (sign_byte sign) ≡ sign
unfolding sign_at
sign_back Inserted = refl
sign_back Removed = refl
sign_back Old = refl
sign_back New = refl

no_feed_sign : (sign : Sign) → eqb (sign_byte sign) 10 ≡ false
no_feed_sign Inserted = refl
no_feed_sign Removed = refl
no_feed_sign Old = refl
no_feed_sign New = refl

one_line : (line : List ℕ) (sign other : Sign) (table there : TableId) (rule new : Fields) → IsLine line sign table rule → IsLine line other there new → Signed sign table rule ≡ Signed other there new
one_line line sign other table there rule new a b =
    let e : sign_byte sign ∷ 32 ∷ field.printed (a.name ∷ rule) ≡ sign_byte other ∷ 32 ∷ field.printed (b.name ∷ new) = sym a.spelling ∙ b.spelling in
    let bytes : sign_byte sign ≡ sign_byte other = cc in
    let texts : field.printed (a.name ∷ rule) ≡ field.printed (b.name ∷ new) = cc in
    let signs : sign ≡ other = sym (sign_back sign) ∙ ap sign_at bytes ∙ sign_back other in
    let first = named_read table a.name rule a.named a.writable.few a.fields in
    let second = subst (λ (t : List ℕ). IsFields t (b.name ∷ new)) (sym texts) (named_read there b.name new b.named b.writable.few b.fields) in
    let fields : a.name ∷ rule ≡ b.name ∷ new = IsFields-once (field.printed (a.name ∷ rule)) (a.name ∷ rule) (b.name ∷ new) first second in
    let names : a.name ≡ b.name = cc in
    let rules : rule ≡ new = cc in
    let some : Some table ≡ Some there = sym (named_from_name table a.name a.named) ∙ ap table_named names ∙ named_from_name there b.name b.named in
    let tables : table ≡ there = cc in
    ap (λ (s : Sign). Signed s table rule) signs ∙ ap (λ (t : TableId). Signed other t rule) tables ∙ ap (λ (r : Fields). Signed other there r) rules

-- a line of a rule is not the last line
not_end : (line : List ℕ) (sign : Sign) (table : TableId) (rule : Fields) → IsLine line sign table rule → Says line End → ⊥
not_end line sign table rule a says =
    let e : line ∷ [] ≡ codes "." ∷ [] = says.spelling in
    let f : line ≡ sign_byte sign ∷ 32 ∷ field.printed (a.name ∷ rule) = a.spelling in
    absurd cc

-- a line says one thing
pub says_once : (line : List ℕ) (one other : EditItem) → Says line one → Says line other → one ≡ other
says_once line End End a b = refl
says_once line End (Signed sign table rule) a b = absurd (not_end line sign table rule (line_is line sign table rule b) a)
says_once line (Signed sign table rule) End a b = absurd (not_end line sign table rule (line_is line sign table rule a) b)
says_once line (Signed sign table rule) (Signed other there new) a b = one_line line sign other table there rule new (line_is line sign table rule a) (line_is line other there new b)

-- and holds no LF
pub says_whole : (line : List ℕ) (item : EditItem) → Says line item → has_byte 10 line ≡ false
says_whole line End says = let e : line ≡ codes "." = cc in ap (has_byte 10) e
says_whole line (Signed sign table rule) says =
    let a = line_is line sign table rule says in
    let whole : has_byte 10 (field.printed (a.name ∷ rule)) ≡ false = no_feed (field.printed (a.name ∷ rule)) (printed_whole (a.name ∷ rule) (named_fields table a.name rule a.named a.writable.few a.fields).whole_lines) in
    ap (has_byte 10) a.spelling ∙ rw (no_feed_sign sign, whole) refl

-- ---- where a reader stands

pub run : Place → List EditItem → Option Place
run place [] = Some place
run place (item ∷ items) = option_and_then (λ (after : Place). run after items) (option_map (λ (s : Place × Option Change). s.0) (step place item))

run_changes : (changes : List Change) (rest : List EditItem) → run Between (flat_map change_items changes ++ rest) ≡ run Between rest
unfolding run
run_changes [] rest = refl
run_changes (Insert table rule ∷ changes) rest = run_changes changes rest
run_changes (Remove table rule ∷ changes) rest = run_changes changes rest
run_changes (Replace table old new ∷ changes) rest = rw (itself table) (run_changes changes rest)

run_edit : (changes : List Change) → run Between (items_of changes) ≡ Some Ended
unfolding run
run_edit changes = run_changes changes (End ∷ [])

run_at : (place : Place) (rest : List EditItem) → run Between (items_at place ++ rest) ≡ run place rest
unfolding run
run_at Between rest = refl
run_at (Half table old) rest = refl
run_at Ended rest = refl

run_by : (changes : List Change) (place : Place) (rest : List EditItem) → run Between (items_by changes place ++ rest) ≡ run place rest
run_by changes place rest =
    ap (run Between) (append_assoc (flat_map change_items changes) (items_at place) rest) ∙ run_changes changes (items_at place ++ rest) ∙ run_at place rest

-- no edit goes on with an item that may not stand there
pub no_step : (changes more : List Change) (place : Place) (item : EditItem) (rest : List EditItem) → step place item ≡ None → items_of more ≡ items_by changes place ++ item ∷ rest → ⊥
unfolding run
no_step changes more place item rest none e =
    let stops : run place (item ∷ rest) ≡ None = ap (λ (o : Option (Place × Option Change)). option_and_then (λ (after : Place). run after rest) (option_map (λ (s : Place × Option Change). s.0) o)) none in
    let both : Some Ended ≡ None = sym (run_edit more) ∙ ap (run Between) e ∙ run_by changes place (item ∷ rest) ∙ stops in
    absurd cc

-- behind a whole edit the reader has ended
pub has_ended : (changes more : List Change) (place : Place) → items_of more ≡ items_by changes place → place ≡ Ended
unfolding run
has_ended changes more place e =
    let both : Some Ended ≡ Some place = sym (run_edit more) ∙ ap (run Between) (e ∙ sym (append-nil (items_by changes place))) ∙ run_by changes place [] in
    cc

Gives : Place → EditItem → Option (Place × Option Change) → Type 0
Gives place item None = ⊤
Gives place item (Some s) = flat_map change_items (option_to_list s.1) ++ items_at s.0 ≡ items_at place ++ item ∷ []

step_gives : (place : Place) (item : EditItem) → Gives place item (step place item)
unfolding Gives
step_gives Between End = refl
step_gives Between (Signed Inserted table rule) = refl
step_gives Between (Signed Removed table rule) = refl
step_gives Between (Signed Old table rule) = refl
step_gives Between (Signed New table rule) = tt
step_gives (Half table old) End = tt
step_gives (Half table old) (Signed Inserted there rule) = tt
step_gives (Half table old) (Signed Removed there rule) = tt
step_gives (Half table old) (Signed Old there rule) = tt
step_gives (Half table old) (Signed New there new) = by (is_table table there) refl
  where
    by : (b : Bool) → is_table table there ≡ b → Gives (Half table old) (Signed New there new) (if b then Some (Between, Some (Replace table old new)) else None)
    by true e = ap (λ (t : TableId). Signed Old table old ∷ Signed New t new ∷ []) (same_table table there e)
    by false e = tt
step_gives Ended item = tt

-- what was read behind one line more
pub after_step : (changes : List Change) (place after : Place) (item : EditItem) (change : Option Change) → step place item ≡ Some (after, change) → items_by (changes ++ option_to_list change) after ≡ items_by changes place ++ item ∷ []
unfolding Gives
after_step changes place after item change e =
    let gives : flat_map change_items (option_to_list change) ++ items_at after ≡ items_at place ++ item ∷ [] = subst (Gives place item) e (step_gives place item) in
    ap (λ (l : List EditItem). l ++ items_at after) (flat_map-append change_items changes (option_to_list change))
    ∙ append_assoc (flat_map change_items changes) (flat_map change_items (option_to_list change)) (items_at after)
    ∙ ap (λ (l : List EditItem). flat_map change_items changes ++ l) gives ∙ sym (append_assoc (flat_map change_items changes) (items_at place) (item ∷ []))

-- ---- an edit has one list of items

collect : List EditItem → List Change
collect [] = []
collect (End ∷ items) = []
collect (Signed Inserted table rule ∷ items) = Insert table rule ∷ collect items
collect (Signed Removed table rule ∷ items) = Remove table rule ∷ collect items
collect (Signed Old table old ∷ []) = []
collect (Signed Old table old ∷ End ∷ items) = []
collect (Signed Old table old ∷ Signed sign there new ∷ items) = Replace table old new ∷ collect items
collect (Signed New table rule ∷ items) = []

collected : (changes : List Change) → collect (items_of changes) ≡ changes
unfolding collect
collected [] = refl
collected (Insert table rule ∷ changes) = ap (λ (l : List Change). Insert table rule ∷ l) (collected changes)
collected (Remove table rule ∷ changes) = ap (λ (l : List Change). Remove table rule ∷ l) (collected changes)
collected (Replace table old new ∷ changes) = ap (λ (l : List Change). Replace table old new ∷ l) (collected changes)

pub changes_once : (one other : List Change) → items_of one ≡ items_of other → one ≡ other
changes_once one other e = sym (collected one) ∙ ap collect e ∙ collected other
