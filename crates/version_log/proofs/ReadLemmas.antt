-- The lines of an edit's text, and of a text that is none.
use Rattle.std.proofs.Common.{◌≡◌, ◌≢◌, ℕ, ◌+◌, ◌<◌, ◌≤◌, false, List, [], ◌∷◌, ◌++◌, append_assoc, append-nil, length, length-append, min, get_or, take, take_all, Option, Some, None, Result, Ok, Err, IfOk, IfErr, IsSome, IsUtf8, MatchResult, option_to_list, refl, sym, ap, subst, ◌∙◌, arith}
use Rattle.std.specs.Prelude.{flat_map}
use Rattle.std.specs.List.{AllByRecursion, AllZip}
use Rattle.std.proofs.lemmas.List.{take_at, take_more}
use Rattle.std.proofs.lemmas.List.Concat.{flat_map-append}
use Rattle.std.proofs.lemmas.Str.{IsCharBoundary-after_ascii, IsCharBoundary-before_ascii, IsUtf8-drop, IsUtf8-take}
use Rattle.std.proofs.Math.Seq.{drop-append-add, get_or-append_seam}
use Rattle.perm_base.specs.TableNames.{name_of}
use Rattle.policy_table.specs.declared.change.Change.{Change}
use Rattle.policy_table.specs.declared.change.Change.TheVariants.{Replace}
use Rattle.text_parts.proofs.CallerLemmas.{IsUtf8-from_lines, lines_of-cut, lines_of-last, lines_of-with_ends}
use Rattle.text_parts.specs.Lines.{has_byte, lines_of, with_ends}
use Rattle.version_log.proofs.ItemLemmas.{after_step, changes_once, has_ended, no_step, says_once, says_whole}
use Rattle.version_log.specs.EditText.{AreFront, IsEditFault, IsEditText, IsMalformed, IsStray, IsWhole, IsWritten, NameRules, NamesRule, change_items, edit_lines, item_lines, items_of, number_at, printed_edit}
use Rattle.version_log.specs.EditText.IsMalformed.{stray, cut}
use Rattle.version_log.specs.Helps.Items.{HasRead, Says, items_by, step}
use Rattle.version_log.specs.declared.edit_fault.EditFault.{EditFault}
use Rattle.version_log.specs.declared.edit_fault.EditFault.TheVariants.{Malformed, NoMemory}
use Rattle.version_log.specs.declared.edit_read.Place.{Place}
use Rattle.version_log.specs.declared.edit_read.Place.TheVariants.{Between, Half, Ended}
use Rattle.version_log.specs.declared.item.EditItem.{EditItem}
use Rattle.version_log.specs.declared.item.EditItem.TheVariants.{Signed, End}
use Rattle.version_log.specs.declared.item.Sign.TheVariants.{Old, New}

-- ---- lists side by side

zip_both : (lines more : List (List ℕ)) (items rest : List EditItem) → AllZip Says lines items → AllZip Says more rest → AllZip Says (lines ++ more) (items ++ rest)
zip_both [] more [] rest one other = other
zip_both [] more (item ∷ items) rest one other = absurd one
zip_both (line ∷ lines) more [] rest one other = absurd one
zip_both (line ∷ lines) more (item ∷ items) rest one other = (one.0, zip_both lines more items rest one.1 other)

-- items in two parts, beside lines in two parts
record InParts (lines more : List (List ℕ)) (all : List EditItem) : Type 0 where
  items : List EditItem
  rest : List EditItem
  parts : all ≡ items ++ rest
  one : AllZip Says lines items
  other : AllZip Says more rest

in_parts : (lines more : List (List ℕ)) (all : List EditItem) → AllZip Says (lines ++ more) all → InParts lines more all
in_parts [] more all says = record { items = []; rest = all; parts = refl; one = tt; other = says }
in_parts (line ∷ lines) more [] says = absurd says
in_parts (line ∷ lines) more (item ∷ all) says =
    let p = in_parts lines more all says.1 in
    record { items = item ∷ p.items; rest = p.rest; parts = ap (λ (l : List EditItem). item ∷ l) p.parts; one = (says.0, p.one); other = p.other }

all_once : (lines : List (List ℕ)) (one other : List EditItem) → AllZip Says lines one → AllZip Says lines other → one ≡ other
all_once [] [] [] a b = refl
all_once [] [] (item ∷ other) a b = absurd b
all_once [] (item ∷ one) other a b = absurd a
all_once (line ∷ lines) [] other a b = absurd a
all_once (line ∷ lines) (item ∷ one) [] a b = absurd b
all_once (line ∷ lines) (item ∷ one) (it ∷ other) a b =
    ap (λ (i : EditItem). i ∷ one) (says_once line item it a.0 b.0) ∙ ap (λ (l : List EditItem). it ∷ l) (all_once lines one other a.1 b.1)

lines_are : (lines : List (List ℕ)) (items : List EditItem) → AllZip Says lines items → lines ≡ flat_map item_lines items
lines_are [] [] says = refl
lines_are [] (item ∷ items) says = absurd says
lines_are (line ∷ lines) [] says = absurd says
lines_are (line ∷ lines) (item ∷ items) says =
    ap (λ (l : List (List ℕ)). line ∷ l) (lines_are lines items says.1) ∙ ap (λ (l : List (List ℕ)). l ++ flat_map item_lines items) says.0.spelling

all_written : (lines : List (List ℕ)) (items : List EditItem) → AllZip Says lines items → AllByRecursion IsWritten items
all_written [] [] says = tt
all_written [] (item ∷ items) says = absurd says
all_written (line ∷ lines) [] says = absurd says
all_written (line ∷ lines) (item ∷ items) says = (says.0.written, all_written lines items says.1)

all_whole : (lines : List (List ℕ)) (items : List EditItem) → AllZip Says lines items → AllByRecursion (λ (line : List ℕ). has_byte 10 line ≡ false) lines
all_whole [] items says = tt
all_whole (line ∷ lines) [] says = absurd says
all_whole (line ∷ lines) (item ∷ items) says = (says_whole line item says.0, all_whole lines items says.1)

-- items that can be written have a line each
item_says : (item : EditItem) (items : List EditItem) → IsWritten item → AllZip Says (flat_map item_lines items) items → AllZip Says (flat_map item_lines (item ∷ items)) (item ∷ items)
item_says End items written rest = (record { spelling = refl; written = written }, rest)
item_says (Signed sign table rule) items written rest = by (name_of table) refl written.names.named
  where
    by : (named : Option (List ℕ)) → name_of table ≡ named → IsSome named → AllZip Says (flat_map item_lines (Signed sign table rule ∷ items)) (Signed sign table rule ∷ items)
    by None is some = absurd cc
    by (Some name) is some =
        rw is (record { spelling = rw is refl; written = written }, rest)

edit_says : (items : List EditItem) → AllByRecursion IsWritten items → AllZip Says (flat_map item_lines items) items
edit_says [] written = tt
edit_says (item ∷ items) written = item_says item items written.0 (edit_says items written.1)

written_both : (items rest : List EditItem) → AllByRecursion IsWritten items → AllByRecursion IsWritten rest → AllByRecursion IsWritten (items ++ rest)
written_both [] rest one other = other
written_both (item ∷ items) rest one other = (one.0, written_both items rest one.1 other)

written_behind : (items rest : List EditItem) → AllByRecursion IsWritten (items ++ rest) → AllByRecursion IsWritten rest
written_behind [] rest all = all
written_behind (item ∷ items) rest all = written_behind items rest all.1

more_of : (Q : List ℕ → Type 0) (lines : List (List ℕ)) (line : List ℕ) → AllByRecursion Q lines → Q line → AllByRecursion Q (lines ++ line ∷ [])
more_of Q [] line all one = (one, tt)
more_of Q (first ∷ lines) line all one = (all.0, more_of Q lines line all.1 one)

last_of : (Q : List ℕ → Type 0) (lines : List (List ℕ)) (line : List ℕ) → AllByRecursion Q (lines ++ line ∷ []) → Q line
last_of Q [] line all = all.0
last_of Q (first ∷ lines) line all = last_of Q lines line all.1

front_of_all : (Q : List ℕ → Type 0) (lines more : List (List ℕ)) → AllByRecursion Q (lines ++ more) → AllByRecursion Q lines
front_of_all Q [] more all = tt
front_of_all Q (line ∷ lines) more all = (all.0, front_of_all Q lines more all.1)

-- ---- lines that were read are a front

front_by : (front : List (List ℕ)) (changes more : List Change) (place : Place) (rest : List EditItem) → HasRead front changes place → items_of more ≡ items_by changes place ++ rest → AllByRecursion IsWritten rest → AreFront front
front_by front changes more place rest read e written = record {
  changes = more;
  rest = flat_map item_lines rest;
  writable = subst (AllByRecursion IsWritten) (sym e) (written_both (items_by changes place) rest (all_written front (items_by changes place) read.says) written);
  utf8 = read.utf8;
  parts = ap (flat_map item_lines) e ∙ flat_map-append item_lines (items_by changes place) rest ∙ ap (λ (l : List (List ℕ)). l ++ flat_map item_lines rest) (sym (lines_are front (items_by changes place) read.says));
}

end_written : IsWritten End
end_written = record { names = tt; whole = tt }

pub front_read : (front : List (List ℕ)) (changes : List Change) (place : Place) → HasRead front changes place → AreFront front
front_read front changes Between read = front_by front changes changes Between (End ∷ []) read (ap (λ (l : List EditItem). l ++ End ∷ []) (sym (append-nil (flat_map change_items changes)))) (end_written, tt)
front_read front changes Ended read = front_by front changes changes Ended [] read (sym (append-nil (items_by changes Ended))) tt
front_read front changes (Half table old) read =
    let written = written_behind (flat_map change_items changes) (Signed Old table old ∷ []) (all_written front (items_by changes (Half table old)) read.says) in
    let items : items_of (changes ++ Replace table old old ∷ []) ≡ items_by changes (Half table old) ++ Signed New table old ∷ End ∷ []
    = ap (λ (l : List EditItem). l ++ End ∷ []) (flat_map-append change_items changes (Replace table old old ∷ []))
    ∙ append_assoc (flat_map change_items changes) (Signed Old table old ∷ Signed New table old ∷ []) (End ∷ []) ∙ sym (append_assoc (flat_map change_items changes) (Signed Old table old ∷ []) (Signed New table old ∷ End ∷ [])) in
    front_by front changes (changes ++ Replace table old old ∷ []) (Half table old) (Signed New table old ∷ End ∷ []) read items (record { names = written.0.names; whole = written.0.whole }, (end_written, tt))

-- a line behind them that is one of an edit's
record GoesOn (changes : List Change) (place : Place) (line : List ℕ) : Type 0 where
  more : List Change
  item : EditItem
  rest : List EditItem
  items : items_of more ≡ items_by changes place ++ item ∷ rest
  says : Says line item
  utf8 : IsUtf8 line

goes_on : (front : List (List ℕ)) (changes : List Change) (place : Place) (line : List ℕ) → HasRead front changes place → AreFront (front ++ line ∷ []) → GoesOn changes place line
goes_on front changes place line read f =
    let says : AllZip Says (front ++ line ∷ f.rest) (items_of f.changes)
    = subst (λ (l : List (List ℕ)). AllZip Says l (items_of f.changes)) (f.parts ∙ append_assoc front (line ∷ []) f.rest) (edit_says (items_of f.changes) f.writable) in
    let p = in_parts front (line ∷ f.rest) (items_of f.changes) says in
    let same : p.items ≡ items_by changes place = all_once front p.items (items_by changes place) p.one read.says in
    by p.rest p.other (p.parts ∙ ap (λ (l : List EditItem). l ++ p.rest) same)
  where
    by : (rest : List EditItem) → AllZip Says (line ∷ f.rest) rest → items_of f.changes ≡ items_by changes place ++ rest → GoesOn changes place line
    by [] other e = absurd other
    by (item ∷ rest) other e = record { more = f.changes; item = item; rest = rest; items = e; says = other.0; utf8 = last_of IsUtf8 front line f.utf8 }

pub stray_line : (front : List (List ℕ)) (changes : List Change) (place : Place) (line : List ℕ) → HasRead front changes place → (IsUtf8 line → (item : EditItem) → ¬ (Says line item)) → ¬ (AreFront (front ++ line ∷ []))
stray_line front changes place line read nothing f =
    let g = goes_on front changes place line read f in
    nothing g.utf8 g.item g.says

pub stray_item : (front : List (List ℕ)) (changes : List Change) (place : Place) (line : List ℕ) (item : EditItem) → HasRead front changes place → Says line item → step place item ≡ None → ¬ (AreFront (front ++ line ∷ []))
stray_item front changes place line item read says none f =
    let g = goes_on front changes place line read f in
    let same : g.item ≡ item = says_once line g.item item g.says says in
    no_step changes g.more place item g.rest none (g.items ∙ ap (λ (i : EditItem). items_by changes place ++ i ∷ g.rest) same)

pub taken_line : (front : List (List ℕ)) (changes all : List Change) (place after : Place) (line : List ℕ) (item : EditItem) (change : Option Change) → HasRead front changes place → Says line item × IsUtf8 line → has_byte 10 line ≡ false
    → step place item ≡ Some (after, change) → all ≡ changes ++ option_to_list change → HasRead (front ++ line ∷ []) all after
taken_line front changes all place after line item change read is whole steps e =
    let items : items_by all after ≡ items_by changes place ++ item ∷ [] = ap (λ (l : List Change). items_by l after) e ∙ after_step changes place after item change steps in
    record {
      says = subst (AllZip Says (front ++ line ∷ [])) (sym items) (zip_both front (line ∷ []) (items_by changes place) (item ∷ []) read.says (is.0, tt));
      utf8 = more_of IsUtf8 front line read.utf8 is.1;
      whole = more_of (λ (l : List ℕ). has_byte 10 l ≡ false) front line read.whole whole;
    }

-- ---- texts

ended_lines : (front : List (List ℕ)) → AllByRecursion (λ (line : List ℕ). has_byte 10 line ≡ false) front → lines_of (with_ends front ++ []) ≡ front
unfolding lines_of
ended_lines front whole = lines_of-with_ends front [] whole ∙ append-nil front

lines_of_ended : (front : List (List ℕ)) → AllByRecursion (λ (line : List ℕ). has_byte 10 line ≡ false) front → lines_of (with_ends front) ≡ front
lines_of_ended front whole = ap lines_of (sym (append-nil (with_ends front))) ∙ ended_lines front whole

-- the lines of an edit's text are those of the edit
text_lines : (text : List ℕ) (changes : List Change) → IsEditText text changes → lines_of text ≡ edit_lines changes
unfolding printed_edit
text_lines text changes is = ap lines_of is.text ∙ lines_of_ended (edit_lines changes) (all_whole (edit_lines changes) (items_of changes) (edit_says (items_of changes) is.writable))

text_says : (text : List ℕ) (changes : List Change) → IsEditText text changes → AllZip Says (lines_of text) (items_of changes)
text_says text changes is = subst (λ (l : List (List ℕ)). AllZip Says l (items_of changes)) (sym (text_lines text changes is)) (edit_says (items_of changes) is.writable)

-- a text is one edit's
pub edit_once : (text : List ℕ) (one other : List Change) → IsEditText text one → IsEditText text other → one ≡ other
edit_once text one other a b = changes_once one other (all_once (lines_of text) (items_of one) (items_of other) (text_says text one a) (text_says text other b))

-- what was read is an edit's text, where the reader has ended
pub edit_read : (front : List (List ℕ)) (changes : List Change) (rest : List ℕ) → HasRead front changes Ended → rest ≡ [] → IsEditText (with_ends front ++ rest) changes
unfolding printed_edit
edit_read front changes rest read none =
    let text : with_ends front ++ rest ≡ with_ends front = ap (λ (r : List ℕ). with_ends front ++ r) none ∙ append-nil (with_ends front) in
    record {
      writable = all_written front (items_of changes) read.says;
      utf8 = subst IsUtf8 (sym text) (IsUtf8-from_lines (with_ends front) (subst (AllByRecursion IsUtf8) (sym (lines_of_ended front read.whole)) read.utf8));
      text = text ∙ ap with_ends (lines_are front (items_of changes) read.says);
    }

-- what was read is cut short, where it has not
pub cut_between : (front : List (List ℕ)) (changes : List Change) (place : Place) (rest : List ℕ) (number : ℕ) → HasRead front changes place → place ≢ Ended → rest ≡ [] → number ≡ number_at (length front)
    → IsMalformed (with_ends front ++ rest) number
cut_between front changes place rest number read going none numbered =
    let lines : lines_of (with_ends front ++ rest) ≡ front = ap (λ (r : List ℕ). lines_of (with_ends front ++ r)) none ∙ ended_lines front read.whole in
    cut (record {
      front = subst AreFront (sym lines) (front_read front changes place read);
      no_edit = λ more is. going (has_ended changes more place (all_once front (items_of more) (items_by changes place) (subst (λ (l : List (List ℕ)). AllZip Says l (items_of more)) lines (text_says (with_ends front ++ rest) more is)) read.says));
      place = numbered ∙ ap (λ (l : List (List ℕ)). number_at (length l)) (sym lines);
    })

last_lines : (front : List (List ℕ)) (rest : List ℕ) → AllByRecursion (λ (line : List ℕ). has_byte 10 line ≡ false) front → 0 < length rest → has_byte 10 rest ≡ false → lines_of (with_ends front ++ rest) ≡ front ++ rest ∷ []
last_lines front rest whole some none = lines_of-with_ends front rest whole ∙ ap (λ (l : List (List ℕ)). front ++ l) (lines_of-last rest some none)

-- the last line belongs, but lacks its LF
pub cut_line : (front : List (List ℕ)) (changes all : List Change) (place after : Place) (rest : List ℕ) (number : ℕ) → HasRead front changes place → HasRead (front ++ rest ∷ []) all after → 0 < length rest → has_byte 10 rest ≡ false
    → number ≡ number_at (length front + 1) → IsMalformed (with_ends front ++ rest) number
unfolding printed_edit
cut_line front changes all place after rest number read taken some none numbered =
    let lines : lines_of (with_ends front ++ rest) ≡ front ++ rest ∷ [] = last_lines front rest read.whole some none in
    let longer : with_ends (front ++ rest ∷ []) ≡ with_ends front ++ (rest ++ 10 ∷ []) = flat_map-append (λ (t : List ℕ). t ++ 10 ∷ []) front (rest ∷ []) ∙ ap (λ (t : List ℕ). with_ends front ++ t) (append-nil (rest ++ 10 ∷ [])) in
    cut (record {
      front = subst AreFront (sym lines) (front_read (front ++ rest ∷ []) all after taken);
      no_edit = λ more is.
          let same : with_ends front ++ rest ≡ with_ends front ++ (rest ++ 10 ∷ []) = is.text ∙ ap with_ends (sym (text_lines (with_ends front ++ rest) more is) ∙ lines) ∙ longer in
          let sizes : length (with_ends front ++ rest) ≡ length (with_ends front ++ (rest ++ 10 ∷ [])) = ap (λ (t : List ℕ). length t) same in
          let one : length (with_ends front ++ rest) ≡ length (with_ends front) + length rest = length-append (with_ends front) rest in
          let two : length (with_ends front ++ (rest ++ 10 ∷ [])) ≡ length (with_ends front) + length (rest ++ 10 ∷ []) = length-append (with_ends front) (rest ++ 10 ∷ []) in
          let three : length (rest ++ 10 ∷ []) ≡ length rest + 1 = length-append rest (10 ∷ []) in
          absurd (omega (arith, sizes, one, two, three));
      place = numbered ∙ ap number_at (sym (ap (λ (l : List (List ℕ)). length l) lines ∙ length-append front (rest ∷ [])));
    })

-- a line does not belong
pub stray_at : (text : List ℕ) (front behind : List (List ℕ)) (changes : List Change) (place : Place) (line : List ℕ) (number : ℕ) → HasRead front changes place → lines_of text ≡ front ++ line ∷ behind → ¬ (AreFront (front ++ line ∷ []))
    → number ≡ number_at (length front) → IsMalformed text number
stray_at text front behind changes place line number read lines none numbered =
    stray (record { before = front; here = line; behind = behind; parts = lines; front = front_read front changes place read; stray = none; place = numbered })

pub stray_last : (front : List (List ℕ)) (changes : List Change) (place : Place) (rest : List ℕ) (number : ℕ) → HasRead front changes place → ¬ (AreFront (front ++ rest ∷ [])) → 0 < length rest → has_byte 10 rest ≡ false → number ≡ number_at (length front)
    → IsMalformed (with_ends front ++ rest) number
stray_last front changes place rest number read none some whole numbered = stray_at (with_ends front ++ rest) front [] changes place rest number read (last_lines front rest read.whole some whole) none numbered

-- ---- where a reader of a text stands

pub record IsUpTo (text rest : List ℕ) (changes : List Change) (place : Place) (number : ℕ) : Type 0 where
  pub front : List (List ℕ)
  pub read : HasRead front changes place
  pub parts : text ≡ with_ends front ++ rest
  pub numbered : number ≡ number_at (length front)

cut_once : (text rest line after : List ℕ) (front : List (List ℕ)) → text ≡ with_ends front ++ rest → rest ≡ line ++ 10 ∷ after → text ≡ with_ends (front ++ line ∷ []) ++ after
cut_once text rest line after front parts e =
    let longer : with_ends (front ++ line ∷ []) ≡ with_ends front ++ (line ++ 10 ∷ []) = flat_map-append (λ (t : List ℕ). t ++ 10 ∷ []) front (line ∷ []) ∙ ap (λ (t : List ℕ). with_ends front ++ t) (append-nil (line ++ 10 ∷ [])) in
    let regroup : with_ends front ++ (line ++ 10 ∷ after) ≡ (with_ends front ++ (line ++ 10 ∷ [])) ++ after = simp append_assoc in
    parts ∙ ap (λ (r : List ℕ). with_ends front ++ r) e ∙ regroup ∙ ap (λ (t : List ℕ). t ++ after) (sym longer)

pub line_more : (text rest line after : List ℕ) (changes all : List Change) (place next : Place) (number new : ℕ) (at : IsUpTo text rest changes place number) → rest ≡ line ++ 10 ∷ after → HasRead (at.front ++ line ∷ []) all next
    → new ≡ min (number + 1) 4294967295 → IsUpTo text after all next new
line_more text rest line after changes all place next number new at e taken numbered =
    let size : length (at.front ++ line ∷ []) ≡ length at.front + 1 = length-append at.front (line ∷ []) in
    record {
      front = at.front ++ line ∷ [];
      read = taken;
      parts = cut_once text rest line after at.front at.parts e;
      numbered = numbered ∙ ap (λ (n : ℕ). min (n + 1) 4294967295) at.numbered ∙ omega (arith, size);
    }

pub line_stray : (text rest line after : List ℕ) (changes : List Change) (place : Place) (number : ℕ) (at : IsUpTo text rest changes place number) → rest ≡ line ++ 10 ∷ after → has_byte 10 line ≡ false → ¬ (AreFront (at.front ++ line ∷ []))
    → IsMalformed text number
line_stray text rest line after changes place number at e whole none =
    let lines : lines_of text ≡ at.front ++ line ∷ lines_of after
    = ap lines_of (at.parts ∙ ap (λ (r : List ℕ). with_ends at.front ++ r) e) ∙ lines_of-with_ends at.front (line ++ 10 ∷ after) at.read.whole ∙ ap (λ (l : List (List ℕ)). at.front ++ l) (lines_of-cut line after whole) in
    stray_at text at.front (lines_of after) changes place line number at.read lines none at.numbered

-- ---- one fault, and no edit beside it

fewer_front : (lines more : List (List ℕ)) → AreFront (lines ++ more) → AreFront lines
fewer_front lines more f = record {
  changes = f.changes;
  rest = more ++ f.rest;
  writable = f.writable;
  utf8 = front_of_all IsUtf8 lines more f.utf8;
  parts = f.parts ∙ append_assoc lines more f.rest;
}

edit_front : (text : List ℕ) (changes : List Change) → IsEditText text changes → AllByRecursion IsUtf8 (lines_of text) → AreFront (lines_of text)
edit_front text changes is utf8 = record { changes = changes; rest = []; writable = is.writable; utf8 = utf8; parts = sym (text_lines text changes is) ∙ sym (append-nil (lines_of text)) }

-- the lines of UTF-8 are UTF-8
utf8_parts : (line rest : List ℕ) → IsUtf8 (line ++ 10 ∷ rest) → IsUtf8 line × IsUtf8 rest
utf8_parts line rest utf8 =
    let size : length (line ++ 10 ∷ rest) ≡ length line + length (10 ∷ rest) = length-append line (10 ∷ rest) in
    let here : get_or (line ++ 10 ∷ rest) (length line) 0 ≡ 10 = get_or-append_seam line 10 rest 0 in
    let start = IsCharBoundary-before_ascii (line ++ 10 ∷ rest) (length line) (omega (arith, size)) (omega (arith, here)) in
    let end = IsCharBoundary-after_ascii (line ++ 10 ∷ rest) (length line) utf8 (omega (arith, size)) (omega (arith, here)) in (
      subst IsUtf8 (take_at line (10 ∷ rest) (length line) refl) (IsUtf8-take (line ++ 10 ∷ rest) (length line) utf8 start),
      subst IsUtf8 (drop-append-add line (10 ∷ rest) 1) (IsUtf8-drop (line ++ 10 ∷ rest) (length line + 1) utf8 end),
    )

ended_utf8 : (lines : List (List ℕ)) → IsUtf8 (with_ends lines) → AllByRecursion IsUtf8 lines
ended_utf8 [] utf8 = tt
ended_utf8 (line ∷ lines) utf8 =
    let parts = utf8_parts line (with_ends lines) (subst IsUtf8 (append_assoc line (10 ∷ []) (with_ends lines)) utf8) in
    (parts.0, ended_utf8 lines parts.1)

whole_front : (text : List ℕ) (changes : List Change) → IsEditText text changes → AreFront (lines_of text)
unfolding printed_edit
whole_front text changes is =
    let lines : lines_of text ≡ edit_lines changes = text_lines text changes is in
    edit_front text changes is (subst (AllByRecursion IsUtf8) (sym lines) (ended_utf8 (edit_lines changes) (subst IsUtf8 is.text is.utf8)))

-- a text with a fault is no edit's
pub fault_no_edit : (text : List ℕ) (number : ℕ) (changes : List Change) → IsMalformed text number → ¬ (IsEditText text changes)
fault_no_edit text number changes (cut c) is = c.no_edit changes is
fault_no_edit text number changes (stray s) is =
    let parts : lines_of text ≡ (s.before ++ s.here ∷ []) ++ s.behind = s.parts ∙ sym (append_assoc s.before (s.here ∷ []) s.behind) in
    s.stray (fewer_front (s.before ++ s.here ∷ []) s.behind (subst AreFront parts (whole_front text changes is)))

-- a stray line is no front's, so there is one
stray_no_front : (text : List ℕ) (number : ℕ) → IsStray text number → ¬ (AreFront (lines_of text))
stray_no_front text number s front =
    let parts : lines_of text ≡ (s.before ++ s.here ∷ []) ++ s.behind = s.parts ∙ sym (append_assoc s.before (s.here ∷ []) s.behind) in
    s.stray (fewer_front (s.before ++ s.here ∷ []) s.behind (subst AreFront parts front))

-- of two lines with what stands before them, the first stands before the second, or they are at one place
before_other : (front before other behind rest : List (List ℕ)) (here there : List ℕ) → before ++ here ∷ behind ≡ other ++ there ∷ rest → ¬ (AreFront (front ++ (before ++ here ∷ []))) → AreFront (front ++ other) → length other ≤ length before
before_other front before [] behind rest here there e none front_is = omega arith
before_other front [] (line ∷ other) behind rest here there e none front_is =
    let same : here ≡ line = cc in
    let parts : front ++ line ∷ other ≡ (front ++ line ∷ []) ++ other = sym (append_assoc front (line ∷ []) other) in
    absurd (none (subst (λ (l : List ℕ). AreFront (front ++ l ∷ [])) (sym same) (fewer_front (front ++ line ∷ []) other (subst AreFront parts front_is))))
before_other front (line ∷ before) (first ∷ other) behind rest here there e none front_is =
    let same : line ≡ first = cc in
    let tails : before ++ here ∷ behind ≡ other ++ there ∷ rest = cc in
    let one : (front ++ line ∷ []) ++ (before ++ here ∷ []) ≡ front ++ line ∷ (before ++ here ∷ []) = append_assoc front (line ∷ []) (before ++ here ∷ []) in
    let two : front ++ first ∷ other ≡ (front ++ line ∷ []) ++ other = ap (λ (l : List ℕ). front ++ l ∷ other) (sym same) ∙ sym (append_assoc front (line ∷ []) other) in
    let shorter : length other ≤ length before = before_other (front ++ line ∷ []) before other behind rest here there tails (λ f. none (subst AreFront one f)) (subst AreFront two front_is) in
    omega (arith, shorter)

-- a text has one fault
pub fault_once : (text : List ℕ) (one other : ℕ) → IsMalformed text one → IsMalformed text other → one ≡ other
fault_once text one other (cut a) (cut b) = a.place ∙ sym b.place
fault_once text one other (cut a) (stray b) = absurd (stray_no_front text other b a.front)
fault_once text one other (stray a) (cut b) = absurd (stray_no_front text one a b.front)
fault_once text one other (stray a) (stray b) =
    let fewer : length b.before ≤ length a.before = before_other [] a.before b.before a.behind b.behind a.here b.here (sym a.parts ∙ b.parts) a.stray b.front in
    let more : length a.before ≤ length b.before = before_other [] b.before a.before b.behind a.behind b.here a.here (sym b.parts ∙ a.parts) b.stray a.front in
    a.place ∙ ap number_at (omega (arith, fewer, more)) ∙ sym b.place

-- ---- the answer of a reader

pub only_from : (text : List ℕ) (result : Result (List Change) EditFault) (changes : List Change) → IfOk result (IsEditText text) → IfErr result (λ (fault : EditFault). fault ≢ NoMemory → IsEditFault text fault) → IsEditText text changes
    → MatchResult result (λ (edit : List Change). edit ≡ changes) (λ (fault : EditFault). fault ≡ NoMemory)
only_from text (Ok edit) changes found fault is = edit_once text edit changes found is
only_from text (Err (Malformed line)) changes found fault is = absurd (fault_no_edit text line changes (fault (λ e. absurd cc)) is)
only_from text (Err NoMemory) changes found fault is = refl

pub only_fault_from : (text : List ℕ) (result : Result (List Change) EditFault) (first : EditFault) → IfOk result (IsEditText text) → IfErr result (λ (fault : EditFault). fault ≢ NoMemory → IsEditFault text fault) → IsEditFault text first
    → MatchResult result (λ (edit : List Change). ⊥) (λ (fault : EditFault). fault ≢ NoMemory → fault ≡ first)
only_fault_from text result NoMemory found fault is = absurd is
only_fault_from text (Ok edit) (Malformed line) found fault is = fault_no_edit text line edit is found
only_fault_from text (Err (Malformed number)) (Malformed line) found fault is = λ some. ap (λ (n : ℕ). Malformed n) (fault_once text number line (fault some) is)
only_fault_from text (Err NoMemory) (Malformed line) found fault is = λ some. absurd (some refl)

-- ---- what is printed

written_of : (items : List EditItem) → AllByRecursion NamesRule items → AllByRecursion IsWhole items → AllByRecursion IsWritten items
written_of [] names whole = tt
written_of (item ∷ items) names whole = (record { names = names.0; whole = whole.0 }, written_of items names.1 whole.1)

whole_more : (items rest : List EditItem) → AllByRecursion IsWhole items → AllByRecursion IsWhole rest → AllByRecursion IsWhole (items ++ rest)
whole_more [] rest one other = other
whole_more (item ∷ items) rest one other = (one.0, whole_more items rest one.1 other)

pub change_whole : (changes : List Change) (at : ℕ) (change : Change) → at < length changes → change ≡ get_or changes at change → AllByRecursion IsWhole (flat_map change_items (take at changes)) → AllByRecursion IsWhole (change_items change)
    → AllByRecursion IsWhole (flat_map change_items (take (at + 1) changes))
change_whole changes at change within is all one =
    let next : take (at + 1) changes ≡ take at changes ++ change ∷ [] = take_more changes at change within ∙ ap (λ (c : Change). take at changes ++ c ∷ []) (sym is) in
    let items : flat_map change_items (take (at + 1) changes) ≡ flat_map change_items (take at changes) ++ change_items change
    = ap (flat_map change_items) next ∙ flat_map-append change_items (take at changes) (change ∷ []) ∙ ap (λ (l : List EditItem). flat_map change_items (take at changes) ++ l) (append-nil (change_items change)) in
    subst (AllByRecursion IsWhole) (sym items) (whole_more (flat_map change_items (take at changes)) (change_items change) all one)

-- what is printed of an edit is its text
pub printed_is_text : (changes : List Change) (at : ℕ) (text : List ℕ) → length changes ≤ at → text ≡ printed_edit changes → IsUtf8 text → AllByRecursion IsWhole (flat_map change_items (take at changes)) → NameRules changes → IsEditText text changes
printed_is_text changes at text all is utf8 whole names =
    let each : AllByRecursion IsWhole (flat_map change_items changes) = subst (λ (l : List Change). AllByRecursion IsWhole (flat_map change_items l)) (take_all at changes all) whole in
    record {
      writable = written_of (items_of changes) names (whole_more (flat_map change_items changes) (End ∷ []) each (tt, tt));
      utf8 = utf8;
      text = is;
    }

-- ---- the laws

pub one_fault : (text : List ℕ) (one other : EditFault) → IsEditFault text one → IsEditFault text other → one ≡ other
one_fault text NoMemory other a b = absurd a
one_fault text (Malformed line) NoMemory a b = absurd b
one_fault text (Malformed line) (Malformed number) a b = ap (λ (n : ℕ). Malformed n) (fault_once text line number a b)

pub no_edit : (text : List ℕ) (fault : EditFault) (changes : List Change) → IsEditFault text fault → ¬ (IsEditText text changes)
no_edit text NoMemory changes is edit = absurd is
no_edit text (Malformed line) changes is edit = fault_no_edit text line changes is edit

-- ---- a text whose lines were all read

pub cut_text : (text : List ℕ) (front : List (List ℕ)) (changes : List Change) (place : Place) → HasRead front changes place → lines_of text ≡ front → ((more : List Change) → ¬ (IsEditText text more)) → IsMalformed text (number_at (length front))
cut_text text front changes place read lines none = cut (record {
  front = subst AreFront (sym lines) (front_read front changes place read);
  no_edit = none;
  place = ap (λ (l : List (List ℕ)). number_at (length l)) (sym lines);
})

-- where it is an edit's, the reader has ended, and each line its LF
pub ended_place : (text : List ℕ) (front : List (List ℕ)) (changes more : List Change) (place : Place) → HasRead front changes place → lines_of text ≡ front → IsEditText text more → place ≡ Ended
ended_place text front changes more place read lines is =
    has_ended changes more place (all_once front (items_of more) (items_by changes place) (subst (λ (l : List (List ℕ)). AllZip Says l (items_of more)) lines (text_says text more is)) read.says)

pub ended_text : (text : List ℕ) (front : List (List ℕ)) (more : List Change) → lines_of text ≡ front → IsEditText text more → text ≡ with_ends front
unfolding printed_edit
ended_text text front more lines is = is.text ∙ ap with_ends (sym (text_lines text more is) ∙ lines)
