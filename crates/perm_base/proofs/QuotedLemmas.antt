-- Fields in double quotes.
use Rattle.std.proofs.Common.{◌≡◌, ◌≢◌, ℕ, ◌+◌, ◌-◌, ◌<◌, ◌≤◌, true, false, List, [], ◌∷◌, ◌++◌, length, eqb, Option, Some, None, Result, Ok, Err, refl, sym, ap, ◌∙◌, arith, add-one}
use Rattle.std.proofs.lemmas.Bool.{ne_eqb, or_parts}
use Rattle.std.specs.Prelude.{position}
use Rattle.std.proofs.lemmas.List.{append_assoc, append-nil}
use Rattle.text_parts.specs.Lines.{has_byte}
use Rattle.text_parts.specs.Blanks.{before_blanks, behind_blanks}
use Rattle.perm_base.specs.declared.quoted.FieldFault.{FieldFault}
use Rattle.perm_base.specs.declared.quoted.FieldFault.TheVariants.{Quote, TooMany, NoMemory}
use Rattle.perm_base.specs.LineEnds.{is_line_end, has_line_end}
use Rattle.perm_base.specs.FieldLine.{doubled, in_quotes, needs_quotes, printed_field}
use Rattle.perm_base.specs.FieldSteps.{IsCutAt, Read, Fails, before_comma, behind_comma, quoted_text, more_quoted, more_fields, with_next, fields_within, first_field, full_field, plain_field, quoted_field, closed_field, column_of, line_end_column, place_column, quoted_part, fields_of}

-- commas
pub at_comma : (before behind : List ℕ) → has_byte 44 before ≡ false → (before_comma (before ++ 44 ∷ behind) ≡ before) × (behind_comma (before ++ 44 ∷ behind) ≡ Some behind)
unfolding before_comma behind_comma
at_comma [] behind none = (refl, refl)
at_comma (byte ∷ before) behind none =
    let here = or_parts (eqb byte 44) (has_byte 44 before) none in
    let rest = at_comma before behind here.1 in
    (rw (here.0) (ap (λ (t : List ℕ). byte ∷ t) rest.0), rw (here.0) (rest.1))

pub before_comma-cut : (text before behind : List ℕ) → IsCutAt 44 text before behind → (before_comma text ≡ before) × (behind_comma text ≡ Some behind)
before_comma-cut text before behind cut =
    let there = at_comma before behind cut.first in
    (ap before_comma cut.parts ∙ there.0, ap behind_comma cut.parts ∙ there.1)

pub before_comma-none : (text : List ℕ) → has_byte 44 text ≡ false → (before_comma text ≡ text) × (behind_comma text ≡ None)
unfolding before_comma behind_comma
before_comma-none [] none = (refl, refl)
before_comma-none (byte ∷ text) none =
    let here = or_parts (eqb byte 44) (has_byte 44 text) none in
    let rest = before_comma-none text here.1 in
    (rw (here.0) (ap (λ (t : List ℕ). byte ∷ t) rest.0), rw (here.0) (rest.1))

-- one more byte that is no quote
pub more_byte : (byte : ℕ) (rest : List ℕ) → eqb byte 34 ≡ false → quoted_text (byte ∷ rest) ≡ more_quoted (byte ∷ []) (quoted_text rest)
unfolding quoted_text
more_byte byte [] none = rw none refl
more_byte byte (next ∷ rest) none = rw none refl

more_twice : (byte : ℕ) (front : List ℕ) (found : Option (List ℕ × List ℕ)) → more_quoted (byte ∷ []) (more_quoted front found) ≡ more_quoted (byte ∷ front) found
more_twice byte front None = refl
more_twice byte front (Some cut) = refl

more_none : (found : Option (List ℕ × List ℕ)) → more_quoted [] found ≡ found
more_none None = refl
more_none (Some cut) = refl

pub more_more : (front next : List ℕ) (found : Option (List ℕ × List ℕ)) → more_quoted front (more_quoted next found) ≡ more_quoted (front ++ next) found
more_more front next None = refl
more_more front next (Some cut) = ap (λ (t : List ℕ). Some (t, cut.1)) (sym (append_assoc front next cut.0))

before_quote : (before rest : List ℕ) → has_byte 34 before ≡ false → quoted_text (before ++ rest) ≡ more_quoted before (quoted_text rest)
before_quote [] rest none = sym (more_none (quoted_text rest))
before_quote (byte ∷ before) rest none =
    let here = or_parts (eqb byte 34) (has_byte 34 before) none in
    more_byte byte (before ++ rest) here.0 ∙ ap (more_quoted (byte ∷ [])) (before_quote before rest here.1) ∙ more_twice byte before (quoted_text rest)

pub never_closed : (text : List ℕ) → has_byte 34 text ≡ false → quoted_text text ≡ None
unfolding quoted_text
never_closed text none = ap quoted_text (sym (append-nil text)) ∙ before_quote text [] none

pub closing : (after : List ℕ) → ((behind : List ℕ) → after ≢ 34 ∷ behind) → quoted_text (34 ∷ after) ≡ Some ([], after)
unfolding quoted_text
closing [] other = refl
closing (next ∷ after) other =
    let here : eqb next 34 ≡ false = ne_eqb next 34 (λ e. other after (ap (λ (b : ℕ). b ∷ after) e)) in
    rw here refl

pub twice : (rest : List ℕ) → quoted_text (34 ∷ 34 ∷ rest) ≡ more_quoted (34 ∷ []) (quoted_text rest)
unfolding quoted_text
twice rest = refl

pub closed_at : (text before after : List ℕ) → IsCutAt 34 text before after → ((behind : List ℕ) → after ≢ 34 ∷ behind) → quoted_text text ≡ Some (before, after)
closed_at text before after cut other = ap quoted_text cut.parts ∙ before_quote before (34 ∷ after) cut.first ∙ ap (more_quoted before) (closing after other) ∙ ap (λ (t : List ℕ). Some (t, after)) (append-nil before)

pub doubled_at : (text before after rest : List ℕ) → IsCutAt 34 text before after → after ≡ 34 ∷ rest → quoted_text text ≡ more_quoted (before ++ 34 ∷ []) (quoted_text rest)
doubled_at text before after rest cut e = ap quoted_text (cut.parts ∙ ap (λ (a : List ℕ). before ++ 34 ∷ a) e) ∙ before_quote before (34 ∷ 34 ∷ rest) cut.first ∙ ap (more_quoted before) (twice rest) ∙ more_more before (34 ∷ []) (quoted_text rest)

-- the fields that are read
pub more_fields-more : (front : List (List ℕ)) (text : List ℕ) (found : Result (List (List ℕ)) FieldFault) → more_fields front (more_fields (text ∷ []) found) ≡ more_fields (front ++ text ∷ []) found
more_fields-more front text (Ok fields) = ap Ok (sym (append_assoc front (text ∷ []) fields))
more_fields-more front text (Err fault) = refl

pub more_fields-none : (found : Result (List (List ℕ)) FieldFault) → more_fields [] found ≡ found
more_fields-none (Ok fields) = refl
more_fields-none (Err fault) = refl

pub next_of : (room size : ℕ) (rest : List ℕ) (read : Result Read FieldFault) → first_field size rest ≡ read → fields_within (room + 1) size rest ≡ with_next (fields_within room size) read
unfolding fields_within
next_of room size rest read e = rw add-one (ap (with_next (fields_within room size)) e)

-- doubled quotes
at_quote : (before after : List ℕ) → has_byte 34 before ≡ false → doubled (before ++ 34 ∷ after) ≡ before ++ 34 ∷ 34 ∷ doubled after
unfolding doubled
at_quote [] after none = refl
at_quote (byte ∷ before) after none =
    let here = or_parts (eqb byte 34) (has_byte 34 before) none in
    rw (here.0) (ap (λ (t : List ℕ). byte ∷ t) (at_quote before after here.1))

pub doubled-at : (text before after : List ℕ) → IsCutAt 34 text before after → doubled text ≡ before ++ 34 ∷ 34 ∷ doubled after
doubled-at text before after cut = ap doubled cut.parts ∙ at_quote before after cut.first

pub doubled-none : (text : List ℕ) → has_byte 34 text ≡ false → doubled text ≡ text
unfolding doubled
doubled-none [] none = refl
doubled-none (byte ∷ text) none =
    let here = or_parts (eqb byte 34) (has_byte 34 text) none in
    rw (here.0) (ap (λ (t : List ℕ). byte ∷ t) (doubled-none text here.1))

-- the parts of a field
pub closed_end : (size : ℕ) (text after : List ℕ) → length after ≡ 0 → closed_field size text after ≡ Ok (text, None)
unfolding closed_field
closed_end size text [] e = refl
closed_end size text (byte ∷ after) e = absurd (omega arith)

pub closed_comma : (size : ℕ) (text after behind : List ℕ) → after ≡ 44 ∷ behind → closed_field size text after ≡ Ok (text, Some behind)
unfolding closed_field
closed_comma size text after behind e = ap (closed_field size text) e

pub closed_other : (size : ℕ) (text after : List ℕ) → 0 < length after → ((behind : List ℕ) → after ≢ 44 ∷ behind) → closed_field size text after ≡ Err (Quote (column_of size (length after)))
unfolding closed_field
closed_other size text [] some other = absurd (omega arith)
closed_other size text (byte ∷ after) some other =
    let here : eqb byte 44 ≡ false = ne_eqb byte 44 (λ e. other after (ap (λ (b : ℕ). b ∷ after) e)) in
    rw here refl

pub line_end_column-at : (size at : ℕ) (bytes : List ℕ) → position is_line_end bytes ≡ Some at → line_end_column size bytes ≡ column_of size (length bytes - at)
unfolding line_end_column
line_end_column-at size at bytes e = ap (place_column size bytes) e

pub line_end_column-none : (size : ℕ) (bytes : List ℕ) → position is_line_end bytes ≡ None → line_end_column size bytes ≡ column_of size 0
unfolding line_end_column
line_end_column-none size bytes e = ap (place_column size bytes) e

pub plain_fault : (size column : ℕ) (bytes before : List ℕ) → before ≡ before_comma bytes → has_line_end before ≡ true → column ≡ line_end_column size bytes → plain_field size bytes ≡ Err (Quote column)
unfolding plain_field
plain_fault size column bytes before e holds at =
    let here : has_line_end (before_comma bytes) ≡ true = ap has_line_end (sym e) ∙ holds in
    rw (here, at) refl

pub plain_read : (size : ℕ) (bytes before text : List ℕ) (behind : Option (List ℕ)) → before ≡ before_comma bytes → has_line_end before ≡ false → text ≡ before_blanks before → behind ≡ behind_comma bytes → plain_field size bytes ≡ Ok (text, behind)
unfolding plain_field
plain_read size bytes before text behind e none is more =
    let here : has_line_end (before_comma bytes) ≡ false = ap has_line_end (sym e) ∙ none in
    rw (here, more, is, e) refl

pub quoted_open : (size : ℕ) (bytes : List ℕ) → quoted_text bytes ≡ None → quoted_field size bytes ≡ Err (Quote (column_of size (length bytes + 1)))
unfolding quoted_field
quoted_open size bytes e = ap (quoted_part size bytes) e

pub quoted_fault : (size column : ℕ) (bytes text after : List ℕ) → quoted_text bytes ≡ Some (text, after) → has_line_end text ≡ true → column ≡ line_end_column size bytes → quoted_field size bytes ≡ Err (Quote column)
unfolding quoted_field
quoted_fault size column bytes text after e holds at = ap (quoted_part size bytes) e ∙ rw (holds, at) refl

pub quoted_closed : (size : ℕ) (bytes text after : List ℕ) → quoted_text bytes ≡ Some (text, after) → has_line_end text ≡ false → quoted_field size bytes ≡ closed_field size text (behind_blanks after)
unfolding quoted_field
quoted_closed size bytes text after e none = ap (quoted_part size bytes) e ∙ rw none refl

pub first_quoted : (size : ℕ) (rest field inside : List ℕ) → field ≡ behind_blanks rest → field ≡ 34 ∷ inside → first_field size rest ≡ quoted_field size inside
unfolding first_field full_field
first_quoted size rest field inside e begins = ap (full_field size) (sym e ∙ begins)

full_plain : (size : ℕ) (field : List ℕ) → ((inside : List ℕ) → field ≢ 34 ∷ inside) → full_field size field ≡ plain_field size field
unfolding full_field
full_plain size [] other = refl
full_plain size (byte ∷ field) other =
    let here : eqb byte 34 ≡ false = ne_eqb byte 34 (λ e. other field (ap (λ (b : ℕ). b ∷ field) e)) in
    rw here refl

pub first_plain : (size : ℕ) (rest field : List ℕ) → field ≡ behind_blanks rest → ((inside : List ℕ) → field ≢ 34 ∷ inside) → first_field size rest ≡ plain_field size field
unfolding first_field
first_plain size rest field e other = ap (full_field size) (sym e) ∙ full_plain size field other

-- a fault of the first field is one of the line
pub fault_passes : {Y V : Type 0} (fault : FieldFault) (first : Result Y FieldFault) (whole : Result V FieldFault) → Fails fault first → ((met : FieldFault) → first ≡ Err met → whole ≡ Err met) → Fails fault whole
fault_passes NoMemory first whole gives pass = tt
fault_passes TooMany first whole gives pass = pass TooMany gives
fault_passes (Quote column) first whole gives pass = pass (Quote column) gives

-- the fields that were read so far, and those of the rest
pub begin_fields : (line : List ℕ) → more_fields [] (fields_within 34 (length line) line) ≡ fields_of line
unfolding fields_of
begin_fields line = more_fields-none (fields_within 34 (length line) line)

room_left : (at : ℕ) → at < 34 → (34 - at) ≡ (34 - (at + 1)) + 1
room_left at within = omega arith

step : (at size : ℕ) (rest : List ℕ) (read : Result Read FieldFault) → at < 34 → first_field size rest ≡ read → fields_within (34 - at) size rest ≡ with_next (fields_within (34 - (at + 1)) size) read
step at size rest read within e = ap (λ (room : ℕ). fields_within room size rest) (room_left at within) ∙ next_of (34 - (at + 1)) size rest read e

pub field_fault : (at size : ℕ) (rest : List ℕ) (front : List (List ℕ)) (fault : FieldFault) (whole : Result (List (List ℕ)) FieldFault) → at < 34 → more_fields front (fields_within (34 - at) size rest) ≡ whole → first_field size rest ≡ Err fault → whole ≡ Err fault
field_fault at size rest front fault whole within was e = sym was ∙ ap (more_fields front) (step at size rest (Err fault) within e)

pub field_more : (at size : ℕ) (rest text behind : List ℕ) (front : List (List ℕ)) (whole : Result (List (List ℕ)) FieldFault) → at < 34 → more_fields front (fields_within (34 - at) size rest) ≡ whole → first_field size rest ≡ Ok (text, Some behind) → more_fields (front ++ text ∷ []) (fields_within (34 - (at + 1)) size behind) ≡ whole
field_more at size rest text behind front whole within was e = sym (more_fields-more front text (fields_within (34 - (at + 1)) size behind)) ∙ sym (ap (more_fields front) (step at size rest (Ok (text, Some behind)) within e)) ∙ was

pub field_last : (at size : ℕ) (rest text : List ℕ) (front : List (List ℕ)) (whole : Result (List (List ℕ)) FieldFault) → at < 34 → more_fields front (fields_within (34 - at) size rest) ≡ whole → first_field size rest ≡ Ok (text, None) → whole ≡ Ok (front ++ text ∷ [])
field_last at size rest text front whole within was e = sym was ∙ ap (more_fields front) (step at size rest (Ok (text, None)) within e)

pub no_room : (at size : ℕ) (rest : List ℕ) (front : List (List ℕ)) (whole : Result (List (List ℕ)) FieldFault) → 34 ≤ at → more_fields front (fields_within (34 - at) size rest) ≡ whole → whole ≡ Err TooMany
unfolding fields_within
no_room at size rest front whole full was =
    let none : 34 - at ≡ 0 = omega arith in
    sym was ∙ ap (λ (room : ℕ). more_fields front (fields_within room size rest)) none

-- a text is quoted further
pub doubled_step : (old one new rest before after whole : List ℕ) → old ++ doubled rest ≡ whole → IsCutAt 34 rest before after → one ≡ old ++ before → new ≡ one ++ 34 ∷ 34 ∷ [] → new ++ doubled after ≡ whole
doubled_step old one new rest before after whole was cut first second =
    let parts : ((old ++ before) ++ 34 ∷ 34 ∷ []) ++ doubled after ≡ old ++ (before ++ 34 ∷ 34 ∷ doubled after) = simp append_assoc in
    ap (λ (t : List ℕ). t ++ doubled after) (second ∙ ap (λ (t : List ℕ). t ++ 34 ∷ 34 ∷ []) first) ∙ parts ∙ ap (λ (t : List ℕ). old ++ t) (sym (doubled-at rest before after cut)) ∙ was

pub doubled_last : (old new rest whole : List ℕ) → old ++ doubled rest ≡ whole → has_byte 34 rest ≡ false → new ≡ old ++ rest → new ≡ whole
doubled_last old new rest whole was none last = last ∙ ap (λ (t : List ℕ). old ++ t) (sym (doubled-none rest none)) ∙ was

pub printed_plain : (field : List ℕ) → needs_quotes field ≡ false → printed_field field ≡ field
unfolding printed_field
printed_plain field e = rw e refl

pub printed_quoted : (field : List ℕ) → needs_quotes field ≡ true → printed_field field ≡ in_quotes field
unfolding printed_field
printed_quoted field e = rw e refl

pub pushed_quoted : (old one two new field : List ℕ) → needs_quotes field ≡ true → one ≡ old ++ 34 ∷ [] → two ≡ one ++ doubled field → new ≡ two ++ 34 ∷ [] → new ≡ old ++ printed_field field
pushed_quoted old one two new field e first second third =
    let parts : ((old ++ 34 ∷ []) ++ doubled field) ++ 34 ∷ [] ≡ old ++ (34 ∷ doubled field ++ 34 ∷ []) = simp append_assoc in
    third ∙ ap (λ (t : List ℕ). t ++ 34 ∷ []) (second ∙ ap (λ (t : List ℕ). t ++ doubled field) first) ∙ parts ∙ ap (λ (t : List ℕ). old ++ t) (sym (printed_quoted field e))

-- a quoted text is read further
pub quoted_end : (inside rest text before after new copy : List ℕ) → quoted_text inside ≡ more_quoted text (quoted_text rest) → IsCutAt 34 rest before after → ((behind : List ℕ) → after ≢ 34 ∷ behind) → new ≡ text ++ before → copy ≡ new → Some (copy, after) ≡ quoted_text inside
quoted_end inside rest text before after new copy was cut other first same =
    ap (λ (t : List ℕ). Some (t, after)) (same ∙ first) ∙ sym (was ∙ ap (more_quoted text) (closed_at rest before after cut other))

pub quoted_next : (inside rest text before after next one new : List ℕ) → quoted_text inside ≡ more_quoted text (quoted_text rest) → IsCutAt 34 rest before after → after ≡ 34 ∷ next → one ≡ text ++ before → new ≡ one ++ 34 ∷ [] → quoted_text inside ≡ more_quoted new (quoted_text next)
quoted_next inside rest text before after next one new was cut e first second =
    let whole : new ≡ text ++ (before ++ 34 ∷ []) = second ∙ ap (λ (t : List ℕ). t ++ 34 ∷ []) first ∙ append_assoc text before (34 ∷ []) in
    was ∙ ap (more_quoted text) (doubled_at rest before after next cut e) ∙ more_more text (before ++ 34 ∷ []) (quoted_text next) ∙ ap (λ (t : List ℕ). more_quoted t (quoted_text next)) (sym whole)

pub quoted_never : (inside rest text : List ℕ) → quoted_text inside ≡ more_quoted text (quoted_text rest) → has_byte 34 rest ≡ false → None ≡ quoted_text inside
quoted_never inside rest text was none = sym (was ∙ ap (more_quoted text) (never_closed rest none))
