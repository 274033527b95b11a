-- A line is read as exactly the fields that it is, or refused with exactly the fault that it has.
use Rattle.std.proofs.Common.{◌≡◌, ◌⊎◌, inl, inr, ℕ, zero, suc, ◌+◌, ◌-◌, ◌<◌, ◌≤◌, false, List, [], ◌∷◌, ◌++◌, length, min, Option, Some, None, Result, Ok, Err, refl, sym, ap, ◌∙◌, subst, arith}
use Rattle.std.specs.List.{AllZip, flat_map, join_by, list_any}
use Rattle.std.specs.Prelude.{IfOk, IsErrOf, MatchResult}
use Rattle.std.proofs.lemmas.List.{append_assoc, length-append}
use Rattle.perm_base.specs.LineEnds.{AreFields, has_line_end}
use Rattle.perm_base.specs.declared.quoted.FieldFault.{FieldFault}
use Rattle.perm_base.specs.declared.quoted.FieldFault.TheVariants.{Quote, TooMany, NoMemory}
use Rattle.perm_base.specs.FieldLine.{IsFields, IsSpelled, IsWritten, most_fields}
use Rattle.perm_base.specs.FieldLine.IsWritten.{bare, quoted}
use Rattle.perm_base.specs.FieldFaults.{AreEnded, HasTooMany, IsBad, IsBadAt, IsFault, IsQuoteFault, column_at}
use Rattle.perm_base.specs.FieldSteps.{Fails, Gives, Read, column_of, fields_of, fields_within, first_field, more_fields, with_next}
use Rattle.perm_base.proofs.QuotedLemmas.{more_fields-none}
use Rattle.perm_base.proofs.ReadLemmas.{IsRead, Meets, first_meets}
use Rattle.perm_base.proofs.WrittenLemmas.{bad_met, first_read}

-- spellings, joined by single commas, and each followed by its comma
abbrev join : List (List ℕ) → List ℕ
join spellings = join_by (λ (spelling : List ℕ). spelling) (44 ∷ []) spellings

abbrev ends : List (List ℕ) → List ℕ
ends spellings = flat_map (λ (spelling : List ℕ). spelling ++ 44 ∷ []) spellings

-- so many fields at most
record AreRead (room : ℕ) (text : List ℕ) (fields : List (List ℕ)) : Type 0 where
  some : 0 < length fields
  few : length fields ≤ room
  spellings : List (List ℕ)
  spelled : AllZip IsSpelled spellings fields
  parts : text ≡ join spellings

-- behind fewer fields the next is bad at the column
record AreMet (room size : ℕ) (text : List ℕ) (column : ℕ) : Type 0 where
  count : ℕ
  front : List ℕ
  rest : List ℕ
  within : ℕ
  few : count < room
  ended : AreEnded count front
  bad : IsBad rest within
  parts : text ≡ front ++ rest
  there : column ≡ column_of size (length rest - within)

-- so many fields are in front
record AreMany (room : ℕ) (text : List ℕ) : Type 0 where
  front : List ℕ
  rest : List ℕ
  ended : AreEnded room front
  parts : text ≡ front ++ rest

-- what reading fields comes to
abbrev AllMeet : ℕ → ℕ → List ℕ → Result (List (List ℕ)) FieldFault → Type 0
AllMeet room size text (Ok fields) = AreRead room text fields
AllMeet room size text (Err (Quote column)) = AreMet room size text column
AllMeet room size text (Err TooMany) = AreMany room text
AllMeet room size text (Err NoMemory) = ⊥

none_ended : AreEnded 0 []
none_ended = record {
  fields = [];
  spellings = [];
  counted = refl;
  spelled = tt;
  parts = refl;
}

one_ended : (count : ℕ) (spelling field front : List ℕ) → IsSpelled spelling field → AreEnded count front → AreEnded (suc count) (spelling ++ 44 ∷ front)
one_ended count spelling field front is ended = record {
  fields = field ∷ ended.fields;
  spellings = spelling ∷ ended.spellings;
  counted = omega (arith, ended.counted);
  spelled = (is, ended.spelled);
  parts = ap (λ (t : List ℕ). spelling ++ 44 ∷ t) ended.parts ∙ sym (append_assoc spelling (44 ∷ []) (ends ended.spellings));
}

join_more : (spelling : List ℕ) (spellings fields : List (List ℕ)) → AllZip IsSpelled spellings fields → 0 < length fields → join (spelling ∷ spellings) ≡ spelling ++ 44 ∷ join spellings
join_more spelling [] [] all some = absurd (omega (arith, some))
join_more spelling [] (field ∷ fields) all some = absurd all
join_more spelling (next ∷ spellings) fields all some = refl

more_meet : (room size : ℕ) (text field behind : List ℕ) (found : Result (List (List ℕ)) FieldFault) → IsRead text field (Some behind) → AllMeet room size behind found → AllMeet (suc room) size text (more_fields (field ∷ []) found)
more_meet room size text field behind (Ok fields) read all = record {
  some = omega arith;
  few = omega (arith, all.few);
  spellings = read.spelling ∷ all.spellings;
  spelled = (read.spelled, all.spelled);
  parts = read.parts ∙ ap (λ (t : List ℕ). read.spelling ++ 44 ∷ t) all.parts ∙ sym (join_more read.spelling all.spellings fields all.spelled all.some);
}
more_meet room size text field behind (Err (Quote column)) read all = record {
  count = suc all.count;
  front = read.spelling ++ 44 ∷ all.front;
  rest = all.rest;
  within = all.within;
  few = omega (arith, all.few);
  ended = one_ended all.count read.spelling field all.front read.spelled all.ended;
  bad = all.bad;
  parts = read.parts ∙ ap (λ (t : List ℕ). read.spelling ++ 44 ∷ t) all.parts ∙ sym (append_assoc read.spelling (44 ∷ all.front) all.rest);
  there = all.there;
}
more_meet room size text field behind (Err TooMany) read all = record {
  front = read.spelling ++ 44 ∷ all.front;
  rest = all.rest;
  ended = one_ended room read.spelling field all.front read.spelled all.ended;
  parts = read.parts ∙ ap (λ (t : List ℕ). read.spelling ++ 44 ∷ t) all.parts ∙ sym (append_assoc read.spelling (44 ∷ all.front) all.rest);
}
more_meet room size text field behind (Err NoMemory) read all = absurd all

next_meet : (room size : ℕ) (text field : List ℕ) (behind : Option (List ℕ)) → IsRead text field behind → ((rest : List ℕ) → AllMeet room size rest (fields_within room size rest)) → AllMeet (suc room) size text (with_next (fields_within room size) (Ok (field, behind)))
next_meet room size text field None read rest = record {
  some = omega arith;
  few = omega arith;
  spellings = read.spelling ∷ [];
  spelled = (read.spelled, tt);
  parts = read.parts;
}
next_meet room size text field (Some behind) read rest = more_meet room size text field behind (fields_within room size behind) read (rest behind)

step_meet : (room size : ℕ) (text : List ℕ) (read : Result Read FieldFault) → Meets size text read → ((rest : List ℕ) → AllMeet room size rest (fields_within room size rest)) → AllMeet (suc room) size text (with_next (fields_within room size) read)
step_meet room size text (Ok read) meets rest = next_meet room size text (read.0) (read.1) meets rest
step_meet room size text (Err (Quote column)) meets rest = record {
  count = 0;
  front = [];
  rest = text;
  within = meets.at;
  few = omega arith;
  ended = none_ended;
  bad = meets.bad;
  parts = refl;
  there = meets.there;
}
step_meet room size text (Err TooMany) meets rest = absurd meets
step_meet room size text (Err NoMemory) meets rest = absurd meets

all_meet : (room size : ℕ) (text : List ℕ) → AllMeet room size text (fields_within room size text)
unfolding fields_within
all_meet zero size text = record {
  front = [];
  rest = text;
  ended = none_ended;
  parts = refl;
}
all_meet (suc room) size text = step_meet room size text (first_field size text) (first_meets size text) (λ rest. all_meet room size rest)

-- a place as a column
column_is : (at within : ℕ) (line front rest : List ℕ) → line ≡ front ++ rest → within ≤ length rest → at ≡ length front + within → column_of (length line) (length rest - within) ≡ column_at at
unfolding column_of
column_is at within line front rest parts least place =
    let left : length line - (length rest - within) + 1 ≡ at + 1 = omega (arith, ap length parts, length-append front rest, least, place) in
    ap (λ (n : ℕ). min n 4_294_967_295) left

-- what a line is, by what reading it gives
abbrev pub LineIs : List ℕ → Result (List (List ℕ)) FieldFault → Type 0
LineIs line (Ok fields) = IsFields line fields
LineIs line (Err fault) = IsFault line fault

line_by : (line : List ℕ) (found : Result (List (List ℕ)) FieldFault) → AllMeet most_fields (length line) line found → LineIs line found
line_by line (Ok fields) all = record {
  some = all.some;
  few = all.few;
  spellings = all.spellings;
  spelled = all.spelled;
  parts = all.parts;
}
line_by line (Err (Quote column)) all =
    let at = length all.front + all.within in
    let bad : IsBadAt line at = record {
      count = all.count;
      front = all.front;
      rest = all.rest;
      within = all.within;
      few = all.few;
      ended = all.ended;
      bad = all.bad;
      parts = all.parts;
      place = refl;
    } in
    (at, bad, all.there ∙ column_is at all.within line all.front all.rest all.parts (bad_met (length line) all.rest all.within all.bad).within refl)
line_by line (Err TooMany) all = record {
  front = all.front;
  rest = all.rest;
  ended = all.ended;
  parts = all.parts;
}
line_by line (Err NoMemory) all = absurd all

pub line_is : (line : List ℕ) → LineIs line (fields_of line)
unfolding fields_of
line_is line = line_by line (fields_within 34 (length line) line) (all_meet 34 (length line) line)

-- what is spelled is read
more_twice : (field : List ℕ) (fields : List (List ℕ)) (found : Result (List (List ℕ)) FieldFault) → more_fields (field ∷ []) (more_fields fields found) ≡ more_fields (field ∷ fields) found
more_twice field fields (Ok more) = refl
more_twice field fields (Err fault) = refl

ended_read : (room size : ℕ) (spellings fields : List (List ℕ)) (rest : List ℕ) → AllZip IsSpelled spellings fields → fields_within (length fields + room) size (ends spellings ++ rest) ≡ more_fields fields (fields_within room size rest)
unfolding fields_within
ended_read room size [] [] rest all =
    let same : 0 + room ≡ room = omega arith in
    ap (λ (n : ℕ). fields_within n size rest) same ∙ sym (more_fields-none (fields_within room size rest))
ended_read room size [] (field ∷ fields) rest all = absurd all
ended_read room size (spelling ∷ spellings) [] rest all = absurd all
ended_read room size (spelling ∷ spellings) (field ∷ fields) rest all =
    let behind = ends spellings ++ rest in
    let total = length fields + room in
    let same : suc (length fields) + room ≡ suc total = omega arith in
    let parts : ends (spelling ∷ spellings) ++ rest ≡ spelling ++ 44 ∷ behind = simp append_assoc in
    ap (λ (n : ℕ). fields_within n size (ends (spelling ∷ spellings) ++ rest)) same ∙ ap (fields_within (suc total) size) parts ∙ ap (with_next (fields_within total size)) (first_read size spelling field (Some behind) all.0) ∙ ap (more_fields (field ∷ [])) (ended_read room size spellings fields rest all.1) ∙ more_twice field fields (fields_within room size rest)

all_read : (room size : ℕ) (spellings fields : List (List ℕ)) → AllZip IsSpelled spellings fields → 0 < length fields → length fields ≤ room → fields_within room size (join spellings) ≡ Ok fields
unfolding fields_within
all_read room size [] [] all some few = absurd (omega (arith, some))
all_read room size [] (field ∷ fields) all some few = absurd all
all_read room size (spelling ∷ spellings) [] all some few = absurd all
all_read zero size (spelling ∷ spellings) (field ∷ fields) all some few = absurd (omega (arith, few))
all_read (suc room) size (spelling ∷ []) (field ∷ []) all some few = ap (with_next (fields_within room size)) (first_read size spelling field None all.0)
all_read (suc room) size (spelling ∷ []) (field ∷ next ∷ fields) all some few = absurd all.1
all_read (suc room) size (spelling ∷ next ∷ spellings) (field ∷ []) all some few = absurd all.1
all_read (suc room) size (spelling ∷ next ∷ spellings) (field ∷ other ∷ fields) all some few =
    ap (with_next (fields_within room size)) (first_read size spelling field (Some (join (next ∷ spellings))) all.0) ∙ ap (more_fields (field ∷ [])) (all_read room size (next ∷ spellings) (other ∷ fields) all.1 (omega arith) (omega (arith, few)))

pub fields_of-is : (line : List ℕ) (fields : List (List ℕ)) → IsFields line fields → fields_of line ≡ Ok fields
unfolding fields_of
fields_of-is line fields is = ap (fields_within 34 (length line)) is.parts ∙ all_read 34 (length line) is.spellings fields is.spelled is.some is.few

behind_ended : (room count size : ℕ) (line front rest : List ℕ) (ended : AreEnded count front) → line ≡ front ++ rest → 34 ≡ count + room → fields_within 34 size line ≡ more_fields ended.fields (fields_within room size rest)
behind_ended room count size line front rest ended parts total =
    let same : 34 ≡ length ended.fields + room = omega (arith, total, ended.counted) in
    ap (λ (n : ℕ). fields_within n size line) same ∙ ap (fields_within (length ended.fields + room) size) (parts ∙ ap (λ (t : List ℕ). t ++ rest) ended.parts) ∙ ended_read room size ended.spellings ended.fields rest ended.spelled

fault_read : (size room : ℕ) (fields : List (List ℕ)) (rest : List ℕ) (fault : FieldFault) → first_field size rest ≡ Err fault → more_fields fields (fields_within (suc room) size rest) ≡ Err fault
unfolding fields_within
fault_read size room fields rest fault e = ap (λ (read : Result Read FieldFault). more_fields fields (with_next (fields_within room size) read)) e

-- a bad field is met, whatever size is taken for the line
bad_read : (line : List ℕ) (at size : ℕ) (bad : IsBadAt line at) → fields_within 34 size line ≡ Err (Quote (column_of size (length bad.rest - bad.within)))
bad_read line at size bad =
    let room = 33 - bad.count in
    let total : 34 ≡ bad.count + suc room = omega (arith, bad.few) in
    behind_ended (suc room) bad.count size line bad.front bad.rest bad.ended bad.parts total ∙ fault_read size room bad.ended.fields bad.rest (Quote (column_of size (length bad.rest - bad.within))) (bad_met size bad.rest bad.within bad.bad).met

pub fields_of-fault : (line : List ℕ) (fault : FieldFault) → IsFault line fault → fields_of line ≡ Err fault
unfolding fields_of fields_within
fields_of-fault line (Quote column) is =
    let bad = is.1 in
    let within = (bad_met (length line) bad.rest bad.within bad.bad).within in
    bad_read line is.0 (length line) bad ∙ ap (λ (n : ℕ). Err (Quote n)) (column_is is.0 bad.within line bad.front bad.rest bad.parts within bad.place ∙ sym is.2)
fields_of-fault line TooMany is = behind_ended 0 34 (length line) line is.front is.rest is.ended is.parts (omega arith)
fields_of-fault line NoMemory is = absurd is

-- the laws
no_less : (one other : ℕ) → column_of one one ≡ column_of one other → one ≤ other
unfolding column_of
no_less one other e =
    let here : min (one - one + 1) 4_294_967_295 ≡ min (one - other + 1) 4_294_967_295 = e in
    omega (arith, here)

IsBadAt-left : (line : List ℕ) (first second : ℕ) (one : IsBadAt line first) (two : IsBadAt line second) → length one.rest - one.within ≤ length two.rest - two.within
IsBadAt-left line first second one two =
    let size = length one.rest - one.within in
    let left = length two.rest - two.within in
    let same : Err (Quote (column_of size size)) ≡ Err (Quote (column_of size left)) = sym (bad_read line first size one) ∙ bad_read line second size two in
    let columns : column_of size size ≡ column_of size left = cc in
    no_less size left columns

pub IsBadAt-once : (line : List ℕ) (first second : ℕ) → IsBadAt line first → IsBadAt line second → first ≡ second
IsBadAt-once line first second one two =
    let less = IsBadAt-left line first second one two in
    let more = IsBadAt-left line second first two one in
    omega (arith, less, more, one.place, two.place, (bad_met 0 one.rest one.within one.bad).within, (bad_met 0 two.rest two.within two.bad).within, ap length one.parts, ap length two.parts, length-append one.front one.rest, length-append two.front two.rest)

pub IsFields-once : (line : List ℕ) (first second : List (List ℕ)) → IsFields line first → IsFields line second → first ≡ second
IsFields-once line first second one two =
    let same : Ok first ≡ Ok second = sym (fields_of-is line first one) ∙ fields_of-is line second two in
    cc

pub IsFault-once : (line : List ℕ) (first second : FieldFault) → IsFault line first → IsFault line second → first ≡ second
IsFault-once line first second one two =
    let same : Err first ≡ Err second = sym (fields_of-fault line first one) ∙ fields_of-fault line second two in
    cc

pub IsFields-no_fault : (line : List ℕ) (fields : List (List ℕ)) (fault : FieldFault) → IsFields line fields → ¬ (IsFault line fault)
IsFields-no_fault line fields fault is bad =
    let same : Ok fields ≡ Err fault = sym (fields_of-is line fields is) ∙ fields_of-fault line fault bad in
    absurd cc

either : (line : List ℕ) (found : Result (List (List ℕ)) FieldFault) → LineIs line found → ((fields : List (List ℕ)) × IsFields line fields) ⊎ ((fault : FieldFault) × IsFault line fault)
either line (Ok fields) is = inl (fields, is)
either line (Err fault) is = inr (fault, is)

pub line_decides : (line : List ℕ) → ((fields : List (List ℕ)) × IsFields line fields) ⊎ ((fault : FieldFault) × IsFault line fault)
line_decides line = either line (fields_of line) (line_is line)

-- fields hold no line end
written_whole : (text field : List ℕ) → IsWritten text field → has_line_end field ≡ false
written_whole text field (bare is e) = is.no_line_end
written_whole text field (quoted none e) = none

all_whole : (spellings fields : List (List ℕ)) → AllZip IsSpelled spellings fields → list_any has_line_end fields ≡ false
all_whole [] [] all = refl
all_whole [] (field ∷ fields) all = absurd all
all_whole (spelling ∷ spellings) [] all = absurd all
all_whole (spelling ∷ spellings) (field ∷ fields) all = rw (written_whole all.0.text field all.0.written) (all_whole spellings fields all.1)

pub AreFields-from_line : (line : List ℕ) (fields : List (List ℕ)) → IsFields line fields → AreFields fields
AreFields-from_line line fields is = record { few = omega (arith, is.few); whole_lines = all_whole is.spellings fields is.spelled }

-- what a reader gave, by the line
module _ {X : Type 0} (view : X → List (List ℕ)) (line : List ℕ) where
  pub given_found : (result : Result X FieldFault) → Gives view result (fields_of line) → IfOk result (λ x. IsFields line (view x))
  given_found (Ok x) e = subst (LineIs line) e (line_is line)
  given_found (Err fault) e = tt

  pub given_only : (result : Result X FieldFault) → Gives view result (fields_of line) → (fields : List (List ℕ)) → IsFields line fields → MatchResult result (λ x. view x ≡ fields) (λ fault. fault ≡ NoMemory)
  given_only (Ok x) e fields is =
      let same : Ok (view x) ≡ Ok fields = sym e ∙ fields_of-is line fields is in
      cc
  given_only (Err NoMemory) e fields is = refl
  given_only (Err TooMany) e fields is =
      let same : Err TooMany ≡ Ok fields = sym e ∙ fields_of-is line fields is in
      absurd cc
  given_only (Err (Quote column)) e fields is =
      let same : Err (Quote column) ≡ Ok fields = sym e ∙ fields_of-is line fields is in
      absurd cc

  given_fault : (fault : FieldFault) (result : Result X FieldFault) → result ≡ Err fault → Gives view result (fields_of line) → Fails fault (fields_of line)
  given_fault fault result is gives = subst (λ (r : Result X FieldFault). Gives view r (fields_of line)) is gives

  pub given_quote : (result : Result X FieldFault) (column : ℕ) → Gives view result (fields_of line) → IsErrOf result (Quote column) → IsQuoteFault line column
  given_quote result column gives is = subst (LineIs line) (given_fault (Quote column) result is gives) (line_is line)

  pub given_too_many : (result : Result X FieldFault) → Gives view result (fields_of line) → IsErrOf result TooMany → HasTooMany line
  given_too_many result gives is = subst (LineIs line) (given_fault TooMany result is gives) (line_is line)

  pub given_rule : (result : Result X FieldFault) → Gives view result (fields_of line) → IfOk result (λ x. AreFields (view x))
  given_rule (Ok x) e = AreFields-from_line line (view x) (given_found (Ok x) e)
  given_rule (Err fault) e = tt

  pub given_some : (result : Result X FieldFault) → Gives view result (fields_of line) → IfOk result (λ x. 0 < length (view x))
  given_some (Ok x) e = (given_found (Ok x) e).some
  given_some (Err fault) e = tt

  pub given_few : (result : Result X FieldFault) → Gives view result (fields_of line) → IfOk result (λ x. length (view x) ≤ 34)
  given_few (Ok x) e = (given_found (Ok x) e).few
  given_few (Err fault) e = tt
