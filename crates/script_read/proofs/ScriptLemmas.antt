-- A text of bytes is a script or has a first fault, as reading its parts comes to.
use Rattle.std.proofs.Common.{◌≡◌, ◌≢◌, ◌⊎◌, inl, inr, ℕ, Bool, true, false, List, [], ◌∷◌, ◌++◌, map, append_assoc, append-nil, Result, Ok, Err, refl, sym, ap, subst, ◌∙◌, true≢false}
use Rattle.std.specs.Prelude.{IsUtf8}
use Rattle.std.specs.Str.{is_utf8}
use Rattle.std.proofs.lemmas.Str.{IsUtf8-from_is_utf8, is_utf8-from_IsUtf8}
use Rattle.policy_table.specs.Tables.{Fields}
use Rattle.script_read.proofs.EndLemmas.{parts_first}
use Rattle.script_read.proofs.GivesLemmas.{mapped_fails, step_fails}
use Rattle.script_read.proofs.ReadLemmas.{reader_fields, reader_request, the_reader}
use Rattle.script_read.specs.Blocks.{Part, part_item, parts}
use Rattle.script_read.specs.Helps.Ends.{behind_part, first_part}
use Rattle.script_read.specs.Helps.Given.{Fails, fields_read}
use Rattle.script_read.specs.Readings.{request_read}
use Rattle.script_read.specs.Lines.{requests_of, script_lines}
use Rattle.text_parts.specs.Full.{full_lines}
use Rattle.script_read.specs.Reads.{Reader}
use Rattle.script_read.specs.Results.{followed, mapped}
use Rattle.script_read.specs.Said.{Reading, Said, asks}
use Rattle.script_read.specs.Script.{IsFaultInPart, IsRequests, IsScript, IsScriptFault, SayItems}
use Rattle.script_read.specs.Script.IsScriptFault.{in_part, not_utf8}
use Rattle.script_read.specs.declared.fault.LineCause.{LineCause}
use Rattle.script_read.specs.declared.fault.ScriptFault.{ScriptFault}
use Rattle.script_read.specs.declared.fault.ScriptFault.TheVariants.{NotUtf8, Line, OpenBatch, NoMemory}
use Rattle.text_parts.specs.Numbered as numbered
use Rattle.text_parts.proofs.ReaderLemmas.{IsRead, no_stop}

-- the item of a part
abbrev pub item_of : Bool → Part → Result Said ScriptFault
item_of json part = part_item fields_read (request_read json) part

-- items behind others
abbrev pub behind_items : List Said → List Said → List Said
behind_items front items = front ++ items

-- the items of parts, or the first fault
unfoldable pub reading : Bool → List Part → Result (List Said) ScriptFault
reading json [] = Ok []
reading json (part ∷ others) = followed (item_of json part) (λ (item : Said). mapped (behind_items (item ∷ [])) (reading json others))

-- what reading the text comes to
abbrev pub whole : Bool → List ℕ → Result (List Said) ScriptFault
whole json bytes = reading json (parts (script_lines bytes))

-- each reader gives the same
pub part_same : (json : Bool) (reader : Reader json) (part : Part) → part_item reader.fields reader.request part ≡ item_of json part
part_same json reader part =
    ap (λ (fields : List ℕ → Result Fields LineCause). part_item fields reader.request part) (reader_fields reader) ∙ ap (λ (request : List ℕ → Reading). part_item fields_read request part) (reader_request json reader)

regrouped : (item : Said) (items : List Said) (read : Result (List Said) ScriptFault) → mapped (behind_items (item ∷ [])) (mapped (behind_items items) read) ≡ mapped (behind_items (item ∷ items)) read
regrouped item items (Ok others) = refl
regrouped item items (Err fault) = refl

none_before : (read : Result (List Said) ScriptFault) → mapped (behind_items []) read ≡ read
none_before (Ok others) = refl
none_before (Err fault) = refl

-- parts that say items are read past
reading_past : (json : Bool) (reader : Reader json) (front rest : List Part) (items : List Said) → SayItems reader front items → reading json (front ++ rest) ≡ mapped (behind_items items) (reading json rest)
unfolding reading
reading_past json reader [] rest [] says = sym (none_before (reading json rest))
reading_past json reader [] rest (item ∷ items) says = absurd says
reading_past json reader (part ∷ front) rest [] says = absurd says
reading_past json reader (part ∷ front) rest (item ∷ items) says =
    let says_it : item_of json part ≡ Ok item = sym (part_same json reader part) ∙ says.0 in
    ap (λ (r : Result Said ScriptFault). followed r (λ (i : Said). mapped (behind_items (i ∷ [])) (reading json (front ++ rest)))) says_it
    ∙ ap (mapped (behind_items (item ∷ []))) (reading_past json reader front rest items says.1) ∙ regrouped item items (reading json rest)

reading_none : (json : Bool) → reading json [] ≡ Ok []
unfolding reading
reading_none json = refl

reading_some : (json : Bool) (part : Part) (others : List Part) → reading json (part ∷ others) ≡ followed (item_of json part) (λ (item : Said). mapped (behind_items (item ∷ [])) (reading json others))
unfolding reading
reading_some json part others = refl

-- ---- what reading comes to

record StopsIn (json : Bool) (texts : List Part) (fault : ScriptFault) : Type 0 where
  front : List Part
  part : Part
  behind : List Part
  items : List Said
  are_parts : texts ≡ front ++ part ∷ behind
  says : SayItems (the_reader json) front items
  bad : item_of json part ≡ Err fault

abbrev Ends : Bool → List Part → Result (List Said) ScriptFault → Type 0
Ends json texts (Ok items) = SayItems (the_reader json) texts items
Ends json texts (Err fault) = StopsIn json texts fault

ends_behind : (json : Bool) (part : Part) (others : List Part) (item : Said) → item_of json part ≡ Ok item → (read : Result (List Said) ScriptFault) → Ends json others read → Ends json (part ∷ others) (mapped (behind_items (item ∷ [])) read)
ends_behind json part others item says (Ok items) ends = (says, ends)
ends_behind json part others item says (Err fault) stops = record {
  front = part ∷ stops.front;
  part = stops.part;
  behind = stops.behind;
  items = item ∷ stops.items;
  are_parts = ap (λ (l : List Part). part ∷ l) stops.are_parts;
  says = (says, stops.says);
  bad = stops.bad;
}

ends_at : (json : Bool) (part : Part) (others : List Part) (said : Result Said ScriptFault) → item_of json part ≡ said → Ends json others (reading json others) → Ends json (part ∷ others) (followed said (λ (item : Said). mapped (behind_items (item ∷ [])) (reading json others)))
ends_at json part others (Ok item) says rest = ends_behind json part others item says (reading json others) rest
ends_at json part others (Err fault) bad rest = record {
  front = [];
  part = part;
  behind = others;
  items = [];
  are_parts = refl;
  says = tt;
  bad = bad;
}

reading_ends : (json : Bool) (texts : List Part) → Ends json texts (reading json texts)
unfolding reading
reading_ends json [] = tt
reading_ends json (part ∷ others) = ends_at json part others (item_of json part) refl (reading_ends json others)

-- ---- the loop

module _ (json : Bool) (lines : List numbered.Line) (line : numbered.Line) (after behind : List numbered.Line) (first : lines ≡ line ∷ after) (goes : behind_part line.text after ≡ behind) (taken : List Said) (all : Result (List Said) ScriptFault)
    (reads : mapped (behind_items taken) (reading json (parts lines)) ≡ all) where
  abbrev the_part : Part
  the_part = first_part line after

  stepped : all ≡ mapped (behind_items taken) (followed (item_of json the_part) (λ (item : Said). mapped (behind_items (item ∷ [])) (reading json (parts behind))))
  stepped =
      sym reads ∙ ap (λ (l : List numbered.Line). mapped (behind_items taken) (reading json (parts l))) first
      ∙ ap (λ (l : List Part). mapped (behind_items taken) (reading json l)) (parts_first line after ∙ ap (λ (l : List numbered.Line). the_part ∷ parts l) goes) ∙ ap (mapped (behind_items taken)) (reading_some json the_part (parts behind))

  -- the first part says an item
  pub part_read : (item : Said) → item_of json the_part ≡ Ok item → mapped (behind_items (taken ++ item ∷ [])) (reading json (parts behind)) ≡ all
  part_read item says =
      sym (stepped ∙ ap (λ (r : Result Said ScriptFault). mapped (behind_items taken) (followed r (λ (i : Said). mapped (behind_items (i ∷ [])) (reading json (parts behind))))) says ∙ by (reading json (parts behind)))
    where
      by : (read : Result (List Said) ScriptFault) → mapped (behind_items taken) (mapped (behind_items (item ∷ [])) read) ≡ mapped (behind_items (taken ++ item ∷ [])) read
      by (Ok others) = ap (λ (l : List Said). Ok l) (sym (append_assoc taken (item ∷ []) others))
      by (Err fault) = refl

  -- it is at fault
  pub part_fails : (fault : ScriptFault) → Fails fault (item_of json the_part) → Fails fault all
  part_fails fault bad =
      subst (λ (r : Result (List Said) ScriptFault). Fails fault r) (sym stepped)
      (mapped_fails (behind_items taken) fault (followed (item_of json the_part) (λ (item : Said). mapped (behind_items (item ∷ [])) (reading json (parts behind))))
      (step_fails fault (item_of json the_part) (λ (item : Said). mapped (behind_items (item ∷ [])) (reading json (parts behind))) bad))

pub parts_begin : (json : Bool) (text bytes : List ℕ) → text ≡ bytes → mapped (behind_items []) (reading json (parts (full_lines 1 text))) ≡ whole json bytes
parts_begin json text bytes e = none_before (reading json (parts (full_lines 1 text))) ∙ ap (λ (t : List ℕ). whole json t) e

pub parts_end : (json : Bool) (lines : List numbered.Line) (taken : List Said) (all : Result (List Said) ScriptFault) → lines ≡ [] → mapped (behind_items taken) (reading json (parts lines)) ≡ all → all ≡ Ok taken
parts_end json lines taken all none reads =
    sym reads ∙ ap (λ (l : List numbered.Line). mapped (behind_items taken) (reading json (parts l))) none ∙ ap (mapped (behind_items taken)) (reading_none json) ∙ ap (λ (l : List Said). Ok l) (append-nil taken)

-- ---- what the text says is what reading gives, and the other way

module _ (json : Bool) (bytes : List ℕ) where
  script_read : (items : List Said) → IsScript json bytes items → whole json bytes ≡ Ok items
  script_read items is =
      ap (reading json) (sym (append-nil (parts (script_lines bytes)))) ∙ reading_past json is.reader (parts (script_lines bytes)) [] items is.says
      ∙ ap (mapped (behind_items items)) (reading_none json) ∙ ap (λ (l : List Said). Ok l) (append-nil items)

  fault_read : (fault : ScriptFault) → IsFaultInPart json bytes fault → whole json bytes ≡ Err fault
  fault_read fault is =
      ap (reading json) is.are_parts ∙ reading_past json is.reader is.front (is.part ∷ is.behind) is.items is.says
      ∙ ap (mapped (behind_items is.items)) (reading_some json is.part is.behind ∙ ap (λ (r : Result Said ScriptFault). followed r (λ (item : Said). mapped (behind_items (item ∷ [])) (reading json is.behind))) (sym (part_same json is.reader is.part) ∙ is.bad))

  ends_so : (read : Result (List Said) ScriptFault) → whole json bytes ≡ read → Ends json (parts (script_lines bytes)) read
  ends_so read e = subst (Ends json (parts (script_lines bytes))) e (reading_ends json (parts (script_lines bytes)))

  read_script_is : (items : List Said) → IsUtf8 bytes → whole json bytes ≡ Ok items → IsScript json bytes items
  read_script_is items utf8 e = record { utf8 = utf8; reader = the_reader json; says = ends_so (Ok items) e }

  read_fault_is : (fault : ScriptFault) → IsUtf8 bytes → whole json bytes ≡ Err fault → IsScriptFault json bytes fault
  read_fault_is fault utf8 e =
      let stops = ends_so (Err fault) e in
      in_part utf8 (record {
        reader = the_reader json;
        front = stops.front;
        part = stops.part;
        behind = stops.behind;
        items = stops.items;
        are_parts = stops.are_parts;
        says = stops.says;
        bad = stops.bad;
      })

  fault_met : (fault : ScriptFault) → IsScriptFault json bytes fault → (IsUtf8 bytes × (whole json bytes ≡ Err fault)) ⊎ ((¬ (IsUtf8 bytes)) × (fault ≡ NotUtf8))
  fault_met fault (not_utf8 none e) = inr (none, e)
  fault_met fault (in_part utf8 in_one) = inl (utf8, fault_read fault in_one)

  pub text_read : IsRead bytes (whole json bytes) NotUtf8 (IsScript json bytes) (IsScriptFault json bytes)
  text_read = record {
    utf8 = λ items is. is.utf8;
    read = script_read;
    says = read_script_is;
    met = fault_met;
    has = read_fault_is;
    no_text = λ none. not_utf8 none refl;
  }

  -- ---- where reading has stopped, and memory may have run out

  pub only_memory : (fault : ScriptFault) (items : List Said) → Fails fault (whole json bytes) → IsScript json bytes items → fault ≡ NoMemory
  only_memory NotUtf8 items stop is = absurd (no_stop text_read NotUtf8 items stop is)
  only_memory (Line line why) items stop is = absurd (no_stop text_read (Line line why) items stop is)
  only_memory (OpenBatch line) items stop is = absurd (no_stop text_read (OpenBatch line) items stop is)
  only_memory NoMemory items stop is = refl

  pub stopped : (fault : ScriptFault) → Fails fault (whole json bytes) → fault ≢ NoMemory → whole json bytes ≡ Err fault
  stopped NotUtf8 stop other = stop
  stopped (Line line why) stop other = stop
  stopped (OpenBatch line) stop other = stop
  stopped NoMemory stop other = absurd (other refl)

-- ---- requests

-- the items of these lines
abbrev pub asked : Bool → List (List ℕ) → List Said
asked json lines = map (λ (line : List ℕ). asks (request_read json line)) lines

module _ (json : Bool) (bytes : List ℕ) where
  pub requests_are : (items : List Said) → IsUtf8 bytes → items ≡ asked json (requests_of bytes) → IsRequests json bytes items
  requests_are items utf8 e = record { utf8 = utf8; reader = the_reader json; asked = e }

  pub requests_read : (items : List Said) → IsRequests json bytes items → items ≡ asked json (requests_of bytes)
  requests_read items is = is.asked ∙ ap (λ (request : List ℕ → Reading). map (λ (line : List ℕ). asks (request line)) (requests_of bytes)) (reader_request json is.reader)

  pub one_list : (first second : List Said) → IsRequests json bytes first → IsRequests json bytes second → first ≡ second
  one_list first second one two = requests_read first one ∙ sym (requests_read second two)

  pub requests_or_fault : ((items : List Said) × IsRequests json bytes items) ⊎ (¬ (IsUtf8 bytes))
  requests_or_fault = by (is_utf8 bytes) refl
    where
      by : (test : Bool) → is_utf8 bytes ≡ test → ((items : List Said) × IsRequests json bytes items) ⊎ (¬ (IsUtf8 bytes))
      by true e = inl (asked json (requests_of bytes), requests_are (asked json (requests_of bytes)) (IsUtf8-from_is_utf8 bytes e) refl)
      by false e = inr (λ utf8. true≢false (sym (is_utf8-from_IsUtf8 bytes utf8) ∙ e))
