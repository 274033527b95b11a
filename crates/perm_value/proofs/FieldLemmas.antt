-- The values of a request, made of the fields of a line as it is cut.
use Rattle.std.proofs.Common.{◌≡◌, ℕ, ◌+◌, ◌-◌, ◌<◌, ◌≤◌, List, [], ◌∷◌, ◌++◌, length, map, Some, None, Result, Ok, Err, refl, sym, ap, ◌∙◌, subst}
use Rattle.std.proofs.lemmas.List.{map_push}
use Rattle.perm_base.specs.declared.quoted.FieldFault.{FieldFault}
use Rattle.perm_base.specs.declared.quoted.FieldFault.TheVariants.{Quote, TooMany, NoMemory}
use Rattle.perm_base.specs.FieldSteps.{Fails, fields_of, fields_within, first_field, more_fields}
use Rattle.perm_base.proofs.CallerLemmas.{LineIs, begin_fields, field_fault, field_last, field_more, fields_of-is, line_is, no_room}
use Rattle.perm_value.specs.Datum.{Datum, text}
use Rattle.perm_value.specs.Fields.{AreTexts, IsLineFault, fault_of}
use Rattle.perm_value.specs.Helps.Texts.{as_texts}

-- so many fields of a line are read, as these data, and the rest is left
pub record AreCut (line rest : List ℕ) (at : ℕ) (values : List Datum) : Type 0 where
  pub fields : List (List ℕ)
  pub texts : values ≡ map text fields
  pub left : more_fields fields (fields_within (34 - at) (length line) rest) ≡ fields_of line

pub cut_none : (line : List ℕ) (values : List Datum) → values ≡ [] → AreCut line line 0 values
cut_none line values none = record { fields = []; texts = none; left = begin_fields line }

texts_more : (fields : List (List ℕ)) (field : List ℕ) (values new : List Datum) → values ≡ map text fields → new ≡ values ++ text field ∷ [] → new ≡ map text (fields ++ field ∷ [])
texts_more fields field values new texts is = is ∙ ap (λ (ds : List Datum). ds ++ text field ∷ []) texts ∙ sym (map_push text fields field)

-- one field more
pub cut_more : (line rest behind field : List ℕ) (at : ℕ) (values new : List Datum) → at < 34 → AreCut line rest at values → new ≡ values ++ text field ∷ [] → first_field (length line) rest ≡ Ok (field, Some behind) → AreCut line behind (at + 1) new
cut_more line rest behind field at values new within cut is read = record {
  fields = cut.fields ++ field ∷ [];
  texts = texts_more cut.fields field values new cut.texts is;
  left = field_more at (length line) rest field behind cut.fields (fields_of line) within cut.left read;
}

-- the last one
pub cut_last : (line rest field : List ℕ) (at : ℕ) (values new : List Datum) → at < 34 → AreCut line rest at values → new ≡ values ++ text field ∷ [] → first_field (length line) rest ≡ Ok (field, None) → as_texts (fields_of line) ≡ Ok new
cut_last line rest field at values new within cut is read =
    ap as_texts (field_last at (length line) rest field cut.fields (fields_of line) within cut.left read) ∙ ap Ok (sym (texts_more cut.fields field values new cut.texts is))

-- none, since it is bad, or since there are too many
pub cut_fault : (line rest : List ℕ) (at : ℕ) (values : List Datum) (fault : FieldFault) → at < 34 → AreCut line rest at values → first_field (length line) rest ≡ Err fault → as_texts (fields_of line) ≡ Err fault
cut_fault line rest at values fault within cut read = ap as_texts (field_fault at (length line) rest cut.fields fault (fields_of line) within cut.left read)

pub cut_full : (line rest : List ℕ) (at : ℕ) (values : List Datum) → 34 ≤ at → AreCut line rest at values → as_texts (fields_of line) ≡ Err TooMany
cut_full line rest at values full cut = ap as_texts (no_room at (length line) rest cut.fields (fields_of line) full cut.left)

-- ---- what was read, by the line

pub texts_found : (line : List ℕ) (values : List Datum) → as_texts (fields_of line) ≡ Ok values → AreTexts line values
texts_found line values e = by (fields_of line) refl e
  where
    by : (read : Result (List (List ℕ)) FieldFault) → fields_of line ≡ read → as_texts read ≡ Ok values → AreTexts line values
    by (Ok fields) is seen =
        let same : values ≡ map text fields = cc in
        record { fields = fields; are_fields = subst (LineIs line) is (line_is line); texts = same }
    by (Err fault) is seen = absurd cc

texts_read : (line : List ℕ) (values : List Datum) → AreTexts line values → as_texts (fields_of line) ≡ Ok values
texts_read line values are = ap as_texts (fields_of-is line are.fields are.are_fields) ∙ ap Ok (sym are.texts)

pub texts_once : (line : List ℕ) (values other : List Datum) → as_texts (fields_of line) ≡ Ok values → AreTexts line other → values ≡ other
texts_once line values other e are =
    let read = texts_read line other are in
    cc

-- why nothing was
pub fault_once : (line : List ℕ) (fault : FieldFault) (values : List Datum) → Fails fault (as_texts (fields_of line)) → AreTexts line values → fault ≡ NoMemory
fault_once line NoMemory values fails are = refl
fault_once line TooMany values fails are =
    let stop : as_texts (fields_of line) ≡ Err TooMany = fails in
    let read = texts_read line values are in
    absurd cc
fault_once line (Quote column) values fails are =
    let stop : as_texts (fields_of line) ≡ Err (Quote column) = fails in
    let read = texts_read line values are in
    absurd cc

read_fault : (read : Result (List (List ℕ)) FieldFault) (fault : FieldFault) → as_texts read ≡ Err fault → read ≡ Err fault
read_fault (Ok fields) fault e = absurd cc
read_fault (Err other) fault e = let same : other ≡ fault = cc in ap (λ (f : FieldFault). Err f) same

pub fault_found : (line : List ℕ) (fault : FieldFault) → Fails fault (as_texts (fields_of line)) → IsLineFault line (fault_of fault)
fault_found line NoMemory fails = tt
fault_found line TooMany fails = subst (LineIs line) (read_fault (fields_of line) TooMany fails) (line_is line)
fault_found line (Quote column) fails = subst (LineIs line) (read_fault (fields_of line) (Quote column) fails) (line_is line)
