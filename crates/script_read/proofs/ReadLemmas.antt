-- Each text reads as fields, and as the line of a request, in exactly one way.
use Rattle.std.proofs.Common.{◌≡◌, ℕ, Bool, true, false, List, Result, Ok, Err, refl, sym, ap, ◌∙◌}
use Rattle.std.proofs.Math.Path.{fun_ext}
use Rattle.perm_base.proofs.CallerLemmas.{LineIs, fields_of-fault, fields_of-is, line_is}
use Rattle.perm_base.specs.FieldSteps.{fields_of}
use Rattle.perm_base.specs.declared.quoted.FieldFault.{FieldFault}
use Rattle.perm_base.specs.declared.quoted.FieldFault.TheVariants as field
use Rattle.perm_value.specs.Datum.{Datum}
use Rattle.perm_value.specs.declared.request.RequestFault.TheVariants.{Quote, TooMany, Syntax, NotAnArray, TooDeep, NotWhole, NoMemory}
use Rattle.policy_table.specs.Tables.{Fields}
use Rattle.script_read.specs.Helps.Given.{by_cause, fields_read}
use Rattle.script_read.specs.Readings.{as_texts, request_read}
use Rattle.script_read.specs.Reads.{Reader, ReadsFields, Says, SaysFields}
use Rattle.script_read.specs.Said.{Reading}
use Rattle.script_read.specs.declared.fault.LineCause.{LineCause}
use Rattle.script_read.specs.declared.fault.LineCause.TheVariants as cause

-- ---- fields

by_line : (line : List ℕ) (found : Result Fields FieldFault) → LineIs line found → ReadsFields line (by_cause found)
by_line line (Ok found) is = is
by_line line (Err (field.Quote column)) is = (column, is)
by_line line (Err field.TooMany) is = is
by_line line (Err field.NoMemory) is = absurd is

-- each text reads as something
pub reads_fields : (line : List ℕ) → ReadsFields line (fields_read line)
unfolding fields_read
reads_fields line = by_line line (fields_of line) (line_is line)

-- and as nothing else
pub fields_read-is : (line : List ℕ) (result : Result Fields LineCause) → ReadsFields line result → fields_read line ≡ result
unfolding fields_read
fields_read-is line (Ok found) is = ap by_cause (fields_of-is line found is)
fields_read-is line (Err cause.Quote) is = ap by_cause (fields_of-fault line (field.Quote (is.0)) (is.1))
fields_read-is line (Err cause.Fields) is = ap by_cause (fields_of-fault line field.TooMany is)
fields_read-is line (Err cause.Word) is = absurd is
fields_read-is line (Err cause.Table) is = absurd is
fields_read-is line (Err cause.Number) is = absurd is
fields_read-is line (Err cause.Mixed) is = absurd is
fields_read-is line (Err cause.Unpaired) is = absurd is

-- ---- requests

by_texts : (line : List ℕ) (found : Result Fields FieldFault) → LineIs line found → SaysFields line (as_texts found)
by_texts line (Ok found) is = record { fields = found; are_fields = is; texts = refl }
by_texts line (Err (field.Quote column)) is = (λ memory. absurd cc, is)
by_texts line (Err field.TooMany) is = (λ memory. absurd cc, is)
by_texts line (Err field.NoMemory) is = absurd is

-- each line says something
pub request_says : (json : Bool) (line : List ℕ) → Says json line (request_read json line)
unfolding request_read
request_says true line = refl
request_says false line = by_texts line (fields_of line) (line_is line)

texts_are : (line : List ℕ) (reading : Reading) → SaysFields line reading → as_texts (fields_of line) ≡ reading
texts_are line (Ok values) is = ap as_texts (fields_of-is line is.fields is.are_fields) ∙ ap (λ (v : List Datum). Ok v) (sym is.texts)
texts_are line (Err (Quote column)) is = ap as_texts (fields_of-fault line (field.Quote column) (is.1))
texts_are line (Err TooMany) is = ap as_texts (fields_of-fault line field.TooMany (is.1))
texts_are line (Err Syntax) is = absurd (is.1)
texts_are line (Err NotAnArray) is = absurd (is.1)
texts_are line (Err (TooDeep place)) is = absurd (is.1)
texts_are line (Err (NotWhole place)) is = absurd (is.1)
texts_are line (Err NoMemory) is = absurd (is.0 refl)

-- and nothing else
pub request_read-is : (json : Bool) (line : List ℕ) (reading : Reading) → Says json line reading → request_read json line ≡ reading
unfolding request_read
request_read-is true line reading is = is
request_read-is false line reading is = texts_are line reading is

-- ---- both

abbrev pub the_reader : (json : Bool) → Reader json
the_reader json = record {
  fields = fields_read;
  request = request_read json;
  reads = reads_fields;
  says = request_says json;
}

pub reader_fields : {json : Bool} (reader : Reader json) → reader.fields ≡ fields_read
reader_fields reader = fun_ext (λ line. sym (fields_read-is line (reader.fields line) (reader.reads line)))

pub reader_request : (json : Bool) (reader : Reader json) → reader.request ≡ request_read json
reader_request json reader = fun_ext (λ line. sym (request_read-is json line (reader.request line) (reader.says line)))

pub same_fields : (json : Bool) (first second : Reader json) (text : List ℕ) → first.fields text ≡ second.fields text
same_fields json first second text = sym (fields_read-is text (first.fields text) (first.reads text)) ∙ fields_read-is text (second.fields text) (second.reads text)

pub same_request : (json : Bool) (first second : Reader json) (text : List ℕ) → first.request text ≡ second.request text
same_request json first second text = sym (request_read-is json text (first.request text) (first.says text)) ∙ request_read-is json text (second.request text) (second.says text)
