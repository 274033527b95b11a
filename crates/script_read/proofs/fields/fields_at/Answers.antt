use Rattle.std.proofs.Common.{Ok, Err, ap, sym, ◌∙◌}
use Rattle.perm_base.specs.declared.quoted.FieldFault.{FieldFault}
use Rattle.script_read.specs.Blocks.{at_line}
use Rattle.script_read.specs.Helps.Given.{fields_read}
use Rattle.script_read.specs.declared.fault.LineCause.TheVariants.{Quote, Fields}
use Rattle.script_read.specs.declared.fault.ScriptFault.{ScriptFault}
use Rattle.script_read.proofs.GivesLemmas.{fails}
use Rattle.script_read.proofs.ReadLemmas.{fields_read-is}
use Rattle.script_read.proofs.fields.fields_at.Goals as goal

pub returns-in-Ok-clause-given : goal.returns-in-Ok-clause-given
returns-in-Ok-clause-given c = ap (at_line c.args.number) (fields_read-is c.args.text.now (Ok c.in-Ok.fields.items) c.in-Ok.ensures.found)

pub returns-in-Err-Quote-clause-given : goal.returns-in-Err-Quote-clause-given
returns-in-Err-Quote-clause-given c =
    let column = c.in-Err-Quote.field-0-0 in
    let told = c.read_fields.ensures.quote column (c.in-Err-Quote.is ∙ ap (λ (f : FieldFault). Err f) c.in-Err-Quote.field-0-is) in
    fails c.at.result (at_line c.args.number (fields_read c.args.text.now))
    (ap (at_line c.args.number) (fields_read-is c.args.text.now (Err Quote) (column, told)) ∙ ap (λ (f : ScriptFault). Err f) (sym c.at.ensures))

pub returns-in-Err-TooMany-clause-given : goal.returns-in-Err-TooMany-clause-given
returns-in-Err-TooMany-clause-given c =
    let told = c.read_fields.ensures.too_many (c.in-Err-TooMany.is ∙ ap (λ (f : FieldFault). Err f) c.in-Err-TooMany.field-0-is) in
    fails c.at-in-Err-TooMany.result (at_line c.args.number (fields_read c.args.text.now))
    (ap (at_line c.args.number) (fields_read-is c.args.text.now (Err Fields) told) ∙ ap (λ (f : ScriptFault). Err f) (sym c.at-in-Err-TooMany.ensures))
