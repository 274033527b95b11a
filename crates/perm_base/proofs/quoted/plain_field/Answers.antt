use Rattle.std.proofs.Common.{refl, ◌∙◌}
use Rattle.perm_base.specs.FieldSteps.{before_comma}
use Rattle.perm_base.proofs.QuotedLemmas.{plain_fault, plain_read}
use Rattle.perm_base.proofs.quoted.plain_field.Goals as goal

pub returns-in_default : goal.returns-in_default
returns-in_default c = plain_fault c.args.size _ c.args.field.now (before_comma c.args.field.now) refl c.in_default.ensures.none c.line_end_column-column.ensures

pub returns : goal.returns
returns c = plain_read c.args.size c.args.field.now c.in-Some.text.now _ _ c.in-Some.ensures.before c.in-Some.ensures.clean (c.part.ensures ∙ c.before_blanks.ensures) c.in-Some.ensures.behind
