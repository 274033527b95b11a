use Rattle.std.proofs.Common.{◌-◌, ◌≡◌, length, ap, sym, ◌∙◌, arith}
use Rattle.perm_base.specs.FieldSteps.{column_of}
use Rattle.perm_base.proofs.QuotedLemmas.{line_end_column-at, line_end_column-none}
use Rattle.perm_base.proofs.quoted.line_end_column.Goals as goal

pub returns-in-Some : goal.returns-in-Some
returns-in-Some c =
    let left : c.saturating_sub.result ≡ length c.args.bytes.now - c.in-Some.at = omega arith in
    c.column_of.ensures ∙ ap (column_of c.args.size) left ∙ sym (line_end_column-at c.args.size c.in-Some.at c.args.bytes.now (sym c.in-Some.ensures))

pub returns-in-None : goal.returns-in-None
returns-in-None c = c.column_of-in-None.ensures ∙ sym (line_end_column-none c.args.size c.args.bytes.now (sym c.in-None.ensures))
