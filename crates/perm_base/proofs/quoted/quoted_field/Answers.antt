use Rattle.std.proofs.Common.{◌≡◌, ◌+◌, ℕ, List, Some, None, Err, true, false, length, ap, sym, ◌∙◌}
use Rattle.perm_base.specs.LineEnds.{has_line_end}
use Rattle.perm_base.specs.declared.quoted.FieldFault.TheVariants.{Quote}
use Rattle.perm_base.specs.FieldSteps.{closed_field, column_of, quoted_field, quoted_text}
use Rattle.perm_base.proofs.QuotedLemmas.{quoted_open, quoted_fault, quoted_closed}
use Rattle.perm_base.proofs.quoted.quoted_field.Goals as goal

pub returns-in_default : goal.returns-in_default
returns-in_default c =
    let none : quoted_text c.args.inside.now ≡ None = sym (rw c.in_default.is at c.in_ok-text.ensures) in
    let fault : quoted_field c.args.size c.args.inside.now ≡ Err (Quote (column_of c.args.size (length c.args.inside.now + 1))) = quoted_open c.args.size c.args.inside.now none in
    cc

pub returns-then-has_line_end : goal.returns-then-has_line_end
returns-then-has_line_end c =
    let found : quoted_text c.args.inside.now ≡ Some (c.in-Some.text, c.in-Some.after.now) = sym (rw c.in-Some.is at c.in_ok-text.ensures) in
    let holds : has_line_end c.in-Some.text ≡ true = cc in
    quoted_fault c.args.size _ c.args.inside.now c.in-Some.text c.in-Some.after.now found holds c.line_end_column-column.ensures

pub returns : goal.returns
returns c =
    let found : quoted_text c.args.inside.now ≡ Some (c.in-Some.text, c.in-Some.after.now) = sym (rw c.in-Some.is at c.in_ok-text.ensures) in
    let none : has_line_end c.in-Some.text ≡ false = cc in
    let e : quoted_field c.args.size c.args.inside.now ≡ closed_field c.args.size c.own.result c.behind_blanks.result.now =
    quoted_closed c.args.size c.args.inside.now c.in-Some.text c.in-Some.after.now found none ∙ ap (closed_field c.args.size c.in-Some.text) (sym c.behind_blanks.ensures) ∙ ap (λ (text : List ℕ). closed_field c.args.size text c.behind_blanks.result.now) (sym c.own.ensures) in
    rw e c.closed_field.ensures
