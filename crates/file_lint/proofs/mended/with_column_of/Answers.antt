use Rattle.std.proofs.Common.{ℕ, List, ◌++◌, codes, false, ap, ◌∙◌}
use Rattle.file_lint.specs.Mended.{if_short, with_column, with_line}
use Rattle.file_lint.specs.declared.mended.Extent.TheVariants.{Alone}
use Rattle.file_lint.specs.Places.{is_equals}
use Rattle.std.specs.List.{after_first}
use Rattle.file_lint.proofs.mended.with_column_of.Goals as goal

pub returns-in_default : goal.returns-in_default
returns-in_default c = ap (λ lines. with_column c.args.key.now c.args.column.now lines c.args.text.now) c.in_default.ensures.found

pub returns : goal.returns
returns c =
    let text = c.args.text.now in
    let key = c.args.key.now in
    let column = c.args.column.now in
    let by = c.as_str-2.ensures.value ∙ c.in_ok-by.ensures ∙ ap (λ (l : List ℕ). l ++ codes "," ++ c.cut_at_equals.result.1.now) (c.as_str.ensures.value ∙ c.in_ok-front.ensures)
    ∙ ap (λ (l : List ℕ). (key ++ codes " = " ++ column) ++ codes "," ++ l) c.cut_at_equals.ensures.back in
    c.if_short.ensures ∙ ap (if_short false) (c.in_ok-made.ensures ∙ ap (λ (b : List ℕ). with_line Alone c.in-Some.number b text) by)
    ∙ ap (λ lines. with_column key column lines text) c.in-Some.ensures.found
