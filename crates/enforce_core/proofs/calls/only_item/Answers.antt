use Rattle.std.proofs.Common.{List, ap, length, sym, ◌∙◌}
use Rattle.script_read.specs.declared.item.Item.{Item}
use Rattle.enforce_core.proofs.CallLemmas.{not_alone, not_one, one_asked, one_is}
use Rattle.enforce_core.proofs.calls.only_item.Goals as goal

pub returns-in_default : goal.returns-in_default
returns-in_default c = not_one c.args.script.now (ap (λ (items : List Item). length items) (sym c.as_slice.ensures) ∙ c.in_default.ensures.cases)

pub returns-then-not-is_empty : goal.returns-then-not-is_empty
returns-then-not-is_empty c = not_alone c.args.script.now c.in-Some.others.now c.in-Some.item.now c.is_empty.result (sym c.as_slice.ensures ∙ c.in-Some.ensures.cases.0) c.is_empty.ensures c.if-not-is_empty.true

pub returns-in_default-asked_in : goal.returns-in_default-asked_in
returns-in_default-asked_in c =
    one_asked c.args.script.now c.in-Some.others.now c.in-Some.item.now c.in_default-asked_in.field-0.now c.is_empty.result (sym c.as_slice.ensures ∙ c.in-Some.ensures.cases.0) c.is_empty.ensures c.if-not-is_empty.false c.in_default-asked_in.ensures

pub returns : goal.returns
returns c = (one_is c.args.script.now c.in-Some.others.now c.in-Some.item.now c.is_empty.result (sym c.as_slice.ensures ∙ c.in-Some.ensures.cases.0) c.is_empty.ensures c.if-not-is_empty.false, c.in-None.ensures)
