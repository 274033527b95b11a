use Rattle.std.proofs.Common.{◌∙◌, sym}
use Rattle.decision.specs.Helps.Asked.{case_in}
use Rattle.decision.proofs.PlainLemmas.{told_link, told_texts}
use Rattle.decision.proofs.plain_parts.told_by.Goals as goal

pub returns-in_default : goal.returns-in_default
returns-in_default c = told_texts (case_in c.args.asking.now) c.args.row.now c.args.parts (sym c.have_same_texts.ensures ∙ c.if-not-have_same_texts.false) c.in_default.is

pub returns : goal.returns
returns c = told_link (case_in c.args.asking.now) c.args.row.now c.args.parts c.in-Some.question c.is_linked.result (sym c.have_same_texts.ensures ∙ c.if-not-have_same_texts.false) c.in-Some.is c.is_linked.ensures
