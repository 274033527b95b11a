use Rattle.std.proofs.Common.{Option, refl, subst}
use Rattle.std.specs.Borrow.{Bor}
use Rattle.std.specs.Prelude.{IfSome}
use Rattle.decision.specs.Helps.Asked.{ServesFor}
use Rattle.decision.specs.declared.plan.KeptPlan.{KeptPlan}
use Rattle.decision.proofs.PlainLemmas.{row_decides}
use Rattle.decision.proofs.plain_parts.plain_parts_of.Goals as goal

pub returns : goal.returns
returns c =
    let asked = c.args.asking.now in
    let is : ServesFor asked c.in-Some.plan.now = subst (λ (o : Option (Bor KeptPlan)). IfSome o (λ plan. ServesFor asked plan.now)) c.in-Some.is c.requires in
    row_decides asked.model.now asked.state.now asked.request.now c.in-Some.plan.now is.kept is.able c.case_answer_is_there.ensures.truth c.if-not-plan.false (record { pairs = c.as_slice.result; question = c.in-Some.plan.now.question }) c.as_slice.ensures.value refl
