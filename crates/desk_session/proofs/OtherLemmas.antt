-- Items that are no requests, at what edits and publishes a policy.
use Rattle.std.proofs.Common.{◌≡◌, Ok, Err, subst, sym}
use Rattle.std.specs.Prelude.{IfOk, OnErr, OnOk, Result}
use Rattle.answer_lines.specs.declared.answer.Answer.{Answer}
use Rattle.policy_desk.specs.Desks.{Work}
use Rattle.script_read.specs.Said.{Said}
use Rattle.desk_session.specs.Steps.{IsPlainStep}

-- what holds, holds after an answer
pub on_ok_of : {X E P : Type 0} (r : Result X E) → P → OnOk r P
on_ok_of (Ok x) is = is
on_ok_of (Err e) is = tt

-- a query at the desk that is lent
pub lent_step : {E : Type 0} (item : Said) (desk work : Work) (r : Result Answer E) → desk ≡ work → IfOk r (IsPlainStep item desk desk) → IfOk r (IsPlainStep item work work)
lent_step item desk work r same is = subst (λ (d : Work). IfOk r (IsPlainStep item d d)) same is
