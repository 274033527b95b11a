-- Items of a script that are done one after the other at a desk, each by a line.
use Rattle.std.specs.Prelude.{ℕ, String}
use Rattle.std.specs.declared.alloc.Global.{Global}
use Rattle.answer_lines.specs.LineText.{Appends, line_text}
use Rattle.answer_lines.specs.declared.answer.Answer.{Answer}
use Rattle.desk_session.specs.Steps.{IsStep}
use Rattle.model_conf.specs.ModelText.{ModelParts}
use Rattle.policy_desk.specs.Desks.{Work}
use Rattle.regex_gate.specs.Refusals.{Refusals}
use Rattle.script_read.specs.Said.{Said}

-- an item is answered and done, and its line stands behind a text
pub record PushesItem (model : ModelParts) (before now : Refusals) (item : Said) (number : ℕ) (desk desk_now : Work) (old new : String Global) : Type 0 where
  pub reply : Answer
  pub step : IsStep model before now item desk desk_now reply
  pub appended : Appends old new (line_text (record { number = number; answer = reply }))
