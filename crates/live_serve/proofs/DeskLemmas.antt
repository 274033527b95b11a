-- One step of a desk.
use Rattle.std.proofs.Common.{◌≡◌, ℕ, List}
use Rattle.answer_lines.specs.LineText.{answer_text, numbered}
use Rattle.answer_lines.specs.declared.answer.Answer.{Answer}
use Rattle.desk_session.specs.Steps as round
use Rattle.model_conf.specs.ModelText.{ModelParts}
use Rattle.policy_desk.specs.Desks.{Work}
use Rattle.regex_gate.specs.Refusals.{Refusals}
use Rattle.script_read.specs.Said.{Said}
use Rattle.live_serve.specs.Places.{IsStep, at_desk}
use Rattle.live_serve.specs.Sayings.{item}

pub item_step : (model : ModelParts) (before now : Refusals) (old new : Work) (number : ℕ) (it : Said) (reply : Answer) (text : List ℕ) (step : round.IsStep model before now it old new reply) → new.state.shapes ≡ old.state.shapes → text ≡ numbered number (answer_text reply) → IsStep model (at_desk old) (at_desk new) number (item it) step.asked.refused text
item_step model before now old new number it reply text step same text-is = record {
  text_is = λ opening items stands. record { reply = reply; replied = step.replied opening items stands; unasked = step.asked.unasked; text_is = text-is };
  stands = λ opening items stands. step.behind opening items stands;
  shapes_are = same;
}
