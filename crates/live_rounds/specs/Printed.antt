-- Answers that are kept as they are printed.
use Rattle.std.specs.Prelude.{◌≡◌}
use Rattle.answer_lines.specs.Printed.{PrintedAnswer, printed_answer}
use Rattle.answer_lines.specs.declared.answer.Answer.{Answer}

-- this is how an answer is printed of which that holds
pub record IsPrinted (Holds : Answer → Type 0) (printed : PrintedAnswer) : Type 0 where
  pub answer : Answer
  pub holds : Holds answer
  pub told : printed ≡ printed_answer answer
