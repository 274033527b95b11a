use Rattle.std.proofs.Common.{◌∙◌, sym, eqb, arith}
use Rattle.text_parts.proofs.CallerLemmas.{is_passed_by-none, is_passed_by-some}
use Rattle.text_parts.proofs.passed.is_passed.Goals as goal

pub returns-in-empty : goal.returns-in-empty
returns-in-empty c = is_passed_by-none (λ b. eqb b 35) c.args.line.now c.as_bytes.result.now (c.as_bytes.ensures.value ∙ c.behind_blanks.ensures) (omega arith)

pub returns-in-len1-up : goal.returns-in-len1-up
returns-in-len1-up c = sym (is_passed_by-some (λ b. eqb b 35) c.args.line.now c.as_bytes.result.now (c.as_bytes.ensures.value ∙ c.behind_blanks.ensures) (omega arith))
