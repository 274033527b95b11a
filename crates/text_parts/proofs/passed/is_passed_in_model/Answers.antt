use Rattle.std.proofs.Common.{◌≡◌, ◌||◌, get_or, eqb, ◌∙◌, arith}
use Rattle.std.proofs.lemmas.Bool.Decides.{nat_tests}
use Rattle.text_parts.specs.Passed.{is_passed_in_model}
use Rattle.text_parts.proofs.CallerLemmas.{is_passed_by-none, is_passed_by-some}
use Rattle.text_parts.proofs.passed.is_passed_in_model.Goals as goal

pub returns-in-empty : goal.returns-in-empty
returns-in-empty c = is_passed_by-none (λ b. eqb b 35 || eqb b 59) c.args.line.now c.as_bytes.result.now (c.as_bytes.ensures.value ∙ c.behind_blanks.ensures) (omega arith)

pub returns-then-first-eq35 : goal.returns-then-first-eq35
returns-then-first-eq35 c =
    let first = get_or c.as_bytes.result.now 0 0 in
    let is : is_passed_in_model c.args.line.now ≡ (eqb first 35 || eqb first 59) = is_passed_by-some (λ b. eqb b 35 || eqb b 59) c.args.line.now c.as_bytes.result.now (c.as_bytes.ensures.value ∙ c.behind_blanks.ensures) (omega arith) in
    grind (arith, nat_tests)

pub returns-else-first-eq35 : goal.returns-else-first-eq35
returns-else-first-eq35 c =
    let first = get_or c.as_bytes.result.now 0 0 in
    let is : is_passed_in_model c.args.line.now ≡ (eqb first 35 || eqb first 59) = is_passed_by-some (λ b. eqb b 35 || eqb b 59) c.args.line.now c.as_bytes.result.now (c.as_bytes.ensures.value ∙ c.behind_blanks.ensures) (omega arith) in
    grind (arith, nat_tests)
