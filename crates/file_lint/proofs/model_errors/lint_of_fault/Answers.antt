use Rattle.file_lint.proofs.model_errors.lint_of_fault.Goals as goal

pub errors_of-requires : goal.errors_of-requires
errors_of-requires c = c.requires c.in_ok-unless_model_want.ensures

pub returns : goal.returns
returns c = (c.requires c.in_ok-unless_model_want.ensures, (c.in_ok-errors.errors.items, c.in_ok-errors.ensures, c.in_ok-findings.ensures))
