use Rattle.command_words.specs.Items.{texts}
use Rattle.lint_run.proofs.LintLemmas.{lint_limits, lint_read, no_lint_read}
use Rattle.lint_run.proofs.job.read_lint.Goals as goal

pub returns-in_default-clause-asked : goal.returns-in_default-clause-asked
returns-in_default-clause-asked c = no_lint_read (texts c.args.words.now) _ c.in_ok-command.ensures c.in_default.is

pub returns-clause-asked : goal.returns-clause-asked
returns-clause-asked c = lint_read (texts c.args.words.now) _ c.in-Some.command c.lint_of.result c.in_ok-command.ensures c.in-Some.is c.lint_of.ensures

pub returns-clause-limit : goal.returns-clause-limit
returns-clause-limit c = lint_limits (texts c.args.words.now) c.lint_of.result (lint_read (texts c.args.words.now) _ c.in-Some.command c.lint_of.result c.in_ok-command.ensures c.in-Some.is c.lint_of.ensures)
