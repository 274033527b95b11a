use Rattle.command_words.specs.Items.{texts}
use Rattle.enforce_core.proofs.OptionLemmas.{no_report_read, report_limits, report_read}
use Rattle.enforce_core.proofs.options.report_of.Goals as goal

pub returns-in_default-clause-asked : goal.returns-in_default-clause-asked
returns-in_default-clause-asked c = no_report_read (texts c.args.words.now) _ c.in_ok-command.ensures c.in_default.is

pub returns-clause-asked : goal.returns-clause-asked
returns-clause-asked c = report_read (texts c.args.words.now) _ c.in-Some.command c.options_of.result c.in_ok-command.ensures c.in-Some.is c.options_of.ensures

pub returns-clause-limit : goal.returns-clause-limit
returns-clause-limit c = report_limits (texts c.args.words.now) c.options_of.result (report_read (texts c.args.words.now) _ c.in-Some.command c.options_of.result c.in_ok-command.ensures c.in-Some.is c.options_of.ensures)
