use Rattle.command_words.specs.Items.{texts}
use Rattle.casbin_run.proofs.DemoLemmas.{demo_few, demo_read, no_demo_read}
use Rattle.casbin_run.proofs.demo.read_demo.Goals as goal

pub returns-in_default-clause-asked : goal.returns-in_default-clause-asked
returns-in_default-clause-asked c = no_demo_read (texts c.args.words.now) _ c.in_ok-command.ensures c.in_default.is

pub returns-clause-asked : goal.returns-clause-asked
returns-clause-asked c = demo_read (texts c.args.words.now) _ c.in-Some.command c.demo_of.result c.in_ok-command.ensures c.in-Some.is c.demo_of.ensures

pub returns-clause-few : goal.returns-clause-few
returns-clause-few c = demo_few (texts c.args.words.now) c.demo_of.result (demo_read (texts c.args.words.now) _ c.in-Some.command c.demo_of.result c.in_ok-command.ensures c.in-Some.is c.demo_of.ensures)
