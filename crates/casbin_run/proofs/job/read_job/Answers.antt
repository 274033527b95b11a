use Rattle.command_words.specs.Items.{texts}
use Rattle.casbin_run.proofs.JobLemmas.{job_limits, job_read, job_sizes, no_job_read}
use Rattle.casbin_run.proofs.job.read_job.Goals as goal

pub returns-in_default-clause-asked : goal.returns-in_default-clause-asked
returns-in_default-clause-asked c = no_job_read (texts c.args.words.now) _ c.in_ok-command.ensures c.in_default.is

pub returns-clause-asked : goal.returns-clause-asked
returns-clause-asked c = job_read (texts c.args.words.now) _ c.in-Some.command c.job_of.result c.in_ok-command.ensures c.in-Some.is c.job_of.ensures

pub returns-clause-limit : goal.returns-clause-limit
returns-clause-limit c = job_limits (texts c.args.words.now) c.job_of.result (job_read (texts c.args.words.now) _ c.in-Some.command c.job_of.result c.in_ok-command.ensures c.in-Some.is c.job_of.ensures)

pub returns-clause-sized : goal.returns-clause-sized
returns-clause-sized c = job_sizes (texts c.args.words.now) c.job_of.result (job_read (texts c.args.words.now) _ c.in-Some.command c.job_of.result c.in_ok-command.ensures c.in-Some.is c.job_of.ensures)
