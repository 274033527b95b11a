use Rattle.std.specs.Prelude.{string_bytes}
use Rattle.demo_run.proofs.DemoLemmas.{session_is}
use Rattle.demo_run.proofs.demo.open_session.Goals as goal

pub returns-clause-session : goal.returns-clause-session
returns-clause-session c = session_is c.args.count c.in_ok-made.made.0 c.in_ok-made.made.1 c.in_ok-desk.desk (string_bytes c.in_ok-script.script) c.in_ok-made.ensures.model c.in_ok-made.ensures.shapes c.in_ok-desk.ensures.desk c.in_ok-script.ensures.text
