use Rattle.live_rounds.proofs.ScriptLemmas.{stands_new}
use Rattle.live_rounds.proofs.script.run_shared.Goals as goal

pub run_over-requires-clause-stands : goal.run_over-requires-clause-stands
run_over-requires-clause-stands g c = λ lifetimes outlive. stands_new c.args.desk.state c.requires.opening
