use Rattle.std.proofs.Common.{[]}
use Rattle.policy_state.specs.States.{tables}
use Rattle.live_rounds.proofs.script.run_shared.Given as goal

-- the pair of the book that was just opened, over the desk's policy
abbrev pub ghosts-run_over : goal.ghosts-run_over
ghosts-run_over g a = record { book = a.opened; shapes = a.desk.state.shapes; opening = tables a.desk.state; first = [] }
