use Rattle.std.proofs.Common.{[]}
use Rattle.policy_state.specs.States.{tables}
use Rattle.live_tests.proofs.trial.tried_by.Given as goal

-- the pair of the book that was just opened, over the desk's policy
abbrev pub ghosts-tried_over : goal.ghosts-tried_over
ghosts-tried_over g a = record { book = a.opened; shapes = a.desk.state.shapes; opening = tables a.desk.state; first = [] }
