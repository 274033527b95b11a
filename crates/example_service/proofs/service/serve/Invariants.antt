use Rattle.std.proofs.Common.{[]}
use Rattle.policy_state.specs.States.{tables}
use Rattle.example_service.proofs.service.serve.Given as goal

-- the pair of the book that was just opened, over the desk's policy
abbrev pub ghosts-serve_pair : goal.ghosts-serve_pair
ghosts-serve_pair g a = record { book = a.opened; shapes = a.desk.state.shapes; opening = tables a.desk.state; first = [] }
