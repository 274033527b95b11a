use Rattle.std.proofs.Common.{◌≡◌, map}
use Rattle.matcher_read.proofs.names.path_by.Given as goal

abbrev pub invariant-loop-name : goal.invariant-loop-name
invariant-loop-name l = l.path.items ≡ map (λ name. name.now) l.yielded
