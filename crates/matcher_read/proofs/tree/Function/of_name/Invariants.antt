use Rattle.std.proofs.Common.{◌≡◌, drop, find}
use Rattle.std.specs.Str.{bytes_eq}
use Rattle.matcher_read.specs.Calls.{function_of, name_of}
use Rattle.matcher_read.proofs.tree.Function.of_name.Given as goal

abbrev pub invariant-loop-function : goal.invariant-loop-function
invariant-loop-function l = find (λ found. bytes_eq l.name (name_of found)) (drop l.function-index l.function-items) ≡ function_of l.name
