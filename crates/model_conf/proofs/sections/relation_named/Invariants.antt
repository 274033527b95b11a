use Rattle.std.proofs.Common.{◌≡◌, ℕ, ◌-◌, ◌<◌, false, [], get_or}
use Rattle.std.specs.Str.{bytes_eq}
use Rattle.matcher_read.specs.Calls.{relation_names}
use Rattle.model_conf.proofs.sections.relation_named.Given as goal

abbrev pub invariant-loop-number : goal.invariant-loop-number
invariant-loop-number l = (k : ℕ) → 0 < k → k < l.number → bytes_eq l.key (get_or relation_names (k - 1) []) ≡ false
