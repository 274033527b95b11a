use Rattle.std.proofs.Common.{◌≡◌, ℕ, false, drop, take}
use Rattle.std.specs.List.{list_any}
use Rattle.std.specs.Option.{option_copied}
use Rattle.perm_base.specs.LineEnds.{has_line_end}
use Rattle.policy_query.specs.Names.{names_beside}
use Rattle.policy_query.proofs.NameLemmas.{shown}
use Rattle.policy_query.proofs.names.names_beside.Given as goal

abbrev pub invariant-loop-rule : goal.invariant-loop-rule
invariant-loop-rule l = (n : ℕ) × (l.rule-iterator ≡ drop n l.fn.rules)
    × (shown l.names.keys ≡ names_beside l.asked l.told l.name (option_copied l.domain) (take n l.fn.rules)) × (list_any has_line_end (shown l.names.keys) ≡ false)
