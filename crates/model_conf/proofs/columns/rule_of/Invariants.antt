use Rattle.std.proofs.Common.{◌≡◌, ℕ, List, Bor, map, take}
use Rattle.model_conf.proofs.columns.rule_of.Given as goal

abbrev pub invariant-loop-name : goal.invariant-loop-name
invariant-loop-name l = l.fields.items ≡ take l.name-index (map (λ (name : Bor (List ℕ)). name.now) l.names)
