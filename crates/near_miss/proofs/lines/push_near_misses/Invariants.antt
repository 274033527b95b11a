use Rattle.std.proofs.Common.{◌≡◌, ◌++◌, drop}
use Rattle.std.specs.Prelude.{string_bytes}
use Rattle.perm_base.specs.declared.shapes.TableId.TheVariants.{P}
use Rattle.policy_state.specs.States.{tables}
use Rattle.policy_table.specs.Tables.{rows}
use Rattle.near_miss.specs.Lines.{miss_lines}
use Rattle.near_miss.proofs.lines.push_near_misses.Given as goal

abbrev pub invariant-loop-miss : goal.invariant-loop-miss
invariant-loop-miss l = string_bytes l.text ++ miss_lines l.explainer (rows (tables l.state) P) (drop l.miss-index l.misses) ≡ string_bytes l.fn.text ++ miss_lines l.explainer (rows (tables l.state) P) l.misses
