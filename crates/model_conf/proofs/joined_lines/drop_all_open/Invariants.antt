use Rattle.std.proofs.Common.{ℕ, List, [], length}
use Rattle.std.specs.Prelude.{string_bytes}
use Rattle.model_conf.specs.Logical.{IsWhole}
use Rattle.model_conf.proofs.joined_lines.drop_all_open.Given as goal

abbrev pub invariant-loop : goal.invariant-loop
invariant-loop l = (whole : List ℕ) → IsWhole (string_bytes l.text) [] whole [] → IsWhole (string_bytes l.fn.text) [] whole []

abbrev pub decreases-loop : goal.decreases-loop
decreases-loop l = length (string_bytes l.text)
