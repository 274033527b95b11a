use Rattle.std.proofs.Common.{◌≡◌, ◌++◌, drop, false, map}
use Rattle.std.specs.Prelude.{nat_lt, string_bytes}
use Rattle.matcher_read.specs.Expression.{expression, expressions_of}
use Rattle.near_miss.specs.Written.{written_list}
use Rattle.near_miss.proofs.tree_text.+writing.Given as goal

abbrev pub invariant-push_list-loop-at : goal.invariant-push_list-loop-at
invariant-push_list-loop-at l =
    string_bytes l.text ++ written_list l.all (nat_lt 0 l.at) (expressions_of (map expression (drop l.at l.trees))) ≡ string_bytes l.fn.text ++ written_list l.all false (expressions_of (map expression l.trees))
