use Rattle.std.proofs.Common.{◌≡◌, ◌≤◌, ℕ, Bool, List, length, take}
use Rattle.std.specs.Prelude.{All}
use Rattle.policy_table.specs.Tables.{Fields}
use Rattle.role_domain.specs.Relations.{Tells, counted}
use Rattle.role_graph.specs.Groups.{times}
use Rattle.role_domain.proofs.patterns.fitting.Given as goal

abbrev pub invariant-loop-row : goal.invariant-loop-row
invariant-loop-row l = record {
  two : All (λ (row : Fields). length row ≡ 2) l.pairs.items;
  few : length l.pairs.items ≤ l.row-index;
  rows : (test : List ℕ → Bool) → Tells l.fit l.text test → (row : Fields) → times row l.pairs.items ≡ counted test row (take l.row-index l.rows);
}
