use Rattle.std.proofs.Common.{◌≤◌, List, ℕ, length}
use Rattle.policy_table.specs.Tables.{rows}
use Rattle.role_domain.specs.Domains.{found}
use Rattle.role_domain.proofs.OwnLemmas.{IsFilling}
use Rattle.role_domain.proofs.domains.Domains.fill.Given as goal

abbrev pub decreases-loop-text : goal.decreases-loop-text
decreases-loop-text l = length l.owned

abbrev pub invariant-loop-text : goal.invariant-loop-text
invariant-loop-text l = record {
  filling : (text : List ℕ) → IsFilling (record { terms = l.terms; rows = rows l.fn.tables.policy l.fn.table }) text (found l.owned text) (found l.self.entries text);
  room : length l.owned ≤ l.self.spare;
}
