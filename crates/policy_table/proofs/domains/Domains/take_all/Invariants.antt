use Rattle.std.proofs.Common.{◌≤◌, ◌++◌, List, ℕ, drop}
use Rattle.policy_table.specs.Helps.Domains.{AreCounted}
use Rattle.policy_table.specs.Limits.{domains_of}
use Rattle.policy_table.proofs.domains.Domains.take_all.Given as goal

abbrev pub invariant-loop-rule : goal.invariant-loop-rule
invariant-loop-rule l = record {
  counted : (others : List (List ℕ)) → AreCounted (domains_of l.rules ++ others) l.fn.self → AreCounted (domains_of (drop l.rule-index l.rules) ++ others) l.self;
  spare : l.fn.self.spare ≤ l.self.spare;
}
