use Rattle.std.proofs.Common.{ℕ, List, take}
use Rattle.std.specs.Prelude.{is_some}
use Rattle.role_domain.specs.Domains.{found}
use Rattle.role_domain.specs.Helps.Tallies.{Brings}
use Rattle.role_domain.proofs.domain_steps.gather.Given as goal

abbrev pub invariant-loop-row : goal.invariant-loop-row
invariant-loop-row l = (text : List ℕ) → Brings l.fit (is_some (found l.domains.entries text)) text (take l.row-index l.rows) l.tallies
