use Rattle.std.proofs.Common.{◌≡◌, ℕ, Bool, List}
use Rattle.std.specs.Map.{keys_of}
use Rattle.role_domain.specs.Helps.Tallies.{own_at, rows_at}
use Rattle.role_domain.specs.Relations.{Tells, pair_of}
use Rattle.role_domain.proofs.BringLemmas.{after_keys}
use Rattle.role_meaning.specs.Links.{domain_of}
use Rattle.role_domain.proofs.domain_steps.push_fitting.Given as goal

abbrev pub invariant-loop-at : goal.invariant-loop-at
invariant-loop-at l = record {
  own : (text : List ℕ) → own_at l.tallies text ≡ own_at l.initial.tallies text;
  rows : (text : List ℕ) (test : List ℕ → Bool) → Tells l.fit text test → rows_at l.tallies text ≡ after_keys (keys_of l.domains.entries) l.at (test (domain_of l.row)) text (rows_at l.initial.tallies text) (pair_of l.row);
}
