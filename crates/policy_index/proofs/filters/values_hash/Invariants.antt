use Rattle.std.proofs.Common.{take}
use Rattle.policy_index.specs.Hashes.{IsKeyOf}
use Rattle.policy_index.specs.Helps.Filters.{texts_of}
use Rattle.policy_index.proofs.filters.values_hash.Given as goal

abbrev pub invariant-loop-place : goal.invariant-loop-place
invariant-loop-place l = IsKeyOf l.hash (texts_of (take l.place l.values))
