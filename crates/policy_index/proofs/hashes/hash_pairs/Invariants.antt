use Rattle.std.proofs.Common.{◌≡◌, ◌-◌, ◌≤◌, drop, length}
use Rattle.policy_index.specs.Hashes.{bytes_hash}
use Rattle.policy_index.proofs.hashes.hash_pairs.Given as goal

abbrev pub invariant-pairs : goal.invariant-pairs
invariant-pairs l = record { within : l.at ≤ length l.bytes; same : bytes_hash l.so_far (drop l.at l.bytes) ≡ bytes_hash l.hash l.bytes }

abbrev pub decreases-pairs : goal.decreases-pairs
decreases-pairs l = length l.bytes - l.at
