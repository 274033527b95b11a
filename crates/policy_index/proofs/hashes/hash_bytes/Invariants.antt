use Rattle.std.proofs.Common.{◌≡◌, ◌-◌, ◌≤◌, drop, length}
use Rattle.policy_index.specs.Hashes.{bytes_hash}
use Rattle.policy_index.proofs.hashes.hash_bytes.Given as goal

abbrev pub invariant-fours : goal.invariant-fours
invariant-fours l = record { within : l.at ≤ length l.bytes; same : bytes_hash l.so_far (drop l.at l.bytes) ≡ bytes_hash l.hash l.bytes }

abbrev pub decreases-fours : goal.decreases-fours
decreases-fours l = length l.bytes - l.at
