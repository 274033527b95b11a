use Rattle.std.proofs.Common.{sym, ◌∙◌, arith}
use Rattle.std.proofs.lemmas.List.{at_drop_all}
use Rattle.policy_index.specs.Hashes.{bytes_hash}
use Rattle.policy_index.proofs.HashLemmas.{last_byte, pair_more}
use Rattle.policy_index.proofs.hashes.hash_pairs.Goals as goal

pub pairs-preserved : goal.pairs-preserved
pairs-preserved c = record {
  within = omega arith;
  same = pair_more c.args.bytes.now c.pairs.at _ _ c.pairs.so_far c.hash_two-so_far.result _ (omega arith) c.hash_two-so_far.ensures c.pairs.invariant.same;
}

pub returns-then-at-bytes : goal.returns-then-at-bytes
returns-then-at-bytes c = last_byte c.args.bytes.now c.pairs.at _ c.pairs.so_far c.hash_byte.result _ c.if-at-bytes.true (omega arith) c.hash_byte.ensures c.pairs.invariant.same

pub returns : goal.returns
returns c = sym (at_drop_all (bytes_hash c.pairs.so_far) c.args.bytes.now c.pairs.at (omega arith)) ∙ c.pairs.invariant.same
