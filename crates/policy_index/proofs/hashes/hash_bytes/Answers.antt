use Rattle.std.proofs.Common.{◌∙◌, ◌-◌, ap, arith, drop, length}
use Rattle.std.proofs.lemmas.List.{length-drop, take_all}
use Rattle.policy_index.specs.Hashes.{bytes_hash}
use Rattle.policy_index.proofs.HashLemmas.{four_more}
use Rattle.policy_index.proofs.hashes.hash_bytes.Goals as goal

pub fours-preserved : goal.fours-preserved
fours-preserved c = record {
  within = omega arith;
  same = four_more c.args.bytes.now c.fours.at _ _ _ _ c.fours.so_far c.hash_four-so_far.result _ (omega arith) c.hash_four-so_far.ensures c.fours.invariant.same;
}

pub returns : goal.returns
returns c =
    c.hash_pairs.ensures
    ∙ ap (bytes_hash c.fours.so_far) (take_all (length c.args.bytes.now - c.fours.at) (drop c.fours.at c.args.bytes.now) (omega (arith, length-drop c.fours.at c.args.bytes.now)))
    ∙ c.fours.invariant.same
