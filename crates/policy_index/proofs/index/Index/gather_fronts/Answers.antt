use Rattle.std.proofs.Common.{◌≡◌, ◌+◌, ℕ, arith, subst, take}
use Rattle.policy_index.specs.Hashes.{front_hash}
use Rattle.policy_index.specs.Helps.FoundSlots.{AddsMarks, has_front_below}
use Rattle.policy_index.proofs.FindLemmas.{adds_first, adds_next, adds_under}
use Rattle.policy_index.proofs.HashLemmas.{front_next}
use Rattle.policy_index.proofs.index.Index.gather_fronts.Goals as goal

pub loop-at-init : goal.loop-at-init
loop-at-init c = record {
  hash = c.before_front-front.ensures;
  adds = adds_first c.args.hash c.args.text.now _ _ _ (adds_under c.args.hash c.before_front-front.result 0 c.args.text.now _ _ _ c.before_front-front.ensures c.in_ok-push_fronts.ensures);
}

pub loop-at-preserved : goal.loop-at-preserved
loop-at-preserved c =
    let hash : c.hash_byte-front.result ≡ front_hash c.args.hash (take (c.loop-at.at + 1) c.args.text.now) =
    front_next c.args.hash c.args.text.now c.loop-at.at _ c.loop-at.front c.hash_byte-front.result (omega (arith, c.loop-at-test.true)) c.loop-at.invariant.hash c.hash_byte-front.ensures in
    record {
      hash = hash;
      adds = adds_next c.args.hash c.args.text.now (c.loop-at.at + 1) (c.loop-at.at + 1 + 1) _ _ _ _ (omega arith) c.loop-at.invariant.adds (adds_under c.args.hash c.hash_byte-front.result (c.loop-at.at + 1) c.args.text.now _ _ _ hash c.in_ok-push_fronts-2.ensures);
    }

pub returns : goal.returns
returns c = subst (λ (n : ℕ). AddsMarks (has_front_below c.args.hash c.args.text.now n) c.args.self.now.marks c.args.slots.now.items c.loop-at.slots.items) (omega (arith, c.loop-at-test.false)) c.loop-at.invariant.adds
