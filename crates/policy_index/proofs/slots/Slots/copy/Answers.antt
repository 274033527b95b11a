use Rattle.std.proofs.Common.{arith}
use Rattle.policy_index.proofs.CopyLemmas.{all_copied, list_copied}
use Rattle.policy_index.proofs.slots.Slots.copy.Goals as goal

pub loop-at-preserved : goal.loop-at-preserved
loop-at-preserved c =
    list_copied c.args.self.now c.loop-at.lists.entries c.insert.new.self.entries c.loop-at.at c.entry-hash.result.0 c.entry-hash.result.1.now c.in_ok-copy.field-0 c.len-len.ensures.once (omega (arith, c.loop-at-test.true, c.len-len.ensures.value)) c.entry-hash.ensures c.in_ok-copy.ensures
    c.loop-at.invariant c.in_ok-_none.ensures.entries

pub returns : goal.returns
returns c = λ hash. all_copied c.args.self.now c.loop-at.lists.entries c.loop-at.at hash (omega (arith, c.loop-at-test.false, c.len-len.ensures.value)) c.loop-at.invariant
