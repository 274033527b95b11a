use Rattle.std.proofs.Common.{◌∙◌, refl}
use Rattle.policy_index.proofs.changes.forget_all.Goals as goal

pub loop-hash-init : goal.loop-hash-init
loop-hash-init c = λ hash. refl

pub loop-hash-preserved : goal.loop-hash-preserved
loop-hash-preserved c = λ hash. c.forget.ensures.slots hash ∙ c.loop-hash.invariant hash
