use Rattle.std.proofs.Common.{◌≡◌, drop}
use Rattle.matcher_read.specs.Expression.{expression}
use Rattle.model_conf.specs.Helps.Misuses.{earlier}
use Rattle.model_conf.specs.Uses.{uses}
use Rattle.model_conf.proofs.UseLemmas.{misuse_in, uses_of}
use Rattle.model_conf.proofs.uses.Declared.+first_misuse.Given as goal

abbrev pub invariant-loop-member : goal.invariant-loop-member
invariant-loop-member l = earlier l.first (misuse_in l.self.request.now l.self.policy.now l.self.relations.now (uses_of (drop l.member-index l.member-items))) ≡ misuse_in l.self.request.now l.self.policy.now l.self.relations.now (uses (expression l.tree))

abbrev pub invariant-loop-argument : goal.invariant-loop-argument
invariant-loop-argument l = earlier l.first (misuse_in l.self.request.now l.self.policy.now l.self.relations.now (uses_of (drop l.argument-index l.argument-items))) ≡ misuse_in l.self.request.now l.self.policy.now l.self.relations.now (uses (expression l.tree))

abbrev pub invariant-loop-argument-2 : goal.invariant-loop-argument-2
invariant-loop-argument-2 l = earlier l.first (misuse_in l.self.request.now l.self.policy.now l.self.relations.now (uses_of (drop l.argument-index l.argument-items))) ≡ misuse_in l.self.request.now l.self.policy.now l.self.relations.now (uses (expression l.tree))
