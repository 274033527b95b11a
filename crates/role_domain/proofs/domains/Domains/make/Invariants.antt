use Rattle.std.proofs.Common.{length}
use Rattle.role_domain.specs.Relations.{Relation}
use Rattle.role_domain.specs.Steps.{AreReady}
use Rattle.role_domain.proofs.domains.Domains.make.Given as goal

abbrev pub decreases-loop-text : goal.decreases-loop-text
decreases-loop-text l = length l.touched.items

abbrev pub invariant-loop-text : goal.invariant-loop-text
invariant-loop-text l = record {
  can : (relation : Relation) × AreReady relation l.touched.items l.self;
  leads : (relation : Relation) → AreReady relation l.initial.touched.items l.initial.self → AreReady relation l.touched.items l.self;
}
