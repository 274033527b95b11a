use Rattle.std.proofs.Common.{ap, refl}
use Rattle.policy_index.specs.Indexed.{Indexed}
use Rattle.policy_index.proofs.CommitLemmas.{index_same, kept_copied}
use Rattle.policy_index.proofs.index.Index.forget_emptied.Goals as goal

pub invariant_of-self : goal.invariant_of-self
invariant_of-self c = kept_copied c.self.inside.marks.items c.self.inside.marks.items c.self.inside.slots c.forget_all.new.slots c.self.inside.fronts c.self.inside.fronts c.self.inside.places.items c.self.inside.places.items refl c.forget_all.ensures refl refl c.self.invariant

pub returns-clause-stays : goal.returns-clause-stays
returns-clause-stays c = λ by_slot is. index_same _ _ by_slot (ap (λ (i : Indexed). i.key) c.self.view_is) (ap (λ (i : Indexed). i.marks) c.self.view_is) is
