use Rattle.std.proofs.Common.{◌∙◌, ap}
use Rattle.policy_index.specs.Indexed.{Indexed}
use Rattle.policy_index.proofs.CommitLemmas.{index_same, kept_copied}
use Rattle.policy_index.proofs.index.Index.copy.Goals as goal

pub invariant_of-result : goal.invariant_of-result
invariant_of-result c = kept_copied c.self.inside.marks.items _ c.self.inside.slots _ c.self.inside.fronts _ c.self.inside.places.items _ (c.in_ok-marks.ensures.items ∙ c.as_slice.ensures.value) c.in_ok-slots.ensures c.copy-fronts.ensures (c.in_ok-places.ensures.items ∙ c.as_slice-2.ensures.value) c.self.invariant

pub returns-clause-rows : goal.returns-clause-rows
returns-clause-rows c = λ by_slot is. index_same _ _ by_slot (c.in_ok-key.ensures ∙ ap (λ (i : Indexed). i.key) c.self.view_is) (c.in_ok-marks.ensures.items ∙ c.as_slice.ensures.value ∙ ap (λ (i : Indexed). i.marks) c.self.view_is) is

pub returns-clause-key : goal.returns-clause-key
returns-clause-key c = c.in_ok-key.ensures ∙ ap (λ (i : Indexed). i.key) c.self.view_is
