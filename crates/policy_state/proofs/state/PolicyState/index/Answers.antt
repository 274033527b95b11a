use Rattle.std.proofs.Common.{Option, ap, subst, sym, ◌∙◌}
use Rattle.std.specs.Option.{option_copied}
use Rattle.perm_base.specs.declared.shapes.TableId.TheVariants.{P}
use Rattle.policy_index.specs.Indexed.{Indexed}
use Rattle.policy_state.specs.Helps.Kept.{AreIndexed, key_of}
use Rattle.policy_state.specs.States.{State, tables}
use Rattle.policy_table.specs.Slots.{AreSlots, slots}
use Rattle.policy_table.specs.Tables.{rows}
use Rattle.policy_state.proofs.state.PolicyState.index.Goals as goal

pub returns-clause-key : goal.returns-clause-key
returns-clause-key c = ap key_of c.as_ref.ensures.value ∙ ap (λ (s : State). s.key) c.self.view_is

pub returns-clause-rows : goal.returns-clause-rows
returns-clause-rows c =
    subst (λ (s : State). AreIndexed (option_copied c.as_ref.result) (slots s.parts.held P)) c.self.view_is (subst (λ (i : Option Indexed). AreIndexed i (slots c.self.inside.tables P)) (sym c.as_ref.ensures.value) c.self.invariant.index)

pub returns-clause-slots : goal.returns-clause-slots
returns-clause-slots c = subst (λ (s : State). AreSlots (slots s.parts.held P) (rows (tables s) P)) c.self.view_is c.by_slot-by_slot.ensures.stand
