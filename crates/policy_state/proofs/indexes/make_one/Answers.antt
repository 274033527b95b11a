use Rattle.std.proofs.Common.{◌≡◌, subst, sym, true}
use Rattle.perm_base.specs.declared.shapes.TableId.TheVariants.{P}
use Rattle.policy_index.specs.Indexed.{slots_behind}
use Rattle.policy_state.specs.Helps.Kept.{AreIndexed}
use Rattle.policy_state.proofs.IndexStepLemmas.{first_possible, rows_after}
use Rattle.policy_table.specs.Changes.{is_possible}
use Rattle.policy_table.specs.Slots.{slots}
use Rattle.policy_table.specs.declared.change.Change.{Change}
use Rattle.policy_state.proofs.indexes.make_one.Goals as goal

pub follow-requires-clause-possible : goal.follow-requires-clause-possible
follow-requires-clause-possible c =
    subst (λ (change : Change). is_possible change c.args.tables.now.policy ≡ true) (sym c.change.ensures) (first_possible c.args.tables.now c.args.step c.requires.tables.0 c.requires.tables.1)

pub returns-clause-index : goal.returns-clause-index
returns-clause-index c =
    rows_after c.args.step c.args.tables.now c.make.new.self c.follow.new.index c.by_slot-by_slot.ensures.nine c.make.ensures.slots
    (subst (λ (change : Change). AreIndexed c.follow.new.index (slots_behind change (slots c.args.tables.now P))) c.change.ensures c.follow.ensures.index)
