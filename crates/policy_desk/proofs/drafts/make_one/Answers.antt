use Rattle.std.proofs.Common.{◌≡◌, ◌∙◌, ap, subst, sym, true}
use Rattle.policy_table.specs.Changes.{is_possible}
use Rattle.policy_table.specs.Slots.{slots_changed}
use Rattle.policy_table.specs.declared.change.Change.{Change}
use Rattle.policy_table.proofs.CallerLemmas.{first_possible}
use Rattle.policy_desk.proofs.drafts.make_one.Goals as goal

pub follow-requires-clause-possible : goal.follow-requires-clause-possible
follow-requires-clause-possible c =
    subst (λ (change : Change). is_possible change c.args.tables.now.policy ≡ true) (sym c.change.ensures) (first_possible c.args.step c.requires.tables.0 c.args.tables.now.policy c.requires.tables.1.possible)

pub returns-clause-finders : goal.returns-clause-finders
returns-clause-finders c = c.follow.ensures c.make.new.self (c.make.ensures.slots ∙ ap (λ (change : Change). slots_changed change c.args.tables.now.slots) (sym c.change.ensures))
