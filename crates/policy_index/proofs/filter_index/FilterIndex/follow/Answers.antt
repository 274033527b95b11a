use Rattle.std.proofs.Common.{◌∙◌, ap, subst, sym}
use Rattle.policy_index.specs.Finders.{IsFinderIn}
use Rattle.policy_index.proofs.FinderLemmas.{followed_other, followed_own, seen}
use Rattle.policy_table.specs.Changes.{is_table}
use Rattle.policy_index.proofs.filter_index.FilterIndex.follow.Goals as goal

pub returns-then-not-is_table : goal.returns-then-not-is_table
returns-then-not-is_table c = λ ok after made.
    subst (IsFinderIn after) c.self.view_is
    (followed_other (record { table = c.self.inside.table; index = c.self.inside.index }) c.args.change.now c.args.tables.now after
    (seen c.args.self.now c.self.inside.table c.self.inside.index c.args.tables.now c.self.view_is c.requires.finder)
    (ap (is_table c.self.inside.table) (sym c.table.ensures) ∙ sym c.is_table.ensures ∙ c.if-not-is_table.true) made)

pub follow_own-requires : goal.follow_own-requires
follow_own-requires c = (seen c.args.self.now c.self.inside.table c.self.inside.index c.args.tables.now c.self.view_is c.requires.finder).index

pub returns : goal.returns
returns c = λ ok after made.
    followed_own c.self.inside.table c.self.inside.index c.follow_own.new.index c.args.change.now c.args.tables.now after
    (seen c.args.self.now c.self.inside.table c.self.inside.index c.args.tables.now c.self.view_is c.requires.finder) c.by_slot-by_slot.ensures.nine c.requires.possible
    (ap (is_table c.self.inside.table) (sym c.table.ensures) ∙ sym c.is_table.ensures ∙ c.if-not-is_table.false) c.follow_own.ensures.key (c.follow_own.ensures.rows ok) made
