use Rattle.std.proofs.Common.{◌∙◌, subst, sym}
use Rattle.policy_index.specs.Finders.{AreFindersIn, IsFinderIn}
use Rattle.policy_index.proofs.finders.Finders.finder_by.Goals as goal

pub returns-then-is_by-clause-own : goal.returns-then-is_by-clause-own
returns-then-is_by-clause-own c = λ held are.
    subst (IsFinderIn held) (sym c.finder-item.is) (subst (AreFindersIn held) (sym (c.deref-finder-items.ensures.value ∙ c.self.view_is)) are c.loop-finder.finder-index _ c.loop-finder-test.true)

pub returns-then-is_by-clause-table : goal.returns-then-is_by-clause-table
returns-then-is_by-clause-table c = c.is_by.ensures.table c.if-is_by.true

pub returns-then-is_by-clause-columns : goal.returns-then-is_by-clause-columns
returns-then-is_by-clause-columns c = c.is_by.ensures.columns c.if-is_by.true
