use Rattle.std.proofs.Common.{◌≡◌, ◌∙◌}
use Rattle.policy_index.specs.Finders.{AreFindersIn, IsFinderIn}
use Rattle.policy_index.specs.Helps.Filters.{columns_from, texts_of}
use Rattle.policy_index.proofs.FinderLemmas.{finds_fitting, if_some}
use Rattle.policy_table.specs.Held.{Held}
use Rattle.policy_index.proofs.finders.Finders.find.Goals as goal

pub find-requires-clause-finder : goal.find-requires-clause-finder
find-requires-clause-finder c =
    if_some c.finder_by.result c.in-Some-finder_by.finder c.in-Some-finder_by.is (λ finder. (held : Held) → AreFindersIn held c.args.self.now → IsFinderIn held finder.now) c.finder_by.ensures.own c.args.tables.now c.requires.finders

pub find-requires-clause-texts : goal.find-requires-clause-texts
find-requires-clause-texts c = (texts_of c.args.values.now, c.values_hash.ensures)

pub returns : goal.returns
returns c =
    finds_fitting c.in-Some-finder_by.finder.now c.args.table c.as_slice.result.now c.args.at c.args.values.now c.args.tables.now.policy c.in-Ok.places.items
    (if_some c.finder_by.result c.in-Some-finder_by.finder c.in-Some-finder_by.is (λ finder. finder.now.table ≡ c.args.table) c.finder_by.ensures.table)
    (if_some c.finder_by.result c.in-Some-finder_by.finder c.in-Some-finder_by.is (λ finder. finder.now.index.key.columns ≡ c.as_slice.result.now) c.finder_by.ensures.columns)
    (c.as_slice.ensures.value ∙ if_some c.sought_columns.result c.in-Some.columns c.in-Some.is (λ columns. columns.items ≡ columns_from c.args.at c.args.values.now) c.sought_columns.ensures)
    (c.in-Ok.ensures (texts_of c.args.values.now) c.values_hash.ensures)
