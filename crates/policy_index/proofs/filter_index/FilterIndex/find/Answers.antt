use Rattle.std.proofs.Common.{[], List, ℕ, subst}
use Rattle.policy_table.specs.Slots.{slots}
use Rattle.policy_table.specs.Tables.{rows}
use Rattle.policy_index.specs.Finders.{Sought}
use Rattle.policy_index.specs.Found.{AddsSlots, FindRows}
use Rattle.policy_index.specs.Hashes.{IsKeyOf}
use Rattle.policy_index.specs.Keys.{agrees, has_texts}
use Rattle.policy_index.proofs.FinderLemmas.{finds_texts, seen}
use Rattle.policy_index.proofs.FoundRowsLemmas.{all_added}
use Rattle.policy_index.proofs.filter_index.FilterIndex.find.Goals as goal
use Rattle.policy_index.proofs.filter_index.FilterIndex.find.Goals.{In_ok-gather}

-- what is added for the texts of the hash
added : (c : In_ok-gather) (texts : List (List ℕ)) → IsKeyOf c.args.hash texts → AddsSlots (agrees c.self.inside.index.key texts []) (slots c.args.tables.now c.self.inside.table) [] c.gather.new.slots.items
added c texts key =
    subst (λ (old : List ℕ). AddsSlots (agrees c.self.inside.index.key texts []) (slots c.args.tables.now c.self.inside.table) old c.gather.new.slots.items) c.new-places.ensures.items
    (c.in_ok-gather.ensures (slots c.args.tables.now c.self.inside.table) texts (seen c.args.self.now c.self.inside.table c.self.inside.index c.args.tables.now c.self.view_is c.requires.finder).index key)

pub put_rows_in_order-requires : goal.put_rows_in_order-requires
put_rows_in_order-requires c =
    all_added (agrees c.self.inside.index.key c.requires.texts.0 []) (slots c.args.tables.now c.self.inside.table) c.gather.new.slots.items
    (added (goal.at.put_rows_in_order-requires c).In_ok-gather c.requires.texts.0 c.requires.texts.1)

pub returns : goal.returns
returns c = λ texts key.
    subst (λ (f : Sought). FindRows (has_texts f.index.key.columns texts) (rows c.args.tables.now.policy f.table) c.put_rows_in_order.new.found.items) c.self.view_is
    (finds_texts (record { table = c.self.inside.table; index = c.self.inside.index }) c.args.tables.now texts c.gather.new.slots.items c.put_rows_in_order.new.found.items
    (seen c.args.self.now c.self.inside.table c.self.inside.index c.args.tables.now c.self.view_is c.requires.finder) c.by_slot-by_slot.ensures.stand (added (goal.at.returns c).In_ok-gather texts key) c.put_rows_in_order.ensures)
