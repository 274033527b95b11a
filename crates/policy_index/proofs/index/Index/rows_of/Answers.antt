use Rattle.std.proofs.Common.{◌∙◌, ◌∷◌, [], ℕ, List, subst}
use Rattle.perm_base.specs.declared.shapes.TableId.TheVariants.{P}
use Rattle.policy_table.specs.Slots.{slots}
use Rattle.policy_table.specs.Tables.{rows}
use Rattle.policy_index.specs.Found.{AddsSlots}
use Rattle.policy_index.specs.Keys.{KeyParts, agrees, of_column}
use Rattle.policy_index.proofs.FoundRowsLemmas.{all_added, exact_rows_found, rows_have_column}
use Rattle.policy_index.proofs.index.Index.rows_of.Goals as goal
use Rattle.policy_index.proofs.index.Index.rows_of.Goals.{In_ok-gather}

-- what is added, by the one column
added : (c : In_ok-gather) → AddsSlots (agrees (of_column c.args.column) (c.args.text.now ∷ []) []) (slots c.args.tables.now P) [] c.gather.new.slots.items
added c =
    subst (λ (old : List ℕ). AddsSlots (agrees (of_column c.args.column) (c.args.text.now ∷ []) []) (slots c.args.tables.now P) old c.gather.new.slots.items) c.clear.ensures.items
    (subst (λ (k : KeyParts). AddsSlots (agrees k (c.args.text.now ∷ []) []) (slots c.args.tables.now P) c.clear.new.self.items c.gather.new.slots.items) c.requires.key
    (c.in_ok-gather.ensures (slots c.args.tables.now P) (c.args.text.now ∷ []) c.requires.index (c.hash_with.ensures.more [] c.start_hash.ensures.none)))

pub put_in_order-requires : goal.put_in_order-requires
put_in_order-requires c = all_added (agrees (of_column c.args.column) (c.args.text.now ∷ []) []) (slots c.args.tables.now P) c.gather.new.slots.items (added (goal.at.put_in_order-requires c).In_ok-gather)

pub keep_exact-requires-clause-within : goal.keep_exact-requires-clause-within
keep_exact-requires-clause-within c = c.put_in_order.ensures.within

pub keep_exact-requires-clause-columns : goal.keep_exact-requires-clause-columns
keep_exact-requires-clause-columns c =
    rows_have_column c.args.column c.args.self.now.key (slots c.args.tables.now P) (rows c.args.tables.now.policy P) c.requires.key c.by_slot-by_slot.ensures.stand.all c.requires.index.columns

pub returns : goal.returns
returns c =
    c.keep_exact.ensures
    ∙ exact_rows_found c.args.column c.args.text.now (slots c.args.tables.now P) (rows c.args.tables.now.policy P) c.gather.new.slots.items c.put_in_order.new.found.items c.by_slot-by_slot.ensures.stand (added (goal.at.returns c).In_ok-gather) c.put_in_order.ensures
