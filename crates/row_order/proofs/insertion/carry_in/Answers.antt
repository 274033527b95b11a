use Rattle.std.proofs.Common.{arith, ◌≡◌, ◌==◌, ℕ, List, length, take, drop, ◌++◌, ◌∷◌, position, ap, refl, ◌∙◌}
use Rattle.row_order.proofs.KeptLemmas.{place_within}
use Rattle.row_order.proofs.CarryLemmas.{carried_start, carried_count, inserted_kept, inserted_last, inserted_ids}
use Rattle.row_order.proofs.insertion.carry_in.Goals as goal

pub cell_at-cell-requires-clause-within : goal.cell_at-cell-requires-clause-within
cell_at-cell-requires-clause-within c = place_within c.room_behind-tail.ensures.kept _ c.args.place refl c.requires.place

pub carry_on-at-requires : goal.carry_on-at-requires
carry_on-at-requires c = record {
  start = carried_start c.room_behind-tail.ensures.kept c.cell_at-cell.result c.args.id c.cell_at-cell.ensures.tail c.room_behind-tail.ensures.room
      (omega (arith, c.room_behind-tail.ensures.slots, c.requires.slot))
      (ap (λ (xs : List ℕ). position (λ x. x == c.args.id) xs) c.room_behind-tail.ensures.same ∙ c.requires.new);
}

pub returns-then-at-tail-clause-kept : goal.returns-then-at-tail-clause-kept
returns-then-at-tail-clause-kept c =
    rw c.mark_cell.ensures.cells
    (inserted_kept c.carry_on-at.ensures.carried c.room_behind-tail.ensures.kept
    (omega (arith, c.room_behind-tail.ensures.slots, ap length c.room_behind-tail.ensures.same, c.requires.room))
    c.carry_on-at.ensures.empty c.if-at-tail.true
    (rw c.mark_cell.ensures.cells at c.mark_cell.ensures.counted))

pub returns-then-at-tail-clause-ids : goal.returns-then-at-tail-clause-ids
returns-then-at-tail-clause-ids c =
    rw c.mark_cell.ensures.cells
    (inserted_ids c.carry_on-at.ensures.carried c.args.place c.carry_on-at.ensures.empty c.cell_at-cell.ensures.low c.cell_at-cell.ensures.high ∙
    ap (λ (xs : List ℕ). take c.args.place xs ++ c.args.id ∷ drop c.args.place xs) c.room_behind-tail.ensures.same)

pub put_cell-requires-clause-count : goal.put_cell-requires-clause-count
put_cell-requires-clause-count c = carried_count c.carry_on-at.ensures.carried c.room_behind-tail.ensures.kept

pub returns-clause-kept : goal.returns-clause-kept
returns-clause-kept c =
    let e : c.carry_on-at.result.0 ≡ c.room_behind-tail.result = omega (arith, c.carry_on-at.ensures.carried.high, c.if-at-tail.false) in
    let p = rw e at c.carry_on-at.ensures.carried in
    rw c.put_cell.ensures.cells
    (inserted_last p c.room_behind-tail.ensures.kept
    (omega (arith, c.room_behind-tail.ensures.slots, ap length c.room_behind-tail.ensures.same, c.requires.room))
    (rw c.put_cell.ensures.cells at c.put_cell.ensures.counted))

pub returns-clause-ids : goal.returns-clause-ids
returns-clause-ids c =
    let e : c.carry_on-at.result.0 ≡ c.room_behind-tail.result = omega (arith, c.carry_on-at.ensures.carried.high, c.if-at-tail.false) in
    let p = rw e at c.carry_on-at.ensures.carried in
    rw c.put_cell.ensures.cells
    (inserted_ids p c.args.place (rw e at c.carry_on-at.ensures.empty) c.cell_at-cell.ensures.low c.cell_at-cell.ensures.high ∙
    ap (λ (xs : List ℕ). take c.args.place xs ++ c.args.id ∷ drop c.args.place xs) c.room_behind-tail.ensures.same)
