use Rattle.std.proofs.Common.{arith, ◌==◌, ℕ, length, position, ap, ◌∙◌, ◌++◌, ◌∷◌, [], List}
use Rattle.row_order.proofs.KeptLemmas.{tail_count, kept_put, kept_skipped, ids_put}
use Rattle.row_order.proofs.insertion.append.Goals as goal

pub put_cell-requires-clause-count : goal.put_cell-requires-clause-count
put_cell-requires-clause-count c = tail_count (kept_skipped c.room_behind-tail.ensures.kept c.skip_gap-at.ensures.counted c.skip_gap-at.ensures.forward)

pub returns-clause-kept : goal.returns-clause-kept
returns-clause-kept c =
    let kept = kept_skipped c.room_behind-tail.ensures.kept c.skip_gap-at.ensures.counted c.skip_gap-at.ensures.forward in
    rw c.put_cell.ensures.cells
    (kept_put kept c.args.id c.skip_gap-at.ensures.room (omega (arith, c.room_behind-tail.ensures.slots, c.requires.slot))
    (ap (λ (xs : List ℕ). position (λ x. x == c.args.id) xs) c.room_behind-tail.ensures.same ∙ c.requires.new)
    (omega (arith, c.room_behind-tail.ensures.slots, ap length c.room_behind-tail.ensures.same, c.requires.room))
    (rw c.put_cell.ensures.cells at c.put_cell.ensures.counted))

pub returns-clause-ids : goal.returns-clause-ids
returns-clause-ids c =
    let kept = kept_skipped c.room_behind-tail.ensures.kept c.skip_gap-at.ensures.counted c.skip_gap-at.ensures.forward in
    rw c.put_cell.ensures.cells (ids_put kept c.args.id c.skip_gap-at.ensures.room ∙ ap (λ (xs : List ℕ). xs ++ c.args.id ∷ []) c.room_behind-tail.ensures.same)
