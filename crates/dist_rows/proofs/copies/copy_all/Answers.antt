use Rattle.std.proofs.Common.{◌≡◌, ◌≤◌, length, get_or, ap, subst, sym, ◌∙◌}
use Rattle.dist_rows.specs.Helps.Rows.{AreRows, RowSeen, cells_of}
use Rattle.dist_rows.proofs.CopyLemmas.{cells_next, rows_next}
use Rattle.dist_rows.proofs.copies.copy_all.Goals as goal

pub loop-row-preserved : goal.loop-row-preserved
loop-row-preserved c =
    let rows = c.args.rows.now in
    let at = c.loop-row.row-index in
    let item = c.row-item.result in
    let copy = c.in_ok-copy-2.field-0 in
    let copies = c.loop-row.copy.items in
    let same : copy.cells ≡ (get_or rows at item).cells = c.in_ok-copy-2.ensures.cells ∙ ap (λ (r : RowSeen). r.cells) c.row-item.is in
    let room : length (get_or rows at item).cells ≤ copy.room = subst (λ (r : RowSeen). length r.cells ≤ copy.room) c.row-item.is c.in_ok-copy-2.ensures.room in
    record {
      cells = ap cells_of c.in_ok-push.ensures.items ∙ cells_next rows copies at copy item c.loop-row-test.true same c.loop-row.invariant.cells;
      rows = λ size most are. subst (AreRows size size) (sym c.in_ok-push.ensures.items) (rows_next size most rows copies at copy item c.loop-row-test.true same room are (c.loop-row.invariant.rows size most are));
    }
