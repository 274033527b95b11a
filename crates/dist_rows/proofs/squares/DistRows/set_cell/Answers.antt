use Rattle.std.proofs.Common.{length, length-set, ap, ◌∙◌}
use Rattle.dist_rows.proofs.SeenLemmas.{kept_row, set_seen}
use Rattle.dist_rows.specs.Helps.Rows.{RowSeen}
use Rattle.dist_rows.proofs.squares.DistRows.set_cell.Goals as goal

pub invariant_of-self : goal.invariant_of-self
invariant_of-self c =
    kept_row c.self.inside.rows.items c.self.inside.free.items _ c.args.a c.set.new.self c.index_mut.result.now c.args.self.now c.self.invariant c.self.view_is c.requires.a c.index_mut.ensures.value
    (ap (λ (r : RowSeen). length r.cells) c.set.ensures ∙ length-set c.index_mut.result.now.cells c.args.b c.args.value) (ap (λ (r : RowSeen). r.room) c.set.ensures)

pub returns : goal.returns
returns c = set_seen c.self.inside.rows.items _ c.args.a c.args.b c.args.value c.set.new.self c.index_mut.result.now c.args.self.now c.self.view_is c.requires.a c.index_mut.ensures.value c.set.ensures
