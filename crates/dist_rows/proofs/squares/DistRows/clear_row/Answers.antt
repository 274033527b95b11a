use Rattle.std.proofs.Common.{length, length-set, replicate, ap, ◌∙◌}
use Rattle.std.proofs.lemmas.List.{length-replicate}
use Rattle.dist_rows.proofs.SeenLemmas.{cleared_seen, kept_row}
use Rattle.dist_rows.specs.Helps.Rows.{RowSeen}
use Rattle.dist_rows.proofs.squares.DistRows.clear_row.Goals as goal

pub invariant_of-self : goal.invariant_of-self
invariant_of-self c =
    let size = length c.index_mut.result.now.cells in
    kept_row c.self.inside.rows.items c.self.inside.free.items _ c.args.a c.clear.new.self c.index_mut.result.now c.args.self.now c.self.invariant c.self.view_is c.requires c.index_mut.ensures.value
    (ap (λ (r : RowSeen). length r.cells) c.clear.ensures ∙ length-set (replicate size 255) c.args.a 0 ∙ length-replicate size 255) (ap (λ (r : RowSeen). r.room) c.clear.ensures)

pub returns : goal.returns
returns c = cleared_seen c.self.inside.rows.items c.self.inside.free.items _ c.args.a c.clear.new.self c.index_mut.result.now c.args.self.now c.self.invariant c.self.view_is c.requires c.index_mut.ensures.value c.clear.ensures
