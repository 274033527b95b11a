use Rattle.std.proofs.Common.{◌≡◌, ◌+◌, ◌<◌, length, map, sym, ap, subst, ◌∙◌, arith}
use Rattle.std.specs.List.{swap_remove}
use Rattle.dist_rows.proofs.RowLemmas.{rows_weaker}
use Rattle.dist_rows.proofs.SeenLemmas.{dropped_seen, within_rows, written_back}
use Rattle.dist_rows.proofs.SquareLemmas.{kept_less, rows_removed}
use Rattle.dist_rows.specs.Helps.Rows.{AreRows, IsKept, without_cell}
use Rattle.dist_rows.proofs.squares.DistRows.drop_node.Goals as goal

pub drop_cells-requires : goal.drop_cells-requires
drop_cells-requires c =
    let within : c.args.at < length c.self.inside.rows.items = within_rows c.self.inside.rows.items (length c.self.inside.free.items) c.args.at c.args.self.now c.self.view_is c.requires in
    let is : c.deref_mut.result.now ≡ swap_remove c.self.inside.rows.items c.args.at c.swap_remove-row.result = c.deref_mut.ensures.value ∙ c.swap_remove-row.ensures.items in (
      length c.self.inside.rows.items,
      within,
      subst (AreRows (length c.self.inside.rows.items) 0) (sym is)
          (rows_removed (length c.self.inside.rows.items) 0 c.self.inside.rows.items c.args.at c.swap_remove-row.result within
          (rows_weaker (length c.self.inside.rows.items) (length c.self.inside.rows.items + length c.self.inside.free.items) 0 (omega arith) c.self.inside.rows.items c.self.invariant.rows)),
    )

pub invariant_of-self : goal.invariant_of-self
invariant_of-self c =
    let within : c.args.at < length c.self.inside.rows.items = within_rows c.self.inside.rows.items (length c.self.inside.free.items) c.args.at c.args.self.now c.self.view_is c.requires in
    let back = written_back c.swap_remove-row.new.self.len c.drop_cells.new.rows c.swap_remove-row.new.self.items (c.drop_cells.auto.rows ∙ c.deref_mut.ensures.len) in
    let made = c.drop_cells.ensures ∙ ap (map (without_cell c.args.at)) (c.deref_mut.ensures.value ∙ c.swap_remove-row.ensures.items) in
    subst (IsKept _ c.self.inside.free.items) (sym c.swap_remove-row.ensures.capacity)
    (kept_less c.self.inside.rows.items c.self.inside.free.items _ _ c.args.at c.swap_remove-row.result c.self.invariant within (back ∙ made))

pub returns : goal.returns
returns c =
    let back = written_back c.swap_remove-row.new.self.len c.drop_cells.new.rows c.swap_remove-row.new.self.items (c.drop_cells.auto.rows ∙ c.deref_mut.ensures.len) in
    let made = c.drop_cells.ensures ∙ ap (map (without_cell c.args.at)) (c.deref_mut.ensures.value ∙ c.swap_remove-row.ensures.items) in
    dropped_seen c.self.inside.rows.items c.self.inside.free.items _ c.args.at c.swap_remove-row.result c.args.self.now c.self.view_is c.requires (back ∙ made)
