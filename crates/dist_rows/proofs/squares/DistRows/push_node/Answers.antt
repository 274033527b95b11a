use Rattle.std.proofs.Common.{List, [], ◌∷◌, ◌++◌, length, map, sym, ap, subst, ◌∙◌}
use Rattle.dist_rows.proofs.SeenLemmas.{widened_seen, written_back}
use Rattle.dist_rows.proofs.SquareLemmas.{kept_more, opened_is}
use Rattle.dist_rows.specs.Helps.Rows.{IsKept, RowSeen, with_last}
use Rattle.dist_rows.proofs.squares.DistRows.push_node.Goals as goal

pub invariant_of-self : goal.invariant_of-self
invariant_of-self c =
    let back = written_back c.self.inside.rows.len c.push_cells.new.rows c.self.inside.rows.items (c.push_cells.auto.rows ∙ c.deref_mut.ensures.len) in
    let made = c.push_reserved.ensures.items ∙ ap (λ (l : List RowSeen). l ++ c.open.new.self ∷ []) (back ∙ c.push_cells.ensures ∙ ap (map (with_last 255)) c.deref_mut.ensures.value) in
    let opened = opened_is c.len-size.result c.in-Some.row.room c.self.inside.rows.items c.open.new.self (c.len-size.ensures ∙ sym c.deref_mut.ensures.len ∙ ap length c.deref_mut.ensures.value) c.open.ensures in
    subst (IsKept _ c.pop.new.self.items) (sym c.push_reserved.ensures.capacity)
    (kept_more c.self.inside.rows.items c.self.inside.free.items _ c.pop.new.self.items _ c.in-Some.row c.open.new.self c.self.invariant c.in-Some.ensures.items opened made)

pub returns : goal.returns
returns c =
    let back = written_back c.self.inside.rows.len c.push_cells.new.rows c.self.inside.rows.items (c.push_cells.auto.rows ∙ c.deref_mut.ensures.len) in
    let made = c.push_reserved.ensures.items ∙ ap (λ (l : List RowSeen). l ++ c.open.new.self ∷ []) (back ∙ c.push_cells.ensures ∙ ap (map (with_last 255)) c.deref_mut.ensures.value) in
    let opened = opened_is c.len-size.result c.in-Some.row.room c.self.inside.rows.items c.open.new.self (c.len-size.ensures ∙ sym c.deref_mut.ensures.len ∙ ap length c.deref_mut.ensures.value) c.open.ensures in
    widened_seen c.self.inside.rows.items c.self.inside.free.items c.pop.new.self.items _ c.in-Some.row c.open.new.self c.args.self.now c.self.view_is c.in-Some.ensures.items opened made
