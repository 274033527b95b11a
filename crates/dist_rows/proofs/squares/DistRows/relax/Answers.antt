use Rattle.std.proofs.Common.{List, length, ap, ◌∙◌}
use Rattle.dist_rows.proofs.SeenLemmas.{kept_relaxed, relaxed_seen, written_back}
use Rattle.dist_rows.specs.Helps.Rows.{RowSeen, relaxed_to}
use Rattle.dist_rows.proofs.squares.DistRows.relax.Goals as goal

pub invariant_of-self : goal.invariant_of-self
invariant_of-self g c =
    let back = written_back c.self.inside.rows.len c.relax.new.rows c.self.inside.rows.items (c.relax.auto.rows ∙ c.deref_mut.ensures.len) in
    let made = c.relax.ensures.rows ∙ ap (λ (l : List RowSeen). relaxed_to (length l) l c.args.a c.args.add c.args.v) c.deref_mut.ensures.value in
    kept_relaxed c.self.inside.rows.items c.self.inside.free.items _ _ c.args.a c.args.add c.args.v c.args.self.now c.self.invariant c.self.view_is c.requires.a c.requires.v (back ∙ made)

pub returns-clause-cells : goal.returns-clause-cells
returns-clause-cells g c =
    let back = written_back c.self.inside.rows.len c.relax.new.rows c.self.inside.rows.items (c.relax.auto.rows ∙ c.deref_mut.ensures.len) in
    let made = c.relax.ensures.rows ∙ ap (λ (l : List RowSeen). relaxed_to (length l) l c.args.a c.args.add c.args.v) c.deref_mut.ensures.value in
    relaxed_seen c.self.inside.rows.items c.self.inside.free.items _ _ c.args.a c.args.add c.args.v c.args.self.now c.self.invariant c.self.view_is c.requires.a c.requires.v (back ∙ made)
