use Rattle.std.proofs.Common.{◌≡◌, ◌∙◌, List, length, ap, arith, subst, sym}
use Rattle.std.specs.List.{Contains}
use Rattle.perm_base.specs.declared.shapes.Fit.{Fit}
use Rattle.policy_table.specs.Tables.{Fields}
use Rattle.role_meaning.specs.Fits.{Fits}
use Rattle.role_graph.specs.Graph.{Graph, IsPreparedFor}
use Rattle.role_graph.specs.Groups.{Group, after, rows_of, times}
use Rattle.role_graph.specs.Helps.Kept.{linked_of}
use Rattle.role_graph.specs.Helps.Roles.{nodes_of}
use Rattle.role_graph.specs.Helps.Squares.{name_at}
use Rattle.role_graph.proofs.CommitLemmas.{committed_before, nodes_from}
use Rattle.role_graph.proofs.CountLemmas.{as_long}
use Rattle.role_graph.proofs.PrepareLemmas.{are_counted, can_count, counted_after}
use Rattle.role_graph.proofs.graph.RoleGraph.commit.Goals as goal

pub recount-whole-requires-clause-few : goal.recount-whole-requires-clause-few
recount-whole-requires-clause-few c =
    can_count _ c.args.prepared c.self.inside.roles c.into_parts-edits.result.1 (subst (λ (graph : Graph). IsPreparedFor graph c.args.prepared) (sym c.self.view_is) c.requires) c.self.invariant.counted c.self.invariant.few
    (omega (arith, c.len.ensures.count, c.len.ensures.small))

pub recount-whole-requires-clause-stand : goal.recount-whole-requires-clause-stand
recount-whole-requires-clause-stand c =
    are_counted _ c.args.prepared c.self.inside.roles c.into_parts-edits.result.1 c.deref.result.now
    (subst (λ (graph : Graph). IsPreparedFor graph c.args.prepared) (sym c.self.view_is) c.requires) c.into_parts-edits.ensures.added (c.deref.ensures.value ∙ c.into_parts-edits.ensures.removed) c.self.invariant.counted

pub refresh-requires-clause-nodes : goal.refresh-requires-clause-nodes
refresh-requires-clause-nodes c =
    nodes_from (linked_of c.change.new.self) c.recount-whole.new.self c.recount-whole.ensures.once c.recount-whole.ensures.some
    (counted_after _ c.args.prepared c.self.inside.roles c.recount-whole.new.self c.into_parts-edits.result.1 c.deref.result.now (rows_of (linked_of c.change.new.self).groups)
    (subst (λ (graph : Graph). IsPreparedFor graph c.args.prepared) (sym c.self.view_is) c.requires) c.into_parts-edits.ensures.added (c.deref.ensures.value ∙ c.into_parts-edits.ensures.removed) c.self.invariant.counted c.recount-whole.ensures.counted
    (λ row. c.change.ensures.rows row ∙ ap (λ (groups : List Group). times row (after groups (rows_of (linked_of c.self.inside.links).groups))) c.into_parts-edits.ensures.changed))

pub refresh-requires-clause-before : goal.refresh-requires-clause-before
refresh-requires-clause-before c = λ holds some few.
    committed_before c.args.prepared.changed (linked_of c.self.inside.links) (linked_of c.change.new.self) (nodes_of c.self.inside.roles) (nodes_of c.recount-whole.new.self) c.touched-touched.result c.self.inside.square.cells
    (record {
      same = c.change.ensures.names;
      rows = λ row. c.change.ensures.rows row ∙ ap (λ (groups : List Group). times row (after groups (rows_of (linked_of c.self.inside.links).groups))) c.into_parts-edits.ensures.changed;
      few = few;
      fitting = λ a group low within stands fits.
          c.touched-touched.ensures.fitting a group low within (subst (λ (groups : List Group). Contains groups group) (sym c.into_parts-edits.ensures.changed) stands)
          (subst (λ (fit : Fit). Fits fit (name_at (nodes_of c.recount-whole.new.self) a) group.user) (c.change.ensures.names ∙ sym c.names.ensures) fits);
    })
    (c.recount-whole.ensures.whole holds) c.recount-whole.ensures.once c.self.invariant.nodes (c.self.invariant.exact some)
    (λ a past low. c.touched-touched.ensures.fresh a (omega (arith, past, (c.self.invariant.exact some).long, c.len-known.ensures.count)) low)

pub invariant_of-self : goal.invariant_of-self
invariant_of-self c =
    let good : IsPreparedFor _ c.args.prepared = subst (λ (graph : Graph). IsPreparedFor graph c.args.prepared) (sym c.self.view_is) c.requires in
    let alike : (row : Fields) → times row (rows_of (linked_of c.change.new.self).groups) ≡ times row (after c.args.prepared.changed (rows_of (linked_of c.self.inside.links).groups)) = λ row. c.change.ensures.rows row ∙ ap (λ (groups : List Group). times row (after groups (rows_of (linked_of c.self.inside.links).groups))) c.into_parts-edits.ensures.changed in
    let long : length (rows_of (linked_of c.change.new.self).groups) ≡ length (after c.args.prepared.changed (rows_of (linked_of c.self.inside.links).groups)) = as_long _ _ alike in
    record {
      links = c.change.ensures.sound;
      few = omega (arith, long, good.few);
      some = c.self.invariant.some;
      limited = c.self.invariant.limited;
      counted = counted_after _ c.args.prepared c.self.inside.roles c.recount-whole.new.self c.into_parts-edits.result.1 c.deref.result.now
          (rows_of (linked_of c.change.new.self).groups) good c.into_parts-edits.ensures.added (c.deref.ensures.value ∙ c.into_parts-edits.ensures.removed) c.self.invariant.counted c.recount-whole.ensures.counted alike;
      number = omega (arith, long, good.long, c.self.invariant.number, c.len.ensures.count, c.len-2.ensures, ap length c.into_parts-edits.ensures.added, ap length c.into_parts-edits.ensures.removed);
      nodes = nodes_from (linked_of c.change.new.self) c.recount-whole.new.self c.recount-whole.ensures.once c.recount-whole.ensures.some
          (counted_after _ c.args.prepared c.self.inside.roles c.recount-whole.new.self c.into_parts-edits.result.1 c.deref.result.now (rows_of (linked_of c.change.new.self).groups)
          (subst (λ (graph : Graph). IsPreparedFor graph c.args.prepared) (sym c.self.view_is) c.requires) c.into_parts-edits.ensures.added (c.deref.ensures.value ∙ c.into_parts-edits.ensures.removed) c.self.invariant.counted c.recount-whole.ensures.counted
          (λ row. c.change.ensures.rows row ∙ ap (λ (groups : List Group). times row (after groups (rows_of (linked_of c.self.inside.links).groups))) c.into_parts-edits.ensures.changed));
      exact = c.refresh.ensures;
    }

pub returns-clause-rows : goal.returns-clause-rows
returns-clause-rows c = λ row.
    c.change.ensures.rows row ∙ ap (λ (groups : List Group). times row (after groups (rows_of (linked_of c.self.inside.links).groups))) c.into_parts-edits.ensures.changed
    ∙ ap (λ (graph : Graph). times row (after c.args.prepared.changed graph.rows)) c.self.view_is
