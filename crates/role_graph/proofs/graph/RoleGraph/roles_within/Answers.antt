use Rattle.std.proofs.Common.{◌≤◌, length, map, sym, subst, ap, arith}
use Rattle.std.specs.List.{Contains}
use Rattle.role_meaning.specs.Links.{role_of}
use Rattle.role_graph.specs.Graph.{Graph, shape_of}
use Rattle.role_graph.specs.Groups.{rows_of}
use Rattle.role_graph.specs.Helps.Kept.{linked_of}
use Rattle.role_graph.proofs.GatherLemmas.{counted_some, implied_few, implied_whole}
use Rattle.role_graph.proofs.graph.RoleGraph.roles_within.Goals as goal

pub from_vec-requires : goal.from_vec-requires
from_vec-requires c =
    let few : length c.in_ok-names.names.items ≤ length c.args.self.now.rows = implied_few (shape_of c.args.self.now.names) c.args.self.now.rows c.args.self.now.limit c.args.x.now c.in_ok-names.names.items c.in_ok-names.ensures in
    record {
      few = omega (arith, few, c.self.invariant.few, ap (λ (graph : Graph). length graph.rows) c.self.view_is);
      whole_lines = implied_whole (shape_of c.args.self.now.names) c.args.self.now.rows c.args.self.now.limit c.args.x.now c.in_ok-names.names.items
          (λ y stands. c.len-names.ensures.names y
          (omega (arith, c.self.invariant.counted y, counted_some y (map role_of (rows_of (linked_of c.self.inside.links).groups)) (subst (λ (graph : Graph). Contains (map role_of graph.rows) y) (sym c.self.view_is) stands))))
          c.in_ok-names.ensures;
    }
