use Rattle.std.proofs.Common.{List, ℕ, length, ap, arith}
use Rattle.role_graph.specs.Helps.Kept.{linked_of}
use Rattle.role_graph.specs.Helps.Roles.{nodes_of}
use Rattle.role_graph.specs.Helps.Squares.{name_at}
use Rattle.role_graph.proofs.Nearest.{least_by_first, least_by_group, least_by_groups, roles_of_nodes, steps_all, steps_more}
use Rattle.role_graph.proofs.asked.nearest_by_rows.Goals as goal

pub nearest_by_roles-least-requires-clause-roles : goal.nearest_by_roles-least-requires-clause-roles
nearest_by_roles-least-requires-clause-roles g c = λ role stands.
    roles_of_nodes (linked_of c.args.links.now) (nodes_of c.args.roles.now) c.args.first c.roles_at.result.now role c.requires.nodes c.roles_at.ensures c.requires.fits.within stands

pub loop-at-init : goal.loop-at-init
loop-at-init g c = record {
  far = least_by_first (linked_of c.args.links.now) c.args.x.now (name_at (nodes_of c.args.roles.now) c.args.to) c.args.first c.roles_at.result.now c.nearest_by_roles-least.result
      c.roles_at.ensures c.requires.fits c.requires.first c.nearest_by_roles-least.ensures.far;
  steps = omega (arith, c.nearest_by_roles-least.ensures.steps);
  few_steps = steps_more (linked_of c.args.links.now) c.args.x.now 0 c.args.first c.args.steps.now c.args.steps.now c.nearest_by_roles-least.new.steps (length c.roles_at.result.now) (omega arith) c.requires.fits
      (ap (λ (roles : List (List ℕ)). length roles) c.roles_at.ensures) (omega arith) c.nearest_by_roles-least.ensures.steps;
}

pub nearest_by_roles-requires-clause-roles : goal.nearest_by_roles-requires-clause-roles
nearest_by_roles-requires-clause-roles g c = λ role stands.
    roles_of_nodes (linked_of c.args.links.now) (nodes_of c.args.roles.now) c.in-Some.at c.roles_at-in-Some.result.now role c.requires.nodes c.roles_at-in-Some.ensures c.in-Some.ensures.found.1.within stands

pub loop-at-preserved : goal.loop-at-preserved
loop-at-preserved g c = record {
  far = least_by_group (linked_of c.args.links.now) c.args.x.now (name_at (nodes_of c.args.roles.now) c.args.to) c.loop-at.place c.in-Some.at c.roles_at-in-Some.result.now c.loop-at.least c.nearest_by_roles.result c.min-least.result
      c.roles_at-in-Some.ensures c.in-Some.ensures.found.0 c.in-Some.ensures.found.1 c.in-Some.ensures.first c.loop-at.invariant.far c.nearest_by_roles.ensures.far c.min-least.ensures;
  steps = omega (arith, c.loop-at.invariant.steps, c.nearest_by_roles.ensures.steps);
  few_steps = steps_more (linked_of c.args.links.now) c.args.x.now c.loop-at.place c.in-Some.at c.args.steps.now c.loop-at.steps c.nearest_by_roles.new.steps (length c.roles_at-in-Some.result.now) c.in-Some.ensures.found.0 c.in-Some.ensures.found.1
      (ap (λ (roles : List (List ℕ)). length roles) c.roles_at-in-Some.ensures) c.loop-at.invariant.few_steps c.nearest_by_roles.ensures.steps;
}

pub returns-clause-far : goal.returns-clause-far
returns-clause-far g c = least_by_groups (linked_of c.args.links.now) c.args.x.now (name_at (nodes_of c.args.roles.now) c.args.to) c.loop-at.place c.loop-at.least c.in_default.ensures.none c.loop-at.invariant.far

pub returns-clause-few_steps : goal.returns-clause-few_steps
returns-clause-few_steps g c = omega (arith, c.loop-at.invariant.few_steps, steps_all (linked_of c.args.links.now) c.args.x.now c.loop-at.place)
