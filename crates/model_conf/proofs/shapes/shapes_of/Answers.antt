use Rattle.std.proofs.Common.{List, ℕ, length, map, ap, ◌∙◌}
use Rattle.std.specs.Prelude.{codes, unwrap_or}
use Rattle.perm_base.specs.declared.shapes.RoleShape.{RoleShape}
use Rattle.model_conf.specs.Shapes.{fitted, place_of}
use Rattle.model_conf.proofs.ShapeLemmas.{shapes_are}
use Rattle.model_conf.proofs.shapes.shapes_of.Goals as goal

pub returns-clause-found : goal.returns-clause-found
returns-clause-found c =
    let policy = c.policy_columns-columns.ensures.value in
    shapes_are c.args.model.now c.args.names.now c.args.domains.now c.args.limit _ _ _ _ _
    (c.len.ensures ∙ ap length policy)
    (c.place_of.ensures ∙ ap (λ (columns : List (List ℕ)). place_of columns (codes "eft")) policy)
    (c.unwrap_or.ensures ∙ ap (λ place. unwrap_or place 0) (c.place_of-2.ensures ∙ ap (λ (columns : List (List ℕ)). place_of columns (codes "sub")) policy))
    (c.in_ok-roles.ensures ∙ ap (λ (relations : List RoleShape). map (fitted c.args.names.now c.args.domains.now) relations) c.relations-relations.ensures.value)
    c.is_ranked.ensures

pub returns-clause-only : goal.returns-clause-only
returns-clause-only c none = returns-clause-found c
