use Rattle.std.proofs.Common.{◌≡◌, ◌==◌, ◌&&◌, false, refl, sym, ◌∙◌, rules, tests}
use Rattle.std.specs.List.{list_any}
use Rattle.std.proofs.lemmas.Iterator.{YieldsList-from_slice}
use Rattle.std.proofs.lemmas.Iterator.Search.{any_from_yields_List}
use Rattle.perm_base.specs.declared.shapes.RoleShape.{RoleShape}
use Rattle.model_conf.specs.Uses.{names_of}
use Rattle.model_conf.proofs.uses.role_misuse.Goals as goal

pub returns : goal.returns
returns c =
    let any = any_from_yields_List (λ (shape : RoleShape). shape.number == c.args.relation && c.args.names == names_of shape) _ _ c.any-is_declared.result c.any-is_declared.ensures.ran (YieldsList-from_slice c.args.relations.now c.iter.ensures.rest) (λ x b q k. search (rules, tests)) in
    let none : list_any (λ (shape : RoleShape). shape.number == c.args.relation && c.args.names == names_of shape) c.args.relations.now ≡ false = sym any ∙ c.if-is_declared.false in
    rw none refl
