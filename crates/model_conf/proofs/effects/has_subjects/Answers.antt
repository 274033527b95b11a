use Rattle.std.proofs.Common.{◌≡◌, ◌==◌, ◌&&◌, ◌||◌, Bool, not, codes, ap, ◌∙◌, rules, tests}
use Rattle.std.specs.List.{list_any}
use Rattle.std.specs.Str.{bytes_eq}
use Rattle.std.proofs.lemmas.Iterator.{YieldsList-from_slice}
use Rattle.std.proofs.lemmas.Iterator.Search.{any_from_yields_List}
use Rattle.perm_base.specs.declared.shapes.RoleShape.{RoleShape}
use Rattle.model_conf.proofs.EffectLemmas.{has_place}
use Rattle.model_conf.proofs.effects.has_subjects.Goals as goal

pub returns : goal.returns
returns c =
    let dom : c.is_some-has_column.result ≡ list_any (bytes_eq (codes "dom")) c.args.policy.now = c.is_some-has_column.ensures ∙ has_place c.args.policy.now (codes "dom") c.place_of.result c.place_of.ensures in
    any_from_yields_List (λ (shape : RoleShape). shape.number == 1 && (not shape.with_domain || c.is_some-has_column.result)) _ _ c.any.result c.any.ensures.ran (YieldsList-from_slice c.args.relations.now c.iter.ensures.rest) (λ x b q k. search (rules, tests))
    ∙ ap (λ (has_column : Bool). list_any (λ (shape : RoleShape). shape.number == 1 && (not shape.with_domain || has_column)) c.args.relations.now) dom
