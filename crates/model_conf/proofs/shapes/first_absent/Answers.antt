use Rattle.std.proofs.Common.{◌≡◌, ℕ, sym, ap, ◌∙◌, rules, tests}
use Rattle.std.specs.Prelude.{not, option_map}
use Rattle.std.proofs.lemmas.Iterator.{YieldsList-from_slice}
use Rattle.std.proofs.lemmas.Iterator.Search.{find_from_yields_List}
use Rattle.perm_base.specs.declared.shapes.Fit.{Fit}
use Rattle.model_conf.specs.Shapes.{first_absent, has_domain, has_relation}
use Rattle.model_conf.proofs.ShapeLemmas.{absent_by, number_of}
use Rattle.model_conf.proofs.shapes.first_absent.Goals as goal
use Rattle.model_conf.proofs.shapes.first_absent.Goals.{After-or}

found : (c : After-or) → option_map number_of c.or.result ≡ first_absent c.args.relations.now c.args.names.now c.args.domains.now
found c =
    let one = find_from_yields_List (λ (fit : ℕ × Fit). not (has_relation c.args.relations.now fit.0)) _ _ c.find-undeclared.result c.find-undeclared.ensures.ran (YieldsList-from_slice c.args.names.now c.iter.ensures.rest) (λ x b q k. search (rules, tests)) in
    let two = find_from_yields_List (λ (fit : ℕ × Fit). not (has_domain c.args.relations.now fit.0)) _ _ c.find-without_domain.result c.find-without_domain.ensures.ran (YieldsList-from_slice c.args.domains.now c.iter-2.ensures.rest) (λ x b q k. search (rules, tests)) in
    ap (option_map number_of) c.or.ensures ∙ absent_by c.args.relations.now c.args.names.now c.args.domains.now c.find-undeclared.result c.find-without_domain.result one two

pub returns-in_err-relation : goal.returns-in_err-relation
returns-in_err-relation c = c.from_residual.ensures ∙ ap (option_map number_of) (sym c.in_err-relation.was) ∙ found (goal.at.returns-in_err-relation c).After-or

pub returns : goal.returns
returns c = ap (option_map number_of) (sym c.in_ok-relation.was) ∙ found (goal.at.returns c).After-or
