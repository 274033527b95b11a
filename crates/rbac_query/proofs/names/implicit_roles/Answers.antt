use Rattle.std.proofs.Common.{◌≡◌, ◌∙◌, None, ap, sym}
use Rattle.std.specs.Option.{option_copied}
use Rattle.perm_base.specs.declared.shapes.Shapes.{Shapes}
use Rattle.policy_query.specs.Names.{names_refusal}
use Rattle.rbac_query.proofs.AskLemmas.{asked_of}
use Rattle.rbac_query.proofs.names.implicit_roles.Goals as goal

pub roles_within-requires : goal.roles_within-requires
roles_within-requires c =
    let domain = option_copied c.args.domain in
    let passes : names_refusal c.args.state.now.shapes c.args.relation domain ≡ None =
    ap (λ (shapes : Shapes). names_refusal shapes c.args.relation domain) (sym c.shapes.ensures.shapes) ∙ sym c.names_refusal.ensures ∙ c.in_default.is in
    record { asked = asked_of c.args.state.now.shapes c.args.relation domain passes }
