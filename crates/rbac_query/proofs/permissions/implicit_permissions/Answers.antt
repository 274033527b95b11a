use Rattle.std.proofs.Common.{◌≡◌, ◌∙◌, None, filter, ap, sym, subst}
use Rattle.std.specs.Option.{option_copied}
use Rattle.std.specs.Prelude.{codes, position}
use Rattle.std.specs.Str.{bytes_eq}
use Rattle.perm_base.specs.declared.shapes.Shapes.{Shapes}
use Rattle.perm_base.specs.declared.shapes.TableId.TheVariants.{G, P}
use Rattle.policy_query.specs.Names.{names_refusal}
use Rattle.policy_state.specs.States.{tables}
use Rattle.policy_table.specs.Tables.{Policy, rows}
use Rattle.rbac_query.specs.Helps.Tests.{is_counted, tells}
use Rattle.rbac_query.specs.Permissions.{AreThose, IsPermission, domain_column}
use Rattle.rbac_query.proofs.AskLemmas.{asked_of, of_asked}
use Rattle.rbac_query.proofs.CountLemmas.{those_counted}
use Rattle.rbac_query.proofs.permissions.implicit_permissions.Goals as goal

pub roles_within-requires : goal.roles_within-requires
roles_within-requires c =
    let domain = option_copied c.args.domain in
    let passes : names_refusal c.args.state.now.shapes 1 domain ≡ None =
    ap (λ (shapes : Shapes). names_refusal shapes 1 domain) (sym c.shapes.ensures.shapes) ∙ sym c.names_refusal.ensures ∙ c.in_default.is in
    record { asked = asked_of c.args.state.now.shapes 1 domain passes }

pub returns : goal.returns
returns c =
    let shapes = c.args.state.now.shapes in
    let policy = tables c.args.state.now in
    let domain = option_copied c.args.domain in
    let name = c.args.name.now in
    let keys = c.in_ok-names.names.keys in
    let column = domain_column c.args.model.now in
    let passes : names_refusal shapes 1 domain ≡ None =
    ap (λ (shapes : Shapes). names_refusal shapes 1 domain) (sym c.shapes.ensures.shapes) ∙ sym c.names_refusal.ensures ∙ c.in_default.is in
    let rules_are : c.rows-rules.result ≡ rows policy P = c.rows-rules.ensures.value ∙ ap (λ (p : Policy). rows p P) c.tables.ensures.policy in
    let column_is : c.place_of-column.result ≡ column = c.place_of-column.ensures ∙ ap (position (bytes_eq (codes "dom"))) c.policy_columns.ensures.value in
    let kept : c.in_ok-counted.field-0 ≡ filter (is_counted name keys shapes.subject_column column domain) (rows policy P) =
    c.in_ok-counted.ensures ∙ (λ j. filter (is_counted name keys (c.shapes-2.ensures.shapes j).subject_column (column_is j) domain) (rules_are j)) in
    let shows : tells keys c.in_ok-roles.roles = subst (tells keys) c.fields.ensures.value c.in_ok-names.ensures in
    record {
      answer = (
        passes,
        of_asked shapes policy 1 domain (λ shape links. AreThose (IsPermission shapes column shape links domain name) (rows policy P) c.in_ok-counted.field-0) (asked_of shapes 1 domain passes) (λ shape there.
            those_counted shapes column shape (rows policy (G 1)) domain name c.in_ok-roles.roles keys (c.in_ok-roles.ensures.implied shape there) shows (rows policy P) c.in_ok-counted.field-0 kept),
      );
    }
