use Rattle.std.proofs.Common.{refl, sym, ◌∙◌}
use Rattle.model_conf.specs.declared.sections.Section.TheVariants as section
use Rattle.model_conf.proofs.SectionLemmas.{has_key-keys, has_key-one, is_relation}
use Rattle.model_conf.proofs.sections.key_named.Goals as goal

pub returns-in_err-relation_named-in-Roles-clause-known : goal.returns-in_err-relation_named-in-Roles-clause-known
returns-in_err-relation_named-in-Roles-clause-known c = rw (c.from_residual.ensures, c.in-Roles.is) (sym (has_key-keys section.Roles c.args.key.now ∙ c.in_err-relation_named-in-Roles.ensures.none))

pub returns-in_ok-relation_named-in-Roles-clause-known : goal.returns-in_ok-relation_named-in-Roles-clause-known
returns-in_ok-relation_named-in-Roles-clause-known c =
    let within = c.in_ok-relation_named-in-Roles.ensures.within in
    rw c.in-Roles.is (sym (has_key-keys section.Roles c.args.key.now ∙ rw c.in_ok-relation_named-in-Roles.ensures.found (is_relation c.in_ok-relation_named-in-Roles.field-0 within.0 within.1)))

pub returns-in-Request-clause-known : goal.returns-in-Request-clause-known
returns-in-Request-clause-known c = rw c.in-Request.is (has_key-one section.Request c.args.key.now _ _ c.same_text.ensures.known refl)

pub returns-in-Policy-clause-known : goal.returns-in-Policy-clause-known
returns-in-Policy-clause-known c = rw c.in-Policy.is (has_key-one section.Policy c.args.key.now _ _ c.same_text-in-Policy.ensures.known refl)

pub returns-in-Effect-clause-known : goal.returns-in-Effect-clause-known
returns-in-Effect-clause-known c = rw c.in-Effect.is (has_key-one section.Effect c.args.key.now _ _ c.same_text-in-Effect.ensures.known refl)

pub returns-in-Matchers-clause-known : goal.returns-in-Matchers-clause-known
returns-in-Matchers-clause-known c = rw c.in-Matchers.is (has_key-one section.Matchers c.args.key.now _ _ c.same_text-in-Matchers.ensures.known refl)
