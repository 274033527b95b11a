use Rattle.std.proofs.Common.{ap, sym, subst, ◌∙◌}
use Rattle.std.specs.Prelude.{IsSome}
use Rattle.std.specs.Option.{option_copied}
use Rattle.perm_base.specs.RoleShapes.{shape_of}
use Rattle.perm_base.specs.declared.shapes.TableId.TheVariants.{G}
use Rattle.policy_state.specs.States.{State, tables}
use Rattle.policy_state.proofs.SectionLemmas.{IsSectionFor, found_section, not_missed}
use Rattle.policy_state.proofs.state.PolicyState.section.Goals as goal
use Rattle.policy_table.specs.Tables.{rows}
use Rattle.role_domain.specs.Sections.{IsSectionOf}

pub unreachable-requires : goal.unreachable-requires
unreachable-requires c =
    not_missed c.self.inside.shapes c.self.inside.tables.policy c.self.inside.sections c.args.relation c.self.invariant.sections
    (subst (λ (s : State). IsSome (shape_of s.shapes.roles c.args.relation)) (sym c.self.view_is) c.requires.there) (sym (ap option_copied c.in_default.is) ∙ c.find.ensures)

is_section : (c : goal.In-Some) → IsSectionFor c.self.inside.shapes c.self.inside.tables.policy c.args.relation c.in-Some.section.now
is_section c =
    found_section c.self.inside.shapes c.self.inside.tables.policy c.self.inside.sections c.args.relation c.in-Some.section.now c.self.invariant.sections
    (subst (λ (s : State). IsSome (shape_of s.shapes.roles c.args.relation)) (sym c.self.view_is) c.requires.there) (sym (ap option_copied c.in-Some.is) ∙ c.find.ensures)

pub returns-clause-shape : goal.returns-clause-shape
returns-clause-shape c = ap (λ (s : State). shape_of s.shapes.roles c.args.relation) (sym c.self.view_is) ∙ (is_section c).shaped

pub returns-clause-limit : goal.returns-clause-limit
returns-clause-limit c = (is_section c).limited ∙ ap (λ (s : State). s.shapes.limit) c.self.view_is

pub returns-clause-section : goal.returns-clause-section
returns-clause-section c = subst (λ (s : State). IsSectionOf c.in-Some.section.now (rows (tables s) (G c.args.relation))) c.self.view_is (is_section c).rules
