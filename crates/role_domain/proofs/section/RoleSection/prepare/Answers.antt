use Rattle.std.proofs.Common.{◌∙◌, refl, subst, sym}
use Rattle.policy_table.specs.Changes.{flat}
use Rattle.role_domain.specs.Sections.{IsPreparedFor, Section}
use Rattle.role_domain.proofs.SectionLemmas.{Given, can_turn, draft_ready, given_inside, patterns_given, rows_behind, rows_here, turn_of}
use Rattle.role_domain.proofs.section.RoleSection.prepare.Goals as goal

pub prepare-requires : goal.prepare-requires
prepare-requires c =
    let inside : Section = record { shape = c.self.inside.shape; limit = c.self.inside.limit; domains = c.self.inside.domains; patterns = c.self.inside.patterns.items } in
    let given : Given inside c.args.tables.now.policy (flat c.args.edits.now) c.in_ok-said.said.entries =
    given_inside inside c.args.self.now c.args.tables.now.policy (flat c.args.edits.now) c.in_ok-said.said.entries c.self.view_is c.requires.section c.kept.ensures c.self.invariant.some c.self.invariant.most c.requires.possible c.requires.columns c.requires.few c.requires.patterns
    c.in_ok-come.ensures.once c.in_ok-said.ensures in (
      turn_of inside c.args.tables.now.policy (flat c.args.edits.now) c.deref-3.result.now c.deref-4.result.now,
      record { terms_are = sym c.terms_of-terms.ensures; come_are = refl; go_are = refl },
      can_turn inside c.args.tables.now.policy (flat c.args.edits.now) c.in_ok-said.said.entries given c.deref-5.result.now
          (patterns_given inside (rows_here inside c.args.tables.now.policy) c.in_ok-said.said.entries c.terms_of-terms.result c.deref.result.now c.deref-2.result.now c.deref-5.result.now c.terms_of-terms.ensures c.deref.ensures.value (c.deref-2.ensures.value ∙ c.in_ok-come.ensures.rules) (c.deref-5.ensures.value ∙ c.in_ok-patterns.ensures))
          c.deref-3.result.now c.deref-4.result.now (c.deref-3.ensures.value ∙ c.in_ok-come.ensures.rules) (c.deref-4.ensures.value ∙ c.in_ok-go.ensures.rules),
    )

pub returns-clause-ready : goal.returns-clause-ready
returns-clause-ready c =
    let inside : Section = record { shape = c.self.inside.shape; limit = c.self.inside.limit; domains = c.self.inside.domains; patterns = c.self.inside.patterns.items } in
    let given : Given inside c.args.tables.now.policy (flat c.args.edits.now) c.in_ok-said.said.entries =
    given_inside inside c.args.self.now c.args.tables.now.policy (flat c.args.edits.now) c.in_ok-said.said.entries c.self.view_is c.requires.section c.kept.ensures c.self.invariant.some c.self.invariant.most c.requires.possible c.requires.columns c.requires.few c.requires.patterns
    c.in_ok-come.ensures.once c.in_ok-said.ensures in
    let patterns = patterns_given inside (rows_here inside c.args.tables.now.policy) c.in_ok-said.said.entries c.terms_of-terms.result c.deref.result.now c.deref-2.result.now c.deref-5.result.now c.terms_of-terms.ensures c.deref.ensures.value (c.deref-2.ensures.value ∙ c.in_ok-come.ensures.rules) (c.deref-5.ensures.value ∙ c.in_ok-patterns.ensures) in
    subst (λ (s : Section). IsPreparedFor (record inside { domains = c.prepare.new.self }) (rows_behind s c.args.tables.now.policy (flat c.args.edits.now)) c.new.result) c.self.view_is
    (draft_ready inside c.args.tables.now.policy (flat c.args.edits.now) c.in_ok-said.said.entries given c.deref-5.result.now patterns c.prepare.new.self _ c.new.result c.new.ensures.touched (c.new.ensures.patterns ∙ sym c.deref-5.ensures.value)
    (c.in_ok-touched.ensures.ready (turn_of inside c.args.tables.now.policy (flat c.args.edits.now) c.deref-3.result.now c.deref-4.result.now) (record { terms_are = sym c.terms_of-terms.ensures; come_are = refl; go_are = refl })
    (can_turn inside c.args.tables.now.policy (flat c.args.edits.now) c.in_ok-said.said.entries given c.deref-5.result.now patterns c.deref-3.result.now c.deref-4.result.now (c.deref-3.ensures.value ∙ c.in_ok-come.ensures.rules) (c.deref-4.ensures.value ∙ c.in_ok-go.ensures.rules))))
