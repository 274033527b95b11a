use Rattle.std.proofs.Common.{◌≡◌, Some, refl, ap, sym, subst, ◌∙◌}
use Rattle.std.specs.Prelude.{IsSome}
use Rattle.std.proofs.lemmas.Option.{same_Some}
use Rattle.role_domain.specs.Domains.{Domains, found}
use Rattle.role_domain.specs.declared.domain.Domain.{Domain}
use Rattle.role_domain.proofs.Keyed.{found_other, found_there, seen_at}
use Rattle.role_graph.specs.Graph.{IsPreparedFor}
use Rattle.role_graph.specs.Groups.{after, times}
use Rattle.role_domain.proofs.domains.Domains.change.Goals as goal

pub unreachable-requires : goal.unreachable-requires
unreachable-requires c =
    let there : found c.args.self.now.entries c.args.text.now ≡ Some c.requires.0 = c.requires.1 in
    let none = seen_at c.args.text.now c.self.inside.entries.entries c.args.self.now.entries _ (ap (λ (d : Domains). d.entries) c.self.view_is) c.in_default.ensures.value in
    absurd cc

pub commit-requires : goal.commit-requires
commit-requires c =
    let here = seen_at c.args.text.now c.self.inside.entries.entries c.args.self.now.entries _ (ap (λ (d : Domains). d.entries) c.self.view_is) c.in-Some.ensures.value in
    subst (λ (d : Domain). IsPreparedFor d.graph c.args.edit) (sym (same_Some c.in-Some.domain.now c.requires.0 (here ∙ c.requires.1))) c.requires.2

pub returns-clause-there : goal.returns-clause-there
returns-clause-there c = λ domain is.
    let here = seen_at c.args.text.now c.self.inside.entries.entries c.args.self.now.entries _ (ap (λ (d : Domains). d.entries) c.self.view_is) c.in-Some.ensures.value in
    let same : c.in-Some.domain.now ≡ domain = same_Some c.in-Some.domain.now domain (here ∙ is) in
    let new : Domain = record { own = c.args.own; graph = c.commit.new.self } in
    let wrote = c.get_mut.follows.holds new in (
      new,
      found_there c.args.text.now (c.get_mut.follows.lender new).entries (Some new) (wrote.3 (subst IsSome c.in-Some.ensures.value refl)).1,
      refl,
      c.commit.ensures.names ∙ ap (λ (d : Domain). d.graph.names) same,
      c.commit.ensures.limit ∙ ap (λ (d : Domain). d.graph.limit) same,
      λ row. c.commit.ensures.rows row ∙ ap (λ (d : Domain). times row (after c.args.edit.changed d.graph.rows)) same,
    )

pub returns-clause-others : goal.returns-clause-others
returns-clause-others c = λ other differ.
    let new : Domain = record { own = c.args.own; graph = c.commit.new.self } in
    let wrote = c.get_mut.follows.holds new in
    found_other c.args.text.now other c.self.inside.entries.entries (c.get_mut.follows.lender new).entries (wrote.3 (subst IsSome c.in-Some.ensures.value refl)).3 differ
    ∙ ap (λ (d : Domains). found d.entries other) c.self.view_is
