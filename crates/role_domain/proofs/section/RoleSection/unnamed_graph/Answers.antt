use Rattle.std.proofs.Common.{◌≡◌, ◌≤◌, ◌∙◌, Bool, List, ℕ, ap, arith, length, subst, sym}
use Rattle.std.specs.Prelude.{All}
use Rattle.policy_table.specs.Tables.{Fields}
use Rattle.role_domain.specs.Relations.{Tells, counted, fit_of}
use Rattle.role_domain.specs.Sections.{Section}
use Rattle.role_domain.specs.declared.terms.Terms.{Terms}
use Rattle.role_graph.specs.Groups.{times}
use Rattle.role_domain.proofs.section.RoleSection.unnamed_graph.Goals as goal

pub fitting-requires : goal.fitting-requires
fitting-requires c = subst (All (λ (row : Fields). 2 ≤ length row)) (sym c.deref.ensures.value) c.self.invariant.columns

pub returns-clause-names : goal.returns-clause-names
returns-clause-names c = c.in_ok-graph.ensures.names ∙ ap (λ (t : Terms). t.names) c.terms_of-terms.ensures ∙ ap (λ (s : Section). s.shape.names) c.self.view_is

pub returns-clause-limit : goal.returns-clause-limit
returns-clause-limit c = c.in_ok-graph.ensures.limit ∙ ap (λ (s : Section). s.limit) c.self.view_is

pub returns-clause-rows : goal.returns-clause-rows
returns-clause-rows c =
    subst
    (λ (s : Section). (test : List ℕ → Bool) → Tells (fit_of s.shape) c.args.text.now test → (one : Fields) → times one c.in_ok-graph.graph.rows ≡ counted test one s.patterns)
    c.self.view_is
    (λ test tells one. omega (
      arith,
      c.in_ok-graph.ensures.rows one,
      ap (times one) c.deref-2.ensures.value,
      c.in_ok-pairs.ensures.rows test (subst (λ (t : Terms). Tells t.domains c.args.text.now test) (sym c.terms_of-terms.ensures) tells) one,
      ap (counted test one) c.deref.ensures.value,
    ))
