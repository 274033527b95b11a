use Rattle.std.proofs.Common.{◌∙◌, Bool, List, ℕ, ap, length, subst, sym, arith}
use Rattle.role_domain.specs.Relations.{Tells}
use Rattle.role_domain.specs.declared.terms.Terms.{Terms}
use Rattle.role_domain.proofs.BringLemmas.{tells_of, test_of}
use Rattle.role_domain.proofs.StepLemmas.{new_few, new_right}
use Rattle.role_graph.specs.Groups.{times}
use Rattle.role_domain.proofs.domain_steps.new_domain.Goals as goal

pub graph_of-requires-clause-few : goal.graph_of-requires-clause-few
graph_of-requires-clause-few c =
    let test : List ℕ → Bool = test_of c.links_are_decided.ensures.fits c.args.terms.domains c.args.text.now in
    let tells : Tells c.args.terms.domains c.args.text.now test = tells_of c.links_are_decided.ensures.fits c.args.terms.domains c.args.text.now in
    omega (
      arith,
      ap length c.rows_of.ensures,
      ap length c.deref.ensures.value,
      new_few c.requires.can.0 c.args.text.now c.args.coming.now c.requires.can.1 c.args.patterns.now c.requires.can.3 test
          (subst (λ (terms : Terms). Tells terms.domains c.args.text.now test) (sym c.requires.can.2) tells) c.in_ok-pairs.pairs.items (c.in_ok-pairs.ensures.rows test tells),
    )

pub returns : goal.returns
returns c = λ turn going same can.
    new_right turn c.args.text.now c.args.coming.now going c.args.patterns.now can (record { own = c.own_of-own.result; graph = c.in_ok-graph.graph }) c.own_of-own.ensures c.requires.some
    (c.in_ok-graph.ensures.names ∙ sym (ap (λ (terms : Terms). terms.names) same))
    (c.in_ok-graph.ensures.limit ∙ sym (ap (λ (terms : Terms). terms.limit) same))
    (λ test tells one. omega (
      arith,
      c.in_ok-graph.ensures.rows one,
      ap (times one) c.rows_of.ensures,
      ap (times one) c.deref.ensures.value,
      c.in_ok-pairs.ensures.rows test (subst (λ (terms : Terms). Tells terms.domains c.args.text.now test) same tells) one,
    ))
