use Rattle.std.proofs.Common.{◌∙◌, Bool, List, ℕ, ap, arith, length, refl}
use Rattle.policy_table.specs.Tables.{Fields}
use Rattle.role_domain.specs.Helps.OwnRows.{CanMake, lent}
use Rattle.role_domain.specs.Relations.{Tells}
use Rattle.role_domain.proofs.BringLemmas.{tells_of, test_of}
use Rattle.role_domain.proofs.OwnLemmas.{all_few, made_right, own_few, own_wide}
use Rattle.role_graph.specs.Groups.{times}
use Rattle.role_domain.proofs.domain.domain_with.Goals as goal

pub fitting-requires : goal.fitting-requires
fitting-requires c = c.requires.1.columns

pub graph_with-requires-clause-wide : goal.graph_with-requires-clause-wide
graph_with-requires-clause-wide c = own_wide c.args.terms c.args.text.now c.requires.0 c.args.own.now c.args.patterns.now c.requires.1

pub graph_with-requires-clause-few : goal.graph_with-requires-clause-few
graph_with-requires-clause-few c = own_few c.args.terms c.args.text.now c.requires.0 c.args.own.now c.args.patterns.now c.requires.1

pub graph_with-requires-clause-least : goal.graph_with-requires-clause-least
graph_with-requires-clause-least c = c.requires.1.least

pub graph_with-requires-clause-most : goal.graph_with-requires-clause-most
graph_with-requires-clause-most c = c.requires.1.most

pub push_all-requires-clause-few : goal.push_all-requires-clause-few
push_all-requires-clause-few c =
    let all : List Fields = c.requires.0 in
    let can : CanMake c.args.terms c.args.text.now all (lent c.args.own.now) c.args.patterns.now = c.requires.1 in
    let test : List ℕ → Bool = test_of c.links_are_decided.ensures.fits c.args.terms.domains c.args.text.now in
    let tells : Tells c.args.terms.domains c.args.text.now test = tells_of c.links_are_decided.ensures.fits c.args.terms.domains c.args.text.now in
    omega (
      arith,
      ap length c.deref.ensures.value,
      all_few c.args.terms c.args.text.now test c.in_ok-graph.graph.rows c.in_ok-pairs.pairs.items all c.args.patterns.now can.are (c.in_ok-graph.ensures.rows all can.has) (c.in_ok-pairs.ensures.rows test tells),
      can.few,
    )

pub returns : goal.returns
returns c = λ all can.
    made_right c.args.terms c.args.text.now all c.args.patterns.now c.args.own.now (record { own = length c.args.own.now; graph = c.in_ok-graph-2.graph }) can refl
    (c.in_ok-graph-2.ensures.names ∙ c.in_ok-push_all.ensures.names ∙ c.in_ok-graph.ensures.names)
    (c.in_ok-graph-2.ensures.limit ∙ c.in_ok-push_all.ensures.limit ∙ c.in_ok-graph.ensures.limit)
    (λ test tells one. omega (arith, c.in_ok-graph-2.ensures.rows one, c.in_ok-push_all.ensures.rows one, ap (times one) c.deref.ensures.value, c.in_ok-graph.ensures.rows all can.has one, c.in_ok-pairs.ensures.rows test tells one))
