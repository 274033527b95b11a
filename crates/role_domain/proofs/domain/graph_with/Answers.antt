use Rattle.std.proofs.Common.{◌∙◌, ap, arith, length, sym}
use Rattle.role_domain.specs.Helps.OwnRows.{lent}
use Rattle.role_domain.proofs.OwnLemmas.{none_counted, own_counted}
use Rattle.role_graph.specs.Groups.{times}
use Rattle.role_domain.proofs.domain.graph_with.Goals as goal

pub returns-then-is_pattern-clause-rows : goal.returns-then-is_pattern-clause-rows
returns-then-is_pattern-clause-rows c = λ all has.
    none_counted c.args.terms.domains c.args.text.now all c.new.result.rows (sym c.is_pattern.ensures ∙ c.if-is_pattern.true) c.new.ensures.rows

pub push_own-requires-clause-few : goal.push_own-requires-clause-few
push_own-requires-clause-few c = omega (arith, c.requires.few, ap length c.in_ok-graph.ensures.rows)

pub returns-clause-rows : goal.returns-clause-rows
returns-clause-rows c = λ all has one. omega (
  arith,
  c.in_ok-push_own.ensures.rows one,
  ap (times one) c.in_ok-graph.ensures.rows,
  own_counted c.args.terms.domains c.args.text.now all (lent c.args.own.now) (sym c.is_pattern.ensures ∙ c.if-is_pattern.false) has one,
)
