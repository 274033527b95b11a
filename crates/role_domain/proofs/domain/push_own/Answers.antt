use Rattle.std.proofs.Common.{◌≤◌, ◌+◌, ◌∙◌, List, length, map, take, ap, arith, subst, sym}
use Rattle.std.specs.Borrow.{Bor}
use Rattle.std.proofs.lemmas.List.{take_all}
use Rattle.policy_table.specs.Tables.{Fields}
use Rattle.role_domain.specs.Helps.OwnRows.{lent}
use Rattle.role_domain.specs.Relations.{pair_of}
use Rattle.role_domain.proofs.OwnLemmas.{own_next}
use Rattle.role_graph.specs.Groups.{times}
use Rattle.role_graph.proofs.CallerLemmas.{times_more}
use Rattle.role_domain.proofs.domain.push_own.Goals as goal

pub push-requires-clause-columns : goal.push-requires-clause-columns
push-requires-clause-columns c = subst (λ (row : Bor Fields). 2 ≤ length row.now) (sym c.row-item.is) (c.requires.wide c.loop-row.row-index c.row-item.result c.loop-row-test.true)

pub loop-row-preserved : goal.loop-row-preserved
loop-row-preserved c = record {
  rows = λ one. omega (
    arith,
    c.loop-row.invariant.rows one,
    c.in_ok-push.ensures.rows one,
    ap (times one) (own_next c.args.own.now c.loop-row.row-index c.row-item.result c.loop-row-test.true c.row-item.is),
    times_more one (pair_of c.row-item.result.now) (map pair_of (lent (take c.loop-row.row-index c.args.own.now))),
  );
  long = omega (arith, c.loop-row.invariant.long, c.in_ok-push.ensures.long);
  counts = c.in_ok-push.ensures.counted;
  names = c.push.ensures.names ∙ c.loop-row.invariant.names;
  limited = c.push.ensures.limit ∙ c.loop-row.invariant.limited;
}

pub returns-clause-rows : goal.returns-clause-rows
returns-clause-rows c = λ one.
    c.loop-row.invariant.rows one
    ∙ ap (λ (l : List (Bor Fields)). times one c.args.graph.now.rows + times one (map pair_of (lent l))) (take_all c.loop-row.row-index c.args.own.now c.loop-row-test.false)
