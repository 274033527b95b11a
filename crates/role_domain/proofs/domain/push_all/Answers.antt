use Rattle.std.proofs.Common.{◌≡◌, ◌+◌, ◌∙◌, ◌++◌, ◌∷◌, [], List, length, take, ap, arith, subst, sym}
use Rattle.std.proofs.lemmas.List.{take_all, take_more}
use Rattle.policy_table.specs.Tables.{Fields, same}
use Rattle.role_graph.specs.Groups.{times}
use Rattle.role_graph.proofs.CallerLemmas.{once, pair_is, times_more}
use Rattle.role_domain.proofs.domain.push_all.Goals as goal

pub loop-row-preserved : goal.loop-row-preserved
loop-row-preserved c =
    let next : take (c.loop-row.row-index + 1) c.args.rows.now ≡ take c.loop-row.row-index c.args.rows.now ++ c.row-item.result ∷ [] =
    take_more c.args.rows.now c.loop-row.row-index c.row-item.result c.loop-row-test.true ∙ ap (λ (r : Fields). take c.loop-row.row-index c.args.rows.now ++ r ∷ []) (sym c.row-item.is) in
    let two : length c.row-item.result ≡ 2 = subst (λ (r : Fields). length r ≡ 2) (sym c.row-item.is) (c.requires.two c.loop-row.row-index c.row-item.result c.loop-row-test.true) in
    record {
      rows = λ one. omega (
        arith,
        c.loop-row.invariant.rows one,
        c.in_ok-push.ensures.rows one,
        ap (times one) next,
        times_more one c.row-item.result (take c.loop-row.row-index c.args.rows.now),
        ap (λ (r : Fields). once (same one r)) (pair_is c.row-item.result two),
      );
      long = omega (arith, c.loop-row.invariant.long, c.in_ok-push.ensures.long);
      counts = c.in_ok-push.ensures.counted;
      names = c.push.ensures.names ∙ c.loop-row.invariant.names;
      limited = c.push.ensures.limit ∙ c.loop-row.invariant.limited;
    }

pub returns-clause-rows : goal.returns-clause-rows
returns-clause-rows c = λ one. c.loop-row.invariant.rows one ∙ ap (λ (rows : List Fields). times one c.args.graph.now.rows + times one rows) (take_all c.loop-row.row-index c.args.rows.now c.loop-row-test.false)
