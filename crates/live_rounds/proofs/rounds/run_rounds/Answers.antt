use Rattle.std.proofs.Common.{◌≡◌, ◌+◌, Err, ap, arith, length, map, rules, ◌∙◌}
use Rattle.std.proofs.lemmas.List.Elements.{length_all_zip}
use Rattle.std.proofs.lemmas.Result.{err_from_is_err_and}
use Rattle.live_rounds.proofs.RoundsLemmas.{done_all, done_behind, done_early, done_next, done_none, done_some, used_alike, used_both}
use Rattle.live_rounds.proofs.SharesLemmas.{map_long}
use Rattle.live_rounds.specs.Scripts.{IsFirstRound}
use Rattle.live_rounds.specs.Stretches.{IsCounted, items_of}
use Rattle.regex_gate.specs.Refusals.{IsUsed}
use Rattle.script_read.specs.ItemLines.{said}
use Rattle.live_rounds.proofs.rounds.run_rounds.Goals as goal

-- the text says the items of the script
pub item_lines-rest-requires-clause-checked : goal.item_lines-rest-requires-clause-checked
item_lines-rest-requires-clause-checked g c = (c.requires.checked.0, record { reader = c.requires.checked.1.reader; says = c.requires.checked.1.says })

pub loop-round-init : goal.loop-round-init
loop-round-init g c = record {
  done = λ items is.
      done_none c.args.program.now _ _ c.args.workers items _ g.T.Taker.took c.args.to.now (said c.item_lines-rest.result) c.args.admin.now
      (c.item_lines-rest.ensures items (record { reader = is.reader; says = is.says })) c.requires.behind;
  used = used_alike _;
}

-- memory ran out before a round was read
pub returns-in_err-round-clause-amid : goal.returns-in_err-round-clause-amid
returns-in_err-round-clause-amid g c =
    let p = err_from_is_err_and c.from_residual.result c.from_residual.ensures.1 in
    rw (p.1, p.2) (λ items is.
    done_early c.args.program.now _ _ c.args.workers items _ g.T.Taker.took c.args.to.now c.plain_lines_are_shared.ensures.there g.T.Taker.stopped (said c.loop-round.rest) c.loop-round.before _ _ _ _ (c.loop-round.invariant.done items is) (used_alike _))

-- there are more items than numbers
pub returns-in_default-sum_of-clause-amid : goal.returns-in_default-sum_of-clause-amid
returns-in_default-sum_of-clause-amid g c = λ items is.
    done_early c.args.program.now _ _ c.args.workers items _ g.T.Taker.took c.args.to.now c.plain_lines_are_shared.ensures.there g.T.Taker.stopped (said c.loop-round.rest) c.loop-round.before _ _ _ _ (c.loop-round.invariant.done items is) (used_alike _)

-- what a round wants
pub run_round-requires-clause-finders : goal.run_round-requires-clause-finders
run_round-requires-clause-finders g c = λ lifetimes outlive.
    let same = length_all_zip IsUsed (map g.P.Finder.refusals c.args.finders.now.items) (map g.P.Finder.refusals c.loop-round.finders.items) c.loop-round.invariant.used in
    omega (arith, c.requires.finders, same, map_long g.P.Finder.refusals c.args.finders.now.items, map_long g.P.Finder.refusals c.loop-round.finders.items)

pub run_round-requires-clause-stands : goal.run_round-requires-clause-stands
run_round-requires-clause-stands g c = λ lifetimes outlive.
    let so = c.loop-round.invariant.done c.requires.checked.0 c.requires.checked.1 in
    let number : c.in-Some.round.before ≡ c.loop-round.before = rw c.in-Some.is at c.in_ok-round.ensures.before in
    (so.front, number ∙ so.long, so.behind)

-- memory ran out within it
pub returns-in_err-told-clause-amid : goal.returns-in_err-told-clause-amid
returns-in_err-told-clause-amid g c =
    let p = err_from_is_err_and c.from_residual-in_err-told.result c.from_residual-in_err-told.ensures.1 in
    rw (p.1, p.2) (λ items is.
    done_early c.args.program.now _ _ c.args.workers items _ g.T.Taker.took c.args.to.now c.plain_lines_are_shared.ensures.there g.T.Taker.stopped (said c.loop-round.rest) c.loop-round.before _ _ _ _ (c.loop-round.invariant.done items is) c.run_round.ensures.used)

pub returns-in_err-told-clause-used : goal.returns-in_err-told-clause-used
returns-in_err-told-clause-used g c = used_both _ _ _ c.loop-round.invariant.used c.run_round.ensures.used

-- they were not taken to their end
pub returns-in_err-take_lines-clause-amid : goal.returns-in_err-take_lines-clause-amid
returns-in_err-take_lines-clause-amid g c =
    let stop : c.from_residual-in_err-take_lines.result ≡ Err c.in_err-take_lines.field-0.0 = search rules in
    let first : IsFirstRound (said c.loop-round.rest) (items_of c.in-Some.round) (said c.next_round.new.rest) = rw c.in-Some.is at c.in_ok-round.ensures.first in
    let some = rw c.in-Some.is at c.in_ok-round.ensures.some in
    let number : c.in-Some.round.before ≡ c.loop-round.before = rw c.in-Some.is at c.in_ok-round.ensures.before in
    rw stop (λ items is.
    let so = c.loop-round.invariant.done items is in
    let run = c.in_ok-told.ensures.run so.front (number ∙ so.long) so.behind in
    done_some c.args.program.now _ _ c.args.workers items _ g.T.Taker.took c.args.to.now c.plain_lines_are_shared.ensures.there g.T.Taker.stopped (said c.loop-round.rest) c.loop-round.before _ _ _ _ _ _ (items_of c.in-Some.round) (said c.next_round.new.rest) _ _ c.in_ok-told.told _
    so first some run (c.in_err-take_lines.ensures.amid run.lines run.told))

pub returns-in_err-take_lines-clause-used : goal.returns-in_err-take_lines-clause-used
returns-in_err-take_lines-clause-used g c = used_both _ _ _ c.loop-round.invariant.used c.run_round.ensures.used

-- one round more
pub loop-round-preserved : goal.loop-round-preserved
loop-round-preserved g c =
    let inv = c.loop-round.invariant in
    let first : IsFirstRound (said c.loop-round.rest) (items_of c.in-Some.round) (said c.next_round.new.rest) = rw c.in-Some.is at c.in_ok-round.ensures.first in
    let some = rw c.in-Some.is at c.in_ok-round.ensures.some in
    let counted : IsCounted c.in-Some.round = rw c.in-Some.is at c.in_ok-round.ensures.counted in
    let number : c.in-Some.round.before ≡ c.loop-round.before = rw c.in-Some.is at c.in_ok-round.ensures.before in
    let sum : c.in-Some-sum_of.sum ≡ c.loop-round.before + length (items_of c.in-Some.round) = c.in-Some-sum_of.ensures ∙ ap (λ n. c.loop-round.before + n) counted.count in
    record {
      done = λ items is.
          let so = inv.done items is in
          let run = c.in_ok-told.ensures.run so.front (number ∙ so.long) so.behind in
          done_next c.args.program.now _ _ c.args.workers items _ g.T.Taker.took c.args.to.now (said c.loop-round.rest) c.loop-round.before _ _ _ (items_of c.in-Some.round) (said c.next_round.new.rest) c.in-Some-sum_of.sum _ _ _ _ c.in_ok-told.told _
          so first some sum run (c.in_ok-take_lines.ensures.taken run.lines run.told);
      used = used_both _ _ _ inv.used c.run_round.ensures.used;
    }

-- all rounds are done
pub returns-clause-shared : goal.returns-clause-shared
returns-clause-shared g c = λ items is.
    done_all c.args.program.now _ _ c.args.workers items _ g.T.Taker.took c.args.to.now (said c.loop-round.rest) c.loop-round.before _ _ _ (c.loop-round.invariant.done items is) (rw c.in_default.is at c.in_ok-round.ensures.none)

pub returns-clause-behind : goal.returns-clause-behind
returns-clause-behind g c = λ items is.
    done_behind c.args.program.now _ _ c.args.workers items _ g.T.Taker.took c.args.to.now (said c.loop-round.rest) c.loop-round.before _ _ _ (c.loop-round.invariant.done items is) (rw c.in_default.is at c.in_ok-round.ensures.none)
