use Rattle.std.proofs.Common.{map}
use Rattle.live_rounds.proofs.SharingLemmas.{from_start}
use Rattle.live_rounds.specs.Stretches.{items_of}
use Rattle.live_rounds.proofs.asks.answer_asks.Goals as goal

-- what is kept is all of it, and no reply stands before the others
pub returns-clause-shared : goal.returns-clause-shared
returns-clause-shared g c =
    from_start c.args.program.now c.args.state.now (map items_of c.args.parts.now) _ _ (g.P.Finder.refusals c.args.finder.now) (g.P.Finder.refusals c.answer_parts.new.finder) c.new-asked.result.items c.answer_parts.new.asked.items
    c.into_iter-kept.ensures.rest c.new-asked.ensures.items c.in_ok-answer_parts.ensures.shared
