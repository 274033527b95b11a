use Rattle.std.proofs.Common.{◌≡◌, [], arith}
use Rattle.std.proofs.lemmas.Grind.{common_steps}
use Rattle.live_rounds.proofs.SharingLemmas.{none_first, none_others, some_first, some_others}
use Rattle.live_rounds.proofs.asks.next_kept.Goals as goal

-- nothing is kept any more
pub returns-in_default-clause-first : goal.returns-in_default-clause-first
returns-in_default-clause-first c =
    let none : c.args.kept.now.rest.items ≡ [] = grind (arith, common_steps) in
    none_first c.args.kept.now.rest.items c.new.result none c.new.ensures

pub returns-in_default-clause-others : goal.returns-in_default-clause-others
returns-in_default-clause-others c =
    let none : c.args.kept.now.rest.items ≡ [] = grind (arith, common_steps) in
    let left : c.next.new.self.rest.items ≡ [] = grind (arith, common_steps) in
    none_others c.args.kept.now.rest.items c.next.new.self.rest.items none left

-- the next one
pub returns-clause-first : goal.returns-clause-first
returns-clause-first c = some_first c.args.kept.now.rest.items c.next.new.self.rest.items c.in-Some.replies c.in-Some.ensures.cases.0

pub returns-clause-others : goal.returns-clause-others
returns-clause-others c = some_others c.args.kept.now.rest.items c.next.new.self.rest.items c.in-Some.replies c.in-Some.ensures.cases.0
