use Rattle.std.proofs.Common.{◌≡◌, ◌++◌, ◌∷◌, [], rules, subst}
use Rattle.std.proofs.lemmas.Result.{on_ok_weaker}
use Rattle.std.specs.List.{AllByRecursion}
use Rattle.regex_gate.proofs.CallerLemmas.{used_none, used_then}
use Rattle.live_rounds.proofs.SharingLemmas.{none_in, shared_more, shared_none}
use Rattle.live_rounds.specs.Stretches.{IsCounted}
use Rattle.live_rounds.proofs.asks.+answer_parts.Goals as goal

-- no part is left
pub returns-in_default-clause-shared : goal.returns-in_default-clause-shared
returns-in_default-clause-shared g t c = shared_none c.args.program.now c.args.state.now c.args.parts.now _ _ _ (none_in c.args.parts.now c.in_default.ensures.cases)

-- the first part, and the others
pub returns-clause-shared : goal.returns-clause-shared
returns-clause-shared g t c =
    let one : c.push.new.self.items ≡ c.args.asked.now.items ++ c.in_ok-all.all ∷ [] = search rules in
    on_ok_weaker c.answer_parts.result
    (λ adds. shared_more c.args.program.now c.args.state.now c.args.parts.now c.in-Some.others.now c.in-Some.part.now c.args.kept.now.rest.items c.next_kept-replies.new.kept.rest.items c.next_kept-replies.result c.in_ok-all.all (g.P.Finder.refusals c.args.finder.now) (g.P.Finder.refusals c.answer_part.new.finder) (g.P.Finder.refusals c.answer_parts.new.finder)
    c.args.asked.now.items c.push.new.self.items c.answer_parts.new.asked.items c.in-Some.ensures.cases.0 c.next_kept-replies.ensures.first c.next_kept-replies.ensures.others c.in_ok-all.ensures.shared one adds) c.answer_parts.ensures.shared

pub answer_part-requires-clause-counted : goal.answer_part-requires-clause-counted
answer_part-requires-clause-counted g t c = λ lifetimes outlive. (subst (AllByRecursion IsCounted) c.in-Some.ensures.cases.0 c.requires.counted).0

pub answer_parts-requires-clause-counted : goal.answer_parts-requires-clause-counted
answer_parts-requires-clause-counted g t c = λ lifetimes outlive. (subst (AllByRecursion IsCounted) c.in-Some.ensures.cases.0 c.requires.counted).1

-- ---- the finder

pub returns-in_default-clause-used : goal.returns-in_default-clause-used
returns-in_default-clause-used g t c = used_none _

pub returns-clause-used : goal.returns-clause-used
returns-clause-used g t c = used_then (g.P.Finder.refusals c.args.finder.now) (g.P.Finder.refusals c.answer_part.new.finder) (g.P.Finder.refusals c.answer_parts.new.finder) c.answer_part.ensures.used c.answer_parts.ensures.used
