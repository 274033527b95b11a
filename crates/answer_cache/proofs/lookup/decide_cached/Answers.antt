use Rattle.std.proofs.Common.{inl, map, ap, ◌∙◌}
use Rattle.perm_value.specs.Seen.{datum}
use Rattle.decision.specs.Decisions.{RefusedIn}
use Rattle.answer_cache.specs.Cached.{at_version}
use Rattle.answer_cache.proofs.AnswerLemmas.{hit_good, hit_judged, hit_verdict, miss_good, start_good}
use Rattle.answer_cache.proofs.lookup.decide_cached.Goals as goal

pub returns-in-Some-clause-judged : goal.returns-in-Some-clause-judged
returns-in-Some-clause-judged g c =
    inl (hit_verdict c.args.program.now c.args.state.now c.args.cache.now c.move_to.new.self
    (record { is = c.move_to.ensures ∙ ap (λ n. at_version n c.args.cache.now) c.version.ensures.value; good = c.requires.good })
    (map datum c.args.request.now) c.in-Some.verdict c.find.new.self c.in-Some.ensures.found)

pub returns-in-Some-clause-refused : goal.returns-in-Some-clause-refused
returns-in-Some-clause-refused g c =
    hit_judged c.args.program.now c.args.state.now c.args.cache.now c.move_to.new.self
    (record { is = c.move_to.ensures ∙ ap (λ n. at_version n c.args.cache.now) c.version.ensures.value; good = c.requires.good })
    (map datum c.args.request.now) c.in-Some.verdict c.find.new.self c.in-Some.ensures.found (g.P.Finder.refusals c.args.finder.now)

pub returns-in-Some-clause-good : goal.returns-in-Some-clause-good
returns-in-Some-clause-good g c =
    hit_good c.args.program.now c.args.state.now c.args.cache.now c.move_to.new.self
    (record { is = c.move_to.ensures ∙ ap (λ n. at_version n c.args.cache.now) c.version.ensures.value; good = c.requires.good })
    (map datum c.args.request.now) c.in-Some.verdict c.find.new.self c.in-Some.ensures.found

pub returns-in_err-verdict-clause-good : goal.returns-in_err-verdict-clause-good
returns-in_err-verdict-clause-good g c =
    start_good c.args.program.now c.args.state.now c.args.cache.now c.find.new.self
    (record { is = c.in_default.ensures.none ∙ c.move_to.ensures ∙ ap (λ n. at_version n c.args.cache.now) c.version.ensures.value; good = c.requires.good })

pub returns-clause-good : goal.returns-clause-good
returns-clause-good g c =
    miss_good c.args.program.now c.args.state.now c.args.cache.now c.find.new.self
    (record { is = c.in_default.ensures.none ∙ c.move_to.ensures ∙ ap (λ n. at_version n c.args.cache.now) c.version.ensures.value; good = c.requires.good })
    (map datum c.args.request.now) c.in_ok-verdict.verdict c.keep-kept.new.self (RefusedIn c.args.program.now.effect (g.P.Finder.refusals c.args.finder.now) (g.P.Finder.refusals c.decide.new.finder))
    c.keep-kept.result c.in_ok-verdict.ensures.refused c.keep-kept.ensures.refused c.keep-kept.ensures.entries
