use Rattle.std.proofs.Common.{ap, map, refl}
use Rattle.answer_lines.specs.declared.answer.Answer.TheVariants as answer
use Rattle.desk_session.proofs.CallerLemmas.{answers_arity, answers_decided, decided_printable}
use Rattle.perm_value.specs.Seen.{datum}
use Rattle.version_log.specs.Log.{versions}
use Rattle.cached_work.proofs.CachedLemmas.{found_turn}
use Rattle.cached_work.proofs.cached.push_found.Goals as goal

pub returns-in-Err-clause-told : goal.returns-in-Err-clause-told
returns-in-Err-clause-told g c =
    let arity = c.in-Err.arity in
    let answered = answers_arity c.args.court.now.program.now c.args.court.now.state.now (g.P.Finder.refusals c.args.finder.now) c.args.request.now arity.got arity.want c.in-Err.ensures.refused.0 (ap (λ r. r.got) c.in-Err.ensures.refused.1) (ap (λ r. r.want) c.in-Err.ensures.refused.1) in
    record { told = record { reply = answer.Arity arity.got arity.want; answered = answered; appended = c.in_ok-push_line.ensures.appended }; turn = (refl, refl) }

pub push_decided-requires : goal.push_decided-requires
push_decided-requires g c =
    record { printable = decided_printable c.order_of_rows_is_one.ensures.moved c.args.court.now.program.now c.args.court.now.state.now _ (map datum c.args.request.now) 0 _ _ c.in_ok-found.ensures.judged c.named_rule-rule.ensures }

pub returns-clause-told : goal.returns-clause-told
returns-clause-told g c =
    let program = c.args.court.now.program.now in
    let state = c.args.court.now.state.now in
    let found = c.in_ok-found.found in
    let answered = answers_decided program state (g.P.Finder.refusals c.args.finder.now) (g.P.Finder.refusals c.decide_cached.new.finder) c.args.request.now c.version.result found.verdict _ (c.in_default.ensures.taken.0 refl) c.decide_cached.ensures.used c.in_ok-found.ensures.judged c.version.ensures.value c.named_rule-rule.ensures in
    record {
      told = record { reply = answer.Decided c.version.result found.verdict _; answered = answered; appended = c.in_ok-push_decided.ensures.appended };
      turn = found_turn (map datum c.args.request.now) (versions state.log) found c.args.cache.now c.decide_cached.new.cache c.requires.good.version c.in_ok-found.ensures.answered;
    }
