use Rattle.std.proofs.Common.{◌≡◌, inl, refl, sym, ◌∙◌}
use Rattle.std.specs.Prelude.{Some, None}
use Rattle.std.proofs.lemmas.Result.{IfErr-weaker, err_from_is_err_and, on_ok_weaker}
use Rattle.command_words.specs.Items.{texts}
use Rattle.regex_gate.proofs.CallerLemmas.{used_none}
use Rattle.serve_run.specs.Services.{at_words, before_files}
use Rattle.serve_run.specs.Words.{is_to_follow, job_asked}
use Rattle.serve_run.proofs.ServeLemmas.{has_served, stops_serving}
use Rattle.serve_run.proofs.WordLemmas.{asked_by, asked_none}
use Rattle.serve_run.proofs.service.serve_words.Goals as goal

-- memory ran out for the words
pub returns-in_err-session-clause-stopped : goal.returns-in_err-session-clause-stopped
returns-in_err-session-clause-stopped g c =
    let p = err_from_is_err_and c.from_residual.result c.from_residual.ensures.1 in
    rw p.1 (before_files p.2 refl)

pub returns-in_err-session-clause-no_further : goal.returns-in_err-session-clause-no_further
returns-in_err-session-clause-no_further g c = inl refl

pub returns-in_err-session-clause-used : goal.returns-in_err-session-clause-used
returns-in_err-session-clause-used g c = used_none (g.P.Finder.refusals c.args.finder.now)

-- they are none
pub returns-in_default-clause-stopped : goal.returns-in_default-clause-stopped
returns-in_default-clause-stopped g c = at_words (asked_none (texts c.args.words.now) c.in_ok-session.session c.in_ok-session.ensures (is_to_follow (texts c.args.words.now)) refl c.in_default.is) refl refl

pub returns-in_default-clause-no_further : goal.returns-in_default-clause-no_further
returns-in_default-clause-no_further g c = inl refl

pub returns-in_default-clause-used : goal.returns-in_default-clause-used
returns-in_default-clause-used g c = used_none (g.P.Finder.refusals c.args.finder.now)

-- they are none behind it, or memory runs out for them
pub returns-in_default-2-clause-stopped : goal.returns-in_default-2-clause-stopped
returns-in_default-2-clause-stopped g c = at_words (asked_by (texts c.args.words.now) c.in_ok-session.session c.in_ok-session.ensures c.asks_to_follow-follow.result c.asks_to_follow-follow.ensures c.in-Some.session c.in-Some.is c.deref.result.now c.deref.ensures.value None (sym c.in_default-2.is ∙ c.in_ok-job.ensures.asked)) refl refl

pub returns-in_default-2-clause-no_further : goal.returns-in_default-2-clause-no_further
returns-in_default-2-clause-no_further g c = inl refl

pub returns-in_default-2-clause-used : goal.returns-in_default-2-clause-used
returns-in_default-2-clause-used g c = used_none (g.P.Finder.refusals c.args.finder.now)

pub returns-in_err-job-clause-stopped : goal.returns-in_err-job-clause-stopped
returns-in_err-job-clause-stopped g c =
    let p = err_from_is_err_and c.from_residual-in_err-job.result c.from_residual-in_err-job.ensures.1 in
    rw p.1 (before_files p.2 refl)

pub returns-in_err-job-clause-no_further : goal.returns-in_err-job-clause-no_further
returns-in_err-job-clause-no_further g c = inl refl

pub returns-in_err-job-clause-used : goal.returns-in_err-job-clause-used
returns-in_err-job-clause-used g c = used_none (g.P.Finder.refusals c.args.finder.now)

-- a job
pub returns-clause-done : goal.returns-clause-done
returns-clause-done g c =
    let asked : job_asked (texts c.args.words.now) ≡ Some c.in-Some-2.job = asked_by (texts c.args.words.now) c.in_ok-session.session c.in_ok-session.ensures c.asks_to_follow-follow.result c.asks_to_follow-follow.ensures c.in-Some.session c.in-Some.is c.deref.result.now c.deref.ensures.value (Some c.in-Some-2.job) (sym c.in-Some-2.is ∙ c.in_ok-job.ensures.asked) in
    on_ok_weaker c.serve_job.result (has_served (texts c.args.words.now) (g.F.Shelf.files c.args.shelf.now) c.in-Some-2.job asked _ _) c.serve_job.ensures.served

pub returns-clause-stopped : goal.returns-clause-stopped
returns-clause-stopped g c =
    let asked : job_asked (texts c.args.words.now) ≡ Some c.in-Some-2.job = asked_by (texts c.args.words.now) c.in_ok-session.session c.in_ok-session.ensures c.asks_to_follow-follow.result c.asks_to_follow-follow.ensures c.in-Some.session c.in-Some.is c.deref.result.now c.deref.ensures.value (Some c.in-Some-2.job) (sym c.in-Some-2.is ∙ c.in_ok-job.ensures.asked) in
    IfErr-weaker c.serve_job.result _ _ (stops_serving (texts c.args.words.now) (g.F.Shelf.files c.args.shelf.now) c.in-Some-2.job asked _ _) c.serve_job.ensures.stopped
