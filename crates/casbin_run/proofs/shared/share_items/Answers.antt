use Rattle.std.proofs.Common.{◌≡◌, Err, refl, rules}
use Rattle.std.proofs.lemmas.Result.{IfErr-weaker, on_ok_weaker}
use Rattle.casbin_run.specs.Helps.Tasks.{ground}
use Rattle.casbin_run.specs.declared.job.Task.TheVariants.{Share}
use Rattle.casbin_run.proofs.FinderLemmas.{none_used}
use Rattle.casbin_run.proofs.SharedWork.{share_stops, wrote_all, wrote_idle, wrote_quiet, wrote_stops}
use Rattle.casbin_run.proofs.WorkLemmas.{input_stops}
use Rattle.casbin_run.proofs.shared.share_items.Goals as goal

pub returns-in_err-script-clause-stopped : goal.returns-in_err-script-clause-stopped
returns-in_err-script-clause-stopped g c =
    let stop : c.from_residual.result ≡ Err c.in_err-script.field-0.0 = search rules in
    rw stop (input_stops (ground (Share c.args.json c.args.workers) c.args.loaded (g.S.Source.left c.args.input.now)) _ _ _ _ c.in_err-script.field-0.0 refl (share_stops c.args.json c.args.workers _ _ c.in_err-script.field-0.0 c.in_err-script.ensures.stopped))

pub returns-in_err-script-clause-read_to_end : goal.returns-in_err-script-clause-read_to_end
returns-in_err-script-clause-read_to_end g c =
    let stop : c.from_residual.result ≡ Err c.in_err-script.field-0.0 = search rules in
    rw stop (λ past. c.in_err-script.ensures.read_to_end past)

pub returns-in_err-script-clause-ended : goal.returns-in_err-script-clause-ended
returns-in_err-script-clause-ended g c =
    let stop : c.from_residual.result ≡ Err c.in_err-script.field-0.0 = search rules in
    rw stop (λ past. c.in_err-script.ensures.ended past)

pub returns-in_err-script-clause-used : goal.returns-in_err-script-clause-used
returns-in_err-script-clause-used g c = none_used _

pub share-requires-clause-checked : goal.share-requires-clause-checked
share-requires-clause-checked g c = λ lifetimes outlive. rw c.as_str-text.ensures.value c.in_ok-script.ensures.checked

pub returns-clause-done : goal.returns-clause-done
returns-clause-done g c =
    on_ok_weaker c.share.result (wrote_all c.args.json c.args.workers c.args.loaded (g.S.Source.left c.args.input.now) c.as_str-text.result.now (rw c.as_str-text.ensures.value c.in_ok-script.ensures.read) _ _ _ _) c.share.ensures.shared.printed

pub returns-clause-stopped : goal.returns-clause-stopped
returns-clause-stopped g c =
    IfErr-weaker c.share.result _ _ (wrote_stops c.args.json c.args.workers c.args.loaded (g.S.Source.left c.args.input.now) c.as_str-text.result.now (rw c.as_str-text.ensures.value c.in_ok-script.ensures.read) _ _ _ _ _ _) c.share.ensures.shared.stopped

pub returns-clause-read_to_end : goal.returns-clause-read_to_end
returns-clause-read_to_end g c = λ past. c.in_ok-script.ensures.read_to_end refl

pub returns-clause-ended : goal.returns-clause-ended
returns-clause-ended g c = λ past. c.in_ok-script.ensures.ended refl

pub returns-clause-quiet : goal.returns-clause-quiet
returns-clause-quiet g c =
    IfErr-weaker c.share.result _ _ (wrote_quiet c.args.json c.args.workers c.args.loaded (g.S.Source.left c.args.input.now) c.as_str-text.result.now (rw c.as_str-text.ensures.value c.in_ok-script.ensures.read) _ _ _ _ _) c.share.ensures.shared.stopped

pub returns-clause-idle : goal.returns-clause-idle
returns-clause-idle g c =
    IfErr-weaker c.share.result _ _ (wrote_idle c.args.json c.args.workers c.args.loaded (g.S.Source.left c.args.input.now) c.as_str-text.result.now (rw c.as_str-text.ensures.value c.in_ok-script.ensures.read) _ _ _ _ _) c.share.ensures.shared.stopped
