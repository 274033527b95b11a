use Rattle.std.proofs.Common.{◌≡◌, Err, true, false, ap, refl, rules, sym, ◌∙◌}
use Rattle.std.specs.Prelude.{map}
use Rattle.std.proofs.lemmas.Result.{IfErr-weaker, on_ok_weaker}
use Rattle.script_read.specs.Said.{seen}
use Rattle.script_read.specs.Script.{IsRequests, IsScript}
use Rattle.casbin_run.specs.Helps.Tasks.{ground}
use Rattle.casbin_run.specs.Jobs.{has_workers}
use Rattle.casbin_run.specs.declared.job.Task.{Task}
use Rattle.casbin_run.specs.declared.job.Task.TheVariants.{Enforce, Cached, Explain, Serve, Check, Format, Implicit, Report, Ship, Follow}
use Rattle.casbin_run.proofs.WorkLemmas.{answered_all, answered_stops, asked_says, input_stops, report_quiet, report_stops, served_says, show_not_quiet, showed_all, shipped_stops, shown_all, shown_still, shown_stops, shows_check, shows_follow, shows_format, shows_implied, shows_report, shows_ship, stops_still, text_quiet, text_stops, used_still}
use Rattle.casbin_run.proofs.CachedWork.{cached_done}
use Rattle.casbin_run.proofs.ExplainWork.{explain_not_quiet, explained_done, explained_stops}
use Rattle.casbin_run.proofs.run.do_task.Goals as goal

pub returns-in_err-text-in-Enforce-clause-stopped : goal.returns-in_err-text-in-Enforce-clause-stopped
returns-in_err-text-in-Enforce-clause-stopped g c =
    let stop : c.from_residual.result ≡ Err c.in_err-text-in-Enforce.field-0.0 = search rules in
    rw (c.in-Enforce.is, stop) (input_stops (ground (Enforce c.in-Enforce.json) c.args.loaded (g.S.Source.left c.args.input.now)) _ _ _ _ c.in_err-text-in-Enforce.field-0.0 refl c.in_err-text-in-Enforce.ensures.stopped)

pub returns-in_ok-text-in-Enforce-clause-done : goal.returns-in_ok-text-in-Enforce-clause-done
returns-in_ok-text-in-Enforce-clause-done g c =
    let json = c.in-Enforce.json in
    let left = g.S.Source.left c.args.input.now in
    rw c.in-Enforce.is (on_ok_weaker c.enforce.result (λ all. answered_all (ground (Enforce json) c.args.loaded left) (λ items refused pieces text lines. lines) tt refl (IsRequests json c.as_str.result.now) (asked_says json left c.as_str.result.now (rw c.as_str.ensures.value c.in_ok-text-in-Enforce.ensures.read)) _ _ _ _ _ _ all refl) c.enforce.ensures.printed)

pub returns-in_ok-text-in-Enforce-clause-stopped : goal.returns-in_ok-text-in-Enforce-clause-stopped
returns-in_ok-text-in-Enforce-clause-stopped g c =
    let json = c.in-Enforce.json in
    let left = g.S.Source.left c.args.input.now in
    rw c.in-Enforce.is (IfErr-weaker c.enforce.result _ _ (answered_stops (ground (Enforce json) c.args.loaded left) (λ items refused pieces text lines. lines) tt refl (IsRequests json c.as_str.result.now) (asked_says json left c.as_str.result.now (rw c.as_str.ensures.value c.in_ok-text-in-Enforce.ensures.read)) _ _ _ _ _ _) c.enforce.ensures.stopped)

pub serve-requires-clause-checked : goal.serve-requires-clause-checked
serve-requires-clause-checked g c = λ lifetimes outlive. rw c.as_str-in-Serve.ensures.value c.in_ok-script-in-Serve.ensures.checked

pub returns-in_ok-script-in-Serve-clause-done : goal.returns-in_ok-script-in-Serve-clause-done
returns-in_ok-script-in-Serve-clause-done g c =
    let json = c.in-Serve.json in
    let left = g.S.Source.left c.args.input.now in
    let script = c.as_str-in-Serve.result.now in
    rw c.in-Serve.is (on_ok_weaker c.serve.result (λ all. answered_all (ground (Serve json) c.args.loaded left) (λ items refused pieces text lines. lines) tt refl (IsScript json script) (served_says json left script (rw c.as_str-in-Serve.ensures.value c.in_ok-script-in-Serve.ensures.read)) _ _ _ _ _ _ all refl) c.serve.ensures.printed)

pub returns-in_ok-script-in-Serve-clause-stopped : goal.returns-in_ok-script-in-Serve-clause-stopped
returns-in_ok-script-in-Serve-clause-stopped g c =
    let json = c.in-Serve.json in
    let left = g.S.Source.left c.args.input.now in
    let script = c.as_str-in-Serve.result.now in
    rw c.in-Serve.is (IfErr-weaker c.serve.result _ _ (answered_stops (ground (Serve json) c.args.loaded left) (λ items refused pieces text lines. lines) tt refl (IsScript json script) (served_says json left script (rw c.as_str-in-Serve.ensures.value c.in_ok-script-in-Serve.ensures.read)) _ _ _ _ _ _) c.serve.ensures.stopped)

pub returns-in-Check-clause-done : goal.returns-in-Check-clause-done
returns-in-Check-clause-done g c =
    let left = g.S.Source.left c.args.input.now in
    rw c.in-Check.is (on_ok_weaker c.check.result (shown_all (ground Check c.args.loaded left) (g.P.Finder.refusals c.args.finder.now) _ (shows_check c.args.loaded left) _ _ _) c.check.ensures.shown)

pub returns-in-Check-clause-stopped : goal.returns-in-Check-clause-stopped
returns-in-Check-clause-stopped g c =
    let left = g.S.Source.left c.args.input.now in
    rw c.in-Check.is (IfErr-weaker c.check.result _ _ (shown_stops (ground Check c.args.loaded left) (g.P.Finder.refusals c.args.finder.now) _ (shows_check c.args.loaded left) _ _ _ _) c.check.ensures.stopped)

pub returns-in-Format-clause-done : goal.returns-in-Format-clause-done
returns-in-Format-clause-done g c =
    let left = g.S.Source.left c.args.input.now in
    rw c.in-Format.is (on_ok_weaker c.format.result (shown_all (ground Format c.args.loaded left) (g.P.Finder.refusals c.args.finder.now) _ (shows_format c.args.loaded left) _ _ _) c.format.ensures.shown)

pub returns-in-Format-clause-stopped : goal.returns-in-Format-clause-stopped
returns-in-Format-clause-stopped g c =
    let left = g.S.Source.left c.args.input.now in
    rw c.in-Format.is (IfErr-weaker c.format.result _ _ (shown_stops (ground Format c.args.loaded left) (g.P.Finder.refusals c.args.finder.now) _ (shows_format c.args.loaded left) _ _ _ _) c.format.ensures.stopped)

pub returns-in-Implicit-clause-done : goal.returns-in-Implicit-clause-done
returns-in-Implicit-clause-done g c =
    let left = g.S.Source.left c.args.input.now in
    let subject = c.in-Implicit.subject in
    rw c.in-Implicit.is (on_ok_weaker c.implicit.result (showed_all (ground (Implicit subject) c.args.loaded left) (g.P.Finder.refusals c.args.finder.now) _ (shows_implied c.args.loaded left subject) _ _ _) c.implicit.ensures.shown)

pub returns-in-Implicit-clause-stopped : goal.returns-in-Implicit-clause-stopped
returns-in-Implicit-clause-stopped g c =
    let left = g.S.Source.left c.args.input.now in
    let subject = c.in-Implicit.subject in
    rw c.in-Implicit.is (IfErr-weaker c.implicit.result _ _ (text_stops (ground (Implicit subject) c.args.loaded left) (g.P.Finder.refusals c.args.finder.now) _ (shows_implied c.args.loaded left subject) _ _ _ _) c.implicit.ensures.stopped)

pub returns-in-Implicit-clause-quiet : goal.returns-in-Implicit-clause-quiet
returns-in-Implicit-clause-quiet g c = IfErr-weaker c.implicit.result _ _ (text_quiet _ _ _ _) c.implicit.ensures.stopped

pub returns-in-Report-clause-done : goal.returns-in-Report-clause-done
returns-in-Report-clause-done g c =
    let left = g.S.Source.left c.args.input.now in
    rw c.in-Report.is (on_ok_weaker c.report.result (showed_all (ground Report c.args.loaded left) (g.P.Finder.refusals c.args.finder.now) _ (shows_report c.args.loaded left) _ _ _) c.report.ensures.shown)

pub returns-in-Report-clause-stopped : goal.returns-in-Report-clause-stopped
returns-in-Report-clause-stopped g c =
    let left = g.S.Source.left c.args.input.now in
    rw c.in-Report.is (IfErr-weaker c.report.result _ _ (report_stops c.args.loaded left (g.P.Finder.refusals c.args.finder.now) _ _ _ _) c.report.ensures.stopped)

pub returns-in-Report-clause-quiet : goal.returns-in-Report-clause-quiet
returns-in-Report-clause-quiet g c = IfErr-weaker c.report.result _ _ (report_quiet _ _ _ _ _) c.report.ensures.stopped

-- what is printed reads back
pub returns-in_ok-text-in-Enforce-clause-reads_back : goal.returns-in_ok-text-in-Enforce-clause-reads_back
returns-in_ok-text-in-Enforce-clause-reads_back g c = rw c.in-Enforce.is (on_ok_weaker c.enforce.result (λ all. tt) c.enforce.ensures.printed)

pub returns-in_ok-script-in-Serve-clause-reads_back : goal.returns-in_ok-script-in-Serve-clause-reads_back
returns-in_ok-script-in-Serve-clause-reads_back g c = rw c.in-Serve.is (on_ok_weaker c.serve.result (λ all. tt) c.serve.ensures.printed)

pub returns-in-Check-clause-reads_back : goal.returns-in-Check-clause-reads_back
returns-in-Check-clause-reads_back g c = rw c.in-Check.is c.check.ensures.reads_back

pub returns-in-Format-clause-reads_back : goal.returns-in-Format-clause-reads_back
returns-in-Format-clause-reads_back g c = rw c.in-Format.is c.format.ensures.reads_back

pub returns-in-Implicit-clause-reads_back : goal.returns-in-Implicit-clause-reads_back
returns-in-Implicit-clause-reads_back g c = rw c.in-Implicit.is (on_ok_weaker c.implicit.result (λ all. tt) c.implicit.ensures.shown)

pub returns-in-Report-clause-reads_back : goal.returns-in-Report-clause-reads_back
returns-in-Report-clause-reads_back g c = rw c.in-Report.is (on_ok_weaker c.report.result (λ all. tt) c.report.ensures.shown)

-- by way of a cache
pub returns-in_err-text-in-Cached-clause-stopped : goal.returns-in_err-text-in-Cached-clause-stopped
returns-in_err-text-in-Cached-clause-stopped g c =
    let stop : c.from_residual-in_err-text-in-Cached.result ≡ Err c.in_err-text-in-Cached.field-0.0 = search rules in
    rw (c.in-Cached.is, stop) (input_stops (ground (Cached c.in-Cached.json c.in-Cached.capacity) c.args.loaded (g.S.Source.left c.args.input.now)) _ _ _ _ c.in_err-text-in-Cached.field-0.0 refl c.in_err-text-in-Cached.ensures.stopped)

pub returns-in_ok-text-in-Cached-clause-done : goal.returns-in_ok-text-in-Cached-clause-done
returns-in_ok-text-in-Cached-clause-done g c =
    let json = c.in-Cached.json in
    let left = g.S.Source.left c.args.input.now in
    rw c.in-Cached.is (on_ok_weaker c.enforce_cached.result (cached_done json c.in-Cached.capacity c.args.loaded left (IsRequests json c.as_str-in-Cached.result.now) (asked_says json left c.as_str-in-Cached.result.now (rw c.as_str-in-Cached.ensures.value c.in_ok-text-in-Cached.ensures.read)) _ _ _ _ _ _) c.enforce_cached.ensures.printed)

pub returns-in_ok-text-in-Cached-clause-stopped : goal.returns-in_ok-text-in-Cached-clause-stopped
returns-in_ok-text-in-Cached-clause-stopped g c =
    let json = c.in-Cached.json in
    let left = g.S.Source.left c.args.input.now in
    rw c.in-Cached.is (IfErr-weaker c.enforce_cached.result _ _ (answered_stops (ground (Cached json c.in-Cached.capacity) c.args.loaded left) (λ items refused pieces text lines. lines) tt refl (IsRequests json c.as_str-in-Cached.result.now) (asked_says json left c.as_str-in-Cached.result.now (rw c.as_str-in-Cached.ensures.value c.in_ok-text-in-Cached.ensures.read)) _ _ _ _ _ _) c.enforce_cached.ensures.stopped)

pub returns-in_ok-text-in-Cached-clause-reads_back : goal.returns-in_ok-text-in-Cached-clause-reads_back
returns-in_ok-text-in-Cached-clause-reads_back g c = rw c.in-Cached.is (on_ok_weaker c.enforce_cached.result (λ all. tt) c.enforce_cached.ensures.printed)

-- a task with workers is not done here
pub unreachable-requires : goal.unreachable-requires
unreachable-requires g c =
    let both : true ≡ false = sym (ap (λ (task : Task). has_workers task) c.in-Share.is) ∙ c.requires.alone in
    absurd cc

-- what is shipped
pub returns-in_err-script-in-Ship-clause-stopped : goal.returns-in_err-script-in-Ship-clause-stopped
returns-in_err-script-in-Ship-clause-stopped g c =
    let stop : c.from_residual-in_err-script-in-Ship.result ≡ Err c.in_err-script-in-Ship.field-0.0 = search rules in
    rw (c.in-Ship.is, stop) (input_stops (ground Ship c.args.loaded (g.S.Source.left c.args.input.now)) _ _ _ _ c.in_err-script-in-Ship.field-0.0 refl (shipped_stops _ _ c.in_err-script-in-Ship.field-0.0 c.in_err-script-in-Ship.ensures.stopped))

pub returns-in_ok-script-in-Ship-clause-done : goal.returns-in_ok-script-in-Ship-clause-done
returns-in_ok-script-in-Ship-clause-done g c =
    let left = g.S.Source.left c.args.input.now in
    let script = map seen c.in_ok-script-in-Ship.script in
    rw c.in-Ship.is (on_ok_weaker c.ship.result (shown_still (ground Ship c.args.loaded left) _ _ _ (shows_ship c.args.loaded left script c.in_ok-script-in-Ship.ensures.read) c.ship.ensures.unasked _ _ _) c.ship.ensures.shown)

pub returns-in_ok-script-in-Ship-clause-stopped : goal.returns-in_ok-script-in-Ship-clause-stopped
returns-in_ok-script-in-Ship-clause-stopped g c =
    let left = g.S.Source.left c.args.input.now in
    let script = map seen c.in_ok-script-in-Ship.script in
    rw c.in-Ship.is (IfErr-weaker c.ship.result _ _ (stops_still (ground Ship c.args.loaded left) _ _ _ (shows_ship c.args.loaded left script c.in_ok-script-in-Ship.ensures.read) c.ship.ensures.unasked _ _ _ _) c.ship.ensures.stopped)

pub returns-in_ok-script-in-Ship-clause-reads_back : goal.returns-in_ok-script-in-Ship-clause-reads_back
returns-in_ok-script-in-Ship-clause-reads_back g c = rw c.in-Ship.is (on_ok_weaker c.ship.result (λ all. tt) c.ship.ensures.shown)

pub returns-in_ok-script-in-Ship-clause-used : goal.returns-in_ok-script-in-Ship-clause-used
returns-in_ok-script-in-Ship-clause-used g c = used_still _ _ c.ship.ensures.unasked

pub returns-in_ok-script-in-Ship-clause-idle : goal.returns-in_ok-script-in-Ship-clause-idle
returns-in_ok-script-in-Ship-clause-idle g c = IfErr-weaker c.ship.result _ _ (show_not_quiet _ _ _ _) c.ship.ensures.stopped

-- what packets come to
pub returns-in_err-packets-in-Follow-clause-stopped : goal.returns-in_err-packets-in-Follow-clause-stopped
returns-in_err-packets-in-Follow-clause-stopped g c =
    let stop : c.from_residual-in_err-packets-in-Follow.result ≡ Err c.in_err-packets-in-Follow.field-0.0 = search rules in
    rw (c.in-Follow.is, stop) (input_stops (ground Follow c.args.loaded (g.S.Source.left c.args.input.now)) _ _ _ _ c.in_err-packets-in-Follow.field-0.0 refl c.in_err-packets-in-Follow.ensures.stopped)

pub returns-in_ok-packets-in-Follow-clause-done : goal.returns-in_ok-packets-in-Follow-clause-done
returns-in_ok-packets-in-Follow-clause-done g c =
    let left = g.S.Source.left c.args.input.now in
    let packets = c.in_ok-packets-in-Follow.packets in
    rw c.in-Follow.is (on_ok_weaker c.follow.result (showed_all (ground Follow c.args.loaded left) (g.P.Finder.refusals c.args.finder.now) _ (shows_follow c.args.loaded left packets c.in_ok-packets-in-Follow.ensures.read) _ _ _) c.follow.ensures.shown)

pub returns-in_ok-packets-in-Follow-clause-stopped : goal.returns-in_ok-packets-in-Follow-clause-stopped
returns-in_ok-packets-in-Follow-clause-stopped g c =
    let left = g.S.Source.left c.args.input.now in
    let packets = c.in_ok-packets-in-Follow.packets in
    rw c.in-Follow.is (IfErr-weaker c.follow.result _ _ (text_stops (ground Follow c.args.loaded left) (g.P.Finder.refusals c.args.finder.now) _ (shows_follow c.args.loaded left packets c.in_ok-packets-in-Follow.ensures.read) _ _ _ _) c.follow.ensures.stopped)

pub returns-in_ok-packets-in-Follow-clause-quiet : goal.returns-in_ok-packets-in-Follow-clause-quiet
returns-in_ok-packets-in-Follow-clause-quiet g c = IfErr-weaker c.follow.result _ _ (text_quiet _ _ _ _) c.follow.ensures.stopped

pub returns-in_ok-packets-in-Follow-clause-reads_back : goal.returns-in_ok-packets-in-Follow-clause-reads_back
returns-in_ok-packets-in-Follow-clause-reads_back g c = rw c.in-Follow.is (on_ok_weaker c.follow.result (λ all. tt) c.follow.ensures.shown)

-- with near misses
pub returns-in_err-text-in-Explain-clause-stopped : goal.returns-in_err-text-in-Explain-clause-stopped
returns-in_err-text-in-Explain-clause-stopped g c =
    let stop : c.from_residual-in_err-text-in-Explain.result ≡ Err c.in_err-text-in-Explain.field-0.0 = search rules in
    rw (c.in-Explain.is, stop) (input_stops (ground (Explain c.in-Explain.json c.in-Explain.most) c.args.loaded (g.S.Source.left c.args.input.now)) _ _ _ _ c.in_err-text-in-Explain.field-0.0 refl c.in_err-text-in-Explain.ensures.stopped)

pub returns-in_ok-text-in-Explain-clause-done : goal.returns-in_ok-text-in-Explain-clause-done
returns-in_ok-text-in-Explain-clause-done g c =
    let json = c.in-Explain.json in
    let left = g.S.Source.left c.args.input.now in
    rw c.in-Explain.is (on_ok_weaker c.explain.result (explained_done json c.in-Explain.most c.args.loaded left (IsRequests json c.as_str-in-Explain.result.now) (asked_says json left c.as_str-in-Explain.result.now (rw c.as_str-in-Explain.ensures.value c.in_ok-text-in-Explain.ensures.read)) _ _ _ _ _) c.explain.ensures.printed)

pub returns-in_ok-text-in-Explain-clause-stopped : goal.returns-in_ok-text-in-Explain-clause-stopped
returns-in_ok-text-in-Explain-clause-stopped g c =
    let json = c.in-Explain.json in
    let left = g.S.Source.left c.args.input.now in
    rw c.in-Explain.is (IfErr-weaker c.explain.result _ _ (explained_stops json c.in-Explain.most c.args.loaded left (IsRequests json c.as_str-in-Explain.result.now) (asked_says json left c.as_str-in-Explain.result.now (rw c.as_str-in-Explain.ensures.value c.in_ok-text-in-Explain.ensures.read)) _ _ _ _ _ _) c.explain.ensures.stopped)

pub returns-in_ok-text-in-Explain-clause-reads_back : goal.returns-in_ok-text-in-Explain-clause-reads_back
returns-in_ok-text-in-Explain-clause-reads_back g c = rw c.in-Explain.is (on_ok_weaker c.explain.result (λ all. tt) c.explain.ensures.printed)

pub returns-in_ok-text-in-Explain-clause-quiet : goal.returns-in_ok-text-in-Explain-clause-quiet
returns-in_ok-text-in-Explain-clause-quiet g c = IfErr-weaker c.explain.result _ _ (explain_not_quiet _ _ _ _ _ _ _ _ _ _) c.explain.ensures.stopped

pub returns-in_ok-text-in-Explain-clause-idle : goal.returns-in_ok-text-in-Explain-clause-idle
returns-in_ok-text-in-Explain-clause-idle g c = IfErr-weaker c.explain.result _ _ (explain_not_quiet _ _ _ _ _ _ _ _ _ _) c.explain.ensures.stopped

-- the input is read to its end, but where its bytes were not read

pub returns-in_err-text-in-Enforce-clause-read_to_end : goal.returns-in_err-text-in-Enforce-clause-read_to_end
returns-in_err-text-in-Enforce-clause-read_to_end g c =
    let stop : c.from_residual.result ≡ Err c.in_err-text-in-Enforce.field-0.0 = search rules in
    rw stop (λ past reads. c.in_err-text-in-Enforce.ensures.read_to_end past)

pub returns-in_ok-text-in-Enforce-clause-read_to_end : goal.returns-in_ok-text-in-Enforce-clause-read_to_end
returns-in_ok-text-in-Enforce-clause-read_to_end g c = λ past reads. c.in_ok-text-in-Enforce.ensures.read_to_end refl

pub returns-in_err-text-in-Enforce-clause-ended : goal.returns-in_err-text-in-Enforce-clause-ended
returns-in_err-text-in-Enforce-clause-ended g c =
    let stop : c.from_residual.result ≡ Err c.in_err-text-in-Enforce.field-0.0 = search rules in
    rw stop (λ past reads. c.in_err-text-in-Enforce.ensures.ended past)

pub returns-in_ok-text-in-Enforce-clause-ended : goal.returns-in_ok-text-in-Enforce-clause-ended
returns-in_ok-text-in-Enforce-clause-ended g c = λ past reads. c.in_ok-text-in-Enforce.ensures.ended refl

pub returns-in_err-script-in-Serve-clause-read_to_end : goal.returns-in_err-script-in-Serve-clause-read_to_end
returns-in_err-script-in-Serve-clause-read_to_end g c =
    let stop : c.from_residual-in_err-script-in-Serve.result ≡ Err c.in_err-script-in-Serve.field-0.0 = search rules in
    rw stop (λ past reads. c.in_err-script-in-Serve.ensures.read_to_end past)

pub returns-in_ok-script-in-Serve-clause-read_to_end : goal.returns-in_ok-script-in-Serve-clause-read_to_end
returns-in_ok-script-in-Serve-clause-read_to_end g c = λ past reads. c.in_ok-script-in-Serve.ensures.read_to_end refl

pub returns-in_err-script-in-Serve-clause-ended : goal.returns-in_err-script-in-Serve-clause-ended
returns-in_err-script-in-Serve-clause-ended g c =
    let stop : c.from_residual-in_err-script-in-Serve.result ≡ Err c.in_err-script-in-Serve.field-0.0 = search rules in
    rw stop (λ past reads. c.in_err-script-in-Serve.ensures.ended past)

pub returns-in_ok-script-in-Serve-clause-ended : goal.returns-in_ok-script-in-Serve-clause-ended
returns-in_ok-script-in-Serve-clause-ended g c = λ past reads. c.in_ok-script-in-Serve.ensures.ended refl

pub returns-in_err-text-in-Cached-clause-read_to_end : goal.returns-in_err-text-in-Cached-clause-read_to_end
returns-in_err-text-in-Cached-clause-read_to_end g c =
    let stop : c.from_residual-in_err-text-in-Cached.result ≡ Err c.in_err-text-in-Cached.field-0.0 = search rules in
    rw stop (λ past reads. c.in_err-text-in-Cached.ensures.read_to_end past)

pub returns-in_ok-text-in-Cached-clause-read_to_end : goal.returns-in_ok-text-in-Cached-clause-read_to_end
returns-in_ok-text-in-Cached-clause-read_to_end g c = λ past reads. c.in_ok-text-in-Cached.ensures.read_to_end refl

pub returns-in_err-text-in-Cached-clause-ended : goal.returns-in_err-text-in-Cached-clause-ended
returns-in_err-text-in-Cached-clause-ended g c =
    let stop : c.from_residual-in_err-text-in-Cached.result ≡ Err c.in_err-text-in-Cached.field-0.0 = search rules in
    rw stop (λ past reads. c.in_err-text-in-Cached.ensures.ended past)

pub returns-in_ok-text-in-Cached-clause-ended : goal.returns-in_ok-text-in-Cached-clause-ended
returns-in_ok-text-in-Cached-clause-ended g c = λ past reads. c.in_ok-text-in-Cached.ensures.ended refl

pub returns-in_err-script-in-Ship-clause-read_to_end : goal.returns-in_err-script-in-Ship-clause-read_to_end
returns-in_err-script-in-Ship-clause-read_to_end g c =
    let stop : c.from_residual-in_err-script-in-Ship.result ≡ Err c.in_err-script-in-Ship.field-0.0 = search rules in
    rw stop (λ past reads. c.in_err-script-in-Ship.ensures.read_to_end past)

pub returns-in_ok-script-in-Ship-clause-read_to_end : goal.returns-in_ok-script-in-Ship-clause-read_to_end
returns-in_ok-script-in-Ship-clause-read_to_end g c = λ past reads. c.in_ok-script-in-Ship.ensures.read_to_end refl

pub returns-in_err-script-in-Ship-clause-ended : goal.returns-in_err-script-in-Ship-clause-ended
returns-in_err-script-in-Ship-clause-ended g c =
    let stop : c.from_residual-in_err-script-in-Ship.result ≡ Err c.in_err-script-in-Ship.field-0.0 = search rules in
    rw stop (λ past reads. c.in_err-script-in-Ship.ensures.ended past)

pub returns-in_ok-script-in-Ship-clause-ended : goal.returns-in_ok-script-in-Ship-clause-ended
returns-in_ok-script-in-Ship-clause-ended g c = λ past reads. c.in_ok-script-in-Ship.ensures.ended refl

pub returns-in_err-packets-in-Follow-clause-read_to_end : goal.returns-in_err-packets-in-Follow-clause-read_to_end
returns-in_err-packets-in-Follow-clause-read_to_end g c =
    let stop : c.from_residual-in_err-packets-in-Follow.result ≡ Err c.in_err-packets-in-Follow.field-0.0 = search rules in
    rw stop (λ past reads. c.in_err-packets-in-Follow.ensures.read_to_end past)

pub returns-in_ok-packets-in-Follow-clause-read_to_end : goal.returns-in_ok-packets-in-Follow-clause-read_to_end
returns-in_ok-packets-in-Follow-clause-read_to_end g c = λ past reads. c.in_ok-packets-in-Follow.ensures.read_to_end refl

pub returns-in_err-packets-in-Follow-clause-ended : goal.returns-in_err-packets-in-Follow-clause-ended
returns-in_err-packets-in-Follow-clause-ended g c =
    let stop : c.from_residual-in_err-packets-in-Follow.result ≡ Err c.in_err-packets-in-Follow.field-0.0 = search rules in
    rw stop (λ past reads. c.in_err-packets-in-Follow.ensures.ended past)

pub returns-in_ok-packets-in-Follow-clause-ended : goal.returns-in_ok-packets-in-Follow-clause-ended
returns-in_ok-packets-in-Follow-clause-ended g c = λ past reads. c.in_ok-packets-in-Follow.ensures.ended refl

pub returns-in_err-text-in-Explain-clause-read_to_end : goal.returns-in_err-text-in-Explain-clause-read_to_end
returns-in_err-text-in-Explain-clause-read_to_end g c =
    let stop : c.from_residual-in_err-text-in-Explain.result ≡ Err c.in_err-text-in-Explain.field-0.0 = search rules in
    rw stop (λ past reads. c.in_err-text-in-Explain.ensures.read_to_end past)

pub returns-in_ok-text-in-Explain-clause-read_to_end : goal.returns-in_ok-text-in-Explain-clause-read_to_end
returns-in_ok-text-in-Explain-clause-read_to_end g c = λ past reads. c.in_ok-text-in-Explain.ensures.read_to_end refl

pub returns-in_err-text-in-Explain-clause-ended : goal.returns-in_err-text-in-Explain-clause-ended
returns-in_err-text-in-Explain-clause-ended g c =
    let stop : c.from_residual-in_err-text-in-Explain.result ≡ Err c.in_err-text-in-Explain.field-0.0 = search rules in
    rw stop (λ past reads. c.in_err-text-in-Explain.ensures.ended past)

pub returns-in_ok-text-in-Explain-clause-ended : goal.returns-in_ok-text-in-Explain-clause-ended
returns-in_ok-text-in-Explain-clause-ended g c = λ past reads. c.in_ok-text-in-Explain.ensures.ended refl
