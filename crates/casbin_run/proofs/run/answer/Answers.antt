use Rattle.std.proofs.Common.{◌≡◌, ◌<◌, ◌≤◌, Bool, Err, Option, arith, refl, rules, subst, sym, ◌∙◌}
use Rattle.std.specs.Prelude.{IfSome, map}
use Rattle.std.proofs.lemmas.Result.{IfErr-weaker, err_from_is_err_and, on_ok_weaker}
use Rattle.command_words.specs.Items.{texts}
use Rattle.run_status.specs.declared.stop.Stop.TheVariants.{NoMemory, Words}
use Rattle.casbin_run.specs.Given.{given}
use Rattle.casbin_run.specs.Finders.{AreUsed}
use Rattle.outside.proofs.CallerLemmas.{adds_none}
use Rattle.casbin_run.specs.Worlds.{fetched, pulled, world}
use Rattle.loaded_work.specs.Sinks.{taken}
use Rattle.casbin_run.specs.Jobs.{HasSize, limit_in}
use Rattle.casbin_run.specs.declared.job.Job.{Job}
use Rattle.casbin_run.proofs.EarlyLemmas.{asks_read}
use Rattle.casbin_run.proofs.EndLemmas.{all_done, load_done, memory_end, nothing_done, on_both, words_end, work_ends}
use Rattle.casbin_run.proofs.OneEnd.{has_none, workers_asked}
use Rattle.casbin_run.proofs.run.answer.Goals as goal

pub returns-in_err-job-clause-comes : goal.returns-in_err-job-clause-comes
returns-in_err-job-clause-comes g c =
    let p = err_from_is_err_and c.from_residual.result c.from_residual.ensures.1 in
    rw (p.1, p.2) (nothing_done _ _ _ _ NoMemory refl (memory_end (given (texts c.args.words.now) (g.F.Shelf.files c.args.shelf.now) (g.S.Source.left c.args.input.now)) _ _ refl (adds_none (g.F.Shelf.calls c.args.shelf.now)) refl) (omega arith) refl refl refl)

pub returns-in_default-clause-comes : goal.returns-in_default-clause-comes
returns-in_default-clause-comes g c = nothing_done _ _ _ _ Words refl (words_end _ _ _ (sym c.in_ok-job.ensures.asked ∙ c.in_default.is) (adds_none (g.F.Shelf.calls c.args.shelf.now)) refl) (omega arith) refl refl refl

pub load_files-requires : goal.load_files-requires
load_files-requires g c = subst (λ (found : Option Job). IfSome found (λ (job : Job). (0 < limit_in job.options) × (limit_in job.options ≤ 250))) c.in-Some.is c.in_ok-job.ensures.limit

pub do_any-requires-clause-sized : goal.do_any-requires-clause-sized
do_any-requires-clause-sized g c = λ lifetimes outlive. subst (λ (found : Option Job). IfSome found (λ (job : Job). HasSize job.task)) c.in-Some.is c.in_ok-job.ensures.sized

pub returns-in_err-loaded-clause-comes : goal.returns-in_err-loaded-clause-comes
returns-in_err-loaded-clause-comes g c =
    let stop : c.from_residual-in_err-loaded.result ≡ Err c.in_err-loaded.field-0.0 = search rules in
    rw stop (load_done (given (texts c.args.words.now) (g.F.Shelf.files c.args.shelf.now) (g.S.Source.left c.args.input.now)) _ _ _ c.in-Some.job (sym c.in_ok-job.ensures.asked ∙ c.in-Some.is) refl refl c.in_err-loaded.field-0.0 c.in_err-loaded.ensures.stopped c.load_files.ensures.counted refl)

pub returns-clause-comes : goal.returns-clause-comes
returns-clause-comes g c =
    let before = world (fetched (g.F.Shelf.calls c.args.shelf.now) (g.F.Shelf.faults c.args.shelf.now)) (pulled (g.S.Source.left c.args.input.now) (g.S.Source.ends c.args.input.now) (g.S.Source.faults c.args.input.now)) (taken (g.K.Sink.taken c.args.out.now) (g.K.Sink.faults c.args.out.now)) (map g.P.Finder.refusals c.args.finders.now.items) in
    let now = world (fetched (g.F.Shelf.calls c.load_files.new.shelf) (g.F.Shelf.faults c.load_files.new.shelf)) (pulled (g.S.Source.left c.do_any.new.input) (g.S.Source.ends c.do_any.new.input) (g.S.Source.faults c.do_any.new.input)) (taken (g.K.Sink.taken c.do_any.new.out) (g.K.Sink.faults c.do_any.new.out)) (map g.P.Finder.refusals c.do_any.new.finders.items) in
    let given_here = given (texts c.args.words.now) (g.F.Shelf.files c.args.shelf.now) (g.S.Source.left c.args.input.now) in
    let asked = sym c.in_ok-job.ensures.asked ∙ c.in-Some.is in
    record {
      done = on_ok_weaker c.do_any.result (λ all. all_done given_here before now c.in-Some.job asked c.in_ok-loaded.loaded c.in_ok-loaded.ensures.loaded c.in_ok-loaded.ensures.fetched c.do_any.ensures.unread _ _ all.0 all.1) (on_both _ _ c.do_any.result c.do_any.ensures.done c.do_any.ensures.reads_back);
      stopped = IfErr-weaker c.do_any.result _ _ (λ stop stops. work_ends given_here before now c.in-Some.job asked c.in_ok-loaded.loaded c.in_ok-loaded.ensures.loaded c.in_ok-loaded.ensures.fetched c.do_any.ensures.unread stop stops) c.do_any.ensures.stopped;
      silent = c.do_any.ensures.silent;
      err_counted = c.do_any.ensures.err_counted;
      quiet = c.do_any.ensures.quiet;
      read_to_end = λ past asks. c.do_any.ensures.read_to_end past (asks_read (texts c.args.words.now) c.in-Some.job asked asks);
      ended = λ past asks. c.do_any.ensures.ended past (asks_read (texts c.args.words.now) c.in-Some.job asked asks);
      no_further = c.do_any.ensures.no_further;
      unread = search rules;
      shelf_counted = search rules;
      input_counted = search rules;
      out_counted = search rules;
      finders = subst (λ (shared : Bool). AreUsed shared (map g.P.Finder.refusals c.args.finders.now.items) (map g.P.Finder.refusals c.do_any.new.finders.items)) (sym (workers_asked given_here.words c.in-Some.job asked)) c.do_any.ensures.used;
    }

pub returns-clause-others : goal.returns-clause-others
returns-clause-others g c alone = c.do_any.ensures.others (has_none (texts c.args.words.now) c.in-Some.job (sym c.in_ok-job.ensures.asked ∙ c.in-Some.is) alone)
