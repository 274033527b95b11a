use Rattle.std.proofs.Common.{◌≡◌, ◌≤◌, ℕ, Bool, Option, inl, true, false, true≢false, ap, refl, subst, sym, ◌∙◌, arith}
use Rattle.std.specs.Prelude.{IfSome, map}
use Rattle.command_words.specs.Items.{texts}
use Rattle.run_status.specs.declared.status.Status.{Status}
use Rattle.casbin_run.specs.Demos.{some_workers}
use Rattle.casbin_run.specs.Ends.{has_read}
use Rattle.casbin_run.specs.Finders.{AreUsed}
use Rattle.casbin_run.specs.Given.{given}
use Rattle.casbin_run.specs.Worlds.{fetched, pulled, world}
use Rattle.loaded_work.specs.Sinks.{taken}
use Rattle.casbin_run.proofs.DemoLemmas.{demo_ends, demo_unread, demo_used, demo_writes, ends_demo, ends_files, maps_alike, memory_ends, no_workers, with_demo, without_demo}
use Rattle.casbin_run.proofs.FinderLemmas.{finders_same}
use Rattle.casbin_run.proofs.run.run_casbin.Goals as goal

-- memory ran out at the words
pub returns-in_default : goal.returns-in_default
returns-in_default g c =
    let words = texts c.args.words.now in
    let before = world (fetched (g.F.Shelf.calls c.args.shelf.now) (g.F.Shelf.faults c.args.shelf.now)) (pulled (g.S.Source.left c.args.input.now) (g.S.Source.ends c.args.input.now) (g.S.Source.faults c.args.input.now)) (taken (g.K.Sink.taken c.args.out.now) (g.K.Sink.faults c.args.out.now)) (map g.P.Finder.refusals c.args.finders.now.items) in
    let err = taken (g.E.Sink.taken c.args.err.now) (g.E.Sink.faults c.args.err.now) in
    let err_now = taken (g.E.Sink.taken c.tell_stop.new.err) (g.E.Sink.faults c.tell_stop.new.err) in
    let unread : has_read c.tell_stop.result ≡ false = ap (λ (s : Status). has_read s) c.tell_stop.ensures.status in
    record {
      ends = memory_ends (given words (g.F.Shelf.files c.args.shelf.now) (g.S.Source.left c.args.input.now)) before err err_now c.tell_stop.result c.tell_stop.ensures.status c.tell_stop.ensures.told;
      quiet = λ quiet. refl;
      read_to_end = λ past reads. absurd (true≢false (sym past ∙ unread));
      ended = λ past reads. absurd (true≢false (sym past ∙ unread));
      no_further = inl refl;
      unread = λ none. refl;
      same_files = refl;
      shelf_counted = omega arith;
      input_counted = omega arith;
      out_counted = omega arith;
      err_counted = c.tell_stop.ensures.told.counted;
      places_counted = omega arith;
      finders = finders_same (some_workers words) (map g.P.Finder.refusals c.args.finders.now.items);
      others = λ alone. refl;
      idle = λ quiet. refl;
    }

pub run_demo-requires-clause-few : goal.run_demo-requires-clause-few
run_demo-requires-clause-few g c = λ lifetimes outlive. subst (λ (found : Option (ℕ × ℕ)). IfSome found (λ demo. demo.1 ≤ 8)) c.in-Some.is c.in-Ok.ensures.few

-- a run over files
pub returns-in_default-demo : goal.returns-in_default-demo
returns-in_default-demo g c =
    let words = texts c.args.words.now in
    let before = world (fetched (g.F.Shelf.calls c.args.shelf.now) (g.F.Shelf.faults c.args.shelf.now)) (pulled (g.S.Source.left c.args.input.now) (g.S.Source.ends c.args.input.now) (g.S.Source.faults c.args.input.now)) (taken (g.K.Sink.taken c.args.out.now) (g.K.Sink.faults c.args.out.now)) (map g.P.Finder.refusals c.args.finders.now.items) in
    let now = world (fetched (g.F.Shelf.calls c.run_files.new.shelf) (g.F.Shelf.faults c.run_files.new.shelf)) (pulled (g.S.Source.left c.run_files.new.input) (g.S.Source.ends c.run_files.new.input) (g.S.Source.faults c.run_files.new.input)) (taken (g.K.Sink.taken c.run_files.new.out) (g.K.Sink.faults c.run_files.new.out)) (map g.P.Finder.refusals c.run_files.new.finders.items) in
    let err = taken (g.E.Sink.taken c.args.err.now) (g.E.Sink.faults c.args.err.now) in
    let err_now = taken (g.E.Sink.taken c.run_files.new.err) (g.E.Sink.faults c.run_files.new.err) in
    let ran = c.run_files.ensures in
    record {
      ends = ends_files (given words (g.F.Shelf.files c.args.shelf.now) (g.S.Source.left c.args.input.now)) before now err err_now c.run_files.result (sym c.in_default-demo.is ∙ c.in-Ok.ensures.asked) ran.ends;
      quiet = ran.quiet;
      read_to_end = ran.read_to_end;
      ended = ran.ended;
      no_further = ran.no_further;
      unread = ran.unread;
      same_files = ran.same_files;
      shelf_counted = ran.shelf_counted;
      input_counted = ran.input_counted;
      out_counted = ran.out_counted;
      err_counted = ran.err_counted;
      places_counted = ran.places_counted;
      finders = subst (λ (shared : Bool). AreUsed shared (map g.P.Finder.refusals c.args.finders.now.items) (map g.P.Finder.refusals c.run_files.new.finders.items)) (sym (without_demo words (sym c.in_default-demo.is ∙ c.in-Ok.ensures.asked))) ran.finders;
      others = λ alone. ran.others (sym (without_demo words (sym c.in_default-demo.is ∙ c.in-Ok.ensures.asked)) ∙ alone);
      idle = ran.idle;
    }

-- the demonstration: what is said of the input holds since its words are no job (`no_job`), and no status but Done, WriteFault and
-- NoMemory comes
pub returns : goal.returns
returns g c =
    let words = texts c.args.words.now in
    let before = world (fetched (g.F.Shelf.calls c.args.shelf.now) (g.F.Shelf.faults c.args.shelf.now)) (pulled (g.S.Source.left c.args.input.now) (g.S.Source.ends c.args.input.now) (g.S.Source.faults c.args.input.now)) (taken (g.K.Sink.taken c.args.out.now) (g.K.Sink.faults c.args.out.now)) (map g.P.Finder.refusals c.args.finders.now.items) in
    let now = world (fetched (g.F.Shelf.calls c.args.shelf.now) (g.F.Shelf.faults c.args.shelf.now)) (pulled (g.S.Source.left c.args.input.now) (g.S.Source.ends c.args.input.now) (g.S.Source.faults c.args.input.now)) (taken (g.K.Sink.taken c.run_demo.new.out) (g.K.Sink.faults c.run_demo.new.out)) (map g.P.Finder.refusals c.run_demo.new.finders.items) in
    let out = taken (g.K.Sink.taken c.args.out.now) (g.K.Sink.faults c.args.out.now) in
    let out_now = taken (g.K.Sink.taken c.run_demo.new.out) (g.K.Sink.faults c.run_demo.new.out) in
    let err = taken (g.E.Sink.taken c.args.err.now) (g.E.Sink.faults c.args.err.now) in
    let err_now = taken (g.E.Sink.taken c.run_demo.new.err) (g.E.Sink.faults c.run_demo.new.err) in
    let ran = c.run_demo.ensures in
    let asked = sym c.in-Some.is ∙ c.in-Ok.ensures.asked in
    record {
      ends = ends_demo (given words (g.F.Shelf.files c.args.shelf.now) (g.S.Source.left c.args.input.now)) before now err err_now c.run_demo.result (c.in-Some.count, c.in-Some.workers) asked refl
          (demo_ends c.in-Some.count c.in-Some.workers before now err err_now c.run_demo.result ran.ends);
      quiet = λ quiet. (let both : true ≡ false = sym (demo_writes c.in-Some.count c.in-Some.workers out out_now err err_now c.run_demo.result ran.ends) ∙ quiet in absurd cc);
      read_to_end = λ past reads. (let both : true ≡ false = sym reads ∙ demo_unread words _ asked in absurd cc);
      ended = λ past reads. (let both : true ≡ false = sym reads ∙ demo_unread words _ asked in absurd cc);
      no_further = inl refl;
      unread = λ none. refl;
      same_files = refl;
      shelf_counted = omega arith;
      input_counted = omega arith;
      out_counted = ran.out_counted;
      err_counted = ran.err_counted;
      places_counted = ran.places_counted;
      finders = subst (λ (shared : Bool). AreUsed shared (map g.P.Finder.refusals c.args.finders.now.items) (map g.P.Finder.refusals c.run_demo.new.finders.items)) (sym (with_demo words _ asked))
          (demo_used c.in-Some.workers _ _ ran.used (λ none. maps_alike g.P.Finder.refusals _ _ (ran.alone none)));
      others = λ alone. ran.alone (no_workers c.in-Some.workers (sym (with_demo words _ asked) ∙ alone));
      idle = λ quiet. (let both : true ≡ false = sym (demo_writes c.in-Some.count c.in-Some.workers out out_now err err_now c.run_demo.result ran.ends) ∙ quiet in absurd cc);
    }
