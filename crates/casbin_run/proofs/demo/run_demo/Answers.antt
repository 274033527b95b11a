use Rattle.loaded_work.specs.Sinks.{taken}
use Rattle.casbin_run.proofs.DemoLemmas.{demo_done, demo_stops}
use Rattle.casbin_run.proofs.demo.run_demo.Goals as goal

pub returns-in-Ok-clause-ends : goal.returns-in-Ok-clause-ends
returns-in-Ok-clause-ends g c =
    let out = taken (g.K.Sink.taken c.args.out.now) (g.K.Sink.faults c.args.out.now) in
    let out_now = taken (g.K.Sink.taken c.write_demo.new.out) (g.K.Sink.faults c.write_demo.new.out) in
    let err = taken (g.E.Sink.taken c.args.err.now) (g.E.Sink.faults c.args.err.now) in
    demo_done c.args.count c.args.workers out out_now err c.in-Ok.ensures.shown

pub returns-in-Err-clause-ends : goal.returns-in-Err-clause-ends
returns-in-Err-clause-ends g c =
    let out = taken (g.K.Sink.taken c.args.out.now) (g.K.Sink.faults c.args.out.now) in
    let out_now = taken (g.K.Sink.taken c.write_demo.new.out) (g.K.Sink.faults c.write_demo.new.out) in
    let err = taken (g.E.Sink.taken c.args.err.now) (g.E.Sink.faults c.args.err.now) in
    let err_now = taken (g.E.Sink.taken c.tell_stop.new.err) (g.E.Sink.faults c.tell_stop.new.err) in
    demo_stops c.args.count c.args.workers out out_now err err_now c.in-Err.stop c.tell_stop.result c.tell_stop.ensures.status c.in-Err.ensures.stopped c.tell_stop.ensures.told
