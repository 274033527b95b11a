use Rattle.std.proofs.Common.{subst, sym}
use Rattle.std.proofs.lemmas.Result.{on_err_weaker, on_ok_weaker}
use Rattle.desk_session.proofs.CallerLemmas.{none_asked, on_err_of}
use Rattle.desk_session.specs.Requests.{Refuses}
use Rattle.script_read.specs.ItemLines.{IsBuiltAs}
use Rattle.script_read.specs.Readings.{request_read}
use Rattle.script_read.specs.Said.{Said}
use Rattle.script_read.specs.declared.said_lines.BuiltItem.{BuiltItem}
use Rattle.loaded_work.specs.Helps.Items.{PushesItem}
use Rattle.loaded_work.proofs.ItemLemmas.{asked_pushed}
use Rattle.loaded_work.proofs.session.push_item.Goals as goal

pub returns-in-Request-clause-pushed : goal.returns-in-Request-clause-pushed
returns-in-Request-clause-pushed g c =
    on_ok_weaker c.push_asked.result
    (λ told item is. asked_pushed c.args.program.now _ _ c.state-state.result.now (request_read c.in-Request.asked.json c.in-Request.asked.line.now) item c.args.desk.now c.args.number c.args.text.now c.push_asked.new.text c.state-state.ensures.state
    (subst (λ (b : BuiltItem). IsBuiltAs b item) c.in-Request.is is) told)
    c.push_asked.ensures.told

pub returns-in-Request-clause-refused : goal.returns-in-Request-clause-refused
returns-in-Request-clause-refused g c =
    on_err_weaker c.push_asked.result
    (λ stopped item is. subst (λ (i : Said). Refuses c.args.program.now (g.P.Finder.refusals c.args.finder.now) (g.P.Finder.refusals c.push_asked.new.finder) i) (sym (subst (λ (b : BuiltItem). IsBuiltAs b item) c.in-Request.is is)) stopped)
    c.push_asked.ensures.stopped

pub returns-in-Other-clause-pushed : goal.returns-in-Other-clause-pushed
returns-in-Other-clause-pushed g c =
    on_ok_weaker c.push_other-pushed.result
    (λ pushed item is. subst (λ (i : Said). PushesItem c.args.program.now (g.P.Finder.refusals c.args.finder.now) (g.P.Finder.refusals c.args.finder.now) i c.args.number c.args.desk.now c.push_other-pushed.new.desk c.args.text.now c.push_other-pushed.new.text) (sym (subst (λ (b : BuiltItem). IsBuiltAs b item) c.in-Other.is is).0) (pushed _ _))
    c.push_other-pushed.ensures.pushed

pub returns-in-Other-clause-refused : goal.returns-in-Other-clause-refused
returns-in-Other-clause-refused g c = on_err_of c.push_other-pushed.result (λ item is. none_asked _ _ item)
