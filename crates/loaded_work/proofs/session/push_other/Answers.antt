use Rattle.std.proofs.lemmas.Result.{on_ok_weaker}
use Rattle.script_read.specs.Said.{seen}
use Rattle.session_meaning.specs.Versions.{out, published}
use Rattle.loaded_work.proofs.ItemLemmas.{any_model, any_refusals}
use Rattle.loaded_work.proofs.session.push_other.Goals as goal

pub push_line-requires : goal.push_line-requires
push_line-requires c =
    let shapes = c.args.desk.now.state.shapes in
    let somewhere = c.requires.stands in
    let step = c.in_ok-answer.ensures.step any_model any_refusals in
    record {
      printable = c.replies_are_printable.ensures.printable any_model shapes somewhere.0 step.asked.refused somewhere.1 (out shapes somewhere.0 somewhere.1) (published shapes somewhere.0 somewhere.1) (seen c.args.item.now) c.in_ok-answer.answer c.requires.has_name
          (step.replied somewhere.0 somewhere.1 somewhere.2);
    }

pub returns-clause-pushed : goal.returns-clause-pushed
returns-clause-pushed c =
    on_ok_weaker c.push_line.result (λ appended model refusals. record { reply = c.in_ok-answer.answer; step = c.in_ok-answer.ensures.step model refusals; appended = appended }) c.push_line.ensures.appended
