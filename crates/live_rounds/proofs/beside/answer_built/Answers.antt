use Rattle.std.proofs.Common.{List, subst, sym}
use Rattle.std.proofs.lemmas.Result.{on_ok_weaker}
use Rattle.answer_lines.specs.Printed.{PrintedAnswer}
use Rattle.live_rounds.specs.Helps.Turns.{IsTurnDone}
use Rattle.script_read.specs.ItemLines.{IsBuiltAs}
use Rattle.script_read.specs.Said.{Said}
use Rattle.script_read.specs.declared.said_lines.BuiltItem.{BuiltItem}
use Rattle.live_rounds.proofs.beside.answer_built.Goals as goal

pub returns-clause-done : goal.returns-clause-done
returns-clause-done g c =
    on_ok_weaker c.answer_item-done.result
    (λ turn item is. subst (λ (l : List PrintedAnswer). IsTurnDone item c.args.admin.now c.answer_item-done.new.admin l c.answer_item-done.new.replies) c.expect.ensures
    (subst (λ (i : Said). IsTurnDone i c.args.admin.now c.answer_item-done.new.admin c.expect.new.self c.answer_item-done.new.replies) (sym (subst (λ (b : BuiltItem). IsBuiltAs b item) c.in-Other.is is).0) turn))
    c.answer_item-done.ensures.done
