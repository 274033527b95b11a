use Rattle.std.proofs.Common.{◌≤◌, ◌+◌, arith, subst}
use Rattle.script_read.proofs.ItemLemmas.{limited_few, passed_off}
use Rattle.script_read.specs.Helps.Checked.{AreChecked, limited}
use Rattle.script_read.specs.ItemLines.{ArePassed, ScriptLines, items_from}
use Rattle.script_read.proofs.said_lines.ItemLines.pass_asked.Goals as goal

pub overflow_add-number : goal.overflow_add-number
overflow_add-number c =
    let so = c.asked_before-count.ensures.passed c.self.inside.json c.self.inside.number c.self.invariant in
    omega (arith, so.checked.few)

pub go_on-requires : goal.go_on-requires
go_on-requires c =
    let so = c.asked_before-count.ensures.passed c.self.inside.json c.self.inside.number c.self.invariant in
    subst (λ (l : ScriptLines). AreChecked l.json (c.self.inside.number + c.asked_before-count.result.0) c.asked_before-count.result.1.now) c.self.view_is so.checked

pub returns-clause-passed : goal.returns-clause-passed
returns-clause-passed c =
    let so = c.asked_before-count.ensures.passed c.self.inside.json c.self.inside.number c.self.invariant in
    passed_off c.asked_before-count.result.0 c.args.most c.args.self.now c.go_on.new.self (c.self.inside.number + c.asked_before-count.result.0) c.asked_before-count.result.1.now
    (subst (λ (l : ScriptLines). c.asked_before-count.result.0 ≤ limited l.most c.args.most) c.self.view_is (subst (λ n. c.asked_before-count.result.0 ≤ n) c.limited.ensures c.asked_before-count.ensures.few))
    c.go_on.ensures
    (subst (λ (l : ScriptLines). ArePassed c.asked_before-count.result.0 (items_from l.json l.number l.text) (items_from l.json (c.self.inside.number + c.asked_before-count.result.0) c.asked_before-count.result.1.now)) c.self.view_is so.passed)

pub returns-clause-few : goal.returns-clause-few
returns-clause-few c =
    limited_few c.self.inside.most c.asked_before-count.result.0 c.args.most (subst (λ n. c.asked_before-count.result.0 ≤ n) c.limited.ensures c.asked_before-count.ensures.few)
