use Rattle.std.proofs.Common.{◌≡◌, ◌+◌, false, ap, sym, subst, ◌∙◌, arith}
use Rattle.script_read.proofs.ItemLemmas.{asked_checked, asked_taken, said_none, said_spent, taken_off}
use Rattle.script_read.specs.Helps.Checked.{AreChecked, is_spent}
use Rattle.script_read.specs.ItemLines.{IsTakenOff, IsToldAs, ScriptLines, items_from}
use Rattle.script_read.proofs.said_lines.ItemLines.next_told.Goals as goal

pub returns-then-is_spent-clause-none : goal.returns-then-is_spent-clause-none
returns-then-is_spent-clause-none c =
    let none = said_spent c.args.self.now (sym (ap (λ (l : ScriptLines). is_spent l.most) c.self.view_is) ∙ sym c.is_spent.ensures ∙ c.if-is_spent.true) in
    (none, none)

-- a line that begins with `ask` and a blank
pub overflow_add-number : goal.overflow_add-number
overflow_add-number c = omega (arith, c.self.invariant.few, c.in-Some.ensures.shorter)

pub go_on-requires : goal.go_on-requires
go_on-requires c =
    subst (λ (l : ScriptLines). AreChecked l.json (c.self.inside.number + 1) c.in-Some.text.now) c.self.view_is (asked_checked c.self.inside.json c.self.inside.number c.self.inside.text.now c.in-Some.line.now c.in-Some.text.now c.in-Some.ensures c.self.invariant)

pub returns-in-Some-clause-some : goal.returns-in-Some-clause-some
returns-in-Some-clause-some c =
    let inside : ScriptLines = record { json = c.self.inside.json; number = c.self.inside.number; text = c.self.inside.text.now; most = c.self.inside.most } in
    asked_taken inside c.args.self.now c.go_on.new.self c.in-Some.line.now c.in-Some.text.now c.behind_ask-line.result.now c.self.view_is (sym c.is_spent.ensures ∙ c.if-is_spent.false) c.go_on.ensures c.in-Some.ensures c.behind_ask-line.ensures

-- another one
pub returns-in_default-first_told-clause-none : goal.returns-in_default-first_told-clause-none
returns-in_default-first_told-clause-none c =
    let none = said_none c.args.self.now (sym (ap (λ (l : ScriptLines). items_from l.json l.number l.text) c.self.view_is) ∙ c.in_default-first_told.ensures.none) in
    (none, none)

pub go_on-requires-2 : goal.go_on-requires-2
go_on-requires-2 c = subst (λ (l : ScriptLines). AreChecked l.json c.in-Some-first_told.number c.in-Some-first_told.text.now) c.self.view_is c.in-Some-first_told.ensures.rest

pub returns-clause-some : goal.returns-clause-some
returns-clause-some c =
    taken_off (IsToldAs c.in-Some-first_told.first) c.args.self.now c.go_on-2.new.self c.in-Some-first_told.number c.in-Some-first_told.text.now
    (subst (λ (l : ScriptLines). is_spent l.most ≡ false) c.self.view_is (sym c.is_spent.ensures ∙ c.if-is_spent.false))
    c.go_on-2.ensures
    (subst (λ (l : ScriptLines). IsTakenOff (IsToldAs c.in-Some-first_told.first) (items_from l.json l.number l.text) (items_from l.json c.in-Some-first_told.number c.in-Some-first_told.text.now)) c.self.view_is c.in-Some-first_told.ensures.some)
