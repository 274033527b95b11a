use Rattle.std.proofs.Common.{◌++◌, Bool, List, arith, false, subst, true, ℕ}
use Rattle.std.specs.Prelude.{IfOk}
use Rattle.answer_lines.specs.Printed.{PrintedAnswer}
use Rattle.live_rounds.proofs.MergingLemmas.{replies_none, replies_on, replies_out}
use Rattle.live_rounds.specs.Helps.MergedItems.{GoesOn, TakesReplies}
use Rattle.live_rounds.specs.Shares.{in_turn}
use Rattle.live_rounds.proofs.round_lines.Replies.print_some.Goals as goal

-- none is left
pub returns-then-not-go_on : goal.returns-then-not-go_on
returns-then-not-go_on c =
    let at = c.self.inside in
    let lists = c.go_on.new.lists.rest.items in
    let none : GoesOn false at.current c.go_on.new.current at.lists.rest.items lists = subst (λ (b : Bool). GoesOn b at.current c.go_on.new.current at.lists.rest.items lists) c.if-not-go_on.true c.go_on.ensures in
    subst (λ (l : List PrintedAnswer). TakesReplies 0 c.args.most c.args.number l (c.go_on.new.current ++ in_turn lists) c.args.lines.now c.args.lines.now) c.self.view_is
    (replies_none at.current c.go_on.new.current at.lists.rest.items lists c.args.most c.args.number c.args.lines.now none (omega arith))

pub returns : goal.returns
returns c =
    let at = c.self.inside in
    let lists = c.go_on.new.lists.rest.items in
    let on : GoesOn true at.current c.go_on.new.current at.lists.rest.items lists = subst (λ (b : Bool). GoesOn b at.current c.go_on.new.current at.lists.rest.items lists) c.if-not-go_on.false c.go_on.ensures in
    let said = c.print_some.ensures in
    let takes = replies_out c.print_some.result c.args.most c.args.number c.go_on.new.current c.print_some.new.self c.args.lines.now c.print_some.new.lines c.requires said.taken said.most said.some said.numbers in
    subst (λ (l : List PrintedAnswer). IfOk c.print_some.result (λ (count : ℕ). TakesReplies count c.args.most c.args.number l (c.print_some.new.self ++ in_turn lists) c.args.lines.now c.print_some.new.lines)) c.self.view_is
    (replies_on at.current c.go_on.new.current at.lists.rest.items lists c.print_some.result c.args.most c.args.number c.print_some.new.self c.args.lines.now c.print_some.new.lines on takes)
