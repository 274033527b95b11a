use Rattle.std.proofs.Common.{ap, ◌∙◌}
use Rattle.std.proofs.lemmas.Result.{IfOk-weaker}
use Rattle.log_ship.specs.Packets.{log_packets}
use Rattle.policy_state.specs.States.{State, tables}
use Rattle.loaded_work.proofs.ShipLemmas.{desk_before, ships_over}
use Rattle.loaded_work.proofs.shipped.text_behind.Goals as goal

pub do_items-requires-clause-before : goal.do_items-requires-clause-before
do_items-requires-clause-before g c = λ lifetimes outlive.
    desk_before c.in_ok-desk.desk c.args.state c.requires.opening c.in_ok-desk.ensures.state c.in_ok-desk.ensures.pending c.in_ok-desk.ensures.kept c.in_ok-desk.ensures.floor

pub returns-clause-shown : goal.returns-clause-shown
returns-clause-shown g c =
    let same_shapes = ap (λ (s : State). s.shapes) c.in_ok-desk.ensures.state in
    let same_policy = ap (λ (s : State). tables s) c.in_ok-desk.ensures.state in
    IfOk-weaker c.print_packets.result _ _ (λ text printed. printed ∙ ap (λ (s : State). log_packets s.log) c.state.ensures.state ∙ ships_over _ _ _ _ _ _ c.in_ok-do_items.ensures.behind c.do_items.ensures.shapes same_shapes same_policy) c.print_packets.ensures.printed
