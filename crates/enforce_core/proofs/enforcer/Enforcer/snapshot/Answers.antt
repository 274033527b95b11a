use Rattle.std.proofs.lemmas.Result.{IfOk-weaker}
use Rattle.std.specs.Arc.{arc_value}
use Rattle.enforce_core.specs.Helps.Held.{place_of}
use Rattle.enforce_core.specs.Places.{state_at}
use Rattle.enforce_core.specs.Seen.{Enforcing}
use Rattle.enforce_core.proofs.PlaceLemmas.{snapshot_of, suits_same}
use Rattle.enforce_core.proofs.enforcer.Enforcer.snapshot.Goals as goal

pub over-requires : goal.over-requires
over-requires c =
    suits_same (arc_value c.self.inside.program) (arc_value c.in_ok-program.program) (state_at (place_of c.self.inside.place)).shapes (arc_value c.in_ok-state.state).shapes c.in_ok-program.ensures c.in_ok-state.ensures.shapes c.self.invariant

pub returns : goal.returns
returns c =
    let inside : Enforcing = record { model = arc_value c.self.inside.program; place = place_of c.self.inside.place; refusals = c.self.inside.finder } in
    IfOk-weaker c.over.result _ _ (λ made is. snapshot_of c.args.self.now inside made (arc_value c.in_ok-program.program) (arc_value c.in_ok-state.state) c.self.view_is c.in_ok-program.ensures c.in_ok-state.ensures is) c.over.ensures
