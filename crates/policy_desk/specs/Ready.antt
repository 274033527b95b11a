-- A publish that is ready.
use Rattle.std.specs.Prelude.{◌≡◌}
use Rattle.policy_desk.specs.Desks.{Work}
use Rattle.policy_state.specs.Ready.{AreReady, Readied}

-- the pending edits can be made in the published state, and the log is to start at the floor
pub record IsPreparedFor (desk : Work) (ready : Readied) : Type 0 where
  pub state : AreReady desk.state desk.pending ready
  pub start : ready.start ≡ desk.floor
