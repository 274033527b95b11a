-- What contracts see of an enforcer, and how a snapshot comes of it.
use Rattle.std.specs.Prelude.{◌≡◌, []}
use Rattle.model_conf.specs.ModelText.{ModelParts}
use Rattle.policy_desk.specs.Transitions.{IsSame}
use Rattle.policy_state.specs.States.{State}
use Rattle.regex_gate.specs.Refusals.{Refusals}
use Rattle.enforce_core.specs.Places.{Place, shows, state_at}

-- the model, by what requests are judged, and what the finder has refused
pub record Enforcing : Type 0 where
  pub model : ModelParts
  pub place : Place
  pub refusals : Refusals

-- a finder that has refused nothing
abbrev pub none_refused : Refusals
none_refused = record { count = 0; patterns = [] }

-- it judges by the policy that the other has published, which stays as it is, and has refused nothing yet
pub record IsSnapshotOf (owner snapshot : Enforcing) : Type 0 where
  pub policy : State
  pub same : IsSame (state_at owner.place) policy
  pub is : snapshot ≡ record { model = owner.model; place = shows policy; refusals = none_refused }

-- an enforcer that was only asked: its finder may have refused patterns
abbrev pub OnlyAsked : Enforcing → Enforcing → Type 0
OnlyAsked old new = new ≡ record old { refusals = new.refusals }
