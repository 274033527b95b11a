-- By what an enforcer judges: the policy that a desk has published, or a policy that stays as it is.
use Rattle.policy_desk.specs.Desks.{Work}
use Rattle.policy_state.specs.States.{State}

pub data Place : Type 0 where
  at_desk : Work → Place
  shows : State → Place

-- the policy
abbrev pub state_at : Place → State
state_at (at_desk desk) = desk.state
state_at (shows state) = state
