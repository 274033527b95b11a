-- Where a clerk stands: at a desk, or with a follower; and what one saying does there.
use Rattle.std.specs.Prelude.{◌≡◌, ℕ, Bool, true, false, List, [], ◌∷◌, ⊤}
use Rattle.desk_session.specs.Desks.{StandsBehind}
use Rattle.log_ship.specs.Followers.{Following}
use Rattle.model_conf.specs.ModelText.{ModelParts}
use Rattle.policy_desk.specs.Desks.{Work}
use Rattle.policy_state.specs.States.{State}
use Rattle.policy_table.specs.Tables.{Policy}
use Rattle.script_read.specs.Said.{Said}
use Rattle.live_serve.specs.Followed.{IsFollowed}
use Rattle.live_serve.specs.Lines.{IsText, behind, next_number}
use Rattle.live_serve.specs.Sayings.{Saying}

pub data Place : Type 0 where
  at_desk : Work → Place
  follows : Following → Place

-- the place, and the number of the last line
pub record Standing : Type 0 where
  pub place : Place
  pub number : ℕ

-- the policy there
abbrev pub state_at : Place → State
state_at (at_desk desk) = desk.state
state_at (follows follower) = follower.state

-- its stream is a follower's
abbrev pub is_followers : Place → Bool
is_followers (at_desk desk) = false
is_followers (follows follower) = true

-- the desk stands behind some items over some policy
abbrev pub StandsSomewhere : Place → Type 0
StandsSomewhere (at_desk desk) = (opening : Policy) × (items : List Said) × StandsBehind opening items desk
StandsSomewhere (follows follower) = ⊤

-- whatever items the desk stood behind, this is the text of the saying behind them, and the desk now stands behind its items too
pub record IsDone (model : ModelParts) (old new : Work) (number : ℕ) (saying : Saying) (refused : List (List ℕ)) (text : List ℕ) : Type 0 where
  pub text_is : (opening : Policy) (items : List Said) → StandsBehind opening items old → IsText model old.state.shapes opening items number saying refused text
  pub stands : (opening : Policy) (items : List Said) → StandsBehind opening items old → StandsBehind opening (behind items saying) new
  pub shapes_are : new.state.shapes ≡ old.state.shapes

-- the saying is answered by this text, and leads from one place to the other
abbrev pub IsStep : ModelParts → Place → Place → ℕ → Saying → List (List ℕ) → List ℕ → Type 0
IsStep model (at_desk old) (at_desk new) number saying refused text = IsDone model old new number saying refused text
IsStep model (follows old) (follows new) number saying refused text = IsFollowed model old number saying refused text new
IsStep model (at_desk old) (follows new) number saying refused text = ⊥
IsStep model (follows old) (at_desk new) number saying refused text = ⊥

-- sayings are answered by these texts, one each in their order, behind a line with this number, and what was refused for each; they
-- lead from one place to the other
abbrev pub AreSteps : ModelParts → Place → ℕ → List Saying → List (List (List ℕ)) → List (List ℕ) → Place → Type 0
AreSteps model old number [] [] [] new = new ≡ old
AreSteps model old number (saying ∷ sayings) (refused ∷ others) (text ∷ texts) new = (next : Place) × IsStep model old next (next_number number) saying refused text × AreSteps model next (next_number number) sayings others texts new
AreSteps model old number _ _ _ new = ⊥
