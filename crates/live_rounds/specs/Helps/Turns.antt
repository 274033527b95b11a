-- The items of a round at the administrator.
use Rattle.std.specs.Prelude.{◌≡◌, ℕ, Bool, true, false, List, [], ◌∷◌, ◌++◌, map, replicate}
use Rattle.answer_lines.specs.Printed.{PrintedAnswer, printed_answer}
use Rattle.answer_lines.specs.declared.answer.Answer.{Answer}
use Rattle.desk_session.specs.Steps.{is_request}
use Rattle.live_pair.specs.Admins.{AdminSeen}
use Rattle.live_rounds.specs.Administrators.{AreDoneBeside, IsAdminBehind, IsAdminStep, IsAdminStopped}
use Rattle.live_rounds.specs.declared.beside.OthersDone.{OthersDone}
use Rattle.perm_base.specs.declared.shapes.Shapes.{Shapes}
use Rattle.policy_table.specs.Tables.{Policy}
use Rattle.script_read.specs.ItemLines.{ArePassed}
use Rattle.script_read.specs.Said.{Said}
use Rattle.script_read.specs.declared.said_lines.BuiltItem.{BuiltItem}
use Rattle.script_read.specs.declared.said_lines.BuiltItem.TheVariants as built

-- a request is left to the workers, or another item is done, and its reply stands behind others
pub data IsTurnDone (item : Said) (old new : AdminSeen) (before after : List PrintedAnswer) : Type 0 where
  passed : is_request item ≡ true → new ≡ old → after ≡ before → IsTurnDone item old new before after
  made : is_request item ≡ false → (reply : Answer) → IsAdminStep item old new reply → after ≡ before ++ printed_answer reply ∷ [] → IsTurnDone item old new before after

-- nothing was done, or the item was done and its reply is dropped
pub data IsTurnStopped (item : Said) (old new : AdminSeen) : Type 0 where
  undone : IsAdminStopped old new → IsTurnStopped item old new
  unsaid : is_request item ≡ false → (reply : Answer) → IsAdminStep item old new reply → IsTurnStopped item old new

-- requests that stand first are passed over, and their kinds stand behind others
pub record ArePassedOver (old new : List Said) (kinds more : List Bool) : Type 0 where
  pub count : ℕ
  pub passed : ArePassed count old new
  pub kinds_are : more ≡ kinds ++ replicate count true

-- ---- all of them

-- whether an item that is built where it is no request is one
abbrev pub is_built_asked : BuiltItem → Bool
is_built_asked (built.Request asked) = true
is_built_asked (built.Other item) = false

-- those of a round that are no requests are answered and done, wherever the administrator stood, and of each item it is known whether
-- it is a request
pub record AreOthersDone (shapes : Shapes) (opening : Policy) (round : List Said) (old new : AdminSeen) (done : OthersDone) : Type 0 where
  pub beside : (before : List Said) → IsAdminBehind shapes opening before old → AreDoneBeside shapes opening before round old new done.replies
  pub kinds_are : done.kinds.items ≡ map is_request round
