-- What the administrator does for one item.
use Rattle.std.proofs.Common.{◌≡◌, [], ◌∷◌, ◌++◌}
use Rattle.answer_lines.specs.declared.answer.Answer.{Answer}
use Rattle.live_pair.specs.Admins.{AdminSeen}
use Rattle.desk_session.specs.Steps.{IsPlainStep, IsStopped, LeavesBeside}
use Rattle.live_rounds.specs.Administrators.{IsAdminStep, IsAdminStopped, list_behind}
use Rattle.script_read.specs.Said.{Said}
use Rattle.script_read.specs.Said as said

-- the publishes behind an item, by what it leaves beside the desk
list_is_behind : (item : Said) (old new : AdminSeen) → LeavesBeside (new.list ≡ old.list) (new.list ≡ old.list ++ old.desk.pending ∷ []) item → new.list ≡ list_behind item old
list_is_behind said.publishes old new is = is
list_is_behind _ old new is = is

pub admin_step : (item : Said) (old new : AdminSeen) (reply : Answer) → IsPlainStep item old.desk new.desk reply → new.desk.state.shapes ≡ old.desk.state.shapes → LeavesBeside (new.list ≡ old.list) (new.list ≡ old.list ++ old.desk.pending ∷ []) item
    → IsAdminStep item old new reply
admin_step item old new reply step shapes_are beside = record { step = step; shapes_are = shapes_are; list_is = list_is_behind item old new beside }

pub admin_stopped : (old new : AdminSeen) → IsStopped old.desk new.desk → new.list ≡ old.list → IsAdminStopped old new
admin_stopped old new stopped same = record { desk = stopped; list_is = same }
