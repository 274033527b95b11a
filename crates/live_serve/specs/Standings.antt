-- Where clerks stand.
use Rattle.live_serve.specs.Places.{Standing, at_desk, follows}
use Rattle.live_serve.specs.declared.clerk.Clerk.{Clerk}
use Rattle.live_serve.specs.declared.clerk.Clerk.TheVariants.{Desk, Follower}
use Rattle.live_serve.specs.declared.desk_clerk.DeskClerk.{DeskClerk}
use Rattle.live_serve.specs.declared.follower_clerk.FollowerClerk.{FollowerClerk}

abbrev pub desk_standing : DeskClerk → Standing
desk_standing clerk = record { place = at_desk clerk.desk; number = clerk.pen.number }

abbrev pub follower_standing : FollowerClerk → Standing
follower_standing clerk = record { place = follows clerk.follower; number = clerk.pen.number }

abbrev pub standing : Clerk → Standing
standing (Desk clerk) = desk_standing clerk
standing (Follower clerk) = follower_standing clerk
