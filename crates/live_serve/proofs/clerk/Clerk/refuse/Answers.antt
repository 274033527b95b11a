use Rattle.live_serve.proofs.clerk.Clerk.refuse.Goals as goal

pub returns-in-Desk-clause-stopped : goal.returns-in-Desk-clause-stopped
returns-in-Desk-clause-stopped g c = rw c.in-Desk.is c.refuse.ensures.stopped

pub returns-in-Follower-clause-told : goal.returns-in-Follower-clause-told
returns-in-Follower-clause-told g c = rw c.in-Follower.is c.refuse-in-Follower.ensures.told

pub returns-in-Follower-clause-stopped : goal.returns-in-Follower-clause-stopped
returns-in-Follower-clause-stopped g c = rw c.in-Follower.is c.refuse-in-Follower.ensures.stopped
