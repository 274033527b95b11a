use Rattle.loaded_work.proofs.FollowLemmas.{followed_text}
use Rattle.loaded_work.proofs.followed.followed_text.Goals as goal

pub returns : goal.returns
returns c = followed_text c.args.loaded.shapes c.args.loaded.tables.policy c.args.packets.now c.in_ok-state.state _ _ _ _ c.in_ok-state.ensures c.open-follower.ensures.state c.open-follower.ensures.waiting c.in_ok-text.ensures c.in_ok-push_policy.ensures
