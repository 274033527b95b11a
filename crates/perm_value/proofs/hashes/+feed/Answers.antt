use Rattle.std.proofs.Common.{fold, sym, ap, ◌∙◌}
use Rattle.perm_value.specs.Hashed.{members_fed}
use Rattle.perm_value.proofs.MemberLemmas.{listed, members_listed}
use Rattle.perm_value.proofs.hashes.+feed.Goals as goal

pub feed_members-returns : goal.feed_members-returns
feed_members-returns g t c =
    let write = g.H.Hasher.write in
    let object = c.args.object.now.entries in
    c.write_u8.ensures
    ∙ ap (λ es. fold write c.loop-name.state (members_fed (listed es))) (sym c.in-None.ensures.steps.0)
    ∙ c.loop-name.invariant
    ∙ ap (λ ms. fold write c.args.state.now (members_fed ms)) (sym (members_listed object c.iter-name-items.ensures.ordered))
