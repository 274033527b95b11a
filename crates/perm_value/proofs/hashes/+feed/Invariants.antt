use Rattle.std.proofs.Common.{◌≡◌, drop, fold}
use Rattle.perm_value.specs.Hashed.{items_fed, members_fed}
use Rattle.perm_value.specs.Seen.{items}
use Rattle.perm_value.proofs.MemberLemmas.{listed}
use Rattle.perm_value.proofs.hashes.+feed.Given as goal

-- what is left to be fed comes to the same end as the whole
abbrev pub invariant-feed_items-loop-value : goal.invariant-feed_items-loop-value
invariant-feed_items-loop-value g l =
    fold g.H.Hasher.write l.state (items_fed (items (drop l.value-index l.fn.values))) ≡ fold g.H.Hasher.write l.fn.state (items_fed (items l.fn.values))

abbrev pub invariant-feed_members-loop-name : goal.invariant-feed_members-loop-name
invariant-feed_members-loop-name g l =
    fold g.H.Hasher.write l.state (members_fed (listed l.name-iterator)) ≡ fold g.H.Hasher.write l.fn.state (members_fed (listed l.fn.object.entries))
