use Rattle.std.proofs.Common.{◌==◌, ◌∙◌, ap, length, sym}
use Rattle.std.proofs.lemmas.Result.{on_ok_weaker}
use Rattle.policy_index.specs.Indexed.{puts_hash}
use Rattle.policy_index.specs.declared.mark.Mark.{Mark}
use Rattle.policy_index.proofs.ReserveLemmas.{counted_one, on_ok, room_one}
use Rattle.policy_index.proofs.room.reserve_one.Goals as goal

pub returns-clause-counted : goal.returns-clause-counted
returns-clause-counted c =
    on_ok c.reserve.result _ (λ hash. counted_one c.mark_of-hash.result.hash hash (puts_hash c.args.key.now hash c.args.change.now) c.args.counts.now c.add.new.self
    (c.in-Some.ensures.hash c.args.key.now hash ∙ ap (λ (m : Mark). m.hash == hash) (sym c.mark_of-hash.ensures)) (c.in_ok-add.ensures hash))

pub returns-clause-room : goal.returns-clause-room
returns-clause-room c =
    on_ok_weaker c.reserve.result (λ room hash low. room_one c.mark_of-hash.result.hash hash c.args.counts.now c.add.new.self c.args.slots.now c.reserve.new.self _ (ap length c.of.ensures) room c.reserve.ensures.more (c.in_ok-add.ensures hash) low)
    c.reserve.ensures.room
