use Rattle.std.proofs.Common.{refl, sym, ◌∙◌, arith}
use Rattle.policy_index.proofs.ReserveLemmas.{fits_at, puts_more}
use Rattle.policy_index.proofs.room.reserve_edit.Goals as goal

pub loop-change-init : goal.loop-change-init
loop-change-init c = record {
  slots = λ hash. refl;
  more = λ hash. omega arith;
  counted = λ hash. omega arith;
  room = λ hash low. low;
}

pub reserve_one-requires : goal.reserve_one-requires
reserve_one-requires c = fits_at c.args.key.now c.args.changes.now c.loop-change.change-index c.change-item.result c.requires c.loop-change-test.true (sym c.change-item.is)

pub loop-change-preserved : goal.loop-change-preserved
loop-change-preserved c = record {
  slots = λ hash. c.reserve_one.ensures.slots hash ∙ c.loop-change.invariant.slots hash;
  more = λ hash. omega (arith, c.reserve_one.ensures.more hash, c.loop-change.invariant.more hash);
  counted =
      λ hash.
      omega (
        arith,
        c.in_ok-reserve_one.ensures.counted hash,
        c.loop-change.invariant.counted hash,
        puts_more c.args.key.now hash c.args.changes.now c.loop-change.change-index c.change-item.result c.loop-change-test.true (sym c.change-item.is),
      );
  room = λ hash low. c.in_ok-reserve_one.ensures.room hash (c.loop-change.invariant.room hash low);
}
