use Rattle.std.proofs.Common.{◌∙◌}
use Rattle.loaded_work.proofs.ShipLemmas.{done_all, done_next, done_none}
use Rattle.loaded_work.proofs.shipped.do_items.Goals as goal

pub loop-item-init : goal.loop-item-init
loop-item-init g c = done_none c.args.desk.now _ c.requires.before

pub returns-in_err-do_item-clause-shapes : goal.returns-in_err-do_item-clause-shapes
returns-in_err-do_item-clause-shapes g c = c.do_item.ensures.shapes ∙ c.loop-item.invariant.shapes_are

pub returns-in_err-do_item-clause-unasked : goal.returns-in_err-do_item-clause-unasked
returns-in_err-do_item-clause-unasked g c = c.do_item.ensures.unasked ∙ c.loop-item.invariant.unasked

pub loop-item-preserved : goal.loop-item-preserved
loop-item-preserved g c =
    done_next _ _ c.as_slice-items.result.now _ c.loop-item.item-index c.item-item.result c.loop-item.desk c.do_item.new.desk _ _ c.loop-item.invariant c.loop-item-test.true c.item-item.is c.in_ok-do_item.ensures.behind c.do_item.ensures.shapes c.do_item.ensures.unasked

pub returns-clause-behind : goal.returns-clause-behind
returns-clause-behind g c = done_all _ _ c.as_slice-items.result.now _ c.args.script.now c.as_slice-items.ensures c.loop-item.item-index c.loop-item-test.false c.loop-item.desk _ c.loop-item.invariant

pub returns-clause-shapes : goal.returns-clause-shapes
returns-clause-shapes g c = c.loop-item.invariant.shapes_are

pub returns-clause-unasked : goal.returns-clause-unasked
returns-clause-unasked g c = c.loop-item.invariant.unasked
