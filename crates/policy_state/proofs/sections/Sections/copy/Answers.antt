use Rattle.std.proofs.Common.{◌∙◌, arith}
use Rattle.policy_state.proofs.CopyLemmas.{all_copied, copied_next, none_copied}
use Rattle.policy_state.proofs.sections.Sections.copy.Goals as goal

pub loop-section-init : goal.loop-section-init
loop-section-init c = none_copied _ c.in_ok-sections.sections.items c.in_ok-sections.ensures.items

pub loop-section-preserved : goal.loop-section-preserved
loop-section-preserved c =
    copied_next _ c.loop-section.sections.items c.push.new.self.items c.loop-section.section-index c.section-item.result c.in_ok-copy.field-0 c.loop-section-test.true c.section-item.is
    c.in_ok-copy.ensures.shape c.in_ok-copy.ensures.limit c.in_ok-copy.ensures.section c.in_ok-push.ensures.items c.loop-section.invariant

pub returns : goal.returns
returns c =
    all_copied c.args.self.now c.deref-section-items.result.now c.loop-section.sections.items c.loop-section.section-index (c.deref-section-items.ensures.value ∙ c.self.view_is) (omega (arith, c.loop-section-test.false))
    c.loop-section.invariant
