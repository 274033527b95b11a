use Rattle.std.proofs.Common.{subst}
use Rattle.matcher_code.specs.Helps.Kept.{IsFrameOf}
use Rattle.matcher_code.specs.declared.frame.Frame.{Frame}
use Rattle.matcher_code.proofs.KeptLemmas.{kept_tried}
use Rattle.matcher_code.proofs.kept_rules.FrameRules.keep.Goals as goal

pub invariant_of-self : goal.invariant_of-self
invariant_of-self c = kept_tried c.self.inside.frame c.self.inside.rules c.put.new.self c.in-Ok.key c.args.text.now c.args.rule c.put.result c.self.invariant c.in-Ok.ensures.items
    (λ model of_model. c.requires model (subst (λ (frame : Frame). IsFrameOf frame model) c.self.view_is of_model)) c.put.ensures.entries c.put.ensures.err
