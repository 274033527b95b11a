use Rattle.std.proofs.Common.{◌≡◌, ◌∙◌, ap, subst, sym, true}
use Rattle.std.specs.Prelude.{option_copied}
use Rattle.decision.specs.Helps.KeptPlans.{IsPlan, IsPlanOf, serves}
use Rattle.decision.proofs.looked.serving_plan.Goals as goal

pub returns : goal.returns
returns c = record {
  kept = subst (IsPlanOf c.args.asking.now.model.now) (ap option_copied c.in-Some.is) c.requires.kept;
  able = sym c.serves.ensures ∙ c.if-not-serves.false;
}
