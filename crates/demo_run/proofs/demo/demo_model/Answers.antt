use Rattle.std.proofs.Common.{◌≡◌, List, ℕ, rules, subst}
use Rattle.demo_run.specs.DemoTexts.{model_text}
use Rattle.model_conf.specs.ModelText.{IsModel}
use Rattle.demo_run.proofs.demo.demo_model.Goals as goal

pub returns-in-Ok : goal.returns-in-Ok
returns-in-Ok c =
    let text : c.as_bytes.result.now ≡ model_text = search rules in
    subst (λ (t : List ℕ). IsModel t c.in-Ok.model) text c.in-Ok.ensures.found
