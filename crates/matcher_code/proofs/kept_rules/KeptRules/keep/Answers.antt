use Rattle.std.proofs.Common.{rules, List, ℕ, sym, subst}
use Rattle.matcher_code.specs.Helps.Kept.{IsCodeOf}
use Rattle.matcher_code.proofs.FrameLemmas.{code_alike}
use Rattle.matcher_code.proofs.kept_rules.KeptRules.keep.Goals as goal

pub keep-requires : goal.keep-requires
keep-requires c = λ model of_model.
    subst (λ (text : List ℕ). IsCodeOf model text c.args.rule) (sym c.as_bytes.ensures.value)
    (code_alike c.in-Some.rules c.args.model.now model c.args.text.now c.args.rule (search rules) of_model c.requires)
