use Rattle.std.proofs.Common.{◌∙◌, Bool, List, ap, arith, drop, length, sym}
use Rattle.std.proofs.lemmas.List.{drop-drop, length-drop}
use Rattle.live_rounds.proofs.kinds.Kinds.pass.Goals as goal

pub invariant_of-self : goal.invariant_of-self
invariant_of-self c =
    let at = c.self.inside in
    omega (arith, c.requires, ap (λ (l : List Bool). length l) c.self.view_is, length-drop at.passed at.all.items, c.self.invariant)

pub returns : goal.returns
returns c = sym (drop-drop c.args.count c.self.inside.passed c.self.inside.all.items) ∙ ap (drop c.args.count) c.self.view_is
