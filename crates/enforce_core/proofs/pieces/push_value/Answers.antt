use Rattle.std.proofs.Common.{◌≡◌, ◌∷◌, ◌++◌, [], arith}
use Rattle.std.proofs.lemmas.Grind.{common_steps}
use Rattle.perm_value.specs.declared.value.Value.TheVariants as kind
use Rattle.enforce_core.proofs.PieceLemmas.{text_pushed}
use Rattle.enforce_core.proofs.pieces.push_value.Goals as goal

pub returns : goal.returns
returns c =
    let pushed : c.push.new.self.items ≡ c.args.values.now.items ++ kind.Text c.args.held ∷ [] = grind (arith, common_steps) in
    text_pushed c.args.values.now.items c.push.new.self.items c.args.held pushed
