use Rattle.std.proofs.Common.{◌≡◌, ◌∷◌, ◌++◌, [], arith}
use Rattle.std.proofs.lemmas.Grind.{common_steps}
use Rattle.enforce_core.proofs.OptionLemmas.{texts_pushed}
use Rattle.enforce_core.proofs.options.push_word.Goals as goal

pub returns : goal.returns
returns c =
    let pushed : c.push.new.self.items ≡ c.args.words.now.items ++ c.in_ok-copy.copy ∷ [] = grind (arith, common_steps) in
    texts_pushed c.args.words.now.items c.push.new.self.items c.in_ok-copy.copy c.args.word.now pushed c.in_ok-copy.ensures.ok
