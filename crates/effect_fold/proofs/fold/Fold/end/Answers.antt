use Rattle.std.proofs.Common.{rules, ◌≡◌}
use Rattle.effect_fold.specs.Helps.Progress.{ended}
use Rattle.effect_fold.proofs.FoldLemmas.{took_end}
use Rattle.effect_fold.proofs.fold.Fold.end.Goals as goal

pub returns-in-Some : goal.returns-in-Some
returns-in-Some c = λ e outcomes has.
    (let ends : c.in-Some.verdict ≡ ended c.args.self = search rules in
    took_end e outcomes c.args.self c.in-Some.verdict ends has)

pub returns-in-None : goal.returns-in-None
returns-in-None c = λ e outcomes has.
    (let ends : c.open_end.result ≡ ended c.args.self = search rules in
    took_end e outcomes c.args.self c.open_end.result ends has)
