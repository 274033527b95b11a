use Rattle.std.proofs.Common.{◌∷◌, rules}
use Rattle.policy_table.specs.Tables.{Fields}
use Rattle.version_log.proofs.SpellingLemmas.{none_spelled, spelled_prints}
use Rattle.version_log.specs.Helps.Items.{IsPrinted}
use Rattle.version_log.proofs.item_read.read_rule.Goals as goal

pub returns-in-Some-clause-none : goal.returns-in-Some-clause-none
returns-in-Some-clause-none c =
    let printed : IsPrinted c.args.text.now c.in-Some.fields.items = search rules in
    none_spelled c.args.text.now c.in-Some.fields.items c.named_rule.result printed c.named_rule.ensures.none

pub returns-in-None-clause-none : goal.returns-in-None-clause-none
returns-in-None-clause-none c = λ table rule is.
    let none : (fields : Fields) → ¬ (IsPrinted c.args.text.now fields) = search rules in
    none (is.name ∷ rule) (spelled_prints c.args.text.now table rule is)
