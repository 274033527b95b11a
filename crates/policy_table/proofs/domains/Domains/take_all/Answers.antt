use Rattle.std.proofs.Common.{◌+◌, subst, sym, ◌∷◌, ◌++◌, drop, List, ℕ}
use Rattle.policy_table.specs.Helps.Domains.{AreCounted}
use Rattle.policy_table.specs.Limits.{domains_of}
use Rattle.policy_table.proofs.CountedLemmas.{domains_from}
use Rattle.policy_table.proofs.domains.Domains.take_all.Goals as goal

pub take-requires : goal.take-requires
take-requires c =
    let rules = c.args.rules.now in
    let i = c.loop-rule.rule-index in
    let rest = domains_from rules i c.rule-item.result c.requires.others c.loop-rule-test.true c.rule-item.is in
    record {
      others = domains_of (drop (i + 1) rules) ++ c.requires.others;
      all = subst (λ (t : List ℕ). AreCounted (t ∷ (domains_of (drop (i + 1) rules) ++ c.requires.others)) c.loop-rule.self) (sym c.domain_or.ensures)
          (subst (λ (l : List (List ℕ)). AreCounted l c.loop-rule.self) rest (c.loop-rule.invariant.counted c.requires.others c.requires.all));
    }
