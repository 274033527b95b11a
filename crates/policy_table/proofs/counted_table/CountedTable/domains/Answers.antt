use Rattle.std.proofs.Common.{◌≡◌, true, length, ap, ◌∙◌}
use Rattle.policy_table.specs.Helps.Rows.{Rows}
use Rattle.policy_table.specs.Limits.{different, domains_of}
use Rattle.policy_table.proofs.DomainLemmas.{keys_different}
use Rattle.policy_table.proofs.counted_table.CountedTable.domains.Goals as goal

pub returns : goal.returns
returns c =
    let counted : c.self.inside.counted ≡ true = ap (λ (r : Rows). r.counted) c.self.view_is ∙ c.requires in
    record {
      value = ap length c.texts.ensures.value ∙ keys_different (domains_of c.self.inside.table.rules) c.self.inside.domains.entries (c.self.invariant counted).each c.texts.ensures.once c.texts.ensures.some
          ∙ ap (λ (r : Rows). length (different (domains_of r.rules))) c.self.view_is;
    }
