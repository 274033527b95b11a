use Rattle.std.proofs.Common.{◌≡◌, true, filter, length, ap, sym, ◌∙◌}
use Rattle.std.proofs.lemmas.List.Sums.{length-filter}
use Rattle.perm_base.specs.Patterns.{is_pattern}
use Rattle.policy_table.specs.Helps.Rows.{Rows}
use Rattle.policy_table.specs.Limits.{domains_of}
use Rattle.policy_table.proofs.counted_table.CountedTable.patterns.Goals as goal

pub returns : goal.returns
returns c =
    let counted : c.self.inside.counted ≡ true = ap (λ (r : Rows). r.counted) c.self.view_is ∙ c.requires in
    record {
      value = c.patterns.ensures ∙ (c.self.invariant counted).patterns c.args.fit ∙ sym (length-filter (is_pattern c.args.fit) (domains_of c.self.inside.table.rules))
          ∙ ap (λ (r : Rows). length (filter (is_pattern c.args.fit) (domains_of r.rules))) c.self.view_is;
    }
