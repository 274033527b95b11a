use Rattle.std.proofs.Common.{◌≡◌, List, true, subst, sym}
use Rattle.policy_table.specs.Changes.{without}
use Rattle.policy_table.specs.Helps.Domains.{AreCounted}
use Rattle.policy_table.specs.Helps.Rows.{Rows}
use Rattle.policy_table.specs.Limits.{domains_of}
use Rattle.policy_table.specs.Tables.{Fields, stands}
use Rattle.policy_table.proofs.CountedLemmas.{counted_alone}
use Rattle.policy_table.proofs.counted_table.CountedTable.remove.Goals as goal

pub take_if-requires : goal.take_if-requires
take_if-requires c =
    let rule = c.args.rule.now in
    let rules = c.self.inside.table.rules in
    let some = subst (λ (r : Rows). stands rule r.rules ≡ true) (sym c.self.view_is) c.requires in
    λ counted. record {
      others = domains_of (without rule rules);
      all = counted_alone _ rule rules c.self.inside.domains c.from_ref.ensures.value c.len-once.ensures.once some (c.self.invariant counted);
    }

pub invariant_of-self : goal.invariant_of-self
invariant_of-self c =
    let rule = c.args.rule.now in
    let rules = c.self.inside.table.rules in
    let some = subst (λ (r : Rows). stands rule r.rules ≡ true) (sym c.self.view_is) c.requires in
    λ counted. subst (λ (l : List Fields). AreCounted (domains_of l) c.take_if.new.self) (sym c.remove.ensures.rules)
    (c.take_if.ensures.counted counted (domains_of (without rule rules))
    (counted_alone _ rule rules c.self.inside.domains c.from_ref.ensures.value c.len-once.ensures.once some (c.self.invariant counted)))
