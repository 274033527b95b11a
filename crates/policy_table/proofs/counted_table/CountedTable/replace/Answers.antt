use Rattle.std.proofs.Common.{◌≡◌, true, arith, subst, sym}
use Rattle.std.specs.Prelude.{not}
use Rattle.policy_table.specs.Changes.{without}
use Rattle.policy_table.specs.Helps.Rows.{Rows}
use Rattle.policy_table.specs.Limits.{domains_of}
use Rattle.policy_table.specs.Tables.{Fields, same, stands}
use Rattle.policy_table.proofs.CountedLemmas.{can_count, counted_alone, counted_put}
use Rattle.policy_table.proofs.RuleLemmas.{fewer}
use Rattle.policy_table.proofs.counted_table.CountedTable.replace.Goals as goal

pub take_if-requires : goal.take_if-requires
take_if-requires c =
    let old = c.args.old.now in
    let rules = c.self.inside.table.rules in
    let some = subst (λ (r : Rows). stands old r.rules ≡ true) (sym c.self.view_is) c.requires.stands in
    λ counted. record {
      others = domains_of (without old rules);
      all = counted_alone _ old rules c.self.inside.domains c.from_ref.ensures.value c.len-few.ensures.once some (c.self.invariant counted);
    }

pub add_if-requires-clause-few : goal.add_if-requires-clause-few
add_if-requires-clause-few c =
    let old = c.args.old.now in
    let rules = c.self.inside.table.rules in
    let some = subst (λ (r : Rows). stands old r.rules ≡ true) (sym c.self.view_is) c.requires.stands in
    λ counted. can_count (without old rules) c.take_if.new.self
    (c.take_if.ensures.counted counted (domains_of (without old rules))
    (counted_alone _ old rules c.self.inside.domains c.from_ref.ensures.value c.len-few.ensures.once some (c.self.invariant counted)))
    (omega (arith, c.len-few.ensures.value, c.len-few.ensures.few, fewer (λ (other : Fields). not (same old other)) rules))

pub invariant_of-self : goal.invariant_of-self
invariant_of-self c =
    let old = c.args.old.now in
    let rules = c.self.inside.table.rules in
    let some = subst (λ (r : Rows). stands old r.rules ≡ true) (sym c.self.view_is) c.requires.stands in
    λ counted. counted_put c.args.ranked c.self.inside.counted old c.args.new c.args.domain rules _ _ counted c.requires.domain c.replace.ensures.rules c.len-few.ensures.once some
    (c.add_if.ensures.counted (domains_of (without old rules))
    (c.take_if.ensures.counted counted (domains_of (without old rules))
    (counted_alone _ old rules c.self.inside.domains c.from_ref.ensures.value c.len-few.ensures.once some (c.self.invariant counted))))
