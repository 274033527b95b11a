use Rattle.std.proofs.Common.{◌≡◌, Option, ℕ, [], ap, sym, ◌∙◌, arith, get_or, length, subst}
use Rattle.std.specs.Option.{option_map_or}
use Rattle.perm_base.specs.declared.shapes.TableId.TheVariants.{G}
use Rattle.policy_table.specs.Limits.{different, domains_of}
use Rattle.policy_table.proofs.LimitLemmas.{different_few, different_none}
use Rattle.policy_table.proofs.TableLemmas.{found_counts, found_few}
use Rattle.policy_table.proofs.tables.Tables.domains.Goals as goal

pub domains-requires : goal.domains-requires
domains-requires c = found_counts c.args.number c.in-Some.at _ c.index-self-at.result c.self.invariant c.place.ensures c.in-Some.is

pub returns-in-Some-clause-few : goal.returns-in-Some-clause-few
returns-in-Some-clause-few c =
    omega (arith, different_few _ (found_few (G c.args.number) c.in-Some.at _ c.index-self-at.result c.self.invariant c.place.ensures c.in-Some.is), c.domains.ensures.value)

pub returns-in-None-clause-value : goal.returns-in-None-clause-value
returns-in-None-clause-value c =
    subst (λ (p : Option ℕ). 0 ≡ length (different (domains_of (option_map_or (λ (at : ℕ). get_or c.args.self.now.policy.lists at []) p [])))) (sym (sym c.place.ensures ∙ c.in-None.is)) (ap length (sym different_none))
