use Rattle.std.proofs.Common.{arith}
use Rattle.perm_base.specs.Patterns.{is_pattern}
use Rattle.perm_base.specs.declared.shapes.TableId.TheVariants.{G}
use Rattle.policy_table.proofs.LimitLemmas.{passing_few}
use Rattle.policy_table.proofs.TableLemmas.{found_counts, found_few}
use Rattle.policy_table.proofs.tables.Tables.patterns.Goals as goal

pub patterns-requires : goal.patterns-requires
patterns-requires c = found_counts c.args.number c.in-Some.at _ c.index-self-at.result c.self.invariant c.place.ensures c.in-Some.is

pub returns-in-Some-clause-few : goal.returns-in-Some-clause-few
returns-in-Some-clause-few c =
    omega (arith, passing_few (is_pattern c.args.fit) _ (found_few (G c.args.number) c.in-Some.at _ c.index-self-at.result c.self.invariant c.place.ensures c.in-Some.is), c.patterns.ensures.value)
