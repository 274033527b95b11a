use Rattle.std.proofs.Common.{refl, sym, subst, arith}
use Rattle.std.specs.List.{Contains}
use Rattle.std.proofs.lemmas.Bool.{false≢true}
use Rattle.std.proofs.lemmas.List.Elements.{Contains-get_or}
use Rattle.role_graph.specs.Helps.Kept.{linked_of}
use Rattle.role_graph.proofs.ShortLists.{none_from_first, none_from_last, none_from_on, some_from}
use Rattle.role_graph.proofs.short.has_sought.Goals as goal

pub loop-index-init : goal.loop-index-init
loop-index-init c = record { low = omega arith; none = none_from_first (linked_of c.args.links.now) c.args.sought c.args.listed.now c.args.from }

pub roles_at-requires : goal.roles_at-requires
roles_at-requires c = c.requires c.group_at.result (subst (Contains c.args.listed.now) (sym c.group_at.ensures) (Contains-get_or c.args.listed.now c.loop-index.index 0 c.loop-index-test.true))

pub returns-then-some_is_sought : goal.returns-then-some_is_sought
returns-then-some_is_sought c = (
  λ holds. some_from (linked_of c.args.links.now) c.args.sought c.args.listed.now c.args.from c.loop-index.index c.group_at.result c.roles_at.result.now c.loop-index.invariant.low c.loop-index-test.true c.group_at.ensures
      (c.requires c.group_at.result (subst (Contains c.args.listed.now) (sym c.group_at.ensures) (Contains-get_or c.args.listed.now c.loop-index.index 0 c.loop-index-test.true))) c.roles_at.ensures (c.some_is_sought.ensures.0 c.if-some_is_sought.true),
  λ found. refl,
)

pub loop-index-preserved : goal.loop-index-preserved
loop-index-preserved c = record {
  low = omega (arith, c.loop-index.invariant.low);
  none = none_from_on (linked_of c.args.links.now) c.args.sought c.args.listed.now c.args.from c.loop-index.index c.group_at.result c.roles_at.result.now c.some_is_sought.result c.group_at.ensures c.roles_at.ensures c.if-some_is_sought.false
      c.some_is_sought.ensures c.loop-index.invariant.none;
}

pub returns : goal.returns
returns c = (
  λ holds. absurd (false≢true holds),
  λ found. absurd (none_from_last (linked_of c.args.links.now) c.args.sought c.args.listed.now c.args.from c.loop-index.index c.loop-index-test.false c.loop-index.invariant.none found),
)
