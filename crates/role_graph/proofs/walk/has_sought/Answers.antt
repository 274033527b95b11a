use Rattle.std.proofs.Common.{refl}
use Rattle.std.proofs.lemmas.Bool.{false≢true}
use Rattle.role_graph.specs.Helps.Kept.{linked_of}
use Rattle.role_graph.proofs.SeekLemmas.{has_here, has_none_begin, has_none_on, has_nowhere}
use Rattle.role_graph.proofs.walk.has_sought.Goals as goal

pub loop-at-init : goal.loop-at-init
loop-at-init c = has_none_begin (linked_of c.args.links.now) c.args.sought c.args.groups.now

pub returns-then-some_is_sought : goal.returns-then-some_is_sought
returns-then-some_is_sought c = (
  λ holds. has_here (linked_of c.args.links.now) c.args.sought c.args.groups.now c.in-Some.at c.roles_at.result.now c.roles_at.ensures
      (c.requires c.in-Some.at c.in-Some.ensures.found.2) c.in-Some.ensures.found.2 (c.some_is_sought.ensures.0 c.if-some_is_sought.true),
  λ found. refl,
)

pub loop-at-preserved : goal.loop-at-preserved
loop-at-preserved c =
    has_none_on (linked_of c.args.links.now) c.args.sought c.args.groups.now c.loop-at.place c.in-Some.at c.roles_at.result.now c.some_is_sought.result c.roles_at.ensures c.in-Some.ensures.first c.if-some_is_sought.false c.some_is_sought.ensures
    c.loop-at.invariant

pub returns : goal.returns
returns c = (
  λ holds. absurd (false≢true holds),
  λ found. absurd (has_nowhere (linked_of c.args.links.now) c.args.sought c.args.groups.now c.loop-at.place c.in_default.ensures.none c.loop-at.invariant found),
)
