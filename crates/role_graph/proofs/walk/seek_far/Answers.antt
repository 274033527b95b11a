use Rattle.std.proofs.Common.{◌∙◌, sym, arith}
use Rattle.std.proofs.lemmas.Bool.{false≢true}
use Rattle.role_graph.specs.Helps.Kept.{linked_of}
use Rattle.role_graph.proofs.SeekLemmas.{seek_begins, seek_ends, seek_on, seek_past, seek_stops, sought_itself}
use Rattle.role_graph.proofs.WalkLemmas.{new_within}
use Rattle.role_graph.proofs.walk.seek_far.Goals as goal

pub returns-then-is_sought : goal.returns-then-is_sought
returns-then-is_sought c = sought_itself (linked_of c.args.links.now) c.args.sought c.args.x.now c.args.most (c.is_sought.ensures.0 c.if-is_sought.true)

pub loop-level-init : goal.loop-level-init
loop-level-init c =
    seek_begins (linked_of c.args.links.now) c.args.sought c.args.x.now c.new-reached.result c.begin-fresh.new.reached c.begin-fresh.result c.new-reached.ensures c.begin-fresh.ensures.marks c.begin-fresh.ensures.marked
    (λ is. false≢true (sym c.if-is_sought.false ∙ c.is_sought.ensures.1 is))

pub has_sought-requires : goal.has_sought-requires
has_sought-requires c = new_within (linked_of c.args.links.now) c.args.x.now c.loop-level.level c.loop-level.reached c.loop-level.fresh c.loop-level.invariant.reached_are

pub step-fresh-requires : goal.step-fresh-requires
step-fresh-requires c = new_within (linked_of c.args.links.now) c.args.x.now c.loop-level.level c.loop-level.reached c.loop-level.fresh c.loop-level.invariant.reached_are

pub returns-then-has_sought : goal.returns-then-has_sought
returns-then-has_sought c =
    seek_ends (linked_of c.args.links.now) c.args.sought c.args.x.now c.loop-level.level c.args.most c.loop-level.reached c.loop-level.fresh c.loop-level-test.true c.loop-level.invariant
    (c.has_sought.ensures.0 c.if-has_sought.true)

pub loop-level-preserved : goal.loop-level-preserved
loop-level-preserved c =
    seek_on (linked_of c.args.links.now) c.args.sought c.args.x.now c.loop-level.level c.loop-level.reached c.loop-level.fresh c.step-fresh.new.reached c.step-fresh.result c.loop-level.invariant
    (λ found. false≢true (sym c.if-has_sought.false ∙ c.has_sought.ensures.1 found)) c.step-fresh.ensures.marks c.step-fresh.ensures.marked

pub returns-then-is_empty : goal.returns-then-is_empty
returns-then-is_empty c =
    seek_stops (linked_of c.args.links.now) c.args.sought c.args.x.now c.loop-level.level c.args.most c.loop-level.reached c.loop-level.fresh c.loop-level-test.true c.loop-level.invariant
    (c.is_empty.ensures c.if-is_empty.true)

pub returns : goal.returns
returns c =
    seek_past (linked_of c.args.links.now) c.args.sought c.args.x.now c.loop-level.level c.args.most c.loop-level.reached c.loop-level.fresh (omega (arith, c.loop-level-test.false)) c.loop-level.invariant
