use Rattle.std.proofs.Common.{◌∙◌, sym, arith}
use Rattle.std.proofs.lemmas.Bool.{false≢true}
use Rattle.role_domain.specs.Helps.Walks.{Enters, walk_of}
use Rattle.role_domain.proofs.ClimbLemmas.{climb_begins, climb_ends, climb_on, climb_past, climb_stops, top_itself}
use Rattle.role_domain.proofs.Marks.{next_from, none_marked}
use Rattle.role_domain.proofs.walk.depth.Goals as goal

pub returns-then-not-has_roles : goal.returns-then-not-has_roles
returns-then-not-has_roles c = top_itself (walk_of c.args.terms c.args.rows.now c.args.text.now) c.args.x.now c.args.most c.has_roles.result c.if-not-has_roles.true c.has_roles.ensures

pub loop-level-init : goal.loop-level-init
loop-level-init c =
    climb_begins (walk_of c.args.terms c.args.rows.now c.args.text.now) c.args.x.now _ c.enter.new.reached c.enter.new.fresh (none_marked 64)
    (next_from (λ at. Enters (walk_of c.args.terms c.args.rows.now c.args.text.now) c.args.x.now at) _ _ c.enter.new.reached c.enter.new.fresh (none_marked 64) c.enter.ensures.marks) c.enter.ensures.marked
    (c.has_roles.ensures.0 c.if-not-has_roles.false)

pub returns-then-not-has_some : goal.returns-then-not-has_some
returns-then-not-has_some c =
    climb_stops (walk_of c.args.terms c.args.rows.now c.args.text.now) c.args.x.now c.loop-level.level c.args.most c.loop-level.reached c.loop-level.fresh c.loop-level-test.true c.loop-level.invariant
    (c.has_some.ensures c.if-not-has_some.true)

pub returns-then-has_top : goal.returns-then-has_top
returns-then-has_top c =
    climb_ends (walk_of c.args.terms c.args.rows.now c.args.text.now) c.args.x.now c.loop-level.level c.args.most c.loop-level.reached c.loop-level.fresh c.loop-level-test.true c.loop-level.invariant
    (c.has_top.ensures.0 c.if-has_top.true)

pub loop-level-preserved : goal.loop-level-preserved
loop-level-preserved c =
    climb_on (walk_of c.args.terms c.args.rows.now c.args.text.now) c.args.x.now c.loop-level.level c.loop-level.reached c.loop-level.fresh c.step-fresh.new.reached c.step-fresh.result c.loop-level.invariant
    (λ found. false≢true (sym c.if-has_top.false ∙ c.has_top.ensures.1 found)) c.step-fresh.ensures.marks c.step-fresh.ensures.marked

pub returns : goal.returns
returns c =
    climb_past (walk_of c.args.terms c.args.rows.now c.args.text.now) c.args.x.now c.loop-level.level c.args.most c.loop-level.reached c.loop-level.fresh (omega (arith, c.loop-level-test.false)) c.loop-level.invariant
