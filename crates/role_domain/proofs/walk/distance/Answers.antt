use Rattle.std.proofs.Common.{◌∙◌, sym, arith}
use Rattle.std.proofs.lemmas.Bool.{false≢true}
use Rattle.role_domain.specs.Helps.Walks.{Enters, walk_of}
use Rattle.role_domain.proofs.Marks.{next_from, none_marked}
use Rattle.role_domain.proofs.WalkLemmas.{at_once, walk_begins, walk_ends, walk_on, walk_stops}
use Rattle.role_meaning.proofs.CallerLemmas.{they_agree, they_differ}
use Rattle.role_domain.proofs.walk.distance.Goals as goal

pub returns-then-eq : goal.returns-then-eq
returns-then-eq c = at_once (walk_of c.args.terms c.args.rows.now c.args.text.now) c.args.x.now c.args.y.now c.args.most (they_agree c.args.x.now c.args.y.now c.eq.result c.eq.ensures c.if-eq.true)

pub loop-level-init : goal.loop-level-init
loop-level-init c =
    walk_begins (walk_of c.args.terms c.args.rows.now c.args.text.now) c.args.x.now c.args.y.now _ c.enter.new.reached c.enter.new.fresh (none_marked 64)
    (next_from (λ at. Enters (walk_of c.args.terms c.args.rows.now c.args.text.now) c.args.x.now at) _ _ c.enter.new.reached c.enter.new.fresh (none_marked 64) c.enter.ensures.marks) c.enter.ensures.marked
    (they_differ c.args.x.now c.args.y.now c.eq.result c.eq.ensures c.if-eq.false)

pub returns-then-not-has_some : goal.returns-then-not-has_some
returns-then-not-has_some c =
    walk_stops (walk_of c.args.terms c.args.rows.now c.args.text.now) c.args.x.now c.args.y.now c.loop-level.level c.loop-level.reached c.loop-level.fresh c.loop-level.invariant (c.has_some.ensures c.if-not-has_some.true) c.args.most
    (omega (arith, c.loop-level-test.true))

pub returns-then-has_role : goal.returns-then-has_role
returns-then-has_role c =
    let found = c.has_role.ensures.0 c.if-has_role.true in
    walk_ends (walk_of c.args.terms c.args.rows.now c.args.text.now) c.args.x.now c.args.y.now c.loop-level.level c.args.most c.loop-level.reached c.loop-level.fresh found.0 c.loop-level-test.true c.loop-level.invariant found.2
    (record { within = found.1; role = found.3 })

pub loop-level-preserved : goal.loop-level-preserved
loop-level-preserved c =
    walk_on (walk_of c.args.terms c.args.rows.now c.args.text.now) c.args.x.now c.args.y.now c.loop-level.level c.loop-level.reached c.loop-level.fresh c.step-fresh.new.reached c.step-fresh.result c.loop-level.invariant
    (λ at one stands. false≢true (sym c.if-has_role.false ∙ c.has_role.ensures.1 (at, stands.within, one, stands.role))) c.step-fresh.ensures.marks c.step-fresh.ensures.marked
