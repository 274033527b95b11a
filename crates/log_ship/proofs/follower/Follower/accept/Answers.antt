use Rattle.std.proofs.Common.{◌≤◌, List, ap, drop, length, subst, sym, ◌∙◌, arith}
use Rattle.log_ship.proofs.AcceptLemmas.{applied_after, applied_answer, back_kept, back_same, done_kept, misfit_after, misfit_answer, queue_fits, queue_some, waits_kept}
use Rattle.log_ship.specs.Followers.{Held}
use Rattle.log_ship.proofs.follower.Follower.accept.Goals as goal

pub invariant_of-self-then-number-version : goal.invariant_of-self-then-number-version
invariant_of-self-then-number-version c =
    record {
      following = waits_kept c.args.self.now (record { state = c.self.inside.state; waiting = c.self.inside.waiting }) c.args.number c.args.edit c.self.view_is c.requires.new c.requires.comes c.self.invariant.following c.put.new.self c.in_ok-put.ensures.put (λ e. c.if-number-version.true (omega (arith, e, c.version-version.ensures.value)));
      tables = c.self.invariant.tables;
    }

pub advance-requires-clause-few : goal.advance-requires-clause-few
advance-requires-clause-few c =
    queue_fits c.args.self.now (record { state = c.self.inside.state; waiting = c.self.inside.waiting }) c.args.number c.args.edit c.self.view_is c.requires.new c.requires.comes c.self.invariant.following c.put.new.self c.in_ok-put.ensures.put (omega (arith, c.if-number-version.false, c.version-version.ensures.value))

pub drop_front-requires : goal.drop_front-requires
drop_front-requires c =
    subst (λ (l : List Held). 1 ≤ length l) (sym c.in_default.ensures.still_waiting) (queue_some c.args.self.now (record { state = c.self.inside.state; waiting = c.self.inside.waiting }) c.args.number c.args.edit c.self.view_is c.requires.new c.requires.comes c.self.invariant.following c.put.new.self c.in_ok-put.ensures.put (omega (arith, c.if-number-version.false, c.version-version.ensures.value)))

pub invariant_of-self-in_default : goal.invariant_of-self-in_default
invariant_of-self-in_default c =
    record {
      following = back_kept c.args.self.now (record { state = c.self.inside.state; waiting = c.self.inside.waiting }) c.args.number c.args.edit c.self.view_is c.requires.new c.requires.comes c.self.invariant.following c.put.new.self c.in_ok-put.ensures.put (omega (arith, c.if-number-version.false, c.version-version.ensures.value)) c.advance.new.state c.drop_front.new.self c.in_default.ensures.refused (c.drop_front.ensures ∙ ap (drop 1) c.in_default.ensures.still_waiting);
      tables = c.advance.ensures.drafts;
    }

pub returns-in_default-clause-after : goal.returns-in_default-clause-after
returns-in_default-clause-after c =
    back_same c.args.self.now (record { state = c.self.inside.state; waiting = c.self.inside.waiting }) c.args.number c.args.edit c.self.view_is c.requires.new c.requires.comes c.self.invariant.following c.put.new.self c.in_ok-put.ensures.put (omega (arith, c.if-number-version.false, c.version-version.ensures.value)) c.advance.new.state c.drop_front.new.self c.in_default.ensures.refused (c.drop_front.ensures ∙ ap (drop 1) c.in_default.ensures.still_waiting)

pub invariant_of-self-then-count-eq0 : goal.invariant_of-self-then-count-eq0
invariant_of-self-then-count-eq0 c =
    record { following = done_kept c.args.self.now (record { state = c.self.inside.state; waiting = c.self.inside.waiting }) c.args.number c.args.edit c.self.view_is c.requires.new c.requires.comes c.self.invariant.following c.put.new.self c.in_ok-put.ensures.put (omega (arith, c.if-number-version.false, c.version-version.ensures.value)) c.in-Ok.count c.advance.new.state c.advance.new.waiting c.in-Ok.ensures.count c.in-Ok.ensures.appended c.in-Ok.ensures.waiting; tables = c.advance.ensures.drafts }

pub returns-then-count-eq0-clause-answer : goal.returns-then-count-eq0-clause-answer
returns-then-count-eq0-clause-answer c =
    misfit_answer c.args.self.now (record { state = c.self.inside.state; waiting = c.self.inside.waiting }) c.args.number c.args.edit c.self.view_is c.requires.new c.requires.comes c.self.invariant.following c.put.new.self c.in_ok-put.ensures.put (omega (arith, c.if-number-version.false, c.version-version.ensures.value)) c.in-Ok.count c.advance.new.state c.advance.new.waiting c.in-Ok.ensures.count c.in-Ok.ensures.appended c.in-Ok.ensures.waiting c.if-count-eq0.true

pub returns-then-count-eq0-clause-after : goal.returns-then-count-eq0-clause-after
returns-then-count-eq0-clause-after c =
    misfit_after c.args.self.now (record { state = c.self.inside.state; waiting = c.self.inside.waiting }) c.args.number c.args.edit c.self.view_is c.requires.new c.requires.comes c.self.invariant.following c.put.new.self c.in_ok-put.ensures.put (omega (arith, c.if-number-version.false, c.version-version.ensures.value)) c.in-Ok.count c.advance.new.state c.advance.new.waiting c.in-Ok.ensures.count c.in-Ok.ensures.appended c.in-Ok.ensures.waiting c.if-count-eq0.true

pub invariant_of-self-2 : goal.invariant_of-self-2
invariant_of-self-2 c =
    record { following = done_kept c.args.self.now (record { state = c.self.inside.state; waiting = c.self.inside.waiting }) c.args.number c.args.edit c.self.view_is c.requires.new c.requires.comes c.self.invariant.following c.put.new.self c.in_ok-put.ensures.put (omega (arith, c.if-number-version.false, c.version-version.ensures.value)) c.in-Ok.count c.advance.new.state c.advance.new.waiting c.in-Ok.ensures.count c.in-Ok.ensures.appended c.in-Ok.ensures.waiting; tables = c.advance.ensures.drafts }

pub returns-clause-answer : goal.returns-clause-answer
returns-clause-answer c =
    applied_answer c.args.self.now (record { state = c.self.inside.state; waiting = c.self.inside.waiting }) c.args.number c.args.edit c.self.view_is c.requires.new c.requires.comes c.self.invariant.following c.put.new.self c.in_ok-put.ensures.put (omega (arith, c.if-number-version.false, c.version-version.ensures.value)) c.in-Ok.count c.advance.new.state c.advance.new.waiting c.in-Ok.ensures.count c.in-Ok.ensures.appended c.in-Ok.ensures.waiting c.version-version-2.result (omega (arith, c.if-count-eq0.false)) c.version-version-2.ensures.value

pub returns-clause-after : goal.returns-clause-after
returns-clause-after c =
    applied_after c.args.self.now (record { state = c.self.inside.state; waiting = c.self.inside.waiting }) c.args.number c.args.edit c.self.view_is c.requires.new c.requires.comes c.self.invariant.following c.put.new.self c.in_ok-put.ensures.put (omega (arith, c.if-number-version.false, c.version-version.ensures.value)) c.in-Ok.count c.advance.new.state c.advance.new.waiting c.in-Ok.ensures.count c.in-Ok.ensures.appended c.in-Ok.ensures.waiting c.version-version-2.result
