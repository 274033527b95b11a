use Rattle.std.proofs.Common.{refl, ◌∙◌}
use Rattle.role_domain.specs.Helps.Turns.{Turn}
use Rattle.role_domain.proofs.TurnLemmas.{all_right, can_steps, turn_ready}
use Rattle.role_domain.proofs.domains.Domains.prepare.Goals as goal

pub steps-requires : goal.steps-requires
steps-requires c =
    let turn : Turn = c.requires.0 in (
      turn,
      c.requires.1.terms_are,
      can_steps turn c.args.terms c.args.come.now c.args.go.now c.args.patterns.now c.args.self.now c.in_ok-coming.coming c.touch_all.new.self c.in_ok-going.going c.requires.1 c.requires.2 c.in_ok-coming.ensures
          c.in_ok-touch_all.ensures.own c.in_ok-touch_all.ensures.rows c.in_ok-going.ensures,
    )

pub returns-in_err-touched-clause-kept : goal.returns-in_err-touched-clause-kept
returns-in_err-touched-clause-kept c = λ relation. all_right relation c.args.self.now.entries c.steps.new.self.entries c.steps.new.self.entries (c.steps.ensures.right relation) refl

pub returns-in_err-reserve-clause-kept : goal.returns-in_err-reserve-clause-kept
returns-in_err-reserve-clause-kept c = λ relation. all_right relation c.args.self.now.entries c.steps.new.self.entries c.reserve.new.self.entries (c.steps.ensures.right relation) c.reserve.ensures.same

pub returns-clause-ready : goal.returns-clause-ready
returns-clause-ready c = λ turn is can.
    let cans = can_steps turn c.args.terms c.args.come.now c.args.go.now c.args.patterns.now c.args.self.now c.in_ok-coming.coming c.touch_all.new.self c.in_ok-going.going is can c.in_ok-coming.ensures
    c.in_ok-touch_all.ensures.own c.in_ok-touch_all.ensures.rows c.in_ok-going.ensures in
    turn_ready turn c.args.patterns.now c.args.self.now c.steps.new.self c.reserve.new.self c.touch_all.new.self c.in_ok-going.going c.in_ok-touched.touched.items c.len.result cans c.in_ok-touched.ensures.texts c.steps.ensures.once
    (c.in_ok-touched.ensures.ready turn is.terms_are cans) c.steps.ensures.others c.in_ok-touch_all.ensures.theirs c.reserve.ensures.same (c.len.ensures ∙ c.in_ok-touched.touched.ok.0) c.in_ok-reserve.ensures.room

pub returns-clause-kept : goal.returns-clause-kept
returns-clause-kept c = λ relation. all_right relation c.args.self.now.entries c.steps.new.self.entries c.reserve.new.self.entries (c.steps.ensures.right relation) c.reserve.ensures.same
