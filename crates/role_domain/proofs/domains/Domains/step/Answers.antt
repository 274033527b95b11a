use Rattle.std.proofs.Common.{Option, Some, refl, ap, subst, sym, ◌∙◌}
use Rattle.std.specs.Prelude.{IsSome}
use Rattle.role_domain.specs.Domains.{Domains, IsRight, found}
use Rattle.role_domain.specs.Helps.Turns.{CanStep, Turn, after_of}
use Rattle.role_domain.specs.Steps.{IsReady}
use Rattle.role_domain.specs.declared.domain.Domain.{Domain}
use Rattle.role_domain.proofs.Keyed.{found_other, found_there, seen_at}
use Rattle.role_domain.proofs.StepLemmas.{new_own}
use Rattle.role_domain.proofs.domains.Domains.step.Goals as goal

pub step_of-requires : goal.step_of-requires
step_of-requires c =
    let here = seen_at c.args.text.now c.self.inside.entries.entries c.args.self.now.entries _ (ap (λ (d : Domains). d.entries) c.self.view_is) c.in-Some.ensures.value in
    let turn : Turn = c.requires.0 in
    (turn, c.args.patterns.now, subst (λ (o : Option Domain). CanStep turn c.args.text.now o c.args.coming.now c.args.going.now c.args.patterns.now) (sym here) c.requires.2)

pub returns-in_err-step-clause-right : goal.returns-in_err-step-clause-right
returns-in_err-step-clause-right c = λ relation right.
    let here = seen_at c.args.text.now c.self.inside.entries.entries c.args.self.now.entries _ (ap (λ (d : Domains). d.entries) c.self.view_is) c.in-Some.ensures.value in
    let new = c.step_of.new.domain in
    let updates = (c.get_mut.follows.holds new).3 (subst IsSome c.in-Some.ensures.value refl) in
    let after = found_there c.args.text.now (c.get_mut.follows.lender new).entries (Some new) updates.1 in
    subst (IsRight relation c.args.text.now) (sym after) (c.step_of.ensures.right relation (subst (IsRight relation c.args.text.now) (sym here) right))

pub returns-in_err-step-clause-others : goal.returns-in_err-step-clause-others
returns-in_err-step-clause-others c = λ other differ.
    let new = c.step_of.new.domain in
    let updates = (c.get_mut.follows.holds new).3 (subst IsSome c.in-Some.ensures.value refl) in
    let after = found_there c.args.text.now (c.get_mut.follows.lender new).entries (Some new) updates.1 in
    found_other c.args.text.now other c.self.inside.entries.entries (c.get_mut.follows.lender new).entries updates.3 differ
    ∙ ap (λ (d : Domains). found d.entries other) c.self.view_is

pub returns-in-Some-clause-ready : goal.returns-in-Some-clause-ready
returns-in-Some-clause-ready c = λ turn same can.
    let here = seen_at c.args.text.now c.self.inside.entries.entries c.args.self.now.entries _ (ap (λ (d : Domains). d.entries) c.self.view_is) c.in-Some.ensures.value in
    let new = c.step_of.new.domain in
    let updates = (c.get_mut.follows.holds new).3 (subst IsSome c.in-Some.ensures.value refl) in
    let after = found_there c.args.text.now (c.get_mut.follows.lender new).entries (Some new) updates.1 in
    subst (λ (o : Option Domain). IsReady (after_of turn) c.args.text.now o c.in_ok-step.step) (sym after) (c.in_ok-step.ensures.ready turn c.args.patterns.now (subst (λ (o : Option Domain). CanStep turn c.args.text.now o c.args.coming.now c.args.going.now c.args.patterns.now) (sym here) can))

pub returns-in-Some-clause-right : goal.returns-in-Some-clause-right
returns-in-Some-clause-right c = λ relation right.
    let here = seen_at c.args.text.now c.self.inside.entries.entries c.args.self.now.entries _ (ap (λ (d : Domains). d.entries) c.self.view_is) c.in-Some.ensures.value in
    let new = c.step_of.new.domain in
    let updates = (c.get_mut.follows.holds new).3 (subst IsSome c.in-Some.ensures.value refl) in
    let after = found_there c.args.text.now (c.get_mut.follows.lender new).entries (Some new) updates.1 in
    subst (IsRight relation c.args.text.now) (sym after) (c.step_of.ensures.right relation (subst (IsRight relation c.args.text.now) (sym here) right))

pub returns-in-Some-clause-others : goal.returns-in-Some-clause-others
returns-in-Some-clause-others c = λ other differ.
    let new = c.step_of.new.domain in
    let updates = (c.get_mut.follows.holds new).3 (subst IsSome c.in-Some.ensures.value refl) in
    let after = found_there c.args.text.now (c.get_mut.follows.lender new).entries (Some new) updates.1 in
    found_other c.args.text.now other c.self.inside.entries.entries (c.get_mut.follows.lender new).entries updates.3 differ
    ∙ ap (λ (d : Domains). found d.entries other) c.self.view_is

pub returns-then-own_of-eq0-clause-ready : goal.returns-then-own_of-eq0-clause-ready
returns-then-own_of-eq0-clause-ready c = λ turn same can.
    let none = seen_at c.args.text.now c.self.inside.entries.entries c.args.self.now.entries _ (ap (λ (d : Domains). d.entries) c.self.view_is) c.in_default.ensures.value in
    sym (new_own turn c.args.text.now c.args.coming.now c.args.going.now c.args.patterns.now (subst (λ (o : Option Domain). CanStep turn c.args.text.now o c.args.coming.now c.args.going.now c.args.patterns.now) (sym none) can)) ∙ sym c.own_of.ensures ∙ c.if-own_of-eq0.true

pub new_domain-requires-clause-can : goal.new_domain-requires-clause-can
new_domain-requires-clause-can c =
    let none = seen_at c.args.text.now c.self.inside.entries.entries c.args.self.now.entries _ (ap (λ (d : Domains). d.entries) c.self.view_is) c.in_default.ensures.value in
    let turn : Turn = c.requires.0 in
    (turn, c.args.going.now, c.requires.1, subst (λ (o : Option Domain). CanStep turn c.args.text.now o c.args.coming.now c.args.going.now c.args.patterns.now) (sym none) c.requires.2)

pub returns-clause-ready : goal.returns-clause-ready
returns-clause-ready c = λ turn same can.
    let none = seen_at c.args.text.now c.self.inside.entries.entries c.args.self.now.entries _ (ap (λ (d : Domains). d.entries) c.self.view_is) c.in_default.ensures.value in
    c.in_ok-new_domain.ensures turn c.args.going.now same (subst (λ (o : Option Domain). CanStep turn c.args.text.now o c.args.coming.now c.args.going.now c.args.patterns.now) (sym none) can)
