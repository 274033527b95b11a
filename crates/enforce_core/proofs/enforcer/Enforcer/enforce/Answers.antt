use Rattle.std.proofs.Common.{◌≡◌, Err, Ok, ap, map, refl, rules, subst}
use Rattle.std.specs.Arc.{arc_value}
use Rattle.perm_value.specs.Seen.{datum}
use Rattle.policy_state.specs.States.{State}
use Rattle.enforce_core.specs.Asked.{Asks, ReadsTexts}
use Rattle.enforce_core.specs.Helps.Held.{place_of}
use Rattle.enforce_core.specs.Places.{state_at}
use Rattle.enforce_core.specs.Seen.{Enforcing}
use Rattle.enforce_core.proofs.AskLemmas.{asked_at}
use Rattle.enforce_core.proofs.PlaceLemmas.{suits_same}
use Rattle.enforce_core.proofs.enforcer.Enforcer.enforce.Goals as goal

pub returns-in_err-request-clause-asks : goal.returns-in_err-request-clause-asks
returns-in_err-request-clause-asks c =
    let stop : c.from_residual.result ≡ Err c.in_err-request.field-0.0 = search rules in
    rw stop (record { reading = Err c.in_err-request.field-0.0; reads = c.in_err-request.ensures.stopped; answered = (refl, refl) })

pub returns-in_err-request-clause-only : goal.returns-in_err-request-clause-only
returns-in_err-request-clause-only c = refl

pub judged-requires : goal.judged-requires
judged-requires c =
    suits_same (arc_value c.self.inside.program) c.deref.result.now (state_at (place_of c.self.inside.place)).shapes c.state-state.result.now.shapes c.deref.ensures (ap (λ (s : State). s.shapes) c.state-state.ensures) c.self.invariant

pub returns-clause-asks : goal.returns-clause-asks
returns-clause-asks c =
    subst (λ (e : Enforcing). Asks (ReadsTexts c.args.bytes.now c.args.ends.now) e.model (state_at e.place) e.refusals c.judged.new.finder c.judged.result) c.self.view_is (record {
      reading = Ok (map datum c.in_ok-request.request);
      reads = c.in_ok-request.ensures.found;
      answered = asked_at (arc_value c.self.inside.program) c.deref.result.now (state_at (place_of c.self.inside.place)) c.state-state.result.now c.self.inside.finder c.judged.new.finder (map datum c.in_ok-request.request) c.judged.result c.deref.ensures c.state-state.ensures c.judged.ensures;
    })

pub returns-clause-only : goal.returns-clause-only
returns-clause-only c = ap (λ (e : Enforcing). record e { refusals = c.judged.new.finder }) c.self.view_is
