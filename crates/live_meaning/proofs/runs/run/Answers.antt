use Rattle.std.proofs.Common.{◌≡◌, List, [], ◌∷◌, ◌++◌, Ok, Err, append_assoc, rules, ap, sym, ◌∙◌, arith, length}
use Rattle.live_meaning.proofs.RunLemmas.{answered_next, refused_next}
use Rattle.live_meaning.specs.declared.events.Event.{Event}
use Rattle.live_meaning.specs.declared.events.Reply.{Reply}
use Rattle.live_meaning.proofs.runs.run.Goals as goal

pub returns-in_err-reply-clause-refused : goal.returns-in_err-reply-clause-refused
returns-in_err-reply-clause-refused c =
    let stop : c.from_residual-in_err-reply.result ≡ Err c.in_err-reply.field-0.0 = search rules in
    let rest : c.loop-event.event-iterator.rest.items ≡ c.in-Some.event ∷ c.next.new.self.rest.items = search rules in
    let parts : c.args.events.items ≡ c.loop-event.yielded ++ c.in-Some.event ∷ c.next.new.self.rest.items = c.loop-event.invariant.0 ∙ ap (λ l. c.loop-event.yielded ++ l) rest in
    rw stop (λ other. refused_next c.args.world.now c.loop-event.world c.args.events.items c.loop-event.yielded c.next.new.self.rest.items c.in-Some.event c.loop-event.replies.items c.in_err-reply.field-0.0
    parts c.loop-event.invariant.1 c.loop-event.invariant.2 (c.in_err-reply.ensures.refused other))

pub loop-event-preserved : goal.loop-event-preserved
loop-event-preserved c =
    let rest : c.loop-event.event-iterator.rest.items ≡ c.in-Some.event ∷ c.next.new.self.rest.items = search rules in
    let done = ap (λ (l : List Event). l ++ c.in-Some.event ∷ []) c.loop-event.invariant.1 ∙ append_assoc c.args.world.now c.loop-event.yielded (c.in-Some.event ∷ []) in
    let answered = answered_next c.args.world.now c.loop-event.world c.loop-event.yielded c.in-Some.event c.loop-event.replies.items c.in_ok-reply.reply c.loop-event.invariant.1 c.loop-event.invariant.2 c.in_ok-reply.ensures.reply in (
      c.loop-event.invariant.0 ∙ ap (λ l. c.loop-event.yielded ++ l) rest ∙ sym (append_assoc c.loop-event.yielded (c.in-Some.event ∷ []) c.next.new.self.rest.items),
      c.in_ok-reply.ensures.done ∙ done,
      answered ∙ ap (λ (l : List Reply). Ok l) (sym c.push_reserved.ensures.items),
      omega (arith, ap length rest, c.loop-event.invariant.3),
    )
