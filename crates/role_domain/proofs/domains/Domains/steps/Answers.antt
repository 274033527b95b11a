use Rattle.std.proofs.Common.{◌≡◌, ◌<◌, ◌∙◌, ℕ, List, Option, false, length, take, ap, subst, sym, arith}
use Rattle.std.specs.Prelude.{All}
use Rattle.std.specs.List.{list_any}
use Rattle.std.specs.Map.{keys_of}
use Rattle.std.specs.Str.{bytes_eq}
use Rattle.std.proofs.lemmas.Map.Entries.{length-keys_of}
use Rattle.std.proofs.lemmas.Map.Made.{is_some-lookup}
use Rattle.role_domain.specs.Domains.{found}
use Rattle.role_domain.specs.Helps.Turns.{CanStep, Turn, after_of}
use Rattle.role_domain.specs.Steps.{IsReady}
use Rattle.role_domain.specs.declared.domain.Domain.{Domain}
use Rattle.role_domain.specs.declared.prepared.DomainStep.{DomainStep}
use Rattle.role_domain.proofs.BringLemmas.{first_there}
use Rattle.role_domain.proofs.TouchLemmas.{all_ready, none_next, none_taken, not_key, ready_push, right_kept, texts_next}
use Rattle.role_domain.proofs.domains.Domains.steps.Goals as goal

pub step-requires : goal.step-requires
step-requires c =
    let turn : Turn = c.requires.0 in
    let text : List ℕ = c.text_at-text.result.now in (
      turn,
      c.requires.1,
      subst (λ (o : Option Domain). CanStep turn text o c.args.coming.now c.args.going.now c.args.patterns.now)
          (sym (c.loop-at.invariant.later text (first_there (keys_of c.args.coming.now) c.loop-at.at text c.len-at-end.ensures.once (let within : c.loop-at.at < length (keys_of c.args.coming.now) = omega (arith, length-keys_of c.args.coming.now, c.len-at-end.ensures.count, c.loop-at-test.true) in within) (sym c.text_at-text.ensures))))
          (c.requires.2 text),
    )

pub returns-in_err-step-clause-others : goal.returns-in_err-step-clause-others
returns-in_err-step-clause-others c = λ text none.
    c.step.ensures.others text (not_key c.args.coming.now c.loop-at.at c.text_at-text.result.now text (let within : c.loop-at.at < length (keys_of c.args.coming.now) = omega (arith, length-keys_of c.args.coming.now, c.len-at-end.ensures.count, c.loop-at-test.true) in within) (sym c.text_at-text.ensures) none)
    ∙ c.loop-at.invariant.later text (none_taken (bytes_eq text) (keys_of c.args.coming.now) c.loop-at.at (sym (is_some-lookup (bytes_eq text) c.args.coming.now) ∙ none))

pub returns-in_err-step-clause-right : goal.returns-in_err-step-clause-right
returns-in_err-step-clause-right c = λ relation text right.
    right_kept relation c.text_at-text.result.now text c.loop-at.self.entries c.step.new.self.entries (c.step.ensures.right relation) c.step.ensures.others (c.loop-at.invariant.right relation text right)

pub returns-in_err-copy-clause-others : goal.returns-in_err-copy-clause-others
returns-in_err-copy-clause-others c = λ text none.
    c.step.ensures.others text (not_key c.args.coming.now c.loop-at.at c.text_at-text.result.now text (let within : c.loop-at.at < length (keys_of c.args.coming.now) = omega (arith, length-keys_of c.args.coming.now, c.len-at-end.ensures.count, c.loop-at-test.true) in within) (sym c.text_at-text.ensures) none)
    ∙ c.loop-at.invariant.later text (none_taken (bytes_eq text) (keys_of c.args.coming.now) c.loop-at.at (sym (is_some-lookup (bytes_eq text) c.args.coming.now) ∙ none))

pub returns-in_err-copy-clause-right : goal.returns-in_err-copy-clause-right
returns-in_err-copy-clause-right c = λ relation text right.
    right_kept relation c.text_at-text.result.now text c.loop-at.self.entries c.step.new.self.entries (c.step.ensures.right relation) c.step.ensures.others (c.loop-at.invariant.right relation text right)

pub returns-in_err-push-clause-others : goal.returns-in_err-push-clause-others
returns-in_err-push-clause-others c = λ text none.
    c.step.ensures.others text (not_key c.args.coming.now c.loop-at.at c.text_at-text.result.now text (let within : c.loop-at.at < length (keys_of c.args.coming.now) = omega (arith, length-keys_of c.args.coming.now, c.len-at-end.ensures.count, c.loop-at-test.true) in within) (sym c.text_at-text.ensures) none)
    ∙ c.loop-at.invariant.later text (none_taken (bytes_eq text) (keys_of c.args.coming.now) c.loop-at.at (sym (is_some-lookup (bytes_eq text) c.args.coming.now) ∙ none))

pub returns-in_err-push-clause-right : goal.returns-in_err-push-clause-right
returns-in_err-push-clause-right c = λ relation text right.
    right_kept relation c.text_at-text.result.now text c.loop-at.self.entries c.step.new.self.entries (c.step.ensures.right relation) c.step.ensures.others (c.loop-at.invariant.right relation text right)

pub loop-at-preserved : goal.loop-at-preserved
loop-at-preserved c =
    let keys : List (List ℕ) = keys_of c.args.coming.now in
    let text : List ℕ = c.text_at-text.result.now in
    let within : c.loop-at.at < length keys = omega (arith, length-keys_of c.args.coming.now, c.len-at-end.ensures.count, c.loop-at-test.true) in
    let before : list_any (bytes_eq text) (take c.loop-at.at keys) ≡ false = first_there keys c.loop-at.at text c.len-at-end.ensures.once within (sym c.text_at-text.ensures) in
    record {
      texts = ap keys_of c.in_ok-push.ensures.items
          ∙ texts_next c.loop-at.touched.items c.in_ok-copy.field-0 c.in_ok-step.step keys c.loop-at.at text within (sym c.text_at-text.ensures) (c.in_ok-copy.ensures ∙ c.name_at.ensures ∙ sym c.text_at-text.ensures) c.loop-at.invariant.texts;
      later = λ name none.
          (let parts = none_next keys c.loop-at.at text name within (sym c.text_at-text.ensures) none in
          c.step.ensures.others name parts.1 ∙ c.loop-at.invariant.later name parts.0);
      ready = λ turn same can.
          subst (λ l. All (λ (one : List ℕ × DomainStep). IsReady (after_of turn) one.0 (found c.step.new.self.entries one.0) one.1) l) (sym c.in_ok-push.ensures.items)
          (ready_push (after_of turn) c.loop-at.touched.items c.in_ok-copy.field-0 text c.in_ok-step.step c.step.new.self.entries (c.in_ok-copy.ensures ∙ c.name_at.ensures ∙ sym c.text_at-text.ensures)
          (c.in_ok-step.ensures.ready turn same (subst (λ (o : Option Domain). CanStep turn text o c.args.coming.now c.args.going.now c.args.patterns.now) (sym (c.loop-at.invariant.later text before)) (can text)))
          (all_ready (after_of turn) text c.loop-at.touched.items c.loop-at.self.entries c.step.new.self.entries (ap (list_any (bytes_eq text)) c.loop-at.invariant.texts ∙ before) c.step.ensures.others
          (c.loop-at.invariant.ready turn same can)));
      right = λ relation name right. right_kept relation text name c.loop-at.self.entries c.step.new.self.entries (c.step.ensures.right relation) c.step.ensures.others (c.loop-at.invariant.right relation name right);
    }

pub returns-clause-others : goal.returns-clause-others
returns-clause-others c = λ text none.
    c.loop-at.invariant.later text (none_taken (bytes_eq text) (keys_of c.args.coming.now) c.loop-at.at (sym (is_some-lookup (bytes_eq text) c.args.coming.now) ∙ none))
