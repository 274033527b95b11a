use Rattle.std.proofs.Common.{ℕ, ◌-◌, ◌<◌, ◌≤◌, List, length, get_or, Some, IfSome, ap, ◌∙◌, subst, sym}
use Rattle.matcher_read.specs.Helps.Cuts.{Found}
use Rattle.matcher_read.proofs.FrontLemmas.{kind-none, kind-name, kind-number, kind-text, kind-sign, boundary-sign}
use Rattle.matcher_read.proofs.token.first_token.Goals as goal

pub returns-then-is_empty-clause-value : goal.returns-then-is_empty-clause-value
returns-then-is_empty-clause-value c = kind-none c.args.text.now _ c.as_bytes-bytes.ensures.value (sym c.is_empty.ensures ∙ c.if-is_empty.true)

pub returns-then-is_letter-clause-value : goal.returns-then-is_letter-clause-value
returns-then-is_letter-clause-value c = kind-name c.args.text.now _ c.as_bytes-bytes.ensures.value (sym c.is_empty.ensures ∙ c.if-is_empty.false) (sym c.is_letter.ensures ∙ c.if-is_letter.true) ∙ ap (λ (f : Found). Some f) (sym c.first_name.ensures.value)

pub returns-then-is_ascii_digit-clause-value : goal.returns-then-is_ascii_digit-clause-value
returns-then-is_ascii_digit-clause-value c = kind-number c.args.text.now _ c.as_bytes-bytes.ensures.value (sym c.is_empty.ensures ∙ c.if-is_empty.false) (sym c.is_letter.ensures ∙ c.if-is_letter.false) (sym c.is_ascii_digit.ensures.value ∙ c.if-is_ascii_digit.true) ∙ ap (λ (f : Found). Some f) (sym c.first_number.ensures.value)

pub returns-then-is_quote-clause-value : goal.returns-then-is_quote-clause-value
returns-then-is_quote-clause-value c = kind-text c.args.text.now _ c.as_bytes-bytes.ensures.value (sym c.is_empty.ensures ∙ c.if-is_empty.false) (sym c.is_letter.ensures ∙ c.if-is_letter.false) (sym c.is_ascii_digit.ensures.value ∙ c.if-is_ascii_digit.false) (sym c.is_quote.ensures ∙ c.if-is_quote.true) ∙ ap (λ (f : Found). Some f) (sym c.first_text.ensures.value)

pub returns-clause-value : goal.returns-clause-value
returns-clause-value c = kind-sign c.args.text.now _ c.as_bytes-bytes.ensures.value (sym c.is_empty.ensures ∙ c.if-is_empty.false) (sym c.is_letter.ensures ∙ c.if-is_letter.false) (sym c.is_ascii_digit.ensures.value ∙ c.if-is_ascii_digit.false) (sym c.is_quote.ensures ∙ c.if-is_quote.false) ∙ sym c.first_sign.ensures.value

pub returns-clause-boundary : goal.returns-clause-boundary
returns-clause-boundary c =
    let same = c.as_bytes-bytes.ensures.value in
    boundary-sign c.first_sign.result c.args.text.now c.utf8.text c.first_sign.ensures.some (subst (λ (t : List ℕ). IfSome c.first_sign.result (λ front. get_or t (front.1 - 1) 0 < 128)) same c.first_sign.ensures.ascii) (subst (λ (t : List ℕ). IfSome c.first_sign.result (λ front. front.1 ≤ length t)) same c.first_sign.ensures.within)
