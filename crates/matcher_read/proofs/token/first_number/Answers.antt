use Rattle.std.proofs.Common.{ℕ, List, ap, ◌∙◌, subst, sym}
use Rattle.std.specs.Char.{is_ascii_digit}
use Rattle.std.specs.List.{prefix_len}
use Rattle.std.specs.Str.{IsCharBoundary}
use Rattle.matcher_read.proofs.FrontLemmas.{boundary-digits}
use Rattle.matcher_read.proofs.token.first_number.Goals as goal

pub range-requires-clause-end_boundary : goal.range-requires-clause-end_boundary
range-requires-clause-end_boundary c = subst (λ (n : ℕ). IsCharBoundary c.args.text.now n) (sym (c.digits-size.ensures ∙ ap (λ (t : List ℕ). prefix_len is_ascii_digit t) c.as_bytes.ensures.value)) (boundary-digits c.args.text.now c.utf8.text)

pub returns-clause-boundary : goal.returns-clause-boundary
returns-clause-boundary c = subst (λ (n : ℕ). IsCharBoundary c.args.text.now n) (sym (c.digits-size.ensures ∙ ap (λ (t : List ℕ). prefix_len is_ascii_digit t) c.as_bytes.ensures.value)) (boundary-digits c.args.text.now c.utf8.text)
