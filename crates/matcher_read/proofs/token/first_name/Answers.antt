use Rattle.std.proofs.Common.{ℕ, List, ap, ◌∙◌, subst, sym, ◌<◌}
use Rattle.std.specs.Str.{IsCharBoundary}
use Rattle.matcher_read.specs.Helps.Cuts.{name_size}
use Rattle.matcher_read.proofs.FrontLemmas.{boundary-name, name_some}
use Rattle.matcher_read.proofs.token.first_name.Goals as goal

pub range-requires-clause-end_boundary : goal.range-requires-clause-end_boundary
range-requires-clause-end_boundary c = subst (λ (n : ℕ). IsCharBoundary c.args.text.now n) (sym (c.name_size-size.ensures ∙ ap (λ (t : List ℕ). name_size t) c.as_bytes.ensures.value)) (boundary-name c.args.text.now c.utf8.text)

pub returns-clause-some : goal.returns-clause-some
returns-clause-some c = subst (λ (n : ℕ). 0 < n) (sym (c.name_size-size.ensures ∙ ap (λ (t : List ℕ). name_size t) c.as_bytes.ensures.value)) (name_some c.args.text.now c.requires)

pub returns-clause-boundary : goal.returns-clause-boundary
returns-clause-boundary c = subst (λ (n : ℕ). IsCharBoundary c.args.text.now n) (sym (c.name_size-size.ensures ∙ ap (λ (t : List ℕ). name_size t) c.as_bytes.ensures.value)) (boundary-name c.args.text.now c.utf8.text)
