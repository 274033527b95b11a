use Rattle.std.proofs.Common.{ℕ, List, ◌∷◌, ◌≡◌, Bor, subst, arith}
use Rattle.std.specs.Prelude.{MatchOption}
use Rattle.std.proofs.lemmas.Str.Pattern.{strip_prefix_char}
use Rattle.text_parts.proofs.cuts.behind.Goals as goal

pub returns : goal.returns
returns c =
    let found = strip_prefix_char c.from.result c.args.text.now c.strip_prefix.result c.strip_prefix.ensures.cases (omega (arith, c.from.ensures)) in
    subst (λ (byte : ℕ). MatchOption c.strip_prefix.result ((rest : List ℕ) → ¬ (c.args.text.now ≡ byte ∷ rest)) (λ (rest : Bor (List ℕ)). c.args.text.now ≡ byte ∷ rest.now)) c.from.ensures found
