-- Findings that are told of a rule, and pushed.
use Rattle.std.proofs.Common.{◌≡◌, ℕ, List, [], ◌∷◌, ◌++◌, append_assoc, append-nil, sym, ap, ◌∙◌}
use Rattle.file_lint.specs.declared.finding.Finding.{Finding}

-- nothing was told, and nothing is pushed
pub none_told : (old told : List Finding) → told ≡ [] → old ≡ old ++ told
none_told old told none = sym (append-nil old) ∙ ap (λ (l : List Finding). old ++ l) (sym none)

-- one finding was told, and it is pushed
pub one_told : (old new told : List Finding) (found made : Finding) → told ≡ found ∷ [] → made ≡ found → new ≡ old ++ made ∷ [] → new ≡ old ++ told
one_told old new told found made one same grown = grown ∙ ap (λ (f : Finding). old ++ f ∷ []) same ∙ ap (λ (l : List Finding). old ++ l) (sym one)

-- what was told in three steps
pub three_told : (old one two new first second third : List Finding) → one ≡ old ++ first → two ≡ one ++ second → new ≡ two ++ third → new ≡ old ++ (first ++ second ++ third)
three_told old one two new first second third a b c =
    c ∙ ap (λ (l : List Finding). l ++ third) (b ∙ ap (λ (l : List Finding). l ++ second) a ∙ append_assoc old first second) ∙ append_assoc old (first ++ second) third

-- and in two
pub two_told : (old one new first second : List Finding) → one ≡ old ++ first → new ≡ one ++ second → new ≡ old ++ (first ++ second)
two_told old one new first second a b = b ∙ ap (λ (l : List Finding). l ++ second) a ∙ append_assoc old first second
