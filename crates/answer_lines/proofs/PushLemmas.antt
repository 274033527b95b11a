-- A text that is pushed piece by piece.
use Rattle.std.proofs.Common.{◌≡◌, ℕ, List, ◌++◌, append_assoc, ap, ◌∙◌}
use Rattle.perm_base.proofs.CallerLemmas.{behind_both}
use Rattle.perm_base.specs.Fields.{IsBehind}

-- two texts behind each other
pub appended_both : (old mid new a b : List ℕ) → mid ≡ old ++ a → new ≡ mid ++ b → new ≡ old ++ (a ++ b)
appended_both old mid new a b one two = two ∙ ap (λ (t : List ℕ). t ++ b) one ∙ append_assoc old a b

-- a text, and what may stand behind it where memory ran out
pub kept_behind : (old mid new a : List ℕ) → mid ≡ old ++ a → IsBehind mid new → IsBehind old new
kept_behind old mid new a one two = behind_both old mid new (a, one) two
