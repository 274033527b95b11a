-- Texts that only grow.
use Rattle.std.proofs.Common.{◌≡◌, ℕ, List, ◌++◌, append_assoc, ap, ◌∙◌}
use Rattle.perm_base.specs.Fields.{IsBehind}

-- one more text
pub behind_more : (old mid new more : List ℕ) → IsBehind old mid → new ≡ mid ++ more → IsBehind old new
behind_more old mid new more behind is = (behind.0 ++ more, is ∙ ap (λ (t : List ℕ). t ++ more) behind.1 ∙ append_assoc old behind.0 more)

-- one step and a further one
pub behind_both : (old mid new : List ℕ) → IsBehind old mid → IsBehind mid new → IsBehind old new
behind_both old mid new one two = behind_more old mid new two.0 one two.1
