-- Where names are compared as they stand no user is a pattern.
use Rattle.std.proofs.Common.{◌≡◌, ℕ, false, List, [], ◌∷◌, refl}
use Rattle.perm_base.specs.Patterns.{is_pattern}
use Rattle.perm_base.specs.declared.shapes.Fit.TheVariants.{Exact}

-- no text is a pattern of equality
pub none_exact : (text : List ℕ) → is_pattern Exact text ≡ false
none_exact [] = refl
none_exact (byte ∷ text) = none_exact text
