-- What is printed behind a text is cut off again.
use Rattle.std.proofs.Common.{◌≡◌, ◌≤◌, ℕ, List, ◌++◌, length, length-append, take, subst, sym, ap, arith, ◌∙◌}
use Rattle.std.specs.Str.{IsCharBoundary, IsUtf8}
use Rattle.std.proofs.Math.Seq.{take-append_seam}
use Rattle.std.proofs.lemmas.Str.{IsCharBoundary-from_take}
use Rattle.perm_base.specs.Fields.{IsBehind}

module _ (old new : List ℕ) (size : ℕ) (is : size ≡ length old) (behind : IsBehind old new) where
  -- what stood before is left
  pub cut_back : take size new ≡ old
  cut_back = (λ j. take (is j) (behind.1 j)) ∙ take-append_seam old behind.0

  pub cut_within : size ≤ length new
  cut_within = omega (arith, is, ap (λ (t : List ℕ). length t) behind.1, length-append old behind.0)

  -- and it was a whole text
  pub cut_whole : IsUtf8 old → IsUtf8 new → IsCharBoundary new size
  cut_whole one two = IsCharBoundary-from_take new size two cut_within (subst IsUtf8 (sym cut_back) one)
