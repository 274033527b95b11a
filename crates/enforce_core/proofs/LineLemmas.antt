-- Bytes that a sink in memory took.
use Rattle.std.proofs.Common.{◌≡◌, ℕ, List, [], ◌++◌, Option, Some, ap, ◌∙◌}
use Rattle.std.proofs.lemmas.Option.{same_Some}
use Rattle.outside.specs.Told.{with_back}

-- it had none before
pub told_some : (new old text : List ℕ) → ◌≡◌ {A = Option (List ℕ)} (Some new) (with_back (Some old) text) → old ≡ [] → new ≡ text
told_some new old text told none = same_Some new (old ++ text) told ∙ ap (λ (front : List ℕ). front ++ text) none
