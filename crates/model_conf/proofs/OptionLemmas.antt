-- What a clause on an option says at one of its variants.
use Rattle.std.proofs.Common.{◌≡◌, Option, Some, None, subst}
use Rattle.std.specs.Prelude.{MatchOption}

pub none_at : {T : Type 0} (o : Option T) (P : Type 0) (Q : T → Type 0) → o ≡ None → MatchOption o P Q → P
none_at o P Q e told = subst (λ (r : Option _). MatchOption r P Q) e told

pub found_at : {T : Type 0} (o : Option T) (P : Type 0) (Q : T → Type 0) (x : T) → o ≡ Some x → MatchOption o P Q → Q x
found_at o P Q x e told = subst (λ (r : Option _). MatchOption r P Q) e told
