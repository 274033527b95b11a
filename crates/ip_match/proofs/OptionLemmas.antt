-- What an answer that is there exactly where a fact holds gives.
use Rattle.std.proofs.Common.{◌≡◌, Option, Some, None, ap}
use Rattle.std.specs.Option.{IfSome, SomeIff}

pub IfSome-from_iff : {A : Type 0} (r : Option A) (P : Type 0) (v : A) (Q : A → Type 0) → SomeIff r P v → (P → r ≡ Some v → Q v) → IfSome r Q
IfSome-from_iff None P v Q h k = tt
IfSome-from_iff (Some x) P v Q h k = let same : Some x ≡ Some v = ap Some h.1 in let q : Q v = k h.0 same in rw h.1 q

pub some_from_iff : {A : Type 0} (r : Option A) (P : Type 0) (v : A) → SomeIff r P v → P → r ≡ Some v
some_from_iff None P v h p = absurd (h p)
some_from_iff (Some x) P v h p = ap Some h.1
