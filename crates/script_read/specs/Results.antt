-- Steps over results: the first that fails is the answer.
use Rattle.std.specs.Prelude.{Result, Ok, Err}

-- what is made of an Ok value
abbrev pub mapped : {X Y E : Type 0} → (X → Y) → Result X E → Result Y E
mapped f (Ok x) = Ok (f x)
mapped f (Err e) = Err e

-- the next step, taken with an Ok value
abbrev pub followed : {X Y E : Type 0} → Result X E → (X → Result Y E) → Result Y E
followed (Ok x) next = next x
followed (Err e) next = Err e
