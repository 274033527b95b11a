-- Lists, beside what std has.
use Rattle.std.specs.Prelude.{List, [], ◌∷◌}

-- the last of these, or else this one
abbrev pub last_from : {X : Type 0} → X → List X → X
last_from x [] = x
last_from x (y ∷ ys) = last_from y ys
