-- Bytes that an object of the outside may tell: those that are left in a source, those that a sink has taken.
use Rattle.std.specs.Prelude.{◌≡◌, ◌<◌, ◌≤◌, List, ◌++◌, length, ℕ, Option, option_map}

-- told bytes with these in front of them; nothing where nothing is told
abbrev pub with_front : List ℕ → Option (List ℕ) → Option (List ℕ)
with_front front told = option_map (λ (rest : List ℕ). front ++ rest) told

-- told bytes with these behind them; nothing where nothing is told
abbrev pub with_back : Option (List ℕ) → List ℕ → Option (List ℕ)
with_back told back = option_map (λ (had : List ℕ). had ++ back) told

-- what was left before is some bytes that were read and what is left now
pub record HasRead (before now : Option (List ℕ)) : Type 0 where
  pub bytes : List ℕ
  pub read : before ≡ with_front bytes now

-- the same, where more than so many bytes were read
pub record HasReadMore (most : ℕ) (before now : Option (List ℕ)) : Type 0 where
  pub bytes : List ℕ
  pub read : before ≡ with_front bytes now
  pub more : most < length bytes

-- the same, where at most so many bytes were read
pub record HasReadAtMost (most : ℕ) (before now : Option (List ℕ)) : Type 0 where
  pub bytes : List ℕ
  pub read : before ≡ with_front bytes now
  pub within : length bytes ≤ most

-- a sink took, after what it had, a front of the text
pub record TookFront (before now : Option (List ℕ)) (text : List ℕ) : Type 0 where
  pub front : List ℕ
  pub rest : List ℕ
  pub parts : text ≡ front ++ rest
  pub took : now ≡ with_back before front
