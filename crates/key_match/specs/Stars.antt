-- keyMatch and keyGet (Casbin, functions in matchers): a pattern counts up to its first `*`.
use Rattle.std.specs.Prelude.{◌≡◌, ℕ, ◌==◌, List, [], take, drop, Option, None, Some, MatchOption, position, if◌then◌else◌}
use Rattle.std.specs.Str.{bytes_eq}

-- the place of the first `*`
abbrev pub star_of : List ℕ → Option ℕ
star_of pattern = position (λ byte. byte == 42) pattern

-- a key agrees with the pattern before its first `*`, or else is the pattern
abbrev pub AgreesToStar : List ℕ → List ℕ → Type 0
AgreesToStar key pattern = MatchOption (star_of pattern) (key ≡ pattern) (λ star. take star pattern ≡ take star key)

abbrev pub part_from : Option ℕ → List ℕ → List ℕ → List ℕ
part_from None key pattern = []
part_from (Some star) key pattern = if bytes_eq (take star pattern) (take star key) then drop star key else []

-- what the first `*` and all after it stand for
abbrev pub part_at_star : List ℕ → List ℕ → List ℕ
part_at_star key pattern = part_from (star_of pattern) key pattern
