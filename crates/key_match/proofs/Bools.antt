-- Tests that are true or false.
use Rattle.std.proofs.Common.{◌≡◌, Bool, true, false, ◌&&◌, ◌||◌, ◌⊎◌, inl, inr, refl}
use Rattle.std.proofs.lemmas.Bool.{false≢true}

pub or_first : (a b : Bool) → a ≡ true → (a || b) ≡ true
or_first true b h = refl
or_first false b h = absurd (false≢true h)

pub or_second : (a b : Bool) → b ≡ true → (a || b) ≡ true
or_second true b h = refl
or_second false b h = h

pub or_cases : (a b : Bool) → (a || b) ≡ true → (a ≡ true) ⊎ (b ≡ true)
or_cases true b h = inl refl
or_cases false b h = inr h

pub and_both : (a b : Bool) → a ≡ true → b ≡ true → (a && b) ≡ true
and_both true b h k = k
and_both false b h k = h

pub and_first : (a b : Bool) → (a && b) ≡ true → a ≡ true
and_first true b h = refl
and_first false b h = h

pub and_second : (a b : Bool) → (a && b) ≡ true → b ≡ true
and_second true b h = h
and_second false b h = absurd (false≢true h)

pub and_true : (a b : Bool) → a ≡ true → (a && b) ≡ b
and_true true b h = refl
and_true false b h = absurd (false≢true h)

pub and_false : (a b : Bool) → a ≡ false → (a && b) ≡ false
and_false true b h = absurd (false≢true (cc))
and_false false b h = refl

pub or_false : (a b : Bool) → a ≡ false → (a || b) ≡ b
or_false true b h = absurd (false≢true (cc))
or_false false b h = refl

pub same_test : (a b : Bool) → (a ≡ true → b ≡ true) → (b ≡ true → a ≡ true) → a ≡ b
same_test true true h k = refl
same_test true false h k = absurd (false≢true (h refl))
same_test false true h k = absurd (false≢true (k refl))
same_test false false h k = refl

-- what would make another test true, which is false, is false
pub false_by : (a b : Bool) → (a ≡ true → b ≡ true) → b ≡ false → a ≡ false
false_by true true h k = k
false_by true false h k = absurd (false≢true (h refl))
false_by false b h k = refl

pub or-false_first : (a b : Bool) → (a || b) ≡ false → a ≡ false
or-false_first a b h = false_by a (a || b) (or_first a b) h

pub or-false_second : (a b : Bool) → (a || b) ≡ false → b ≡ false
or-false_second a b h = false_by b (a || b) (or_second a b) h
