-- Tests, and texts that are compared or cut.
use Rattle.std.proofs.Common.{◌≡◌, ◌∙◌, ◌<◌, ◌+◌, ◌&&◌, ◌||◌, ℕ, suc, Bool, true, false, cond, not, List, [], ◌∷◌, length, drop, Some, String, Global, refl, sym, ap, true≢false, arith, bytes_eq, chars, encode_utf8_all, IsUtf8, slice_get}
use Rattle.std.specs.List.{after_first, before_first, list_any, position_or_len}
use Rattle.std.proofs.lemmas.List.Sums.{take_while-cons}
use Rattle.std.proofs.lemmas.Slice.Eq.{bytes_eq-Decides}
use Rattle.std.proofs.lemmas.Str.{IsCharBoundary-after_ascii, IsUtf8-drop, IsUtf8-string_bytes, encodes-chars}
use Rattle.command_words.specs.Items.{texts}

-- a test that is true and false
pub clash : {X : Type 0} (test : Bool) → test ≡ true → test ≡ false → X
clash test holds fails = absurd (true≢false (sym holds ∙ fails))

-- two tests of which each follows from the other
pub same_test : (a b : Bool) → (a ≡ true → b ≡ true) → (b ≡ true → a ≡ true) → a ≡ b
same_test true b there back = sym (there refl)
same_test false true there back = back refl
same_test false false there back = refl

pub and_true : (a : Bool) → (a && true) ≡ a
and_true true = refl
and_true false = refl

pub and_false : (a : Bool) → (a && false) ≡ false
and_false true = refl
and_false false = refl

pub or_false : (a : Bool) → (a || false) ≡ a
or_false true = refl
or_false false = refl

pub or_true : (a : Bool) → (a || true) ≡ true
or_true true = refl
or_true false = refl

-- ---- texts that are compared

pub bytes_same : (a b : List ℕ) → bytes_eq a b ≡ true → a ≡ b
bytes_same a b = (bytes_eq-Decides a b).0

pub bytes_self : (a : List ℕ) → bytes_eq a a ≡ true
bytes_self a = (bytes_eq-Decides a a).1 refl

pub bytes_flip : (a b : List ℕ) → bytes_eq a b ≡ bytes_eq b a
bytes_flip a b = same_test (bytes_eq a b) (bytes_eq b a) (λ t. (bytes_eq-Decides b a).1 (sym (bytes_same a b t))) (λ t. (bytes_eq-Decides a b).1 (sym (bytes_same b a t)))

-- a name that a list has, and one that it lacks
pub apart_names : (names : List (List ℕ)) (x y : List ℕ) → list_any (bytes_eq x) names ≡ false → list_any (bytes_eq y) names ≡ true → bytes_eq x y ≡ false
apart_names names x y out within = go (bytes_eq x y) refl
  where
    go : (test : Bool) → bytes_eq x y ≡ test → bytes_eq x y ≡ false
    go false e = e
    go true e = clash (list_any (bytes_eq x) names) (ap (λ (t : List ℕ). list_any (bytes_eq t) names) (bytes_same x y e) ∙ within) out

-- ---- texts that are cut

pub before_cons : {X : Type 0} (p : X → Bool) (x : X) (xs : List X) → before_first p (x ∷ xs) ≡ cond (not (p x)) (x ∷ before_first p xs) []
before_cons p x xs = take_while-cons (λ y. not (p y)) x xs

pub after_cons : {X : Type 0} (p : X → Bool) (x : X) (xs : List X) → after_first p (x ∷ xs) ≡ cond (p x) xs (after_first p xs)
after_cons p x xs = go (p x)
  where
    go : (test : Bool) → drop (cond (not test) (1 + position_or_len p xs) 0 + 1) (x ∷ xs) ≡ cond test xs (after_first p xs)
    go true = refl
    go false =
        let one : (1 + position_or_len p xs) + 1 ≡ suc (position_or_len p xs + 1) = omega arith in
        ap (λ (k : ℕ). drop k (x ∷ xs)) one

-- where no element passes, all stand before the first
pub before_none : {X : Type 0} (p : X → Bool) (xs : List X) → list_any p xs ≡ false → before_first p xs ≡ xs
before_none p [] none = refl
before_none {X = X} p (x ∷ xs) none = before_cons p x xs ∙ go (p x) none (before_none p xs)
  where
    go : (test : Bool) → (test || list_any p xs) ≡ false → (list_any p xs ≡ false → before_first p xs ≡ xs) → cond (not test) (x ∷ before_first p xs) [] ≡ x ∷ xs
    go true e rest = absurd (true≢false e)
    go false e rest = ap (λ (ys : List X). x ∷ ys) (rest e)

-- ---- texts that are UTF-8

abbrev pub AreTexts : List (List ℕ) → Type 0
AreTexts [] = Unit {0}
AreTexts (word ∷ words) = IsUtf8 word × AreTexts words

pub all_texts : (words : List (String Global)) → AreTexts (texts words)
all_texts [] = tt
all_texts (word ∷ words) = (IsUtf8-string_bytes word, all_texts words)

-- behind a byte of ASCII
pub behind_ascii : (byte : ℕ) (bytes : List ℕ) → byte < 128 → IsUtf8 (byte ∷ bytes) → IsUtf8 bytes
behind_ascii byte bytes low utf8 = IsUtf8-drop (byte ∷ bytes) 1 utf8 (IsCharBoundary-after_ascii (byte ∷ bytes) 0 utf8 (omega arith) low)

-- a text that is not empty has a first character
pub first_char : (byte : ℕ) (bytes : List ℕ) → IsUtf8 (byte ∷ bytes) → (char : ℕ) × (slice_get (chars (byte ∷ bytes)) 0 ≡ Some char)
first_char byte bytes utf8 = go (chars (byte ∷ bytes)) refl
  where
    go : (cs : List ℕ) → chars (byte ∷ bytes) ≡ cs → (char : ℕ) × (slice_get (chars (byte ∷ bytes)) 0 ≡ Some char)
    go [] e =
        let empty : [] ≡ byte ∷ bytes = ap (λ (l : List ℕ). encode_utf8_all l) (sym e) ∙ encodes-chars (byte ∷ bytes) utf8 in
        absurd (omega (arith, ap (λ (l : List ℕ). length l) empty))
    go (char ∷ cs) e = (char, ap (λ (l : List ℕ). slice_get l 0) e)
