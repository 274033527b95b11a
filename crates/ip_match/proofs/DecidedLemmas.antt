-- Whether a text is a number, groups or parts of a kind is decided.
use Rattle.std.proofs.Common.{◌≡◌, ℕ, zero, suc, ◌+◌, ◌<◌, ◌≤◌, ◌⊎◌, Bool, true, false, Option, Some, None, eqb, List, [], ◌∷◌, length, map, take, drop, decimal, inl, inr, refl, sym, ap, subst, ◌∙◌, arith}
use Rattle.std.specs.Char.{digit_value}
use Rattle.std.specs.List.{AllByRecursion, position}
use Rattle.std.specs.Str.{bytes_eq}
use Rattle.std.specs.Str.Parse.{AllDigits, IsNumeral}
use Rattle.std.proofs.lemmas.Bool.{cases_lt, false≢true, eqb-true, eq-eqb}
use Rattle.std.proofs.lemmas.Slice.Eq.{bytes_eq-Decides}
use Rattle.ip_match.specs.Addresses.{IsGroup, AreGroups}
use Rattle.ip_match.specs.Helps.Parts.{parts_of}
use Rattle.ip_match.proofs.PartLemmas.{parts_at, parts_whole, text_of_parts}
use Rattle.ip_match.proofs.GroupLemmas.{parts_are}

abbrev pub Decided : Type 0 → Type 0
Decided P = P ⊎ (P → ⊥)

both_decided : (P Q : Type 0) → Decided P → Decided Q → Decided (P × Q)
both_decided P Q (inl p) (inl q) = inl (p, q)
both_decided P Q (inl p) (inr none) = inr (λ h. none h.1)
both_decided P Q (inr none) e = inr (λ h. none h.0)

below_decided : (m n : ℕ) → Decided (m < n)
below_decided m n = go (cases_lt m n)
  where
    go : (m < n) ⊎ (n ≤ m) → Decided (m < n)
    go (inl below) = inl below
    go (inr above) = inr (λ h. omega arith)

at_most_decided : (m n : ℕ) → Decided (m ≤ n)
at_most_decided m n = go (cases_lt n m)
  where
    go : (n < m) ⊎ (m ≤ n) → Decided (m ≤ n)
    go (inl above) = inr (λ h. omega arith)
    go (inr within) = inl within

pub equal_decided : (m n : ℕ) → Decided (m ≡ n)
equal_decided m n = go (eqb m n) refl
  where
    go : (b : Bool) → eqb m n ≡ b → Decided (m ≡ n)
    go true h = inl (eqb-true m n h)
    go false h = inr (λ e. false≢true (sym h ∙ eq-eqb m n e))

same_decided : (xs ys : List ℕ) → Decided (xs ≡ ys)
same_decided xs ys = go (bytes_eq xs ys) refl
  where
    go : (b : Bool) → bytes_eq xs ys ≡ b → Decided (xs ≡ ys)
    go true h = inl ((bytes_eq-Decides xs ys).0 h)
    go false h = inr (λ e. false≢true (sym h ∙ (bytes_eq-Decides xs ys).1 e))

each_decided : {X : Type 0} (P : X → Type 0) → ((x : X) → Decided (P x)) → (xs : List X) → Decided (AllByRecursion P xs)
each_decided P test [] = inl tt
each_decided P test (x ∷ xs) = both_decided (P x) (AllByRecursion P xs) (test x) (each_decided P test xs)

-- ---- numbers

-- the text is the decimal number of one of these
abbrev pub HasNumber : ℕ → List ℕ → Type 0
HasNumber most text = (n : ℕ) × (n ≤ most) × (text ≡ decimal n)

pub number_decided : (most : ℕ) (text : List ℕ) → Decided (HasNumber most text)
number_decided zero text = go (same_decided text (decimal 0))
  where
    go : Decided (text ≡ decimal 0) → Decided (HasNumber 0 text)
    go (inl e) = inl (0, omega arith, e)
    go (inr none) = inr (λ h. let low = h.1 in let same : h.0 ≡ 0 = omega arith in none (h.2 ∙ ap decimal same))
number_decided (suc most) text = go (same_decided text (decimal (suc most))) (number_decided most text)
  where
    go : Decided (text ≡ decimal (suc most)) → Decided (HasNumber most text) → Decided (HasNumber (suc most) text)
    go (inl e) below = inl (suc most, omega arith, e)
    go (inr other) (inl h) = inl (h.0, omega (arith, h.1), h.2)
    go (inr other) (inr none) = inr (λ h. at h.0 h.1 h.2 (cases_lt most h.0))
      where
        at : (n : ℕ) → n ≤ suc most → text ≡ decimal n → (most < n) ⊎ (n ≤ most) → ⊥
        at n low e (inl above) = let same : n ≡ suc most = omega arith in other (e ∙ ap decimal same)
        at n low e (inr within) = none (n, within, e)

-- the parts are decimal numbers of one byte
pub record AreOctets (parts : List (List ℕ)) : Type 0 where
  pub octets : List ℕ
  pub small : AllByRecursion (λ octet. octet ≤ 255) octets
  pub spelled : parts ≡ map decimal octets

octets_from : (parts : List (List ℕ)) → AllByRecursion (HasNumber 255) parts → AreOctets parts
octets_from [] h = record { octets = []; small = tt; spelled = refl }
octets_from (part ∷ parts) h =
    let rest = octets_from parts h.1 in
    record { octets = h.0.0 ∷ rest.octets; small = (h.0.1, rest.small); spelled = cc (h.0.2, rest.spelled) }

from_octets : (octets : List ℕ) → AllByRecursion (λ octet. octet ≤ 255) octets → AllByRecursion (HasNumber 255) (map decimal octets)
from_octets [] h = tt
from_octets (octet ∷ octets) h = ((octet, h.0, refl), from_octets octets h.1)

pub octets_decided : (parts : List (List ℕ)) → Decided (AreOctets parts)
octets_decided parts = go (each_decided (HasNumber 255) (number_decided 255) parts)
  where
    go : Decided (AllByRecursion (HasNumber 255) parts) → Decided (AreOctets parts)
    go (inl h) = inl (octets_from parts h)
    go (inr none) = inr (λ h. none (subst (AllByRecursion (HasNumber 255)) (sym h.spelled) (from_octets h.octets h.small)))

-- ---- groups

digits_decided : (radix : ℕ) (text : List ℕ) → Decided (AllDigits radix text)
digits_decided radix [] = inl tt
digits_decided radix (byte ∷ text) = both_decided (digit_value byte < radix) (AllDigits radix text) (below_decided (digit_value byte) radix) (digits_decided radix text)

group_decided : (text : List ℕ) → Decided (IsGroup text)
group_decided text =
    both_decided (IsNumeral 16 text) (length text ≤ 4)
    (both_decided (0 < length text) (AllDigits 16 text) (below_decided 0 (length text)) (digits_decided 16 text)) (at_most_decided (length text) 4)

-- the text is groups
abbrev pub HasGroups : List ℕ → Type 0
HasGroups text = (groups : List (List ℕ)) × AreGroups text groups

pub groups_decided : (text : List ℕ) → Decided (HasGroups text)
groups_decided [] = inl ([], (tt, refl))
groups_decided (x ∷ text) = go (each_decided IsGroup group_decided (parts_of 58 (x ∷ text)))
  where
    go : Decided (AllByRecursion IsGroup (parts_of 58 (x ∷ text))) → Decided (HasGroups (x ∷ text))
    go (inl h) = inl (parts_of 58 (x ∷ text), (h, text_of_parts 58 (x ∷ text) _ refl))
    go (inr none) = inr (λ h. none (subst (AllByRecursion IsGroup) (sym (parts_are (x ∷ text) h.0 (omega arith) h.1)) h.1.0))

-- ---- cuts

-- the separator stands somewhere, or not
abbrev pub IsCut : ℕ → List ℕ → Type 0
IsCut c text = (parts_of c text ≡ text ∷ []) ⊎ ((front back : List ℕ) × (parts_of c text ≡ front ∷ parts_of c back))

pub cut_of : (c : ℕ) (text : List ℕ) → IsCut c text
cut_of c text = go (position (λ byte. eqb byte c) text) refl
  where
    go : (place : Option ℕ) → position (λ byte. eqb byte c) text ≡ place → IsCut c text
    go None e = inl (parts_whole c text e)
    go (Some at) e = inr (take at text, drop (at + 1) text, (parts_at c text at e).1)
