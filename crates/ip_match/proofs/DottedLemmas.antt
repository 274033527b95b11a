-- The four parts of an IPv4 address.
use Rattle.std.proofs.Common.{◌≡◌, ℕ, ◌≤◌, List, [], ◌∷◌, length, map, decimal, refl, ap, ◌∙◌, arith}
use Rattle.std.specs.List.{AllByRecursion, join_with_byte}
use Rattle.std.specs.Int.Digits.{number_from_digits}
use Rattle.ip_match.specs.Addresses.{IsV4}
use Rattle.ip_match.specs.Helps.Parts.{parts_of}
use Rattle.ip_match.proofs.PartLemmas.{Lacks, parts_joined, text_of_cut, text_of_parts}
use Rattle.ip_match.proofs.NumeralLemmas.{Lacks-digits, decimal_digits}

pub record HasOctets (text : List ℕ) (number : ℕ) : Type 0 where
  pub a : ℕ
  pub b : ℕ
  pub c : ℕ
  pub d : ℕ
  pub a_small : a ≤ 255
  pub b_small : b ≤ 255
  pub c_small : c ≤ 255
  pub d_small : d ≤ 255
  pub parts : parts_of 46 text ≡ decimal a ∷ decimal b ∷ decimal c ∷ decimal d ∷ []
  pub value : number ≡ number_from_digits 256 (a ∷ b ∷ c ∷ d ∷ [])

no_dot : (n : ℕ) → n ≤ 255 → Lacks 46 (decimal n)
no_dot n small = Lacks-digits 10 46 (decimal n) (omega arith) (decimal_digits n small).0.1

octets_of : (octets text : List ℕ) (number : ℕ) → length octets ≡ 4 → AllByRecursion (λ octet. octet ≤ 255) octets → text ≡ join_with_byte 46 (map decimal octets) → number ≡ number_from_digits 256 octets → HasOctets text number
octets_of [] text number four small spelled value = absurd (omega arith)
octets_of (a ∷ []) text number four small spelled value = absurd (omega arith)
octets_of (a ∷ b ∷ []) text number four small spelled value = absurd (omega arith)
octets_of (a ∷ b ∷ c ∷ []) text number four small spelled value = absurd (omega arith)
octets_of (a ∷ b ∷ c ∷ d ∷ []) text number four small spelled value = record {
  a = a;
  b = b;
  c = c;
  d = d;
  a_small = small.0;
  b_small = small.1.0;
  c_small = small.1.1.0;
  d_small = small.1.1.1.0;
  parts = ap (parts_of 46) spelled ∙ parts_joined 46 (decimal a) (decimal b ∷ decimal c ∷ decimal d ∷ [])
      (no_dot a small.0, (no_dot b small.1.0, (no_dot c small.1.1.0, (no_dot d small.1.1.1.0, tt))));
  value = value;
}
octets_of (a ∷ b ∷ c ∷ d ∷ e ∷ octets) text number four small spelled value = absurd (omega arith)

pub octets_in : (text : List ℕ) (number : ℕ) → IsV4 text number → HasOctets text number
octets_in text number h = octets_of h.octets text number h.four h.small h.spelled h.value

-- three cuts, and a decimal number in each part
pub dotted_text : (text first rest second rest2 third fourth : List ℕ) (a b c d : ℕ) → parts_of 46 text ≡ first ∷ parts_of 46 rest → parts_of 46 rest ≡ second ∷ parts_of 46 rest2 → parts_of 46 rest2 ≡ third ∷ parts_of 46 fourth → first ≡ decimal a → second ≡ decimal b → third ≡ decimal c → fourth ≡ decimal d → text ≡ join_with_byte 46 (map decimal (a ∷ b ∷ c ∷ d ∷ []))
dotted_text text first rest second rest2 third fourth a b c d cut1 cut2 cut3 e1 e2 e3 e4 =
    rw (text_of_cut 46 text first rest cut1, text_of_cut 46 rest second rest2 cut2, text_of_cut 46 rest2 third fourth cut3, e1, e2, e3, e4) refl

-- what three cuts leave is the four octets
pub cuts_are : (text first rest second rest2 third fourth : List ℕ) (number : ℕ) (o : HasOctets text number) → parts_of 46 text ≡ first ∷ parts_of 46 rest → parts_of 46 rest ≡ second ∷ parts_of 46 rest2 → parts_of 46 rest2 ≡ third ∷ parts_of 46 fourth → (first ≡ decimal o.a) × (second ≡ decimal o.b) × (third ≡ decimal o.c) × (fourth ≡ decimal o.d)
cuts_are text first rest second rest2 third fourth number o cut1 cut2 cut3 =
    let parts = o.parts in
    let last : parts_of 46 fourth ≡ decimal o.d ∷ [] = cc in
    (cc, cc, cc, text_of_parts 46 fourth _ last)
