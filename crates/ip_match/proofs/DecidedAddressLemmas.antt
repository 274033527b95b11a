-- Whether a text is an address or a block, and whether an address lies in one, is decided.
use Rattle.std.proofs.Common.{◌≡◌, ℕ, ◌+◌, ◌-◌, ◌*◌, ◌/◌, ◌^◌, ◌<◌, ◌≤◌, ◌⊎◌, Bool, true, false, eqb, List, [], ◌∷◌, ◌++◌, length, map, get_or, decimal, IsTrue, inl, inr, refl, sym, ap, subst, ◌∙◌, append_assoc, arith, eqb-true, eq-eqb}
use Rattle.std.specs.Prelude.{◌↔◌}
use Rattle.std.specs.Int.Digits.{number_from_digits}
use Rattle.std.proofs.lemmas.Bool.{cases_lt, false≢true}
use Rattle.std.proofs.lemmas.List.{length-map}
use Rattle.ip_match.specs.declared.address.Address.{Address}
use Rattle.ip_match.specs.declared.address.Address.TheVariants.{V4, V6}
use Rattle.ip_match.specs.declared.block.Block.{Block}
use Rattle.ip_match.specs.Addresses.{IsAddress, IsV4, IsV6, IsWhole, IsShortened, group_numbers}
use Rattle.ip_match.specs.Blocks.{IsBlock, IsInside, width_of}
use Rattle.ip_match.specs.Helps.Parts.{parts_of}
use Rattle.ip_match.proofs.PartLemmas.{text_of_parts, text_of_cut}
use Rattle.ip_match.proofs.DottedLemmas.{octets_in}
use Rattle.ip_match.proofs.GapLemmas.{NoGap, NoGap-nil, NoGap-cons, one_colon}
use Rattle.ip_match.proofs.ColonLemmas.{no_gap_in, whole_has_none, none_before, same_sides, groups_unique}
use Rattle.ip_match.proofs.ShortenedLemmas.{shortened_from}
use Rattle.ip_match.proofs.AddressLemmas.{plain_is, prefix_is}
use Rattle.ip_match.proofs.UniqueLemmas.{address_unique}
use Rattle.ip_match.proofs.DecidedLemmas.{Decided, AreOctets, HasGroups, HasNumber, equal_decided, number_decided, octets_decided, groups_decided, cut_of}

-- ---- four octets

abbrev HasV4 : List ℕ → Type 0
HasV4 text = (number : ℕ) × IsV4 text number

v4_decided : (text : List ℕ) → Decided (HasV4 text)
v4_decided text = go (octets_decided (parts_of 46 text)) (equal_decided (length (parts_of 46 text)) 4)
  where
    go : Decided (AreOctets (parts_of 46 text)) → Decided (length (parts_of 46 text) ≡ 4) → Decided (HasV4 text)
    go (inl h) (inl four) =
        let long : length (map decimal h.octets) ≡ length h.octets = length-map h.octets decimal in
        let count : length (parts_of 46 text) ≡ length (map decimal h.octets) = ap length h.spelled in
        inl (
          number_from_digits 256 h.octets,
          record {
            octets = h.octets;
            four = omega arith;
            small = h.small;
            spelled = text_of_parts 46 text _ h.spelled;
            value = refl;
          },
        )
    go (inl h) (inr none) = inr (λ v. let o = octets_in text v.0 v.1 in none (ap length o.parts))
    go (inr none) four = inr (λ v.
        let o = octets_in text v.0 v.1 in
        none (record { octets = o.a ∷ o.b ∷ o.c ∷ o.d ∷ []; small = (o.a_small, (o.b_small, (o.c_small, (o.d_small, tt)))); spelled = o.parts }))

-- ---- groups

abbrev HasWhole : List ℕ → Type 0
HasWhole text = (number : ℕ) × IsWhole text number

whole_decided : (text : List ℕ) → Decided (HasWhole text)
whole_decided text = go (groups_decided text)
  where
    go : Decided (HasGroups text) → Decided (HasWhole text)
    go (inr none) = inr (λ w. none (w.1.groups, w.1.spelled))
    go (inl h) = with_count (equal_decided (length h.0) 8)
      where
        with_count : Decided (length h.0 ≡ 8) → Decided (HasWhole text)
        with_count (inl eight) = inl (number_from_digits 65536 (group_numbers h.0), record { groups = h.0; spelled = h.1; eight = eight; value = refl })
        with_count (inr none) = inr (λ w. none (ap length (groups_unique text h.0 w.1.groups h.1 w.1.spelled) ∙ w.1.eight))

abbrev HasShortened : List ℕ → List ℕ → Type 0
HasShortened front back = (number : ℕ) × IsShortened front back number

shortened_decided : (front back : List ℕ) → Decided (HasShortened front back)
shortened_decided front back = go (groups_decided front) (groups_decided back)
  where
    go : Decided (HasGroups front) → Decided (HasGroups back) → Decided (HasShortened front back)
    go (inr none) right = inr (λ s. none (s.1.left, s.1.left_spelled))
    go (inl left) (inr none) = inr (λ s. none (s.1.right, s.1.right_spelled))
    go (inl left) (inl right) = with_room (cases_lt (length left.0 + length right.0) 8)
      where
        with_room : (length left.0 + length right.0 < 8) ⊎ (8 ≤ length left.0 + length right.0) → Decided (HasShortened front back)
        with_room (inl room) =
            let number : ℕ = number_from_digits 65536 (group_numbers left.0) * 2 ^ (16 * (8 - length left.0)) + number_from_digits 65536 (group_numbers right.0) in
            inl (number, shortened_from front back left.0 right.0 number left.1 right.1 room refl)
        with_room (inr full) = inr (λ s.
            let here : length left.0 ≡ length s.1.left = ap length (groups_unique front left.0 s.1.left left.1 s.1.left_spelled) in
            let there : length right.0 ≡ length s.1.right = ap length (groups_unique back right.0 s.1.right right.1 s.1.right_spelled) in
            omega (arith, s.1.some, s.1.eight))

-- ---- the first `::`

abbrev HasGap : List ℕ → Type 0
HasGap text = (front back : List ℕ) × (text ≡ front ++ 58 ∷ 58 ∷ back) × NoGap (front ++ 58 ∷ [])

gap_decided : (text : List ℕ) → NoGap text ⊎ HasGap text
gap_decided [] = inl NoGap-nil
gap_decided (x ∷ []) = inl (NoGap-cons x [] (λ e f. absurd (omega arith)) NoGap-nil)
gap_decided (x ∷ y ∷ text) = go (eqb x 58) (eqb y 58) refl refl (gap_decided (y ∷ text))
  where
    begins : (front back : List ℕ) → y ∷ text ≡ front ++ 58 ∷ 58 ∷ back → get_or (front ++ 58 ∷ []) 0 0 ≡ y
    begins [] back e = cc
    begins (z ∷ front) back e = cc

    more : ((x ≡ 58) → (y ≡ 58) → ⊥) → NoGap (y ∷ text) ⊎ HasGap (y ∷ text) → NoGap (x ∷ y ∷ text) ⊎ HasGap (x ∷ y ∷ text)
    more apart (inl h) = inl (NoGap-cons x (y ∷ text) apart h)
    more apart (inr gap) = inr (x ∷ gap.0, gap.1, ap (λ xs. x ∷ xs) gap.2, NoGap-cons x (gap.0 ++ 58 ∷ []) (λ e f. apart e (sym (begins gap.0 gap.1 gap.2) ∙ f)) gap.3)

    go : (b c : Bool) → eqb x 58 ≡ b → eqb y 58 ≡ c → NoGap (y ∷ text) ⊎ HasGap (y ∷ text) → NoGap (x ∷ y ∷ text) ⊎ HasGap (x ∷ y ∷ text)
    go true true h k after = let first = eqb-true x 58 h in let second = eqb-true y 58 k in inr ([], text, cc (first, second), one_colon)
    go true false h k after = more (λ e f. false≢true (sym k ∙ eq-eqb y 58 f)) after
    go false c h k after = more (λ e f. false≢true (sym h ∙ eq-eqb x 58 e)) after

abbrev HasV6 : List ℕ → Type 0
HasV6 text = (number : ℕ) × IsV6 text number

v6_decided : (text : List ℕ) → Decided (HasV6 text)
v6_decided text = go (gap_decided text)
  where
    whole : NoGap text → Decided (HasWhole text) → Decided (HasV6 text)
    whole none (inl w) = inl (w.0, inl w.1)
    whole none (inr other) = inr (λ v. neither v.0 v.1)
      where
        neither : (number : ℕ) → IsV6 text number → ⊥
        neither number (inl w) = other (number, w)
        neither number (inr at) = no_gap_in text at.0 at.1 none at.2

    shortened : (front back : List ℕ) → text ≡ front ++ (58 ∷ 58 ∷ []) ++ back → NoGap (front ++ 58 ∷ []) → Decided (HasShortened front back) → Decided (HasV6 text)
    shortened front back e none (inl s) = inl (s.0, inr (front, back, e, s.1))
    shortened front back e none (inr other) = inr (λ v. neither v.0 v.1)
      where
        neither : (number : ℕ) → IsV6 text number → ⊥
        neither number (inl w) = no_gap_in text front back (whole_has_none text number w) e
        neither number (inr at) =
            let same = same_sides text at.0 at.1 front back at.2 e (none_before at.0 at.1 number at.3) none in
            let here : IsShortened front back number = rw (← same.0, ← same.1) at.3 in
            other (number, here)

    go : NoGap text ⊎ HasGap text → Decided (HasV6 text)
    go (inl none) = whole none (whole_decided text)
    go (inr gap) = shortened gap.0 gap.1 (gap.2 ∙ sym (append_assoc gap.0 (58 ∷ 58 ∷ []) gap.1)) gap.3 (shortened_decided gap.0 gap.1)

-- ---- addresses and blocks

abbrev HasAddress : List ℕ → Type 0
HasAddress text = (address : Address) × IsAddress text address

pub address_decided : (text : List ℕ) → HasAddress text ⊎ ((address : Address) → ¬ IsAddress text address)
address_decided text = go (v4_decided text) (v6_decided text)
  where
    go : Decided (HasV4 text) → Decided (HasV6 text) → HasAddress text ⊎ ((address : Address) → ¬ IsAddress text address)
    go (inl h) six = inl (V4 h.0, h.1)
    go (inr none) (inl h) = inl (V6 h.0, h.1)
    go (inr none) (inr other) = inr neither
      where
        neither : (address : Address) → ¬ IsAddress text address
        neither (V4 number) h = none (number, h)
        neither (V6 number) h = other (number, h)

abbrev HasBlock : List ℕ → Type 0
HasBlock text = (block : Block) × IsBlock text block

abbrev NoBlock : List ℕ → Type 0
NoBlock text = (block : Block) → ¬ IsBlock text block

plain_decided : (text : List ℕ) → parts_of 47 text ≡ text ∷ [] → HasAddress text ⊎ ((address : Address) → ¬ IsAddress text address) → HasBlock text ⊎ NoBlock text
plain_decided text one (inl h) = inl (record { address = h.0; bits = width_of h.0 }, inl (h.1, refl))
plain_decided text one (inr none) = inr (λ block h. none block.address (plain_is text block one h).0)

prefix_decided : (text front back : List ℕ) → parts_of 47 text ≡ front ∷ parts_of 47 back → HasAddress front ⊎ ((address : Address) → ¬ IsAddress front address) → HasBlock text ⊎ NoBlock text
prefix_decided text front back cut (inr none) = inr (λ block h. none block.address (prefix_is text front back block cut h).0)
prefix_decided text front back cut (inl h) = go (number_decided (width_of h.0) back)
  where
    go : Decided (HasNumber (width_of h.0) back) → HasBlock text ⊎ NoBlock text
    go (inl bits) =
        let spelled = text_of_cut 47 text front back cut ∙ ap (λ (t : List ℕ). front ++ 47 ∷ t) bits.2 ∙ sym (append_assoc front (47 ∷ []) (decimal bits.0)) in
        inl (record { address = h.0; bits = bits.0 }, inr (front, h.1, spelled, bits.1))
    go (inr none) = inr (λ block other.
        let prefix = prefix_is text front back block cut other in
        let same = address_unique front block.address h.0 prefix.0 h.1 in
        none (block.bits, subst (λ (address : Address). block.bits ≤ width_of address) same prefix.2, prefix.1))

pub block_decided : (text : List ℕ) → HasBlock text ⊎ NoBlock text
block_decided text = go (cut_of 47 text)
  where
    go : (parts_of 47 text ≡ text ∷ []) ⊎ ((front back : List ℕ) × (parts_of 47 text ≡ front ∷ parts_of 47 back)) → HasBlock text ⊎ NoBlock text
    go (inl one) = plain_decided text one (address_decided text)
    go (inr cut) = prefix_decided text cut.0 cut.1 cut.2 (address_decided cut.0)

same_tested : (m n : ℕ) → (t : Bool) × (IsTrue t ↔ (m ≡ n))
same_tested m n = (eqb m n, (eqb-true m n, eq-eqb m n))

pub inside_decided : (a b : Address) (bits : ℕ) → (t : Bool) × (IsTrue t ↔ IsInside a b bits)
inside_decided (V4 m) (V4 n) bits = same_tested (m / 2 ^ (32 - bits)) (n / 2 ^ (32 - bits))
inside_decided (V4 m) (V6 n) bits = (false, (λ h. absurd (false≢true h), λ h. absurd h))
inside_decided (V6 m) (V4 n) bits = (false, (λ h. absurd (false≢true h), λ h. absurd h))
inside_decided (V6 m) (V6 n) bits = same_tested (m / 2 ^ (128 - bits)) (n / 2 ^ (128 - bits))
