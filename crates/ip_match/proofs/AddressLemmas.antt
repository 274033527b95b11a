-- What the text of an address has none of, and what a block's text is cut into.
use Rattle.std.proofs.Common.{◌≡◌, ℕ, ◌≤◌, List, [], ◌∷◌, ◌++◌, eqb, false, map, decimal, inl, inr, refl, sym, ap, subst, ◌∙◌, append_assoc, arith}
use Rattle.std.specs.Char.{digit_value}
use Rattle.std.specs.List.{AllByRecursion, join_with_byte}
use Rattle.ip_match.specs.declared.address.Address.{Address}
use Rattle.ip_match.specs.declared.address.Address.TheVariants.{V4, V6}
use Rattle.ip_match.specs.declared.block.Block.{Block}
use Rattle.ip_match.specs.Addresses.{IsAddress, IsGroup, IsV4, IsV6, AreGroups}
use Rattle.ip_match.specs.Blocks.{IsBlock, HasPrefix, width_of}
use Rattle.ip_match.specs.Helps.Parts.{parts_of}
use Rattle.ip_match.proofs.PartLemmas.{Lacks, Lacks-append, parts_cut, parts_one, parts_some, text_of_parts}
use Rattle.ip_match.proofs.NumeralLemmas.{Lacks-digits, decimal_digits}
use Rattle.ip_match.proofs.DottedLemmas.{octets_in}
use Rattle.ip_match.proofs.GroupLemmas.{group_lacks}

joined_lacks : (c separator : ℕ) (parts : List (List ℕ)) → eqb separator c ≡ false → AllByRecursion (Lacks c) parts → Lacks c (join_with_byte separator parts)
joined_lacks c separator [] other h = tt
joined_lacks c separator (p ∷ []) other h = h.0
joined_lacks c separator (p ∷ q ∷ ps) other h = Lacks-append c p (separator ∷ join_with_byte separator (q ∷ ps)) h.0 (other, joined_lacks c separator (q ∷ ps) other h.1)

each_group_lacks : (c : ℕ) (groups : List (List ℕ)) → 16 ≤ digit_value c → AllByRecursion IsGroup groups → AllByRecursion (Lacks c) groups
each_group_lacks c [] other h = tt
each_group_lacks c (g ∷ groups) other h = (group_lacks c g other h.0, each_group_lacks c groups other h.1)

groups_text_lacks : (c : ℕ) (text : List ℕ) (groups : List (List ℕ)) → 16 ≤ digit_value c → eqb 58 c ≡ false → AreGroups text groups → Lacks c text
groups_text_lacks c text groups other colon h =
    subst (Lacks c) (sym h.1) (joined_lacks c 58 groups colon (each_group_lacks c groups other h.0))

v6_lacks : (c : ℕ) (text : List ℕ) (number : ℕ) → 16 ≤ digit_value c → eqb 58 c ≡ false → IsV6 text number → Lacks c text
v6_lacks c text number other colon h =
    elim h [
      | inl whole ↦ groups_text_lacks c text whole.groups other colon whole.spelled
      | inr at ↦
          let front = groups_text_lacks c at.0 (at.3).left other colon (at.3).left_spelled in
          let back = groups_text_lacks c at.1 (at.3).right other colon (at.3).right_spelled in
          subst (Lacks c) (sym at.2) (Lacks-append c (at.0 ++ 58 ∷ 58 ∷ []) at.1 (Lacks-append c at.0 (58 ∷ 58 ∷ []) front (colon, (colon, tt))) back)
    ]

each_octet_lacks : (c : ℕ) (octets : List ℕ) → 10 ≤ digit_value c → AllByRecursion (λ octet. octet ≤ 255) octets → AllByRecursion (Lacks c) (map decimal octets)
each_octet_lacks c [] other h = tt
each_octet_lacks c (o ∷ octets) other h = (Lacks-digits 10 c (decimal o) other (decimal_digits o h.0).0.1, each_octet_lacks c octets other h.1)

v4_lacks : (c : ℕ) (text : List ℕ) (number : ℕ) → 10 ≤ digit_value c → eqb 46 c ≡ false → IsV4 text number → Lacks c text
v4_lacks c text number other dot h =
    subst (Lacks c) (sym h.spelled) (joined_lacks c 46 (map decimal h.octets) dot (each_octet_lacks c h.octets other h.small))

-- no text is an address of both families: only the first has dots
pub one_family : (text : List ℕ) (m n : ℕ) → IsV4 text m → IsV6 text n → ⊥
one_family text m n h k =
    let octets = octets_in text m h in
    let one = parts_one 46 text (v6_lacks 46 text n (omega arith) refl k) in
    cc (octets.parts, one)

-- `/`, which is 47, stands in no address
pub no_slash : (text : List ℕ) (address : Address) → IsAddress text address → Lacks 47 text
no_slash text (V4 number) h = v4_lacks 47 text number (omega arith) refl h
no_slash text (V6 number) h = v6_lacks 47 text number (omega arith) refl h

pub prefix_parts : (text : List ℕ) (block : Block) (p : HasPrefix text block) → parts_of 47 text ≡ p.0 ∷ parts_of 47 (decimal block.bits)
prefix_parts text block p =
    ap (parts_of 47) (p.2 ∙ append_assoc p.0 (47 ∷ []) (decimal block.bits)) ∙ parts_cut 47 p.0 (decimal block.bits) (no_slash p.0 block.address p.1)

-- a text without `/` is an address alone
pub plain_is : (text : List ℕ) (block : Block) → parts_of 47 text ≡ text ∷ [] → IsBlock text block → IsAddress text block.address × (block.bits ≡ width_of block.address)
plain_is text block one h =
    elim h [
      | inl plain ↦ plain
      | inr prefix ↦
          let two = prefix_parts text block prefix in
          let (p, ps, more) = parts_some 47 (decimal block.bits) in
          absurd (cc (one, two, more))
    ]

-- a text with `/` is an address and a number of bits
pub prefix_is : (text front back : List ℕ) (block : Block) → parts_of 47 text ≡ front ∷ parts_of 47 back → IsBlock text block → IsAddress front block.address × (back ≡ decimal block.bits) × (block.bits ≤ width_of block.address)
prefix_is text front back block cut h =
    elim h [
      | inl plain ↦
          let one = parts_one 47 text (no_slash text block.address plain.0) in
          let (p, ps, more) = parts_some 47 back in
          absurd (cc (one, cut, more))
      | inr prefix ↦
          let two = prefix_parts text block prefix in
          let same : prefix.0 ≡ front = cc (cut, two) in
          let rest : parts_of 47 back ≡ parts_of 47 (decimal block.bits) = cc (cut, two) in
          (subst (λ (t : List ℕ). IsAddress t block.address) same prefix.1, text_of_parts 47 back _ rest ∙ sym (text_of_parts 47 (decimal block.bits) _ refl), prefix.3)
    ]
