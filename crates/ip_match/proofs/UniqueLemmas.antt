-- A text writes one address at most, and one block at most.
use Rattle.std.proofs.Common.{◌≡◌, ℕ, ◌<◌, ◌≤◌, ◌^◌, List, decimal, inl, inr, sym, ap, ◌∙◌, arith}
use Rattle.std.proofs.lemmas.Fmt.{decimal_injective}
use Rattle.ip_match.specs.declared.address.Address.{Address}
use Rattle.ip_match.specs.declared.address.Address.TheVariants.{V4, V6}
use Rattle.ip_match.specs.declared.block.Block.{Block}
use Rattle.ip_match.specs.Addresses.{IsAddress, IsV4}
use Rattle.ip_match.specs.Blocks.{IsBlock, width_of}
use Rattle.ip_match.proofs.PartLemmas.{parts_one}
use Rattle.ip_match.proofs.DottedLemmas.{octets_in}
use Rattle.ip_match.proofs.ColonLemmas.{v6_unique}
use Rattle.ip_match.proofs.AddressLemmas.{no_slash, one_family, prefix_parts, plain_is, prefix_is}

v4_unique : (text : List ℕ) (m n : ℕ) → IsV4 text m → IsV4 text n → m ≡ n
v4_unique text m n h k =
    let p = octets_in text m h in
    let q = octets_in text n k in
    let here = p.parts in
    let there = q.parts in
    let a = decimal_injective p.a q.a (omega (arith, p.a_small)) (omega (arith, q.a_small)) (cc (here, there)) in
    let b = decimal_injective p.b q.b (omega (arith, p.b_small)) (omega (arith, q.b_small)) (cc (here, there)) in
    let third = decimal_injective p.c q.c (omega (arith, p.c_small)) (omega (arith, q.c_small)) (cc (here, there)) in
    let fourth = decimal_injective p.d q.d (omega (arith, p.d_small)) (omega (arith, q.d_small)) (cc (here, there)) in
    omega (arith, a, b, third, fourth, p.value, q.value)

pub address_unique : (text : List ℕ) (a b : Address) → IsAddress text a → IsAddress text b → a ≡ b
address_unique text (V4 m) (V4 n) h k = ap V4 (v4_unique text m n h k)
address_unique text (V4 m) (V6 n) h k = absurd (one_family text m n h k)
address_unique text (V6 m) (V4 n) h k = absurd (one_family text n m k h)
address_unique text (V6 m) (V6 n) h k = ap V6 (v6_unique text m n h k)

same_block : (a b : Block) → a.address ≡ b.address → a.bits ≡ b.bits → a ≡ b
same_block a b e f = λ i. record { address = e i; bits = f i }

width_small : (address : Address) (bits : ℕ) → bits ≤ width_of address → bits < 2 ^ 64
width_small (V4 n) bits h = omega arith
width_small (V6 n) bits h = omega arith

pub block_unique : (text : List ℕ) (a b : Block) → IsBlock text a → IsBlock text b → a ≡ b
block_unique text a b (inl h) k =
    let plain = plain_is text b (parts_one 47 text (no_slash text a.address h.0)) k in
    let address = address_unique text a.address b.address h.0 plain.0 in
    same_block a b address (h.1 ∙ ap width_of address ∙ sym plain.1)
block_unique text a b (inr h) k =
    let prefix = prefix_is text h.0 (decimal a.bits) b (prefix_parts text a h) k in
    let address = address_unique h.0 a.address b.address h.1 prefix.0 in
    same_block a b address (decimal_injective a.bits b.bits (width_small a.address a.bits h.3) (width_small b.address b.bits prefix.2) prefix.1)
