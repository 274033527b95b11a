-- Blocks of addresses, and what lies in one (RFC 4632, 3.1).
use Rattle.std.specs.Prelude.{◌≡◌, ℕ, ◌-◌, ◌/◌, ◌^◌, ◌≤◌, ◌⊎◌, List, ◌++◌, codes, decimal}
use Rattle.ip_match.specs.declared.address.Address.{Address}
use Rattle.ip_match.specs.declared.address.Address.TheVariants.{V4, V6}
use Rattle.ip_match.specs.declared.block.Block.{Block}
use Rattle.ip_match.specs.Addresses.{IsAddress}

-- the bits of an address of this family
abbrev pub width_of : Address → ℕ
width_of (V4 number) = 32
width_of (V6 number) = 128

-- an address, `/`, and a number of bits in decimal without leading zeros
abbrev pub HasPrefix : List ℕ → Block → Type 0
HasPrefix text block = (front : List ℕ) × IsAddress front block.address
    × (text ≡ front ++ codes "/" ++ decimal block.bits) × (block.bits ≤ width_of block.address)

-- the text writes this block: an address alone is a block of all its bits
abbrev pub IsBlock : List ℕ → Block → Type 0
IsBlock text block = (IsAddress text block.address × (block.bits ≡ width_of block.address))
    ⊎ HasPrefix text block

-- one family and equal quotients by a power of two: the first bits agree
abbrev pub IsInside : Address → Address → ℕ → Type 0
IsInside (V4 m) (V4 n) bits = m / 2 ^ (32 - bits) ≡ n / 2 ^ (32 - bits)
IsInside (V4 m) (V6 n) bits = ⊥
IsInside (V6 m) (V4 n) bits = ⊥
IsInside (V6 m) (V6 n) bits = m / 2 ^ (128 - bits) ≡ n / 2 ^ (128 - bits)
