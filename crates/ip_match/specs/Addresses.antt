-- How addresses are written (RFC 4291, 2.2; RFC 4632, 3.1).
use Rattle.std.specs.Prelude.{◌≡◌, ℕ, ◌+◌, ◌≤◌, ◌⊎◌, List, ◌++◌, length, map, replicate, codes, decimal}
use Rattle.std.specs.List.{AllByRecursion, join_with_byte}
use Rattle.std.specs.Int.Digits.{number_from_digits}
use Rattle.std.specs.Str.Parse.{IsNumeral, digits_value}
use Rattle.ip_match.specs.declared.address.Address.{Address}
use Rattle.ip_match.specs.declared.address.Address.TheVariants.{V4, V6}

-- `.`
abbrev pub dot : ℕ
dot = 46

-- `:`
abbrev pub colon : ℕ
colon = 58

-- four numbers of at most 255, in decimal without leading zeros, joined by dots
pub record IsV4 (text : List ℕ) (number : ℕ) : Type 0 where
  pub octets : List ℕ
  pub four : length octets ≡ 4
  pub small : AllByRecursion (λ octet. octet ≤ 255) octets
  pub spelled : text ≡ join_with_byte dot (map decimal octets)
  pub value : number ≡ number_from_digits 256 octets

-- one to four hexadecimal digits in either case
abbrev pub IsGroup : List ℕ → Type 0
IsGroup text = IsNumeral 16 text × (length text ≤ 4)

-- groups joined by colons; no group is the empty text
abbrev pub AreGroups : List ℕ → List (List ℕ) → Type 0
AreGroups text groups = AllByRecursion IsGroup groups × (text ≡ join_with_byte colon groups)

-- the numbers that groups write
abbrev pub group_numbers : List (List ℕ) → List ℕ
group_numbers groups = map (digits_value 16) groups

-- all eight groups
pub record IsWhole (text : List ℕ) (number : ℕ) : Type 0 where
  pub groups : List (List ℕ)
  pub spelled : AreGroups text groups
  pub eight : length groups ≡ 8
  pub value : number ≡ number_from_digits 65536 (group_numbers groups)

-- the groups on the two sides of a `::`, which stands for one or more groups of zero
pub record IsShortened (front back : List ℕ) (number : ℕ) : Type 0 where
  pub left : List (List ℕ)
  pub right : List (List ℕ)
  pub zeros : ℕ
  pub left_spelled : AreGroups front left
  pub right_spelled : AreGroups back right
  pub some : 1 ≤ zeros
  pub eight : length left + zeros + length right ≡ 8
  pub value : number ≡ number_from_digits 65536 (group_numbers left ++ replicate zeros 0 ++ group_numbers right)

-- eight groups, or fewer with one `::`
abbrev pub IsV6 : List ℕ → ℕ → Type 0
IsV6 text number = IsWhole text number
    ⊎ ((front back : List ℕ) × (text ≡ front ++ codes "::" ++ back) × IsShortened front back number)

-- the text writes this address
abbrev pub IsAddress : List ℕ → Address → Type 0
IsAddress text (V4 number) = IsV4 text number
IsAddress text (V6 number) = IsV6 text number
