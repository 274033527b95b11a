use Rattle.std.proofs.Common.{◌≡◌, ◌≤◌, take}
use Rattle.std.specs.Str.Parse.{AllDigits, digits_value}
use Rattle.ip_match.proofs.numeral.read_digits.Given as goal

abbrev pub invariant-loop-byte : goal.invariant-loop-byte
invariant-loop-byte l = AllDigits l.radix (take l.byte-index l.text) × (l.number ≡ digits_value l.radix (take l.byte-index l.text)) × (l.number ≤ l.most)
