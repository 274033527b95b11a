use Rattle.std.proofs.Common.{◌≡◌, ℕ, List, Some, ap}
use Rattle.std.proofs.lemmas.Option.{same_Some}
use Rattle.ip_match.specs.declared.address.Address.{Address}
use Rattle.ip_match.specs.declared.address.Address.TheVariants.{V4, V6}
use Rattle.ip_match.specs.Addresses.{IsAddress, IsV4}
use Rattle.ip_match.proofs.AddressLemmas.{one_family}
use Rattle.ip_match.proofs.address.read_address.Goals as goal

v4_only : (text : List ℕ) (number : ℕ) → IsV4 text number → ((n : ℕ) → IsV4 text n → Some number ≡ Some n) → (address : Address) → IsAddress text address → Some (V4 number) ≡ Some address
v4_only text number h only (V4 n) k = ap (λ (m : ℕ). Some (V4 m)) (same_Some _ _ (only n k))
v4_only text number h only (V6 n) k = absurd (one_family text number n h k)

pub returns-in-Some-clause-only : goal.returns-in-Some-clause-only
returns-in-Some-clause-only c = v4_only c.args.text.now _ c.in-Some.ensures.found c.in-Some.ensures.only
