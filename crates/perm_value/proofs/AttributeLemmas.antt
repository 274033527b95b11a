-- The attribute with a name is the one member that has it.
use Rattle.std.proofs.Common.{◌≡◌, ℕ, Bool, true, false, cond, List, Option, Some, Less, nat_cmp, is_eq, inl, inr, refl, sym, ap, ◌∙◌, subst}
use Rattle.std.proofs.lemmas.Map.Text.{is_eq-slice_cmp}
use Rattle.std.proofs.lemmas.Slice.Eq.{bytes_eq-Decides}
use Rattle.std.proofs.lemmas.Cmp.{nat_list_cmp_total}
use Rattle.std.specs.Cmp.Lexicographic.{slice_cmp}
use Rattle.std.specs.List.{AllByRecursion}
use Rattle.std.specs.List.Sorted.{IsStrictlySortedBy}
use Rattle.std.specs.Ordering.{ordering_reverse}
use Rattle.std.specs.Prelude.{◌↔◌, ◌⊎◌}
use Rattle.std.specs.Str.{bytes_eq}
use Rattle.perm_value.specs.Attribute.{attribute, member_of, HasAttribute, HasMember}
use Rattle.perm_value.specs.Datum.{Datum, nothing, truth, whole, text, list, object, Members, no_members, member, names_of, HasRisingNames}

found_here : (b : Bool) (name n : List ℕ) (e d : Datum) (ms : Members) → bytes_eq name n ≡ b → cond b (Some e) (member_of ms name) ≡ Some d → (member_of ms name ≡ Some d → HasMember ms name d) → ((n ≡ name) × (e ≡ d)) ⊎ HasMember ms name d
found_here true name n e d ms is h later = inl (sym ((bytes_eq-Decides name n).0 is), cc)
found_here false name n e d ms is h later = inr (later h)

found : (ms : Members) (name : List ℕ) (d : Datum) → member_of ms name ≡ Some d → HasMember ms name d
found no_members name d h = absurd cc
found (member n e ms) name d h = found_here (bytes_eq name n) name n e d ms refl h (found ms name d)

above : (m : List ℕ) (ms : Members) (name : List ℕ) (d : Datum) → AllByRecursion (λ y. slice_cmp nat_cmp m y ≡ Less) (names_of ms) → HasMember ms name d → slice_cmp nat_cmp m name ≡ Less
above m no_members name d h has = absurd has
above m (member n e ms) name d h (inl here) = subst (λ y. slice_cmp nat_cmp m y ≡ Less) here.0 h.0
above m (member n e ms) name d h (inr later) = above m ms name d h.1 later

other_name : (n name : List ℕ) → slice_cmp nat_cmp n name ≡ Less → bytes_eq name n ≡ false
other_name n name below = sym (is_eq-slice_cmp name n) ∙ ap is_eq (nat_list_cmp_total.antisymm name n ∙ ap ordering_reverse below)

only : (ms : Members) (name : List ℕ) (d : Datum) → IsStrictlySortedBy (slice_cmp nat_cmp) (names_of ms) → HasMember ms name d → member_of ms name ≡ Some d
unfolding IsStrictlySortedBy
only no_members name d rise has = absurd has
only (member n e ms) name d rise (inl here) = rw ((bytes_eq-Decides name n).1 (sym here.0)) (ap Some here.1)
only (member n e ms) name d rise (inr later) = rw (other_name n name (above n ms name d rise.0 later)) (only ms name d rise.1 later)

exact : (a : Datum) → HasRisingNames a → (name : List ℕ) (d : Datum) → (attribute a name ≡ Some d) ↔ HasAttribute a name d
exact nothing rise name d = (λ h. absurd cc, λ h. absurd h)
exact (truth b) rise name d = (λ h. absurd cc, λ h. absurd h)
exact (whole n) rise name d = (λ h. absurd cc, λ h. absurd h)
exact (text t) rise name d = (λ h. absurd cc, λ h. absurd h)
exact (list ds) rise name d = (λ h. absurd cc, λ h. absurd h)
exact (object ms) rise name d = (found ms name d, only ms name d rise.0)

-- an answer that is the attribute is the datum of the one member with the name
pub exact_answer : (a : Datum) → HasRisingNames a → (name : List ℕ) (r : Option Datum) → r ≡ attribute a name → (d : Datum) → (r ≡ Some d) ↔ HasAttribute a name d
exact_answer a rise name r is d = rw is (exact a rise name d)
