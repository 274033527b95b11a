-- The test of two lists and of two objects, member by member.
use Rattle.std.proofs.Common.{◌≡◌, ℕ, Bool, true, false, not, ◌&&◌, List, [], ◌∷◌, Option, Some, None, String, Global, string_bytes, string_cmp, refl, sym, ap, ◌∙◌}
use Rattle.std.specs.Borrow.{Bor}
use Rattle.std.specs.Option.{MatchOption, is_some}
use Rattle.std.specs.List.Sorted.{IsStrictlySortedBy}
use Rattle.std.specs.Map.{keys_of}
use Rattle.std.specs.Str.{bytes_eq}
use Rattle.perm_value.specs.Datum.{Datum, no_members}
use Rattle.perm_value.specs.Equality.{datum_eq, members_eq}
use Rattle.perm_value.specs.Seen.{datum, members}
use Rattle.perm_value.specs.declared.value.Value.{Value}
use Rattle.perm_value.proofs.MemberLemmas.{Named, listed, members_listed}

with_false : (b : Bool) → (b && false) ≡ false
with_false true = refl
with_false false = refl

-- objects as their entries are listed
pub as_listed : (es fs : List Named) → IsStrictlySortedBy string_cmp (keys_of es) → IsStrictlySortedBy string_cmp (keys_of fs) → members_eq (members es) (members fs) ≡ members_eq (listed es) (listed fs)
as_listed es fs one other = rw (members_listed es one, members_listed fs other) refl

pub other_name : (e f : Named) (es fs : List Named) → bytes_eq (string_bytes e.0) (string_bytes f.0) ≡ false → members_eq (listed (e ∷ es)) (listed (f ∷ fs)) ≡ false
other_name e f es fs differ = rw differ refl

pub other_datum : (e f : Named) (es fs : List Named) → datum_eq (datum e.1) (datum f.1) ≡ false → members_eq (listed (e ∷ es)) (listed (f ∷ fs)) ≡ false
other_datum e f es fs differ = ap (λ b. bytes_eq (string_bytes e.0) (string_bytes f.0) && b && members_eq (listed es) (listed fs)) differ ∙ rw (with_false (bytes_eq (string_bytes e.0) (string_bytes f.0))) refl

pub same_member : (e f : Named) (es fs : List Named) → bytes_eq (string_bytes e.0) (string_bytes f.0) ≡ true → datum_eq (datum e.1) (datum f.1) ≡ true → members_eq (listed (e ∷ es)) (listed (f ∷ fs)) ≡ members_eq (listed es) (listed fs)
same_member e f es fs name datum = rw (name, datum) refl

twice : (b : Bool) → b ≡ not (not b)
twice true = refl
twice false = refl

-- what a comparison of two texts told of two names
pub told : (a b x y : List ℕ) (r t : Bool) → a ≡ x → b ≡ y → r ≡ not (bytes_eq a b) → r ≡ t → bytes_eq x y ≡ not t
told a b x y r t one other is tells = rw (← one, ← other, ← tells, is) (twice (bytes_eq a b))

-- what a comparison of two views told of two values
pub seen : (a b : Datum) (v w : Value) (r t : Bool) → a ≡ datum v → b ≡ datum w → r ≡ datum_eq a b → r ≡ t → datum_eq (datum v) (datum w) ≡ t
seen a b v w r t one other is tells = rw (← one, ← other, ← is) tells

-- at the end of one object: the other one has a member left, or none
pub ended : (r : Option (Bor (String Global) × Bor Value)) (fs left : List Named) (none : Bool)
    → MatchOption r ((fs ≡ []) × (left ≡ [])) (λ x. fs ≡ (x.0.now, x.1.now) ∷ left) → is_some r ≡ not none → members_eq no_members (listed fs) ≡ none
ended None fs left none is tells = rw is.0 (ap not tells ∙ sym (twice none))
ended (Some x) fs left none is tells = rw is (ap not tells ∙ sym (twice none))
