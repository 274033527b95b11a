-- The test of two data is true exactly where they are one.
use Rattle.std.proofs.Common.{◌≡◌, ◌↔◌, IsTrue, Bool, true, false, ◌&&◌, List, [], ◌∷◌, map, true≢false, refl, sym, ap, ◌∙◌, subst}
use Rattle.std.proofs.lemmas.Bool.Decides.{Decides-int_eq}
use Rattle.std.proofs.lemmas.Slice.Eq.{bytes_eq-Decides}
use Rattle.std.specs.Bool.{Decides}
use Rattle.std.specs.Cmp.{IsEquivalence, IsPartialEquivalence, decided, partial_equiv_from_equiv, on_equiv, booleans_Decides}
use Rattle.std.specs.Hash.{Alike, on_Alike, same_Alike}
use Rattle.std.specs.Str.{bytes_eq}
use Rattle.perm_value.specs.Datum.{Datum, nothing, truth, whole, text, list, object, Items, items_of, no_items, item, Members, no_members, member}
use Rattle.perm_value.specs.Equality.{datum_eq, items_eq, members_eq, request_eq, value_eq, view_eq}
use Rattle.perm_value.specs.Hashed.{datum_fed, items_fed}
use Rattle.perm_value.specs.Seen.{datum, datum_of_view, items}
use Rattle.perm_value.specs.declared.value.Value.{Value}
use Rattle.perm_value.specs.declared.value.View.{View}

both : (a b : Bool) → (a && b) ≡ true → (a ≡ true) × (b ≡ true)
both true b h = (refl, h)
both false b h = absurd (true≢false (sym h))

mutual
  same_data : (a b : Datum) → datum_eq a b ≡ true → a ≡ b
  same_data nothing nothing h = refl
  same_data (truth a) (truth b) h = ap truth ((booleans_Decides a b).0 h)
  same_data (whole a) (whole b) h = ap whole ((Decides-int_eq a b).0 h)
  same_data (text a) (text b) h = ap text ((bytes_eq-Decides a b).0 h)
  same_data (list a) (list b) h = ap list (same_items a b h)
  same_data (object a) (object b) h = ap object (same_members a b h)
  same_data _ _ h = absurd (true≢false (sym h))

  same_items : (a b : Items) → items_eq a b ≡ true → a ≡ b
  same_items no_items no_items h = refl
  same_items (item a ds) (item b bs) h =
      let p = both (datum_eq a b) (items_eq ds bs) h in
      ap (λ d. item d ds) (same_data a b p.0) ∙ ap (item b) (same_items ds bs p.1)
  same_items _ _ h = absurd (true≢false (sym h))

  same_members : (a b : Members) → members_eq a b ≡ true → a ≡ b
  same_members no_members no_members h = refl
  same_members (member m a ds) (member n b bs) h =
      let p = both (bytes_eq m n && datum_eq a b) (members_eq ds bs) h in
      let q = both (bytes_eq m n) (datum_eq a b) p.0 in
      ap (λ name. member name a ds) ((bytes_eq-Decides m n).0 q.0) ∙ ap (λ d. member n d ds) (same_data a b q.1) ∙ ap (member n b) (same_members ds bs p.1)
  same_members _ _ h = absurd (true≢false (sym h))

mutual
  datum_itself : (a : Datum) → datum_eq a a ≡ true
  datum_itself nothing = refl
  datum_itself (truth a) = (booleans_Decides a a).1 refl
  datum_itself (whole a) = (Decides-int_eq a a).1 refl
  datum_itself (text a) = (bytes_eq-Decides a a).1 refl
  datum_itself (list a) = items_itself a
  datum_itself (object a) = members_itself a

  items_itself : (a : Items) → items_eq a a ≡ true
  items_itself no_items = refl
  items_itself (item a ds) = rw (datum_itself a) (items_itself ds)

  members_itself : (a : Members) → members_eq a a ≡ true
  members_itself no_members = refl
  members_itself (member n a ds) = rw ((bytes_eq-Decides n n).1 refl, datum_itself a) (members_itself ds)

pub datum_eq-Decides : (a b : Datum) → Decides (datum_eq a b) (a ≡ b)
datum_eq-Decides a b = (same_data a b, λ h. subst (λ d. datum_eq a d ≡ true) h (datum_itself a))

pub items_eq-Decides : (a b : Items) → Decides (items_eq a b) (a ≡ b)
items_eq-Decides a b = (same_items a b, λ h. subst (λ ds. items_eq a ds ≡ true) h (items_itself a))

pub view_eq-laws : IsPartialEquivalence view_eq
view_eq-laws = partial_equiv_from_equiv (on_equiv datum_of_view (decided datum_eq datum_eq-Decides))

pub value_eq-equiv : IsEquivalence value_eq
value_eq-equiv = on_equiv datum (decided datum_eq datum_eq-Decides)

pub request_eq-equiv : IsEquivalence request_eq
request_eq-equiv = on_equiv items (decided items_eq items_eq-Decides)

-- equal values are fed alike, and so are equal requests
pub value_fed-Alike : Alike value_eq (λ (v : Value). datum_fed (datum v))
value_fed-Alike = on_Alike datum (same_Alike datum_fed datum_eq-Decides)

pub request_fed-Alike : Alike request_eq (λ (vs : List Value). items_fed (items vs))
request_fed-Alike = on_Alike items (same_Alike items_fed items_eq-Decides)

decided_is_true : {P : Type 0} (r : Bool) → Decides r P → IsTrue r ↔ P
decided_is_true true d = (λ _. d.0 refl, λ _. refl)
decided_is_true false d = (λ h. absurd (true≢false (sym h)), λ p. d.1 p)

-- what `==` answers of two views is true exactly where they stand for one datum
pub equal_views : (a b : View) (r : Bool) → r ≡ view_eq a b → IsTrue r ↔ (datum_of_view a ≡ datum_of_view b)
equal_views a b r is = rw is (decided_is_true (view_eq a b) (datum_eq-Decides (datum_of_view a) (datum_of_view b)))

-- so it is of two values
pub equal_values : (a b : Value) (r : Bool) → r ≡ value_eq a b → IsTrue r ↔ (datum a ≡ datum b)
equal_values a b r is = rw is (decided_is_true (value_eq a b) (datum_eq-Decides (datum a) (datum b)))

-- the data of items
abbrev list_of : Items → List Datum
list_of no_items = []
list_of (item d ds) = d ∷ list_of ds

list_of_items : (ds : List Datum) → list_of (items_of ds) ≡ ds
list_of_items [] = refl
list_of_items (d ∷ ds) = ap (λ l. d ∷ l) (list_of_items ds)

-- and of two requests
pub equal_requests : (a b : List Value) (r : Bool) → r ≡ request_eq a b → IsTrue r ↔ (map datum a ≡ map datum b)
equal_requests a b r is =
    let decides = decided_is_true (request_eq a b) (items_eq-Decides (items a) (items b)) in
    rw is (λ h. sym (list_of_items (map datum a)) ∙ ap list_of (decides.0 h) ∙ list_of_items (map datum b), λ e. decides.1 (ap items_of e))
