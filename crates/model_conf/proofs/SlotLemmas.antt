-- Relations by rising number, as one place for each key, which is declared or not.
use Rattle.std.proofs.Common.{◌≡◌, ℕ, suc, ◌+◌, ◌-◌, ◌<◌, ◌≤◌, Bool, true, false, cond, List, [], ◌∷◌, ◌++◌, length, map, get_or, eqb, codes, Option, Some, None, refl, sym, ap, ◌∙◌, subst, arith}
use Rattle.std.specs.Prelude.{⊤, find, option_and_then, option_map, position, slice_index}
use Rattle.std.specs.List.{AllByRecursion}
use Rattle.std.specs.List.Sorted.{IsStrictlyIncreasing}
use Rattle.std.specs.Option.{option_or}
use Rattle.std.specs.Str.{bytes_eq}
use Rattle.std.proofs.lemmas.Bool.{eqb-true, eqb-false, or_parts}
use Rattle.std.proofs.lemmas.List.{append_assoc, append-nil}
use Rattle.std.proofs.lemmas.List.Elements.{recursion_from_All}
use Rattle.std.proofs.lemmas.List.Folds.{list_any-append}
use Rattle.matcher_read.specs.Calls.{relation_names}
use Rattle.perm_base.specs.declared.shapes.Fit.TheVariants.{Exact}
use Rattle.perm_base.specs.declared.shapes.RoleShape.{RoleShape}
use Rattle.model_conf.specs.Kept.{AreRelations, IsRelation}
use Rattle.model_conf.specs.Printed.{relation_entry}
use Rattle.model_conf.specs.Relations.{bad_shape, first_bad_shape, relations_from, shape, value_of, with_domain_of, with_relation}
use Rattle.model_conf.specs.Sections.{Entry, entry, is_key_of}

-- ---- the value of a key

pub value_behind : (front back : List Entry) (key : List ℕ) → is_key_of front key ≡ false → value_of (front ++ back) key ≡ value_of back key
value_behind [] back key none = refl
value_behind (e ∷ front) back key none =
    let parts = or_parts (bytes_eq e.key key) (is_key_of front key) none in
    ap (λ (b : Bool). option_map (λ (x : Entry). x.value) (cond b (Some e) (find (λ (x : Entry). bytes_eq x.key key) (front ++ back)))) parts.0 ∙ value_behind front back key parts.1

no_value : (entries : List Entry) (key : List ℕ) → is_key_of entries key ≡ false → value_of entries key ≡ None
no_value entries key none = ap (λ (l : List Entry). value_of l key) (sym (append-nil entries)) ∙ value_behind entries [] key none

value_first : (e : Entry) (back : List Entry) (key : List ℕ) → bytes_eq e.key key ≡ true → value_of (e ∷ back) key ≡ Some e.value
value_first e back key same = ap (λ (b : Bool). option_map (λ (x : Entry). x.value) (cond b (Some e) (find (λ (x : Entry). bytes_eq x.key key) back))) same

pub no_key-append : (front back : List Entry) (key : List ℕ) → is_key_of front key ≡ false → is_key_of back key ≡ false → is_key_of (front ++ back) key ≡ false
no_key-append front back key one two = list_any-append (λ (e : Entry). bytes_eq e.key key) front back ∙ rw (one, two) refl

-- ---- places of keys

-- how a shape is written
abbrev pub shape_text : Bool → List ℕ
shape_text with_domain = cond with_domain (codes "_, _, _") (codes "_, _")

abbrev pub with_entry : List ℕ → Option Bool → List Entry → List Entry
with_entry name None others = others
with_entry name (Some with_domain) others = entry name (shape_text with_domain) ∷ others

-- the entries of these keys that are declared
abbrev pub slot_entries : List (List ℕ) → List (Option Bool) → List Entry
slot_entries [] slots = []
slot_entries (name ∷ names) [] = []
slot_entries (name ∷ names) (declared ∷ slots) = with_entry name declared (slot_entries names slots)

-- their relations, numbered from here on
abbrev pub slot_relations : ℕ → List (Option Bool) → List RoleShape
slot_relations number [] = []
slot_relations number (declared ∷ slots) = with_relation number declared (slot_relations (number + 1) slots)

-- none of the entries has one of these keys
abbrev pub AreFresh : List Entry → List (List ℕ) → Type 0
AreFresh entries names = AllByRecursion (λ (name : List ℕ). is_key_of entries name ≡ false) names

-- none of the others is this key
abbrev pub IsOther : List ℕ → List (List ℕ) → Type 0
IsOther name others = AllByRecursion (λ (other : List ℕ). (bytes_eq name other ≡ false) × (bytes_eq other name ≡ false)) others

-- each key is itself, and none of those behind it
abbrev pub AreApart : List (List ℕ) → Type 0
AreApart [] = ⊤
AreApart (name ∷ names) = (bytes_eq name name ≡ true) × IsOther name names × AreApart names

pub slots_lack : (key : List ℕ) (names : List (List ℕ)) (slots : List (Option Bool)) → AllByRecursion (λ (name : List ℕ). bytes_eq name key ≡ false) names → is_key_of (slot_entries names slots) key ≡ false
slots_lack key [] slots all = refl
slots_lack key (name ∷ names) [] all = refl
slots_lack key (name ∷ names) (None ∷ slots) all = slots_lack key names slots all.1
slots_lack key (name ∷ names) (Some with_domain ∷ slots) all = rw (all.0, slots_lack key names slots all.1) refl

others_lack : (name : List ℕ) (names : List (List ℕ)) → IsOther name names → AllByRecursion (λ (other : List ℕ). bytes_eq other name ≡ false) names
others_lack name [] all = tt
others_lack name (other ∷ names) all = (all.0.1, others_lack name names all.1)

pub fresh_more : (entries : List Entry) (name text : List ℕ) (names : List (List ℕ)) → AreFresh entries names → IsOther name names → AreFresh (entries ++ entry name text ∷ []) names
fresh_more entries name text [] fresh others = tt
fresh_more entries name text (other ∷ names) fresh others =
    (no_key-append entries (entry name text ∷ []) other fresh.0 (rw others.0.0 refl), fresh_more entries name text names fresh.1 others.1)

-- ---- the relations of entries

shape_read : (with_domain : Bool) → with_domain_of (shape_text with_domain) ≡ Some with_domain
unfolding with_domain_of
shape_read true = refl
shape_read false = refl

pub slots_read : (number : ℕ) (names : List (List ℕ)) (slots : List (Option Bool)) (before after all : List Entry) → length slots ≡ length names → AreApart names → AreFresh before names → AreFresh after names
    → all ≡ before ++ (slot_entries names slots ++ after) → relations_from all number names ≡ slot_relations number slots
slots_read number [] [] before after all counted apart_ fresh lack e = refl
slots_read number [] (o ∷ slots) before after all counted apart_ fresh lack e = absurd (omega (arith, counted))
slots_read number (name ∷ names) [] before after all counted apart_ fresh lack e = absurd (omega (arith, counted))
slots_read number (name ∷ names) (None ∷ slots) before after all counted apart_ fresh lack e =
    let none : value_of all name ≡ None =
    ap (λ (l : List Entry). value_of l name) e ∙ value_behind before (slot_entries names slots ++ after) name fresh.0
    ∙ no_value (slot_entries names slots ++ after) name (no_key-append (slot_entries names slots) after name (slots_lack name names slots (others_lack name names apart_.1)) lack.0) in
    ap (λ (o : Option (List ℕ)). with_relation number (option_and_then with_domain_of o) (relations_from all (number + 1) names)) none
    ∙ slots_read (number + 1) names slots before after all (omega (arith, counted)) apart_.2 fresh.1 lack.1 e
slots_read number (name ∷ names) (Some with_domain ∷ slots) before after all counted apart_ fresh lack e =
    let first : Entry = entry name (shape_text with_domain) in
    let some : value_of all name ≡ Some (shape_text with_domain) =
    ap (λ (l : List Entry). value_of l name) e ∙ value_behind before (first ∷ (slot_entries names slots ++ after)) name fresh.0 ∙ value_first first (slot_entries names slots ++ after) name apart_.0 in
    let rest = slots_read (number + 1) names slots (before ++ first ∷ []) after all (omega (arith, counted)) apart_.2 (fresh_more before name (shape_text with_domain) names fresh.1 apart_.1) lack.1
    (e ∙ sym (append_assoc before (first ∷ []) (slot_entries names slots ++ after))) in
    ap (λ (o : Option (List ℕ)). with_relation number (option_and_then with_domain_of o) (relations_from all (number + 1) names)) some
    ∙ ap (λ (o : Option Bool). with_relation number o (relations_from all (number + 1) names)) (shape_read with_domain) ∙ ap (λ (l : List RoleShape). shape number with_domain ∷ l) rest

shape_fine : (place : Option ℕ) (declared : Option Bool) (with_domain : Bool) → declared ≡ Some with_domain → bad_shape place declared ≡ None
shape_fine None declared with_domain e = refl
shape_fine (Some place) declared with_domain e = ap (bad_shape (Some place)) e

pub slots_fine : (names : List (List ℕ)) (slots : List (Option Bool)) (after : List Entry) → first_bad_shape after ≡ None → first_bad_shape (slot_entries names slots ++ after) ≡ None
unfolding first_bad_shape
slots_fine [] slots after fine = fine
slots_fine (name ∷ names) [] after fine = fine
slots_fine (name ∷ names) (None ∷ slots) after fine = slots_fine names slots after fine
slots_fine (name ∷ names) (Some with_domain ∷ slots) after fine =
    ap (λ (o : Option ℕ). option_or o (first_bad_shape (slot_entries names slots ++ after))) (shape_fine (position (bytes_eq name) relation_names) (with_domain_of (shape_text with_domain)) with_domain (shape_read with_domain))
    ∙ slots_fine names slots after fine

-- ---- relations that rise have such places

-- relations from a number on that rise
abbrev Rises : ℕ → List RoleShape → Type 0
Rises low [] = ⊤
Rises low (s ∷ relations) = (low ≤ s.number) × IsRelation s × Rises (s.number + 1) relations

abbrev numbers : List RoleShape → List ℕ
numbers relations = map (λ (s : RoleShape). s.number) relations

rises : (relations : List RoleShape) (low : ℕ) → AllByRecursion IsRelation relations → IsStrictlyIncreasing (numbers relations) → (0 < length relations → low ≤ slice_index (numbers relations) 0) → Rises low relations
rises [] low each rising above = tt
rises (s ∷ relations) low each rising above = (
  above (omega arith),
  each.0,
  rises relations (s.number + 1) each.1 (λ k within.
      let next : suc k + 1 ≡ suc (k + 1) = omega arith in
      subst (λ (i : ℕ). slice_index (numbers (s ∷ relations)) (suc k) < slice_index (numbers (s ∷ relations)) i) next (rising (suc k) (omega arith)))
      (λ some. behind relations some (rising 0)),
)
  where
    behind : (relations : List RoleShape) → 0 < length relations → (0 + 1 < length (numbers (s ∷ relations)) → s.number < slice_index (numbers relations) 0) → s.number + 1 ≤ slice_index (numbers relations) 0
    behind [] some first = absurd (omega arith)
    behind (t ∷ relations) some first = omega (arith, first (omega arith))

-- one place for each key
pub record HasSlots (number : ℕ) (names : List (List ℕ)) (relations : List RoleShape) : Type 0 where
  pub slots : List (Option Bool)
  pub counted : length slots ≡ length names
  pub relations_are : relations ≡ slot_relations number slots
  pub entries_are : map relation_entry relations ≡ slot_entries names slots

-- the keys are those of the relations from a number on
abbrev AreFrom : ℕ → List (List ℕ) → Type 0
AreFrom number names = (at : ℕ) → get_or names at [] ≡ get_or relation_names (number - 1 + at) []

from_next : (number : ℕ) (name : List ℕ) (names : List (List ℕ)) → 0 < number → AreFrom number (name ∷ names) → AreFrom (number + 1) names
from_next number name names some are = λ at.
    let next : number - 1 + suc at ≡ number + 1 - 1 + at = omega arith in
    are (suc at) ∙ ap (λ (i : ℕ). get_or relation_names i []) next

no_more_slots : (number : ℕ) (name : List ℕ) (names : List (List ℕ)) (relations : List RoleShape) → HasSlots (number + 1) names relations → HasSlots number (name ∷ names) relations
no_more_slots number name names relations h =
    record { slots = None ∷ h.slots; counted = ap suc h.counted; relations_are = h.relations_are; entries_are = h.entries_are }

shape_is : (s : RoleShape) (number : ℕ) → IsRelation s → s.number ≡ number → s ≡ shape number s.with_domain
shape_is s number is e =
    let kept : s ≡ record { number = s.number; with_domain = s.with_domain; names = s.names; domains = s.domains } = refl in
    kept ∙ ap (λ (n : ℕ). record { number = n; with_domain = s.with_domain; names = s.names; domains = s.domains }) e
    ∙ ap (λ f. record { number = number; with_domain = s.with_domain; names = f; domains = s.domains }) is.names
    ∙ ap (λ f. record { number = number; with_domain = s.with_domain; names = Exact; domains = f }) is.domains

entry_is : (s : RoleShape) (number : ℕ) (name : List ℕ) → s.number ≡ number → name ≡ get_or relation_names (number - 1 + 0) [] → relation_entry s ≡ entry name (shape_text s.with_domain)
entry_is s number name e is =
    let same : s.number - 1 ≡ number - 1 + 0 = omega (arith, e) in
    ap (λ (n : List ℕ). entry n (shape_text s.with_domain)) (ap (λ (i : ℕ). get_or relation_names i []) same ∙ sym is)

one_slot : (number : ℕ) (name : List ℕ) (names : List (List ℕ)) (s : RoleShape) (relations : List RoleShape) → AreFrom number (name ∷ names) → IsRelation s → s.number ≡ number → HasSlots (number + 1) names relations → HasSlots number (name ∷ names) (s ∷ relations)
one_slot number name names s relations are is e h = record {
  slots = Some s.with_domain ∷ h.slots;
  counted = ap suc h.counted;
  relations_are = ap (λ (x : RoleShape). x ∷ relations) (shape_is s number is e) ∙ ap (λ (l : List RoleShape). shape number s.with_domain ∷ l) h.relations_are;
  entries_are = ap (λ (x : Entry). x ∷ map relation_entry relations) (entry_is s number name e (are 0)) ∙ ap (λ (l : List Entry). entry name (shape_text s.with_domain) ∷ l) h.entries_are;
}

slots_some : (number : ℕ) (names : List (List ℕ)) (relations : List RoleShape) → 0 < number → number + length names ≡ 9 → AreFrom number names → Rises number relations → HasSlots number names relations
slots_some number [] [] some counted are rise = record { slots = []; counted = refl; relations_are = refl; entries_are = refl }
slots_some number [] (s ∷ relations) some counted are rise = absurd (omega (arith, counted, rise.0, rise.1.numbered.few))
slots_some number (name ∷ names) [] some counted are rise =
    no_more_slots number name names [] (slots_some (number + 1) names [] (omega arith) (omega (arith, counted)) (from_next number name names some are) tt)
slots_some number (name ∷ names) (s ∷ relations) some counted are rise =
    by_test (eqb s.number number) refl (λ others up. slots_some (number + 1) names others (omega arith) (omega (arith, counted)) (from_next number name names some are) up)
  where
    above : (n low : ℕ) → ¬ (n ≡ low) → low ≤ n → low + 1 ≤ n
    above n low differs le = grind arith

    by_test : (test : Bool) → eqb s.number number ≡ test → ((others : List RoleShape) → Rises (number + 1) others → HasSlots (number + 1) names others) → HasSlots number (name ∷ names) (s ∷ relations)
    by_test true e more =
        let same : s.number ≡ number = eqb-true s.number number e in
        one_slot number name names s relations are rise.1 same (more relations (subst (λ (n : ℕ). Rises (n + 1) relations) same rise.2))
    by_test false e more =
        no_more_slots number name names (s ∷ relations) (more (s ∷ relations) (above s.number number (eqb-false s.number number e) rise.0, rise.1, rise.2))

pub slots_of : (relations : List RoleShape) → AreRelations relations → HasSlots 1 relation_names relations
slots_of relations are =
    slots_some 1 relation_names relations (omega arith) refl (λ at. ap (λ (i : ℕ). get_or relation_names i []) (zero_first at))
    (rises relations 1 (recursion_from_All _ _ are.each) are.rising (λ some. first relations some (recursion_from_All _ _ are.each)))
  where
    zero_first : (at : ℕ) → at ≡ 1 - 1 + at
    zero_first at = omega arith

    first : (relations : List RoleShape) → 0 < length relations → AllByRecursion IsRelation relations → 1 ≤ slice_index (numbers relations) 0
    first [] some each = absurd (omega arith)
    first (s ∷ relations) some each = omega (arith, each.0.numbered.some)
