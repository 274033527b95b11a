-- The members of an object: their names rise, and a look-up finds each.
use Rattle.std.proofs.Common.{◌≡◌, ℕ, Bool, true, false, cond, List, [], ◌∷◌, Option, Some, None, option_map, String, Global, BTreeMap, Ordering, Less, Equal, Greater, string_bytes, string_cmp, nat_cmp, is_eq, true≢false, rules, refl, sym, ap, ◌∙◌, subst}
use Rattle.std.proofs.lemmas.Cmp.{nat_list_cmp_total}
use Rattle.std.proofs.lemmas.Map.Text.{is_eq-slice_cmp}
use Rattle.std.proofs.lemmas.Slice.Eq.{bytes_eq-Decides}
use Rattle.std.specs.Borrow.{Bor}
use Rattle.std.specs.Option.{option_copied}
use Rattle.std.specs.BTreeMap.{is_at}
use Rattle.std.specs.Cmp.Lexicographic.{slice_cmp}
use Rattle.std.specs.List.{AllByRecursion}
use Rattle.std.specs.List.Sorted.{IsStrictlySortedBy}
use Rattle.std.specs.Map.{keys_of, lookup}
use Rattle.std.specs.Ordering.{match_ordering, ordering_reverse}
use Rattle.std.specs.Str.{bytes_eq}
use Rattle.perm_value.specs.Attribute.{member_of}
use Rattle.perm_value.specs.Datum.{Datum, object, Members, no_members, member, put_member, names_of, HasRisingNames, MembersHaveRisingNames}
use Rattle.perm_value.specs.Seen.{datum, members, members_of}
use Rattle.perm_value.specs.declared.value.Value.{Value, the_lemmas}
use Rattle.perm_value.specs.declared.value.Value.TheViews as value

abbrev pub Named : Type 0
Named = String Global × Value

abbrev Name : Type 0
Name = List ℕ

abbrev name_cmp : Name → Name → Ordering
name_cmp = slice_cmp nat_cmp

abbrev Rise : Members → Type 0
Rise ms = IsStrictlySortedBy name_cmp (names_of ms)

-- each name of the members is above this one
abbrev AreAbove : Name → Members → Type 0
AreAbove n ms = AllByRecursion (λ y. name_cmp n y ≡ Less) (names_of ms)

above_more : (a b : Name) (ms : Members) → name_cmp a b ≡ Less → AreAbove b ms → AreAbove a ms
above_more a b no_members below h = tt
above_more a b (member n d ms) below h = (nat_list_cmp_total.trans a b n below h.0, above_more a b ms below h.1)

same_name : (a b : Name) → name_cmp a b ≡ Equal → a ≡ b
same_name a b is = (bytes_eq-Decides a b).0 (sym (is_eq-slice_cmp a b) ∙ ap is_eq is)

turned : (a b : Name) → name_cmp a b ≡ Greater → name_cmp b a ≡ Less
turned a b is = nat_list_cmp_total.antisymm b a ∙ ap ordering_reverse is

above_put_at : (o : Ordering) (a k n : Name) (d e : Datum) (ms : Members) → name_cmp a k ≡ Less → AreAbove a (member n e ms) → AreAbove a (put_member k d ms)
    → AreAbove a (match_ordering o (member k d (member n e ms)) (member k d ms) (member n e (put_member k d ms)))
above_put_at Less a k n d e ms below h later = (below, h)
above_put_at Equal a k n d e ms below h later = (below, h.1)
above_put_at Greater a k n d e ms below h later = (h.0, later)

above_put : (a k : Name) (d : Datum) (ms : Members) → name_cmp a k ≡ Less → AreAbove a ms → AreAbove a (put_member k d ms)
above_put a k d no_members below h = (below, tt)
above_put a k d (member n e ms) below h = above_put_at (name_cmp k n) a k n d e ms below h (above_put a k d ms below h.1)

rise_put_at : (o : Ordering) (k n : Name) (d e : Datum) (ms : Members) → name_cmp k n ≡ o → Rise (member n e ms) → Rise (put_member k d ms)
    → Rise (match_ordering o (member k d (member n e ms)) (member k d ms) (member n e (put_member k d ms)))
unfolding IsStrictlySortedBy
rise_put_at Less k n d e ms is h later = ((is, above_more k n ms is h.0), h)
rise_put_at Equal k n d e ms is h later = (subst (λ m. AreAbove m ms) (sym (same_name k n is)) h.0, h.1)
rise_put_at Greater k n d e ms is h later = (above_put n k d ms (turned k n is) h.0, later)

rise_put : (k : Name) (d : Datum) (ms : Members) → Rise ms → Rise (put_member k d ms)
unfolding IsStrictlySortedBy
rise_put k d no_members h = (tt, tt)
rise_put k d (member n e ms) h = rise_put_at (name_cmp k n) k n d e ms refl h (rise_put k d ms h.1)

inner_put_at : (o : Ordering) (k n : Name) (d e : Datum) (ms : Members) → HasRisingNames d → MembersHaveRisingNames (member n e ms) → MembersHaveRisingNames (put_member k d ms)
    → MembersHaveRisingNames (match_ordering o (member k d (member n e ms)) (member k d ms) (member n e (put_member k d ms)))
inner_put_at Less k n d e ms here h later = (here, h)
inner_put_at Equal k n d e ms here h later = (here, h.1)
inner_put_at Greater k n d e ms here h later = (h.0, later)

pub inner_put : (k : Name) (d : Datum) (ms : Members) → HasRisingNames d → MembersHaveRisingNames ms → MembersHaveRisingNames (put_member k d ms)
inner_put k d no_members here h = (here, tt)
inner_put k d (member n e ms) here h = inner_put_at (name_cmp k n) k n d e ms here h (inner_put k d ms here h.1)

pub members_rise : (ms : List (String Global × Datum)) → Rise (members_of ms)
unfolding IsStrictlySortedBy
members_rise [] = tt
members_rise (m ∷ ms) = rise_put (string_bytes m.0) m.1 (members_of ms) (members_rise ms)

-- the members with no regard to their order
abbrev pub listed : List Named → Members
listed [] = no_members
listed (e ∷ es) = member (string_bytes e.0) (datum e.1) (listed es)

put_first : (k : Name) (d : Datum) (es : List Named) → AllByRecursion (λ y. name_cmp k (string_bytes y) ≡ Less) (keys_of es) → put_member k d (listed es) ≡ member k d (listed es)
put_first k d [] below = refl
put_first k d (e ∷ es) below = rw below.0 refl

-- members whose names rise stand as they are listed
pub members_listed : (es : List Named) → IsStrictlySortedBy string_cmp (keys_of es) → members es ≡ listed es
unfolding IsStrictlySortedBy
members_listed [] h = refl
members_listed (e ∷ es) h = ap (put_member (string_bytes e.0) (datum e.1)) (members_listed es h.1) ∙ put_first (string_bytes e.0) (datum e.1) es h.0

one_of_two : (b : Bool) (x y z : Option Datum) → cond b x (cond b y z) ≡ cond b x z
one_of_two true x y z = refl
one_of_two false x y z = refl

in_turn : (a b : Bool) (x y z : Option Datum) → (a ≡ true → b ≡ true → ⊥) → cond a x (cond b y z) ≡ cond b y (cond a x z)
in_turn true true x y z apart = absurd (apart refl refl)
in_turn true false x y z apart = refl
in_turn false true x y z apart = refl
in_turn false false x y z apart = refl

not_both : (q k n : Name) → name_cmp k n ≡ Greater → bytes_eq q n ≡ true → bytes_eq q k ≡ true → ⊥
not_both q k n is here there =
    let same : n ≡ k = sym ((bytes_eq-Decides q n).0 here) ∙ (bytes_eq-Decides q k).0 there in
    let tied : bytes_eq k n ≡ true = (bytes_eq-Decides k n).1 (sym same) in
    true≢false (sym tied ∙ sym (is_eq-slice_cmp k n) ∙ ap is_eq is)

look_put_at : (o : Ordering) (q k n : Name) (d e : Datum) (ms : Members) → name_cmp k n ≡ o → member_of (put_member k d ms) q ≡ cond (bytes_eq q k) (Some d) (member_of ms q)
    → member_of (match_ordering o (member k d (member n e ms)) (member k d ms) (member n e (put_member k d ms))) q ≡ cond (bytes_eq q k) (Some d) (member_of (member n e ms) q)
look_put_at Less q k n d e ms is later = refl
look_put_at Equal q k n d e ms is later = rw (← same_name k n is) (sym (one_of_two (bytes_eq q k) (Some d) (Some e) (member_of ms q)))
look_put_at Greater q k n d e ms is later = ap (cond (bytes_eq q n) (Some e)) later ∙ in_turn (bytes_eq q n) (bytes_eq q k) (Some e) (Some d) (member_of ms q) (not_both q k n is)

-- what a look-up finds once a datum was put at a name
look_put : (q k : Name) (d : Datum) (ms : Members) → member_of (put_member k d ms) q ≡ cond (bytes_eq q k) (Some d) (member_of ms q)
look_put q k d no_members = refl
look_put q k d (member n e ms) = look_put_at (name_cmp k n) q k n d e ms refl (look_put q k d ms)

found_or : (b : Bool) (v : Value) (rest : Option Value) (d : Option Datum) → option_map datum rest ≡ d → option_map datum (cond b (Some v) rest) ≡ cond b (Some (datum v)) d
found_or true v rest d is = refl
found_or false v rest d is = is

-- a look-up in the map finds the member's datum
pub datum-lookup : (name : Name) (es : List Named) → option_map datum (lookup (is_at (λ k. name_cmp name (string_bytes k))) es) ≡ member_of (members es) name
datum-lookup name [] = refl
datum-lookup name (e ∷ es) =
    ap (λ b. option_map datum (cond b (Some e.1) (lookup (is_at (λ k. name_cmp name (string_bytes k))) es))) (is_eq-slice_cmp name (string_bytes e.0))
    ∙ found_or (bytes_eq name (string_bytes e.0)) e.1 _ _ (datum-lookup name es)
    ∙ sym (look_put name (string_bytes e.0) (datum e.1) (members es))

pub datum-copied : (r : Option (Bor Value)) → option_map (λ v. datum v.now) r ≡ option_map datum (option_copied r)
datum-copied None = refl
datum-copied (Some v) = refl

pub datum_of_object : (v : Value) (m : BTreeMap (String Global) Value) → v ≡ value.Object m → datum v ≡ object (members m.entries)
datum_of_object v m is = rw is (search (rules, the_lemmas))
