-- Domains that are counted: one more, one less, and what their number says.
use Rattle.std.proofs.Common.{◌≡◌, ℕ, zero, suc, ◌+◌, ◌<◌, ◌≤◌, ◌^◌, Bool, true, false, cond, if◌then◌else◌, not, ◌||◌, nat_lt, List, [], ◌∷◌, ◌++◌, length, take, drop, get_or, slice_get, Option, Some, None, Result, Ok, Err, OnErr, refl, sym, ap, subst, ◌∙◌, arith}
use mir.Val.{bool_byte}
use Rattle.std.specs.Prelude.{unwrap_or}
use Rattle.std.specs.List.{AllByRecursion, IsDistinct, count_by, list_any}
use Rattle.std.specs.Prelude.{is_some}
use Rattle.std.specs.Map.{keys_of, lookup}
use Rattle.indexmap.specs.IndexMap.{insert_entry}
use Rattle.std.specs.Str.{bytes_eq}
use Rattle.std.proofs.lemmas.Bool.{lt-ltb}
use Rattle.std.proofs.lemmas.Cmp.{nat_list_eq_equiv}
use Rattle.std.proofs.lemmas.List.{drop_more, map-append, take-append-drop, take_more}
use Rattle.std.proofs.lemmas.List.Sums.{sum_by-cons}
use Rattle.std.proofs.lemmas.Map.Made.{is_some-lookup, length-from_same_keys}
use Rattle.std.proofs.lemmas.Option.{get_or_from_slice_get}
use Rattle.std.proofs.lemmas.Slice.Eq.{bytes_eq-Decides}
use Rattle.perm_base.specs.Patterns.{is_pattern}
use Rattle.perm_base.specs.declared.shapes.Fit.{Fit}
use Rattle.perm_base.specs.declared.shapes.Fit.TheVariants.{Exact}
use Rattle.policy_table.specs.Helps.Domains.{AreCounted, Counted, HasNoZero, count_of, pattern_count}
use Rattle.policy_table.specs.Limits.{different}
use Rattle.policy_table.proofs.LimitLemmas.{flipped, others, stands_still}
use Rattle.policy_table.proofs.RowLemmas.{absent_before, distinct_passing}

-- what holds holds where a call is refused
pub on_err : {T E : Type 0} (r : Result T E) (X : Type 0) → X → OnErr r X
on_err (Ok x) X is = tt
on_err (Err e) X is = is

-- one more passes a test or does not
pub count_cons : {X : Type 0} (p : X → Bool) (x : X) (xs : List X) → count_by p (x ∷ xs) ≡ cond (p x) 1 0 + count_by p xs
count_cons {X} p x xs = sum_by-cons (λ (y : X). cond (p y) 1 0) x xs

-- one domain more is counted
pub added : (texts : List (List ℕ)) (domain : List ℕ) (count : ℕ) (old new : Counted) → AreCounted texts old → count ≡ count_of old domain + 1
    → ((q : List ℕ) → lookup (bytes_eq q) new.entries ≡ cond (bytes_eq domain q) (Some count) (lookup (bytes_eq q) old.entries))
    → (seen : List ℕ) → seen ≡ domain → ((fit : Fit) → pattern_count new.patterns fit ≡ pattern_count old.patterns fit + (if is_pattern fit seen then 1 else 0)) → AreCounted (domain ∷ texts) new
added texts domain count old new are more updates seen is patterns = record {
  each = λ text. by text (bytes_eq domain text) refl;
  patterns = λ fit. omega (arith, patterns fit, ap (λ (t : List ℕ). cond {A = ℕ} (is_pattern fit t) 1 0) is, are.patterns fit, count_cons (is_pattern fit) domain texts);
}
  where
    by : (text : List ℕ) (b : Bool) → bytes_eq domain text ≡ b → count_of new text ≡ count_by (bytes_eq text) (domain ∷ texts)
    by text true e =
        let here : count_of new text ≡ count = ap (λ o. unwrap_or o 0) (updates text ∙ ap (λ (b : Bool). cond b (Some count) (lookup (bytes_eq text) old.entries)) e) in
        let same : count_of old domain ≡ count_of old text = ap (count_of old) ((bytes_eq-Decides domain text).0 e) in
        let one : cond {A = ℕ} (bytes_eq text domain) 1 0 ≡ 1 = ap (λ (b : Bool). cond {A = ℕ} b 1 0) (flipped text domain ∙ e) in
        omega (arith, here, same, more, one, are.each text, count_cons (bytes_eq text) domain texts)
    by text false e =
        let here : count_of new text ≡ count_of old text = ap (λ o. unwrap_or o 0) (updates text ∙ ap (λ (b : Bool). cond b (Some count) (lookup (bytes_eq text) old.entries)) e) in
        let none : cond {A = ℕ} (bytes_eq text domain) 1 0 ≡ 0 = ap (λ (b : Bool). cond {A = ℕ} b 1 0) (flipped text domain ∙ e) in
        omega (arith, here, none, are.each text, count_cons (bytes_eq text) domain texts)

-- a text that passes a test is counted no oftener than those that pass
fewer_same : (p : List ℕ → Bool) (domain : List ℕ) (texts : List (List ℕ)) → p domain ≡ true → count_by (bytes_eq domain) texts ≤ count_by p texts
fewer_same p domain [] is = omega arith
fewer_same p domain (x ∷ texts) is = by (bytes_eq domain x) refl (fewer_same p domain texts is)
  where
    by : (b : Bool) → bytes_eq domain x ≡ b → count_by (bytes_eq domain) texts ≤ count_by p texts → count_by (bytes_eq domain) (x ∷ texts) ≤ count_by p (x ∷ texts)
    by true e rest =
        let one : cond {A = ℕ} (p x) 1 0 ≡ 1 = ap (λ (b : Bool). cond {A = ℕ} b 1 0) (ap p (sym ((bytes_eq-Decides domain x).0 e)) ∙ is) in
        omega (arith, rest, one, ap (λ (b : Bool). cond {A = ℕ} b 1 0) e, count_cons p x texts, count_cons (bytes_eq domain) x texts)
    by false e rest = omega (arith, rest, ap (λ (b : Bool). cond {A = ℕ} b 1 0) e, count_cons p x texts, count_cons (bytes_eq domain) x texts)

-- a number that is not 0
above_zero : (n : ℕ) → (Some n ≡ Some 0 → ⊥) → 0 < n
above_zero zero never = absurd (never refl)
above_zero (suc n) never = omega arith

-- a test that does not hold
not_so : (b : Bool) → (b ≡ true → ⊥) → b ≡ false
not_so true never = absurd (never refl)
not_so false never = refl

-- a domain that is counted is no pattern where none is counted
none_again : (texts : List (List ℕ)) (domain : List ℕ) (count : ℕ) (old : Counted) → AreCounted texts old → lookup (bytes_eq domain) old.entries ≡ Some count → HasNoZero old.entries
    → (fit : Fit) → pattern_count old.patterns fit ≡ 0 → is_pattern fit domain ≡ false
none_again texts domain count old are there some fit none = not_so (is_pattern fit domain) (λ yes.
    absurd (omega (
      arith,
      none,
      are.patterns fit,
      are.each domain,
      ap (λ (o : Option ℕ). unwrap_or o 0) there,
      above_zero count (λ same. some domain (there ∙ same)),
      fewer_same (is_pattern fit) domain texts yes,
    )))

-- one more of a domain that is counted
pub added_again : (texts : List (List ℕ)) (domain : List ℕ) (count : ℕ) (old new : Counted) → AreCounted texts old → lookup (bytes_eq domain) old.entries ≡ Some count → HasNoZero old.entries
    → ((q : List ℕ) → lookup (bytes_eq q) new.entries ≡ cond (bytes_eq domain q) (Some (count + 1)) (lookup (bytes_eq q) old.entries)) → (seen : List ℕ) → seen ≡ domain
    → (((fit : Fit) → pattern_count old.patterns fit ≡ 0 → is_pattern fit seen ≡ false) → (fit : Fit) → pattern_count new.patterns fit ≡ pattern_count old.patterns fit + (if is_pattern fit seen then 1 else 0))
    → AreCounted (domain ∷ texts) new
added_again texts domain count old new are there some updates seen is patterns =
    added texts domain (count + 1) old new are (ap (λ (o : Option ℕ). unwrap_or o 0 + 1) (sym there)) updates seen is
    (patterns (λ fit none. ap (is_pattern fit) is ∙ none_again texts domain count old are there some fit none))

-- one domain less is counted
pub taken : (texts : List (List ℕ)) (domain : List ℕ) (left : Option ℕ) (old new : Counted) → AreCounted (domain ∷ texts) old → count_of old domain ≡ unwrap_or left 0 + 1
    → ((q : List ℕ) → lookup (bytes_eq q) new.entries ≡ cond (bytes_eq domain q) left (lookup (bytes_eq q) old.entries))
    → (seen : List ℕ) → seen ≡ domain → ((fit : Fit) → pattern_count old.patterns fit ≡ pattern_count new.patterns fit + (if is_pattern fit seen then 1 else 0)) → AreCounted texts new
taken texts domain left old new are less updates seen is patterns = record {
  each = λ text. by text (bytes_eq domain text) refl;
  patterns = λ fit. omega (arith, patterns fit, ap (λ (t : List ℕ). cond {A = ℕ} (is_pattern fit t) 1 0) is, are.patterns fit, count_cons (is_pattern fit) domain texts);
}
  where
    by : (text : List ℕ) (b : Bool) → bytes_eq domain text ≡ b → count_of new text ≡ count_by (bytes_eq text) texts
    by text true e =
        let here : count_of new text ≡ unwrap_or left 0 = ap (λ o. unwrap_or o 0) (updates text ∙ ap (λ (b : Bool). cond b left (lookup (bytes_eq text) old.entries)) e) in
        let same : count_of old domain ≡ count_of old text = ap (count_of old) ((bytes_eq-Decides domain text).0 e) in
        let one : cond {A = ℕ} (bytes_eq text domain) 1 0 ≡ 1 = ap (λ (b : Bool). cond {A = ℕ} b 1 0) (flipped text domain ∙ e) in
        omega (arith, here, same, less, one, are.each text, count_cons (bytes_eq text) domain texts)
    by text false e =
        let here : count_of new text ≡ count_of old text = ap (λ o. unwrap_or o 0) (updates text ∙ ap (λ (b : Bool). cond b left (lookup (bytes_eq text) old.entries)) e) in
        let none : cond {A = ℕ} (bytes_eq text domain) 1 0 ≡ 0 = ap (λ (b : Bool). cond {A = ℕ} b 1 0) (flipped text domain ∙ e) in
        omega (arith, here, none, are.each text, count_cons (bytes_eq text) domain texts)

-- one and the same count is of domains that are the same but for their order
pub recounted : (texts others : List (List ℕ)) (counted : Counted) → AreCounted texts counted → ((q : List ℕ → Bool) → count_by q others ≡ count_by q texts) → AreCounted others counted
recounted texts others counted are same = record {
  each = λ text. are.each text ∙ sym (same (bytes_eq text));
  patterns = λ fit. are.patterns fit ∙ sym (same (is_pattern fit));
}

-- a test as a number
pub byte_added : (n m : ℕ) (a b : Bool) → m ≡ bool_byte a → a ≡ b → n + m ≡ n + (if b then 1 else 0)
byte_added n m true true e s = ap (λ k. n + k) e
byte_added n m false false e s = ap (λ k. n + k) e
byte_added n m true false e s = absurd cc
byte_added n m false true e s = absurd cc

-- adds one at most
pub byte_fits : (n m : ℕ) (b : Bool) → m ≡ bool_byte b → n + 1 < 2 ^ 64 → n + m < 2 ^ 64
byte_fits n m true e few = omega (arith, e, few)
byte_fits n m false e few = omega (arith, e, few)

-- no text is a pattern of equality
pub no_pattern : (text : List ℕ) → 0 ≡ 0 + (if is_pattern Exact text then 1 else 0)
no_pattern [] = refl
no_pattern (byte ∷ text) = no_pattern text

-- what has the same entries and patterns counts the same
pub entries_stay : (texts : List (List ℕ)) (old new : Counted) → AreCounted texts old → new.entries ≡ old.entries → new.patterns ≡ old.patterns → AreCounted texts new
entries_stay texts old new are entries patterns = record {
  each = λ text. ap (λ (l : List (List ℕ × ℕ)). unwrap_or (lookup (bytes_eq text) l) 0) entries ∙ are.each text;
  patterns = λ fit. ap (λ p. pattern_count p fit) patterns ∙ are.patterns fit;
}

-- a domain that is counted is counted once at least
pub counted_some : (texts : List (List ℕ)) (domain : List ℕ) (counted : Counted) → AreCounted (domain ∷ texts) counted → 0 < count_of counted domain
counted_some texts domain counted are =
    let one : cond {A = ℕ} (bytes_eq domain domain) 1 0 ≡ 1 = ap (λ (b : Bool). cond {A = ℕ} b 1 0) ((bytes_eq-Decides domain domain).1 refl) in
    omega (arith, are.each domain, one, count_cons (bytes_eq domain) domain texts)

-- an absent key goes last
insert_last : (entries : List (List ℕ × ℕ)) (key : List ℕ) (value : ℕ) → list_any (bytes_eq key) (keys_of entries) ≡ false → insert_entry bytes_eq entries key value ≡ entries ++ (key, value) ∷ []
insert_last [] key value absent = refl
insert_last (e ∷ entries) key value absent = by (bytes_eq key e.0) absent (λ is. insert_last entries key value is)
  where
    by : (b : Bool) → (b || list_any (bytes_eq key) (keys_of entries)) ≡ false → (list_any (bytes_eq key) (keys_of entries) ≡ false → insert_entry bytes_eq entries key value ≡ entries ++ (key, value) ∷ [])
        → (if b then (e.0, value) ∷ entries else e ∷ insert_entry bytes_eq entries key value) ≡ e ∷ (entries ++ (key, value) ∷ [])
    by true is rest = absurd cc
    by false is rest = ap (λ (l : List (List ℕ × ℕ)). e ∷ l) (rest is)

-- entries that are inserted in turn stay in their order
pub entry_copied : (entries old new : List (List ℕ × ℕ)) (i : ℕ) (key : List ℕ) (value : ℕ) → IsDistinct bytes_eq (keys_of entries) → i < length entries → slice_get entries i ≡ Some (key, value)
    → old ≡ take i entries → new ≡ insert_entry bytes_eq old key value → new ≡ take (i + 1) entries
entry_copied entries old new i key value distinct within here kept inserted =
    let e : List ℕ × ℕ = (key, value) in
    let there : get_or entries i e ≡ e = get_or_from_slice_get entries i e e here in
    let parts : entries ≡ take i entries ++ e ∷ drop (i + 1) entries
    = sym (take-append-drop i entries) ∙ ap (λ l. take i entries ++ l) (drop_more entries i e within ∙ ap (λ y. y ∷ drop (i + 1) entries) there) in
    let keys : keys_of entries ≡ keys_of (take i entries) ++ key ∷ keys_of (drop (i + 1) entries)
    = ap keys_of parts ∙ map-append (λ (p : List ℕ × ℕ). p.0) (take i entries) (e ∷ drop (i + 1) entries) in
    let absent = absent_before bytes_eq bytes_eq-Decides (keys_of (take i entries)) (keys_of (drop (i + 1) entries)) key (subst (IsDistinct bytes_eq) keys distinct) in
    inserted ∙ ap (λ l. insert_entry bytes_eq l key value) kept ∙ insert_last (take i entries) key value absent
    ∙ sym (take_more entries i e within ∙ ap (λ y. take i entries ++ y ∷ []) there)

-- something passes where more than none is counted
pub any_counted : {X : Type 0} (p : X → Bool) (xs : List X) → list_any p xs ≡ nat_lt 0 (count_by p xs)
any_counted p [] = refl
any_counted p (x ∷ xs) = by (p x) refl (any_counted p xs)
  where
    by : (b : Bool) → p x ≡ b → list_any p xs ≡ nat_lt 0 (count_by p xs) → (b || list_any p xs) ≡ nat_lt 0 (count_by p (x ∷ xs))
    by true e rest = sym (lt-ltb 0 (count_by p (x ∷ xs)) (omega (arith, count_cons p x xs, ap (λ (c : Bool). cond {A = ℕ} c 1 0) e)))
    by false e rest =
        let same : count_by p xs ≡ count_by p (x ∷ xs) = omega (arith, count_cons p x xs, ap (λ (c : Bool). cond {A = ℕ} c 1 0) e) in
        rest ∙ ap (nat_lt 0) same

-- a text stands among the different ones where it stands
pub among_different : (y : List ℕ) (texts : List (List ℕ)) → list_any (bytes_eq y) (different texts) ≡ list_any (bytes_eq y) texts
unfolding different
among_different y [] = refl
among_different y (x ∷ texts) = by (bytes_eq y x) refl (among_different y texts)
  where
    by : (b : Bool) → bytes_eq y x ≡ b → list_any (bytes_eq y) (different texts) ≡ list_any (bytes_eq y) texts → (b || list_any (bytes_eq y) (others x (different texts))) ≡ (b || list_any (bytes_eq y) texts)
    by true e rest = refl
    by false e rest = stands_still x y (different texts) e ∙ rest

-- the others are apart from a text
apart_others : (x : List ℕ) (texts : List (List ℕ)) → AllByRecursion (λ other. bytes_eq x other ≡ false) (others x texts)
apart_others x [] = tt
apart_others x (y ∷ texts) = by (bytes_eq x y) refl (apart_others x texts)
  where
    by : (b : Bool) → bytes_eq x y ≡ b → AllByRecursion (λ other. bytes_eq x other ≡ false) (others x texts) → AllByRecursion (λ other. bytes_eq x other ≡ false) (cond (not b) (y ∷ others x texts) (others x texts))
    by true e rest = rest
    by false e rest = (e, rest)

-- different texts are distinct
pub distinct_different : (texts : List (List ℕ)) → IsDistinct bytes_eq (different texts)
unfolding IsDistinct different
distinct_different [] = tt
distinct_different (x ∷ texts) = (apart_others x (different texts), distinct_passing bytes_eq (λ other. not (bytes_eq x other)) (different texts) (distinct_different texts))

-- a key stands for what is counted
pub among_keys : (entries : List (List ℕ × ℕ)) → HasNoZero entries → (q : List ℕ) → list_any (bytes_eq q) (keys_of entries) ≡ nat_lt 0 (unwrap_or (lookup (bytes_eq q) entries) 0)
among_keys entries some q = sym (is_some-lookup (bytes_eq q) entries) ∙ told (lookup (bytes_eq q) entries) (some q)
  where
    above : (n : ℕ) → (Some n ≡ Some 0 → ⊥) → 0 < n
    above zero never = absurd (never refl)
    above (suc n) never = omega arith

    told : (o : Option ℕ) → (o ≡ Some 0 → ⊥) → is_some o ≡ nat_lt 0 (unwrap_or o 0)
    told None never = refl
    told (Some n) never = sym (lt-ltb 0 n (above n never))

-- the keys are as many as the different texts
pub keys_different : (texts : List (List ℕ)) (entries : List (List ℕ × ℕ)) → ((text : List ℕ) → unwrap_or (lookup (bytes_eq text) entries) 0 ≡ count_by (bytes_eq text) texts) → IsDistinct bytes_eq (keys_of entries) → HasNoZero entries
    → length (keys_of entries) ≡ length (different texts)
keys_different texts entries are distinct some =
    length-from_same_keys nat_list_eq_equiv (keys_of entries) (different texts) distinct (distinct_different texts)
    (λ q. among_keys entries some q ∙ ap (nat_lt 0) (are q) ∙ sym (any_counted (bytes_eq q) texts) ∙ sym (among_different q texts))
