-- Looking a file up among entries, and putting one there.
use Rattle.std.proofs.Common.{◌≡◌, ℕ, zero, suc, ◌+◌, ◌<◌, Bool, true, false, cond, List, [], ◌∷◌, ◌++◌, ◌||◌, length, get_or, set, refl, sym, ap, ◌∙◌, arith}
use Rattle.std.specs.Prelude.{Option, Some, None, option_map, position, find, bytes_eq}
use Rattle.std.specs.List.{list_any, position_from}
use Rattle.std.proofs.lemmas.Iterator.Adapters.{position_from-zero}
use Rattle.std.specs.Global.{Vec}
use Rattle.std.proofs.lemmas.List.Quantifiers.{position-Some}
use Rattle.std.proofs.lemmas.Slice.Eq.{bytes_eq-Decides}
use Rattle.outside.specs.declared.memory.entries.Entry.{Entry}
use Rattle.outside.specs.Helps.Entries.{named_bytes, has_name}
use Rattle.outside.specs.Files.{file_of}

-- what stands under a name, by the first entry that has it
cases_of : (name : List ℕ) (b : Bool) (e : Entry) (es : List Entry) → file_of (named_bytes es) name ≡ option_map (λ (e : Entry). e.bytes.items) (find (has_name name) es)
    → cond b (Some e.bytes.items) (file_of (named_bytes es) name) ≡ option_map (λ (e : Entry). e.bytes.items) (cond b (Some e) (find (has_name name) es))
cases_of name true e es rest = refl
cases_of name false e es rest = rest

pub file_of-named_bytes : (es : List Entry) (name : List ℕ) → file_of (named_bytes es) name ≡ option_map (λ (e : Entry). e.bytes.items) (find (has_name name) es)
file_of-named_bytes [] name = refl
file_of-named_bytes (e ∷ es) name = cases_of name (bytes_eq e.name name) e es (file_of-named_bytes es name)

-- no entry has the name
none_of : (name : List ℕ) (b : Bool) (e : Entry) (es : List Entry) → (list_any (has_name name) es ≡ false → file_of (named_bytes es) name ≡ None) → (b || list_any (has_name name) es) ≡ false
    → cond b (Some e.bytes.items) (file_of (named_bytes es) name) ≡ None
none_of name true e es rest h = absurd cc
none_of name false e es rest h = rest h

pub file_of-none : (es : List Entry) (name : List ℕ) → list_any (has_name name) es ≡ false → file_of (named_bytes es) name ≡ None
file_of-none [] name h = refl
file_of-none (e ∷ es) name h = none_of name (bytes_eq e.name name) e es (file_of-none es name) h

or-false : (a b : Bool) → (a || b) ≡ false → (a ≡ false) × (b ≡ false)
or-false true b h = absurd cc
or-false false b h = (refl, h)

-- the entry at the first place that has the name
pub file_of-at : (es : List Entry) (name : List ℕ) (i : ℕ) (d : Entry) → i < length es → has_name name (get_or es i d) ≡ true → ((k : ℕ) → k < i → has_name name (get_or es k d) ≡ false) → file_of (named_bytes es) name ≡ Some (get_or es i d).bytes.items
file_of-at [] name i d lt here before = absurd (omega arith)
file_of-at (e ∷ es) name zero d lt here before = rw here refl
file_of-at (e ∷ es) name (suc i) d lt here before =
    let first : bytes_eq e.name name ≡ false = before 0 (omega arith) in
    rw first (file_of-at es name i d (omega arith) here (λ k below. before (suc k) (omega arith)))

-- a test that was made before
shadowed : {A : Type 0} (b : Bool) (x y z : A) → cond b x z ≡ cond b x (cond b y z)
shadowed true x y z = refl
shadowed false x y z = refl

-- two tests of which at most one passes, in the other order
in_order : {A : Type 0} (b c : Bool) (x y z w : A) → w ≡ cond b x z → (b ≡ true → c ≡ true → ⊥) → cond c y w ≡ cond b x (cond c y z)
in_order true true x y z w e apart = absurd (apart refl refl)
in_order true false x y z w e apart = e
in_order false true x y z w e apart = refl
in_order false false x y z w e apart = e

-- one text can't be two others
apart_texts : (a b c : List ℕ) → bytes_eq a b ≡ false → bytes_eq b c ≡ true → bytes_eq a c ≡ true → ⊥
apart_texts a b c differ bc ac =
    let same : a ≡ b = (bytes_eq-Decides a c).0 ac ∙ sym ((bytes_eq-Decides b c).0 bc) in
    let told : bytes_eq a b ≡ true = (bytes_eq-Decides a b).1 same in
    absurd (cc)

-- putting bytes in the place of the first entry that has the name
pub file_of-put_at : (es : List Entry) (name other : List ℕ) (i : ℕ) (d : Entry) (bytes : Vec ℕ) → i < length es → has_name name (get_or es i d) ≡ true → ((k : ℕ) → k < i → has_name name (get_or es k d) ≡ false)
    → file_of (named_bytes (set es i (record { name = (get_or es i d).name; bytes = bytes }))) other ≡ cond (bytes_eq name other) (Some bytes.items) (file_of (named_bytes es) other)
file_of-put_at [] name other i d bytes lt here before = absurd (omega arith)
file_of-put_at (e ∷ es) name other zero d bytes lt here before =
    let same : name ≡ e.name = sym ((bytes_eq-Decides e.name name).0 here) in
    rw same (shadowed (bytes_eq e.name other) (Some bytes.items) (Some e.bytes.items) (file_of (named_bytes es) other))
file_of-put_at (e ∷ es) name other (suc i) d bytes lt here before =
    let rest = file_of-put_at es name other i d bytes (omega arith) here (λ k below. before (suc k) (omega arith)) in
    in_order (bytes_eq name other) (bytes_eq e.name other) (Some bytes.items) (Some e.bytes.items) (file_of (named_bytes es) other) _ rest (apart_texts e.name name other (before 0 (omega arith)))

-- putting bytes behind entries none of which has the name
pub file_of-put_new : (es : List Entry) (name other : List ℕ) (e : Entry) → e.name ≡ name → list_any (has_name name) es ≡ false
    → file_of (named_bytes (es ++ e ∷ [])) other ≡ cond (bytes_eq name other) (Some e.bytes.items) (file_of (named_bytes es) other)
file_of-put_new [] name other e same none = rw same refl
file_of-put_new (x ∷ es) name other e same none =
    let first = or-false (bytes_eq x.name name) (list_any (has_name name) es) none in
    let rest = file_of-put_new es name other e same first.1 in
    in_order (bytes_eq name other) (bytes_eq x.name other) (Some e.bytes.items) (Some x.bytes.items) (file_of (named_bytes es) other) _ rest (apart_texts x.name name other first.0)

-- where no place from the first on has the name, no entry has it
none_from : (name : List ℕ) (es : List Entry) (i : ℕ) → position_from (has_name name) i es ≡ None → list_any (has_name name) es ≡ false
none_from name [] i e = refl
none_from name (x ∷ es) i e = past (bytes_eq x.name name) (none_from name es (i + 1)) e
  where
    past : (b : Bool) → (position_from (has_name name) (i + 1) es ≡ None → list_any (has_name name) es ≡ false) → cond b (Some i) (position_from (has_name name) (i + 1) es) ≡ None → (b || list_any (has_name name) es) ≡ false
    past true rest e = absurd cc
    past false rest e = rest e

none_placed : (name : List ℕ) (es : List Entry) → position (has_name name) es ≡ None → list_any (has_name name) es ≡ false
none_placed name es e = none_from name es 0 (sym (position_from-zero (has_name name) es) ∙ e)

-- the look-up that was made, over the same entries and the same name
place_is : (slice es : List Entry) (text name : List ℕ) (r : Option ℕ) → slice ≡ es → text ≡ name → r ≡ position (has_name text) slice → position (has_name name) es ≡ r
place_is slice es text name r same_entries same_name found = sym (found ∙ ap (λ (t : List ℕ). position (has_name t) slice) same_name ∙ ap (position (has_name name)) same_entries)

pub get_none : (slice es : List Entry) (name : List ℕ) → slice ≡ es → None ≡ position (has_name name) slice → None ≡ file_of (named_bytes es) name
get_none slice es name same e = sym (file_of-none es name (none_placed name es (place_is slice es name name None same refl e)))

pub get_some : (slice es : List Entry) (name : List ℕ) (i : ℕ) (e : Entry) → slice ≡ es → Some i ≡ position (has_name name) slice → e ≡ get_or es i e → Some e.bytes.items ≡ file_of (named_bytes es) name
get_some slice es name i e same found here =
    let p = position-Some (has_name name) es i e (place_is slice es name name (Some i) same refl found) in
    ap (λ (x : Entry). Some x.bytes.items) here ∙ sym (file_of-at es name i e p.0 p.1 p.2)

pub put_some : (slice es : List Entry) (text name other : List ℕ) (i : ℕ) (e : Entry) (bytes : Vec ℕ) → slice ≡ es → text ≡ name → Some i ≡ position (has_name text) slice → e ≡ get_or es i e
    → file_of (named_bytes (set es i (record { name = e.name; bytes = bytes }))) other ≡ cond (bytes_eq name other) (Some bytes.items) (file_of (named_bytes es) other)
put_some slice es text name other i e bytes same_entries same_name found here =
    let p = position-Some (has_name name) es i e (place_is slice es text name (Some i) same_entries same_name found) in
    let made : Entry → Entry = λ x. record { name = x.name; bytes = bytes } in
    ap (λ (x : Entry). file_of (named_bytes (set es i (made x))) other) here ∙ file_of-put_at es name other i e bytes p.0 p.1 p.2

pub put_none : (slice es : List Entry) (text name other : List ℕ) (e : Entry) → slice ≡ es → text ≡ name → None ≡ position (has_name text) slice → e.name ≡ name
    → file_of (named_bytes (es ++ e ∷ [])) other ≡ cond (bytes_eq name other) (Some e.bytes.items) (file_of (named_bytes es) other)
put_none slice es text name other e same_entries same_name found same =
    file_of-put_new es name other e same (none_placed name es (place_is slice es text name None same_entries same_name found))
