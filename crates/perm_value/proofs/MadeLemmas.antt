-- Values that were made one by one of the parts of another value.
use Rattle.std.proofs.Common.{◌≡◌, List, [], ◌∷◌, ◌++◌, String, Global, string_bytes, Less, Greater, string_cmp, nat_cmp, sym, ap, ◌∙◌, subst, append_assoc}
use Rattle.std.proofs.lemmas.Cmp.{nat_list_cmp_total}
use Rattle.std.proofs.lemmas.List.{append-nil}
use Rattle.std.specs.Prelude.{⊤}
use Rattle.std.specs.BTreeMap.{insert_entry}
use Rattle.std.specs.Cmp.Lexicographic.{slice_cmp}
use Rattle.std.specs.List.{AllByRecursion}
use Rattle.std.specs.List.Sorted.{IsStrictlySortedBy}
use Rattle.std.specs.Map.{keys_of}
use Rattle.std.specs.Ordering.{match_ordering, ordering_reverse}
use Rattle.perm_value.specs.declared.value.Value.{Value}
use Rattle.perm_value.proofs.MemberLemmas.{Named}

-- each of the values was made of the part at its place
abbrev pub Made : {A : Type 0} → (A → Value → Type 0) → List A → List Value → Type 0
Made P [] [] = ⊤
Made P [] (v ∷ vs) = ⊥
Made P (x ∷ xs) [] = ⊥
Made P (x ∷ xs) (v ∷ vs) = P x v × Made P xs vs

pub made_end : {A : Type 0} (P : A → Value → Type 0) (xs : List A) (vs : List Value) (x : A) (v : Value) → Made P xs vs → P x v → Made P (xs ++ x ∷ []) (vs ++ v ∷ [])
made_end P [] [] x v made is = (is, tt)
made_end P [] (w ∷ vs) x v made is = absurd made
made_end P (y ∷ xs) [] x v made is = absurd made
made_end P (y ∷ xs) (w ∷ vs) x v made is = (made.0, made_end P xs vs x v made.1 is)

-- each of the members has the name of the entry at its place, and was made of its part
abbrev pub MembersMade : {A : Type 0} → (A → Value → Type 0) → List (String Global × A) → List Named → Type 0
MembersMade P [] [] = ⊤
MembersMade P [] (c ∷ cs) = ⊥
MembersMade P (e ∷ es) [] = ⊥
MembersMade P (e ∷ es) (c ∷ cs) = (string_bytes c.0 ≡ string_bytes e.0) × P e.1 c.1 × MembersMade P es cs

names_above : {A : Type 0} (P : A → Value → Type 0) (n : String Global) (e : String Global × A) (es : List (String Global × A)) (cs : List Named) → MembersMade P es cs
    → string_bytes n ≡ string_bytes e.0 → AllByRecursion (λ y. string_cmp e.0 y ≡ Less) (keys_of es) → AllByRecursion (λ y. string_cmp n y ≡ Less) (keys_of cs)
names_above P n e [] [] made same above = tt
names_above P n e [] (c ∷ cs) made same above = absurd made
names_above P n e (x ∷ es) [] made same above = absurd made
names_above P n e (x ∷ es) (c ∷ cs) made same above = (rw (same, made.0) above.0, names_above P n e es cs made.2 same above.1)

pub names_rise : {A : Type 0} (P : A → Value → Type 0) (es : List (String Global × A)) (cs : List Named) → MembersMade P es cs → IsStrictlySortedBy string_cmp (keys_of es) → IsStrictlySortedBy string_cmp (keys_of cs)
unfolding IsStrictlySortedBy
names_rise P [] [] made sorted = tt
names_rise P [] (c ∷ cs) made sorted = absurd made
names_rise P (e ∷ es) [] made sorted = absurd made
names_rise P (e ∷ es) (c ∷ cs) made sorted = (names_above P c.0 e es cs made.2 made.0 sorted.0, names_rise P es cs made.2 sorted.1)

below_middle : {A : Type 0} (first : String Global × A) (es : List (String Global × A)) (e : String Global × A) (more : List (String Global × A))
    → AllByRecursion (λ y. string_cmp first.0 y ≡ Less) (keys_of (es ++ e ∷ more)) → string_cmp first.0 e.0 ≡ Less
below_middle first [] e more h = h.0
below_middle first (x ∷ es) e more h = below_middle first es e more h.1

-- a member whose name is above those before it goes last
pub made_last : {A : Type 0} (P : A → Value → Type 0) (done : List (String Global × A)) (cs : List Named) (e : String Global × A) (more : List (String Global × A)) (name : String Global) (v : Value)
    → MembersMade P done cs → string_bytes name ≡ string_bytes e.0 → P e.1 v
    → IsStrictlySortedBy string_cmp (keys_of (done ++ e ∷ more)) → MembersMade P (done ++ e ∷ []) (insert_entry string_cmp cs name v)
unfolding IsStrictlySortedBy
made_last P [] [] e more name v made named is sorted = (named, is, tt)
made_last P [] (c ∷ cs) e more name v made named is sorted = absurd made
made_last P (first ∷ done) [] e more name v made named is sorted = absurd made
made_last P (first ∷ done) (c ∷ cs) e more name v made named is sorted =
    let above : slice_cmp nat_cmp (string_bytes e.0) (string_bytes first.0) ≡ Greater =
    nat_list_cmp_total.antisymm (string_bytes e.0) (string_bytes first.0) ∙ ap ordering_reverse (below_middle first done e more sorted.0) in
    let beyond : string_cmp name c.0 ≡ Greater = rw (named, made.0) above in
    subst (λ o. MembersMade P (first ∷ done ++ e ∷ []) (match_ordering o ((name, v) ∷ c ∷ cs) ((c.0, v) ∷ cs) (c ∷ insert_entry string_cmp cs name v))) (sym beyond)
    (made.0, made.1, made_last P done cs e more name v made.2 named is sorted.1)

-- one more of the entries, in their order, is a member under its name
pub members_step : {A : Type 0} (P : A → Value → Type 0) (entries done rest left : List (String Global × A)) (e : String Global × A) (cs now : List Named) (name : String Global) (v : Value)
    → entries ≡ done ++ rest → rest ≡ e ∷ left → IsStrictlySortedBy string_cmp (keys_of entries) → MembersMade P done cs → string_bytes name ≡ string_bytes e.0 → P e.1 v → now ≡ insert_entry string_cmp cs name v
    → (more : List (String Global × A)) × (entries ≡ more ++ left) × MembersMade P more now
members_step P entries done rest left e cs now name v parts next sorted made named is inserted =
    let all = parts ∙ ap (λ es. done ++ es) next in (
      done ++ e ∷ [],
      all ∙ sym (append_assoc done (e ∷ []) left),
      subst (MembersMade P (done ++ e ∷ [])) (sym inserted) (made_last P done cs e left name v made named is (subst (λ es. IsStrictlySortedBy string_cmp (keys_of es)) all sorted)),
    )

-- behind the last of the entries all are done
pub all_done : {A : Type 0} (entries done rest : List (String Global × A)) → entries ≡ done ++ rest → rest ≡ [] → IsStrictlySortedBy string_cmp (keys_of entries) → (entries ≡ done) × IsStrictlySortedBy string_cmp (keys_of done)
all_done entries done rest parts none sorted =
    let all = parts ∙ ap (λ es. done ++ es) none ∙ append-nil done in
    (all, subst (λ es. IsStrictlySortedBy string_cmp (keys_of es)) all sorted)
