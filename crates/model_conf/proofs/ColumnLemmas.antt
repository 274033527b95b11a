-- Identifiers, and columns by their places.
use Rattle.std.proofs.Common.{◌≡◌, ◌≢◌, ℕ, zero, suc, ◌+◌, ◌<◌, ◌≤◌, ◌||◌, Bool, true, false, Bor, List, [], ◌∷◌, ◌++◌, length, take, map, get_or, eqb, Contains, IsTrue, refl, sym, ap, ◌∙◌, subst, arith}
use Rattle.std.specs.List.{list_all, list_any, All}
use Rattle.std.proofs.lemmas.Bool.{and_parts, or_parts}
use Rattle.std.proofs.lemmas.Bool.Decides.{nat_tests}
use Rattle.std.proofs.lemmas.List.{append_assoc, map-append, length-map, length-take, get_or-map, get_or-take, get_or_default, take-map, take_all, take_more}
use Rattle.std.proofs.lemmas.List.Folds.{Any-from_list_any, list_all-map, list_any_at}
use Rattle.std.proofs.lemmas.Slice.Eq.{bytes_eq-Decides}
use Rattle.std.specs.Str.{bytes_eq}
use Rattle.std.specs.Prelude.{Any}
use Rattle.std.proofs.lemmas.List.Quantifiers.{all_pairs_push}
use Rattle.std.proofs.lemmas.List.Sums.{AllPass-from_list_all, list_all-from_AllPass}
use Rattle.perm_base.specs.LineEnds.{AreFields, has_line_end, is_line_end}
use Rattle.text_parts.specs.Lines.{has_byte}
use Rattle.text_parts.specs.Names.{is_word, is_identifier}
use Rattle.text_parts.proofs.CallerLemmas.{words_of}
use Rattle.std.proofs.lemmas.List.Splits.{slice_split_at, slice_split_none}
use Rattle.text_parts.specs.Blanks.{trimmed}
use Rattle.model_conf.specs.Columns.{AreColumns, AreDistinct, AreNames, columns_in}

-- ---- identifiers

-- an identifier holds no byte but those of words
lacks : (p : ℕ → Bool) → ((byte : ℕ) → is_word byte ≡ true → p byte ≡ false) → (name : List ℕ) → list_all is_word name ≡ true → list_any p name ≡ false
lacks p none [] all = refl
lacks p none (first ∷ others) all =
    let parts = and_parts (is_word first) (list_all is_word others) all in
    rw (none first parts.0, lacks p none others parts.1) refl

pub differs : (byte other : ℕ) → is_word byte ≡ false → is_word other ≡ true → eqb other byte ≡ false
differs byte other outside inside = grind (arith, nat_tests)

pub has_byte-identifier : (byte : ℕ) (name : List ℕ) → is_word byte ≡ false → IsTrue (is_identifier name) → has_byte byte name ≡ false
has_byte-identifier byte name outside is = lacks (λ b. eqb b byte) (λ b. differs byte b outside) name (words_of name is)

no_line_end : (byte : ℕ) → is_word byte ≡ true → is_line_end byte ≡ false
no_line_end byte inside = grind (arith, nat_tests)

has_line_end-identifier : (name : List ℕ) → IsTrue (is_identifier name) → has_line_end name ≡ false
has_line_end-identifier name is = lacks is_line_end no_line_end name (words_of name is)

no_line_ends : (names : List (List ℕ)) → AreNames names → list_any has_line_end names ≡ false
no_line_ends [] named = refl
no_line_ends (name ∷ names) named = rw (has_line_end-identifier name (named 0 [] (omega arith)), no_line_ends names (λ at d within. named (suc at) d (omega arith))) refl

-- ---- places

abbrev text_of : Bor (List ℕ) → List ℕ
text_of name = name.now

abbrev pub texts : List (Bor (List ℕ)) → List (List ℕ)
texts names = map (λ (n : Bor (List ℕ)). n.now) names

any_seen : (names : List (Bor (List ℕ))) (name : List ℕ) → list_any (λ (n : Bor (List ℕ)). bytes_eq n.now name) names ≡ list_any (λ (t : List ℕ). bytes_eq t name) (texts names)
any_seen [] name = refl
any_seen (n ∷ names) name = ap (λ (b : Bool). bytes_eq n.now name || b) (any_seen names name)

contained : (all : List (List ℕ)) (name : List ℕ) → Any (λ (t : List ℕ). bytes_eq t name ≡ true) all → Contains all name
contained all name (at, found, within, here, same) = (at, within, subst (λ (t : List ℕ). get_or all at t ≡ t) ((bytes_eq-Decides found name).0 same) here)

-- a search for a name
pub has_by_test : (names : List (Bor (List ℕ))) (name : List ℕ) (test : Bool) → test ≡ list_any (λ (n : Bor (List ℕ)). bytes_eq n.now name) names → (IsTrue test → Contains (texts names) name) × (Contains (texts names) name → IsTrue test)
has_by_test names name test told =
    let is : test ≡ list_any (λ (t : List ℕ). bytes_eq t name) (texts names) = told ∙ any_seen names name in
    (λ passed. contained (texts names) name (Any-from_list_any (λ (t : List ℕ). bytes_eq t name) (texts names) (sym is ∙ passed)), λ has. is ∙ list_any_at (λ (t : List ℕ). bytes_eq t name) (texts names) has.0 name has.1 ((bytes_eq-Decides (get_or (texts names) has.0 name) name).1 has.2))

-- a test of each name
pub named_by_test : (names : List (Bor (List ℕ))) (test : Bool) → test ≡ list_all (λ (n : Bor (List ℕ)). is_identifier n.now) names → (IsTrue test → AreNames (texts names)) × (AreNames (texts names) → IsTrue test)
named_by_test names test told =
    let is : test ≡ list_all is_identifier (texts names) = told ∙ sym (list_all-map is_identifier text_of names) in
    (λ passed. AllPass-from_list_all is_identifier (texts names) (sym is ∙ passed), λ named. is ∙ list_all-from_AllPass is_identifier (texts names) named)

pub taken_more : (fields more : List (List ℕ)) (names : List (Bor (List ℕ))) (d : Bor (List ℕ)) (at : ℕ) (text : List ℕ) → fields ≡ take at (texts names) → at < length names → text ≡ (get_or names at d).now → more ≡ fields ++ text ∷ [] → more ≡ take (at + 1) (texts names)
taken_more fields more names d at text taken within is pushed =
    let inside : at < length (texts names) = omega (arith, length-map names text_of) in
    let name : get_or (texts names) at [] ≡ text = get_or-map text_of names at d [] within ∙ sym is in
    pushed ∙ sym (rw (take_more (texts names) at [] inside, name, taken) refl)

-- ---- distinct names

pub distinct_more : (names : List (Bor (List ℕ))) (d : Bor (List ℕ)) (at : ℕ) → at < length names → AreDistinct (take at (texts names)) → ¬ (Contains (texts (take at names)) (get_or names at d).now) → AreDistinct (take (at + 1) (texts names))
distinct_more names d at within distinct fresh =
    let name = (get_or names at d).now in
    let inside : at < length (texts names) = omega (arith, length-map names text_of) in
    let is : get_or (texts names) at [] ≡ name = get_or-map text_of names at d [] within in
    let new : ¬ (Contains (take at (texts names)) name) = rw (take-map text_of at names) fresh in
    rw (take_more (texts names) at [] inside, is) (all_pairs_push (λ (a b : List ℕ). a ≢ b) (take at (texts names)) name distinct (λ k e before same. new (k, before, get_or_default _ k name e before ∙ same)))

-- a name that stands before
pub repeated : (names : List (Bor (List ℕ))) (d : Bor (List ℕ)) (at : ℕ) → at < length names → Contains (texts (take at names)) (get_or names at d).now → ¬ (AreDistinct (texts names))
repeated names d at within (i, shorter, found) distinct =
    let name = (get_or names at d).now in
    let before : i < at = omega (arith, length-map (take at names) text_of, length-take at names) in
    let inside : at < length (texts names) = omega (arith, length-map names text_of) in
    let first : get_or (texts (take at names)) i [] ≡ name = get_or_default (texts (take at names)) i [] name shorter ∙ found in
    let same : get_or (texts names) i [] ≡ get_or (texts (take at names)) i [] = sym (get_or-take at (texts names) i [] before) ∙ ap (λ (l : List (List ℕ)). get_or l i []) (take-map text_of at names) in
    distinct i at [] before inside (same ∙ first ∙ sym (get_or-map text_of names at d [] within))

pub distinct_all : (names : List (Bor (List ℕ))) (at : ℕ) → length names ≤ at → AreDistinct (take at (texts names)) → AreDistinct (texts names)
distinct_all names at past distinct =
    let all : take at (texts names) ≡ texts names = take_all at (texts names) (omega (arith, length-map names text_of)) in
    subst AreDistinct all distinct

-- all names are taken, as the fields of a rule
pub columns_are_fields : (fields : List (List ℕ)) (names : List (Bor (List ℕ))) (at : ℕ) → AreColumns (texts names) → length names ≤ at → fields ≡ take at (texts names) → AreFields fields
columns_are_fields fields names at are past taken =
    let all : texts names ≡ fields = sym (taken ∙ take_all at (texts names) (omega (arith, length-map names text_of))) in
    let columns : AreColumns fields = subst AreColumns all are in
    record { few = omega (arith, columns.few); whole_lines = no_line_ends fields columns.named }

-- ---- columns between commas

none_of : (p : ℕ → Bool) (text : List ℕ) → list_any p text ≡ false → All (λ (b : ℕ). p b ≡ false) text
none_of p [] none at d within = absurd (omega arith)
none_of p (first ∷ text) none zero d within = (or_parts _ _ none).0
none_of p (first ∷ text) none (suc at) d within = none_of p text (or_parts _ _ none).1 at d (omega arith)

pub columns_in-cut : (front behind : List ℕ) → has_byte 44 front ≡ false → columns_in (front ++ 44 ∷ behind) ≡ trimmed front ∷ columns_in behind
unfolding columns_in
columns_in-cut front behind none = ap (map trimmed) (slice_split_at (λ b. eqb b 44) front 44 behind (none_of (λ b. eqb b 44) front none) refl)

pub columns_in-last : (text : List ℕ) → has_byte 44 text ≡ false → columns_in text ≡ trimmed text ∷ []
unfolding columns_in
columns_in-last text none = ap (map trimmed) (slice_split_none (λ b. eqb b 44) text (none_of (λ b. eqb b 44) text none))

pub columns_more : (names more : List (Bor (List ℕ))) (new : Bor (List ℕ)) (rest name behind text : List ℕ) → more ≡ names ++ new ∷ [] → new.now ≡ trimmed name → rest ≡ name ++ 44 ∷ behind → has_byte 44 name ≡ false
    → texts names ++ columns_in rest ≡ columns_in text → texts more ++ columns_in behind ≡ columns_in text
columns_more names more new rest name behind text pushed is parts none so_far =
    let step : columns_in rest ≡ new.now ∷ columns_in behind = ap columns_in parts ∙ columns_in-cut name behind none ∙ ap (λ (n : List ℕ). n ∷ columns_in behind) (sym is) in
    ap (λ (l : List (Bor (List ℕ))). texts l ++ columns_in behind) pushed ∙ ap (λ (l : List (List ℕ)). l ++ columns_in behind) (map-append text_of names (new ∷ [])) ∙ append_assoc (texts names) (new.now ∷ []) (columns_in behind)
    ∙ ap (λ (l : List (List ℕ)). texts names ++ l) (sym step) ∙ so_far

pub columns_last : (names more : List (Bor (List ℕ))) (new : Bor (List ℕ)) (rest text : List ℕ) → more ≡ names ++ new ∷ [] → new.now ≡ trimmed rest → has_byte 44 rest ≡ false → texts names ++ columns_in rest ≡ columns_in text → texts more ≡ columns_in text
columns_last names more new rest text pushed is none so_far =
    let step : columns_in rest ≡ new.now ∷ [] = columns_in-last rest none ∙ ap (λ (n : List ℕ). n ∷ []) (sym is) in
    ap (λ (l : List (Bor (List ℕ))). texts l) pushed ∙ map-append text_of names (new ∷ []) ∙ ap (λ (l : List (List ℕ)). texts names ++ l) (sym step) ∙ so_far
