-- What rows bring to the domain of a text, one row after the other.
use Rattle.std.proofs.Common.{◌≡◌, ◌<◌, ◌+◌, ◌↔◌, ◌&&◌, ◌||◌, ℕ, zero, suc, Bool, true, false, List, [], ◌∷◌, ◌++◌, IsTrue, if◌then◌else◌, length, take, get_or, refl, sym, ap, subst, ◌∙◌, arith}
use Rattle.std.specs.Prelude.{All}
use Rattle.std.specs.List.{AllByRecursion, IsDistinct, list_any}
use Rattle.std.specs.Str.{bytes_eq}
use Rattle.std.proofs.lemmas.Bool.{false≢true}
use Rattle.std.proofs.lemmas.Cmp.{nat_list_eq_equiv}
use Rattle.std.proofs.lemmas.List.{take_more}
use Rattle.std.proofs.lemmas.List.Elements.{All-nil, All-push}
use Rattle.std.proofs.lemmas.List.Folds.{list_any_more}
use Rattle.perm_base.specs.Patterns.{is_pattern}
use Rattle.perm_base.specs.declared.shapes.Fit.{Fit}
use Rattle.policy_table.specs.Tables.{Fields, same}
use Rattle.role_domain.specs.Helps.Tallies.{Brings, Tallies, meets, own_at, rows_at}
use Rattle.role_domain.specs.Relations.{Tells, pair_of}
use Rattle.role_domain.proofs.CountLemmas.{count_more}
use Rattle.role_domain.proofs.Keyed.{same_text}
use Rattle.role_graph.specs.Groups.{times}
use Rattle.role_graph.proofs.CallerLemmas.{once, times_more}
use Rattle.role_meaning.specs.Fits.{Fits}
use Rattle.role_meaning.specs.Links.{domain_of}

-- a test for each text tells which texts it fits
abbrev pub FitsDecided : Type 0
FitsDecided = (fit : Fit) (name pattern : List ℕ) → (b : Bool) × (IsTrue b ↔ Fits fit name pattern)

-- the test of a text
pub test_of : FitsDecided → Fit → List ℕ → List ℕ → Bool
test_of decided fit text pattern = (decided fit text pattern).0

pub tells_of : (decided : FitsDecided) (fit : Fit) (text : List ℕ) → Tells fit text (test_of decided fit text)
unfolding test_of
tells_of decided fit text = record { told = λ pattern. (decided fit text pattern).1 }

-- before the first row
pub brings_none : (fit : Fit) (there : Bool) (text : List ℕ) (tallies : Tallies) → tallies ≡ [] → Brings fit there text [] tallies
brings_none fit there text tallies none = subst (Brings fit there text []) (sym none) (record {
  own = refl;
  two = All-nil (λ (row : Fields). length row ≡ 2);
  pairs = λ test tells one. refl;
})

-- one row more
pub brings_more : (fit : Fit) (there : Bool) (text : List ℕ) (rows : List Fields) (row : Fields) (old new : Tallies) (some : List ℕ → Bool) → Tells fit text some
    → own_at new text ≡ own_at old text + once (bytes_eq text (domain_of row))
    → ((test : List ℕ → Bool) → Tells fit text test → rows_at new text ≡ (if meets fit there text test (domain_of row) then rows_at old text ++ pair_of row ∷ [] else rows_at old text))
    → Brings fit there text rows old → Brings fit there text (rows ++ row ∷ []) new
brings_more fit there text rows row old new some tells own more brings = record {
  own = omega (arith, own, brings.own, count_more (λ (r : Fields). bytes_eq text (domain_of r)) rows row);
  two = subst (All (λ (r : Fields). length r ≡ 2)) (sym (more some tells)) (two (meets fit there text some (domain_of row)));
  pairs = λ test is one.
      (let here : times one (rows_at new text) ≡ times one (rows_at old text) + once (meets fit there text test (domain_of row) && same one (pair_of row)) = ap (times one) (more test is) ∙ by (meets fit there text test (domain_of row)) one in
      omega (arith, here, brings.pairs test is one, count_more (λ (r : Fields). meets fit there text test (domain_of r) && same one (pair_of r)) rows row));
}
  where
    two : (b : Bool) → All (λ (r : Fields). length r ≡ 2) (if b then rows_at old text ++ pair_of row ∷ [] else rows_at old text)
    two true = All-push (λ (r : Fields). length r ≡ 2) (rows_at old text) (pair_of row) brings.two refl
    two false = brings.two

    by : (b : Bool) (one : Fields) → times one (if b then rows_at old text ++ pair_of row ∷ [] else rows_at old text) ≡ times one (rows_at old text) + once (b && same one (pair_of row))
    by true one = times_more one (pair_of row) (rows_at old text)
    by false one = omega arith

-- a row with a pattern as its domain, and another
pub meets_pattern : (fit : Fit) (there : Bool) (text : List ℕ) (test : List ℕ → Bool) (domain : List ℕ) → is_pattern fit domain ≡ true → meets fit there text test domain ≡ (there && test domain)
meets_pattern fit there text test domain is = ap (λ (b : Bool). if b then there && test domain else bytes_eq text domain) is

pub meets_plain : (fit : Fit) (there : Bool) (text : List ℕ) (test : List ℕ → Bool) (domain : List ℕ) → is_pattern fit domain ≡ false → meets fit there text test domain ≡ bytes_eq text domain
meets_plain fit there text test domain is = ap (λ (b : Bool). if b then there && test domain else bytes_eq text domain) is

-- rows up to a place, and one more
pub brings_next : (fit : Fit) (there : Bool) (text : List ℕ) (rows : List Fields) (at : ℕ) (row : Fields) (tallies : Tallies) → at < length rows → row ≡ get_or rows at row → Brings fit there text (take at rows ++ row ∷ []) tallies → Brings fit there text (take (at + 1) rows) tallies
brings_next fit there text rows at row tallies within is brings =
    subst (λ (l : List Fields). Brings fit there text l tallies) (sym (take_more rows at row within ∙ ap (λ (r : Fields). take at rows ++ r ∷ []) (sym is))) brings

-- ---- the keys of a map, one after the other

-- a key stands for the first time at its place
pub first_there : (keys : List (List ℕ)) (at : ℕ) (text : List ℕ) → IsDistinct bytes_eq keys → at < length keys → get_or keys at [] ≡ text → list_any (bytes_eq text) (take at keys) ≡ false
unfolding IsDistinct
first_there [] at text distinct within is = absurd (omega arith)
first_there (key ∷ keys) zero text distinct within is = refl
first_there (key ∷ keys) (suc at) text distinct within is =
    ap (λ (b : Bool). b || list_any (bytes_eq text) (take at keys)) (nat_list_eq_equiv.symm text key ∙ apart keys at distinct.0 (omega (arith, within)) is)
    ∙ first_there keys at text distinct.1 (omega (arith, within)) is
  where
    apart : (others : List (List ℕ)) (k : ℕ) → AllByRecursion (λ (other : List ℕ). bytes_eq key other ≡ false) others → k < length others → get_or others k [] ≡ text → bytes_eq key text ≡ false
    apart [] k all low here = absurd (omega arith)
    apart (other ∷ others) zero all low here = subst (λ (t : List ℕ). bytes_eq key t ≡ false) here all.0
    apart (other ∷ others) (suc k) all low here = apart others k all.1 (omega (arith, low)) here

-- the rows of a text, where those of the keys before a place got one more if the test passes
abbrev pub after_keys : List (List ℕ) → ℕ → Bool → List ℕ → List Fields → Fields → List Fields
after_keys keys at passes text rows pair = if list_any (bytes_eq text) (take at keys) && passes then rows ++ pair ∷ [] else rows

-- a key that does not fit is passed over
pub keys_past : (keys : List (List ℕ)) (at : ℕ) (key text : List ℕ) (passes : Bool) (rows now : List Fields) (pair : Fields) → at < length keys → get_or keys at [] ≡ key → (bytes_eq text key ≡ true → passes ≡ false) → now ≡ after_keys keys at passes text rows pair → now ≡ after_keys keys (at + 1) passes text rows pair
keys_past keys at key text passes rows now pair within is fails so_far =
    so_far ∙ ap (λ (b : Bool). if b then rows ++ pair ∷ [] else rows) (by (list_any (bytes_eq text) (take at keys)) (bytes_eq text key) passes fails)
    ∙ ap (λ (b : Bool). if b && passes then rows ++ pair ∷ [] else rows) (sym (list_any_more (bytes_eq text) keys at [] within ∙ ap (λ (k : List ℕ). list_any (bytes_eq text) (take at keys) || bytes_eq text k) is))
  where
    by : (a b t : Bool) → (b ≡ true → t ≡ false) → (a && t) ≡ ((a || b) && t)
    by true b t none = refl
    by false false t none = refl
    by false true false none = refl
    by false true true none = absurd (false≢true (sym (none refl)))

-- and one that fits gets the row
pub keys_more : (keys : List (List ℕ)) (at : ℕ) (key text : List ℕ) (passes : Bool) (rows now after : List Fields) (pair : Fields) → IsDistinct bytes_eq keys → at < length keys → get_or keys at [] ≡ key → (bytes_eq text key ≡ true → passes ≡ true) → after ≡ (if bytes_eq text key then now ++ pair ∷ [] else now) → now ≡ after_keys keys at passes text rows pair → after ≡ after_keys keys (at + 1) passes text rows pair
keys_more keys at key text passes rows now after pair distinct within is fits pushed so_far =
    pushed ∙ ap (λ (l : List Fields). if bytes_eq text key then l ++ pair ∷ [] else l) so_far
    ∙ by (list_any (bytes_eq text) (take at keys)) (bytes_eq text key) passes fits (λ same. first_there keys at text distinct within (is ∙ sym (same_text text key same)))
    ∙ ap (λ (b : Bool). if b && passes then rows ++ pair ∷ [] else rows) (sym (list_any_more (bytes_eq text) keys at [] within ∙ ap (λ (k : List ℕ). list_any (bytes_eq text) (take at keys) || bytes_eq text k) is))
  where
    by : (a b t : Bool) → (b ≡ true → t ≡ true) → (b ≡ true → a ≡ false) → (if b then (if a && t then rows ++ pair ∷ [] else rows) ++ pair ∷ [] else (if a && t then rows ++ pair ∷ [] else rows)) ≡ (if (a || b) && t then rows ++ pair ∷ [] else rows)
    by true true t some first = absurd (false≢true (sym (first refl)))
    by true false t some first = refl
    by false true true some first = refl
    by false true false some first = absurd (false≢true (some refl))
    by false false t some first = refl
