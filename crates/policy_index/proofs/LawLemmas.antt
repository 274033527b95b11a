-- A law of the definitions: places are exactly those of the rules with the text, and rise.
use Rattle.std.proofs.Common.{◌≡◌, ℕ, zero, suc, ◌+◌, ◌<◌, ◌≤◌, ◌==◌, Bool, true, false, ◌&&◌, ◌||◌, if◌then◌else◌, List, [], ◌∷◌, ◌++◌, length, take, slice_get, All, refl, sym, ap, ◌∙◌, arith}
use Rattle.std.specs.Prelude.{AllPairs, nat_eq}
use Rattle.std.specs.List.{list_any}
use Rattle.std.specs.Option.{option_map_or}
use Rattle.std.proofs.lemmas.Bool.{eq-eqb, ne_eqb}
use Rattle.std.proofs.lemmas.List.Elements.{All-cons, All-nil, All-weaker}
use Rattle.std.proofs.lemmas.List.Kept.{AllPairs-cons}
use Rattle.std.specs.List.{before_first}
use Rattle.std.specs.Str.{bytes_eq}
use Rattle.std.proofs.lemmas.List.{take_at}
use Rattle.std.proofs.lemmas.Slice.Eq.{bytes_eq-Decides}
use Rattle.key_match.specs.Fronts.{HasFront, brace_front}
use Rattle.key_match.specs.Names.{CoversAlike}
use Rattle.key_match.specs.Patterns.{brace_pieces, colon_pieces, glob_pieces}
use Rattle.key_match.specs.Pieces.{Covers}
use Rattle.key_match.specs.Stars.{AgreesToStar}
use Rattle.key_match.proofs.CallerLemmas.{alike_begins, brace_begins, colon_begins, cut_begins, glob_begins, star_begins}
use Rattle.policy_table.specs.Tables.{Fields}
use Rattle.policy_index.specs.Keys.{begins_so, front_of, may_fit, tells_whole}
use Rattle.policy_index.specs.declared.key.FrontKind.{FrontKind}
use Rattle.policy_index.specs.declared.key.FrontKind.TheVariants as fronts
use Rattle.policy_index.specs.Places.{has_text, places_from}

-- no place is before the first
low_places : (first column : ℕ) (text : List ℕ) (rules : List Fields) → All (λ (n : ℕ). first ≤ n) (places_from first column text rules)
low_places first column text [] = All-nil (λ (n : ℕ). first ≤ n)
low_places first column text (r ∷ rs) = by (has_text column text r) (All-weaker (λ (n : ℕ). first + 1 ≤ n) (λ (n : ℕ). first ≤ n) (λ n low. omega (arith, low)) (places_from (first + 1) column text rs) (low_places (first + 1) column text rs))
  where
    by : (b : Bool) → All (λ (n : ℕ). first ≤ n) (places_from (first + 1) column text rs)
        → All (λ (n : ℕ). first ≤ n) (if b then first ∷ places_from (first + 1) column text rs else places_from (first + 1) column text rs)
    by true rest = All-cons (λ (n : ℕ). first ≤ n) first (places_from (first + 1) column text rs) (omega arith) rest
    by false rest = rest

-- they rise
pub rising_places : (first column : ℕ) (text : List ℕ) (rules : List Fields) → AllPairs (λ (m n : ℕ). m < n) (places_from first column text rules)
rising_places first column text [] = λ i j d less within. absurd (omega (arith, within))
rising_places first column text (r ∷ rs) = by (has_text column text r) (rising_places (first + 1) column text rs)
  where
    rest : List ℕ
    rest = places_from (first + 1) column text rs

    by : (b : Bool) → AllPairs (λ (m n : ℕ). m < n) (places_from (first + 1) column text rs)
        → AllPairs (λ (m n : ℕ). m < n) (if b then first ∷ places_from (first + 1) column text rs else places_from (first + 1) column text rs)
    by true ih =
        AllPairs-cons (λ (m n : ℕ). m < n) first (places_from (first + 1) column text rs)
        (All-weaker (λ (n : ℕ). first + 1 ≤ n) (λ (n : ℕ). first < n) (λ n low. omega (arith, low)) (places_from (first + 1) column text rs) (low_places (first + 1) column text rs)) ih
    by false ih = ih

-- a number below all is none of them
none_low : (n m : ℕ) (xs : List ℕ) → n < m → All (λ (x : ℕ). m ≤ x) xs → list_any (nat_eq n) xs ≡ false
none_low n m [] less low = refl
none_low n m (x ∷ xs) less low = ap (λ (b : Bool). b || list_any (nat_eq n) xs) (ne_eqb n x (λ is. absurd (omega (arith, less, low 0 x (omega arith), is)))) ∙ none_low n m xs less (λ k d within. low (suc k) d (omega (arith, within)))

-- a place is among them exactly where the rule there has the text
pub exact_places : (first column : ℕ) (text : List ℕ) (rules : List Fields) (at n : ℕ) → n ≡ first + at → list_any (nat_eq n) (places_from first column text rules) ≡ option_map_or (has_text column text) (slice_get rules at) false
exact_places first column text [] at n is = refl
exact_places first column text (r ∷ rs) zero n is = by (has_text column text r)
  where
    by : (b : Bool) → list_any (nat_eq n) (if b then first ∷ places_from (first + 1) column text rs else places_from (first + 1) column text rs) ≡ b
    by true = ap (λ (b : Bool). b || list_any (nat_eq n) (places_from (first + 1) column text rs)) (eq-eqb n first (omega (arith, is)))
    by false = none_low n (first + 1) (places_from (first + 1) column text rs) (omega (arith, is)) (low_places (first + 1) column text rs)
exact_places first column text (r ∷ rs) (suc at) n is = by (has_text column text r) (exact_places (first + 1) column text rs at n (omega (arith, is)))
  where
    by : (b : Bool) → list_any (nat_eq n) (places_from (first + 1) column text rs) ≡ option_map_or (has_text column text) (slice_get rs at) false
        → list_any (nat_eq n) (if b then first ∷ places_from (first + 1) column text rs else places_from (first + 1) column text rs) ≡ option_map_or (has_text column text) (slice_get rs at) false
    by true ih = ap (λ (b : Bool). b || list_any (nat_eq n) (places_from (first + 1) column text rs)) (ne_eqb n first (λ e. absurd (omega (arith, is, e)))) ∙ ih
    by false ih = ih

-- ---- a text that fits a pattern may fit by its front

begins : (front text behind : List ℕ) → text ≡ front ++ behind → begins_so front text ≡ true
begins front text behind is = (bytes_eq-Decides front (take (length front) text)).1 (sym (ap (take (length front)) is ∙ take_at front behind (length front) refl))

may : (kind : FrontKind) (pattern text : List ℕ) → HasFront (front_of kind pattern) pattern text → may_fit kind pattern text ≡ true
may kind pattern text has = by (bytes_eq (front_of kind pattern) pattern) refl (tells_whole kind)
  where
    by : (b : Bool) → bytes_eq (front_of kind pattern) pattern ≡ b → (tells : Bool) → (if tells && b then bytes_eq pattern text else begins_so (front_of kind pattern) text) ≡ true
    by true is true = (bytes_eq-Decides pattern text).1 (sym (has.whole ((bytes_eq-Decides (front_of kind pattern) pattern).0 is)))
    by true is false = begins (front_of kind pattern) text has.behind has.begins
    by false is true = begins (front_of kind pattern) text has.behind has.begins
    by false is false = begins (front_of kind pattern) text has.behind has.begins

pub star_may : (pattern text : List ℕ) → AgreesToStar text pattern → may_fit fronts.Star pattern text ≡ true
star_may pattern text fits = may fronts.Star pattern text (star_begins pattern text fits)

pub colon_may : (pattern text : List ℕ) → Covers (colon_pieces pattern) text → may_fit fronts.Colon pattern text ≡ true
colon_may pattern text fits = may fronts.Colon pattern text (colon_begins pattern text fits)

pub brace_may : (pattern text : List ℕ) → Covers (brace_pieces pattern) text → may_fit fronts.Brace pattern text ≡ true
brace_may pattern text fits = may fronts.Brace pattern text (brace_begins pattern text fits)

pub alike_may : (pattern text : List ℕ) → CoversAlike (brace_pieces pattern) text → may_fit fronts.Brace pattern text ≡ true
alike_may pattern text fits = may fronts.Brace pattern text (alike_begins pattern text fits)

pub cut_may : (pattern text : List ℕ) → Covers (brace_pieces pattern) (before_first (λ byte. byte == 63) text) → may_fit fronts.CutBrace pattern text ≡ true
cut_may pattern text fits = let begun = cut_begins pattern text fits in begins (brace_front pattern) text begun.0 begun.1

pub glob_may : (pattern text : List ℕ) → Covers (glob_pieces pattern) text → may_fit fronts.Glob pattern text ≡ true
glob_may pattern text fits = may fronts.Glob pattern text (glob_begins pattern text fits)
