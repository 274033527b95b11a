-- Where two colons stand next to each other.
use Rattle.std.proofs.Common.{◌≡◌, ℕ, zero, suc, List, [], ◌∷◌, ◌++◌, length, get_or, ◌<◌, refl, sym, subst, add-one, append_assoc, arith}
use Rattle.std.specs.List.{AllByRecursion, join_with_byte}
use Rattle.std.proofs.lemmas.Bool.{eqb-false}
use Rattle.ip_match.specs.Helps.Parts.{HasNoGap}
use Rattle.ip_match.proofs.PartLemmas.{Lacks}

-- the same as `HasNoGap`, counting up by `suc`
abbrev pub NoGap : List ℕ → Type 0
NoGap text = (k : ℕ) → get_or text k 0 ≡ 58 → get_or text (suc k) 0 ≡ 58 → ⊥

pub NoGap-from_spec : (text : List ℕ) → HasNoGap text → NoGap text
NoGap-from_spec text h k e f = h k e (rw add-one f)

pub NoGap-nil : NoGap []
NoGap-nil k e f = absurd (omega arith)

pub NoGap-cons : (x : ℕ) (xs : List ℕ) → (x ≡ 58 → get_or xs 0 0 ≡ 58 → ⊥) → NoGap xs → NoGap (x ∷ xs)
NoGap-cons x xs here h zero e f = here e f
NoGap-cons x xs here h (suc k) e f = h k e f

NoGap-tail : (x : ℕ) (xs : List ℕ) → NoGap (x ∷ xs) → NoGap xs
NoGap-tail x xs h k e f = h (suc k) e f

NoGap-part : (part rest : List ℕ) → Lacks 58 part → NoGap rest → NoGap (part ++ rest)
NoGap-part [] rest lacks h = h
NoGap-part (x ∷ part) rest lacks h = NoGap-cons x (part ++ rest) (λ e _. eqb-false x 58 lacks.0 e) (NoGap-part part rest lacks.1 h)

-- a part that has bytes, none of them a colon
pub record IsSolid (part : List ℕ) : Type 0 where
  pub some : 0 < length part
  pub lacks : Lacks 58 part

begins_solid : (part rest : List ℕ) → IsSolid part → get_or (part ++ rest) 0 0 ≡ 58 → ⊥
begins_solid [] rest h e = absurd (let none = h.some in omega arith)
begins_solid (x ∷ part) rest h e = eqb-false x 58 (h.lacks.0) e

begins_joined : (p : List ℕ) (ps : List (List ℕ)) (rest : List ℕ) → IsSolid p → get_or (join_with_byte 58 (p ∷ ps) ++ rest) 0 0 ≡ 58 → ⊥
begins_joined p [] rest h e = begins_solid p rest h e
begins_joined p (q ∷ ps) rest h e = begins_solid p ((58 ∷ join_with_byte 58 (q ∷ ps)) ++ rest) h (rw append_assoc at e)

-- solid parts joined by single colons, before a text with no gap
pub NoGap-joined : (parts : List (List ℕ)) (rest : List ℕ) → AllByRecursion IsSolid parts → NoGap rest → NoGap (join_with_byte 58 parts ++ rest)
NoGap-joined [] rest h k = k
NoGap-joined (p ∷ []) rest h k = NoGap-part p rest (h.0).lacks k
NoGap-joined (p ∷ q ∷ ps) rest h k =
    let tail = NoGap-cons 58 (join_with_byte 58 (q ∷ ps) ++ rest) (λ _ f. begins_joined q ps rest h.1.0 f) (NoGap-joined (q ∷ ps) rest h.1 k) in
    subst NoGap (sym (append_assoc p (58 ∷ join_with_byte 58 (q ∷ ps)) rest)) (NoGap-part p ((58 ∷ join_with_byte 58 (q ∷ ps)) ++ rest) (h.0).lacks tail)

pub one_colon : NoGap (58 ∷ [])
one_colon = NoGap-cons 58 [] (λ _ f. absurd (omega arith)) NoGap-nil

pub no_bytes : NoGap []
no_bytes = NoGap-nil

-- a text with `::` has a gap
pub gap_in : (front back : List ℕ) → NoGap (front ++ 58 ∷ 58 ∷ back) → ⊥
gap_in [] back h = h 0 refl refl
gap_in (x ∷ front) back h = gap_in front back (NoGap-tail x (front ++ 58 ∷ 58 ∷ back) h)

-- the first `::` is at one place
pub same_cut : (f b g d : List ℕ) → f ++ 58 ∷ 58 ∷ b ≡ g ++ 58 ∷ 58 ∷ d → NoGap (f ++ 58 ∷ []) → NoGap (g ++ 58 ∷ []) → (f ≡ g) × (b ≡ d)
same_cut [] b [] d e h k = (refl, cc)
same_cut [] b (y ∷ []) d e h k = let y-is : y ≡ 58 = cc in absurd (k 0 y-is refl)
same_cut [] b (y ∷ z ∷ g) d e h k = let y-is : y ≡ 58 = cc in let z-is : z ≡ 58 = cc in absurd (k 0 y-is z-is)
same_cut (x ∷ []) b [] d e h k = let x-is : x ≡ 58 = cc in absurd (h 0 x-is refl)
same_cut (x ∷ z ∷ f) b [] d e h k = let x-is : x ≡ 58 = cc in let z-is : z ≡ 58 = cc in absurd (h 0 x-is z-is)
same_cut (x ∷ f) b (y ∷ g) d e h k =
    let first : x ≡ y = cc in
    let later : f ++ 58 ∷ 58 ∷ b ≡ g ++ 58 ∷ 58 ∷ d = cc in
    let (fronts, backs) = same_cut f b g d later (NoGap-tail x (f ++ 58 ∷ []) h) (NoGap-tail y (g ++ 58 ∷ []) k) in
    (rw (first, fronts) refl, backs)
