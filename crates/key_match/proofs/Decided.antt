-- Facts that a test tells.
use Rattle.std.proofs.Common.{◌≡◌, ℕ, Bool, true, false, ◌&&◌, ◌||◌, ◌⊎◌, inl, inr, List, [], ◌∷◌, ◌++◌, IsTrue, refl, sym, ap, subst}
use Rattle.std.specs.Prelude.{◌↔◌}
use Rattle.std.specs.Str.{bytes_eq}
use Rattle.std.proofs.lemmas.Bool.{false≢true}
use Rattle.std.proofs.lemmas.Slice.Eq.{bytes_eq-Decides}
use Rattle.key_match.proofs.Bools.{or_first, or_second, or_cases, and_both, and_first, and_second}

abbrev pub Decided : Type 0 → Type 0
Decided P = (b : Bool) × (IsTrue b ↔ P)

pub decided_by : (P Q : Type 0) → (P → Q) → (Q → P) → Decided P → Decided Q
decided_by P Q there back d = (d.0, (λ h. there (d.1.0 h), λ q. d.1.1 (back q)))

pub decided_true : (P : Type 0) → P → Decided P
decided_true P p = (true, (λ h. p, λ q. refl))

pub decided_false : (P : Type 0) → ¬ P → Decided P
decided_false P none = (false, (λ h. absurd (false≢true h), λ p. absurd (none p)))

pub decided_and : (P Q : Type 0) → Decided P → Decided Q → Decided (P × Q)
decided_and P Q d e =
    (d.0 && e.0, (λ h. (d.1.0 (and_first d.0 e.0 h), e.1.0 (and_second d.0 e.0 h)), λ both. and_both d.0 e.0 (d.1.1 both.0) (e.1.1 both.1)))

pub decided_or : (P Q : Type 0) → Decided P → Decided Q → Decided (P ⊎ Q)
decided_or P Q d e = (d.0 || e.0, (λ h. there (or_cases d.0 e.0 h), back))
  where
    there : (d.0 ≡ true) ⊎ (e.0 ≡ true) → P ⊎ Q
    there (inl h) = inl (d.1.0 h)
    there (inr h) = inr (e.1.0 h)

    back : P ⊎ Q → (d.0 || e.0) ≡ true
    back (inl p) = or_first d.0 e.0 (d.1.1 p)
    back (inr q) = or_second d.0 e.0 (e.1.1 q)

-- a fact that is asked for only where a test is true
pub decided_where : (test : Bool) (P : Type 0) → Decided P → Decided (IsTrue test → P)
decided_where true P d = decided_by P (IsTrue true → P) (λ p h. p) (λ f. f refl) d
decided_where false P d = decided_true (IsTrue false → P) (λ h. absurd (false≢true h))

pub same_text : (xs ys : List ℕ) → Decided (xs ≡ ys)
same_text xs ys = (bytes_eq xs ys, ((bytes_eq-Decides xs ys).0, (bytes_eq-Decides xs ys).1))

-- the text in two parts
abbrev pub HasHalves : (List ℕ → List ℕ → Type 0) → List ℕ → Type 0
HasHalves P text = (front : List ℕ) × (back : List ℕ) × (text ≡ front ++ back) × P front back

halves_none : (P : List ℕ → List ℕ → Type 0) → HasHalves P [] → P [] []
halves_none P ([], [], e, p) = p
halves_none P ([], b ∷ back, e, p) = absurd cc
halves_none P (a ∷ front, back, e, p) = absurd cc

-- the first half has no byte, or the first one
halves_first : (P : List ℕ → List ℕ → Type 0) (x : ℕ) (text : List ℕ) → P [] (x ∷ text) ⊎ HasHalves (λ front back. P (x ∷ front) back) text → HasHalves P (x ∷ text)
halves_first P x text (inl p) = ([], x ∷ text, refl, p)
halves_first P x text (inr h) = (x ∷ h.0, h.1, ap (λ xs. x ∷ xs) h.2, h.3)

first_halves : (P : List ℕ → List ℕ → Type 0) (x : ℕ) (text : List ℕ) → HasHalves P (x ∷ text) → P [] (x ∷ text) ⊎ HasHalves (λ front back. P (x ∷ front) back) text
first_halves P x text h = go h.0 h.1 h.2 h.3
  where
    go : (front back : List ℕ) → x ∷ text ≡ front ++ back → P front back → P [] (x ∷ text) ⊎ HasHalves (λ front back. P (x ∷ front) back) text
    go [] back e p = inl (subst (P []) (sym e) p)
    go (a ∷ front) back e p = inr (front, back, cc, subst (λ (b : ℕ). P (b ∷ front) back) (sym (let same : x ≡ a = cc in same)) p)

pub halves_decided : (P : List ℕ → List ℕ → Type 0) → ((front back : List ℕ) → Decided (P front back)) → (text : List ℕ) → Decided (HasHalves P text)
halves_decided P each [] = decided_by (P [] []) (HasHalves P []) (λ p. ([], [], refl, p)) (halves_none P) (each [] [])
halves_decided P each (x ∷ text) =
    let more : List ℕ → List ℕ → Type 0 = λ front back. P (x ∷ front) back in
    decided_by (P [] (x ∷ text) ⊎ HasHalves more text) (HasHalves P (x ∷ text)) (halves_first P x text) (first_halves P x text)
    (decided_or (P [] (x ∷ text)) (HasHalves more text) (each [] (x ∷ text)) (halves_decided more (λ front back. each (x ∷ front) back) text))
