-- Loops over names that end at the first of which something holds.
use Rattle.std.proofs.Common.{◌≡◌, ◌⊎◌, inl, inr, ◌<◌, ◌≤◌, ◌+◌, ◌∙◌, ℕ, Bool, true, false, List, [], ◌∷◌, ◌++◌, IsTrue, length, get_or, take, refl, sym, ap, subst}
use Rattle.std.specs.Prelude.{◌↔◌}
use Rattle.std.specs.List.{Contains}
use Rattle.std.proofs.lemmas.Bool.{false≢true}
use Rattle.std.proofs.lemmas.List.{take_all, take_more}
use Rattle.std.proofs.lemmas.List.Elements.{Contains-get_or, Contains-push_cases}
use Rattle.role_meaning.proofs.CallerLemmas.{stands_nowhere}

-- it holds of none of the names
pub record NoneAmong (P : List ℕ → Type 0) (names : List (List ℕ)) : Type 0 where
  pub each : (name : List ℕ) → Contains names name → P name → ⊥

-- one of the names, of which it holds
abbrev pub SomeAmong : (List ℕ → Type 0) → List (List ℕ) → Type 0
SomeAmong P names = (name : List ℕ) × Contains names name × P name

pub none_among_first : (P : List ℕ → Type 0) → NoneAmong P []
none_among_first P = record { each = λ name stands. absurd (stands_nowhere name stands) }

pub none_among_more : (P : List ℕ → Type 0) (names : List (List ℕ)) (name : List ℕ) → (P name → ⊥) → NoneAmong P names → NoneAmong P (names ++ name ∷ [])
none_among_more P names name never before = record { each = λ one stands is. by one is (Contains-push_cases names name one stands) }
  where
    by : (one : List ℕ) → P one → Contains names one ⊎ (name ≡ one) → ⊥
    by one is (inl early) = before.each one early is
    by one is (inr same) = never (subst P (sym same) is)

-- the name at a place, where a test says that it does not hold of it
pub none_among_on : (P : List ℕ → Type 0) (names : List (List ℕ)) (at : ℕ) (item bytes : List ℕ) (test : Bool) → at < length names → item ≡ get_or names at item → bytes ≡ item → test ≡ false → IsTrue test ↔ P bytes → NoneAmong P (take at names) → NoneAmong P (take (at + 1) names)
none_among_on P names at item bytes test within is same fails told before =
    let longer : take (at + 1) names ≡ take at names ++ item ∷ [] = take_more names at item within ∙ ap (λ (n : List ℕ). take at names ++ n ∷ []) (sym is) in
    subst (NoneAmong P) (sym longer) (none_among_more P (take at names) item (λ holds. false≢true (sym fails ∙ told.1 (subst P (sym same) holds))) before)

-- where a test says that it holds
pub some_among : (P : List ℕ → Type 0) (names : List (List ℕ)) (at : ℕ) (item bytes : List ℕ) (test : Bool) → at < length names → item ≡ get_or names at item → bytes ≡ item → test ≡ true → IsTrue test ↔ P bytes → IsTrue true ↔ SomeAmong P names
some_among P names at item bytes test within is same holds told = (
  λ yes. (item, subst (Contains names) (sym is) (Contains-get_or names at item within), subst P same (told.0 holds)),
  λ found. refl,
)

pub none_among_last : (P : List ℕ → Type 0) (names : List (List ℕ)) (at : ℕ) → length names ≤ at → NoneAmong P (take at names) → IsTrue false ↔ SomeAmong P names
none_among_last P names at every none = (
  λ holds. absurd (false≢true holds),
  λ found. absurd (none.each found.0 (subst (λ (l : List (List ℕ)). Contains l found.0) (sym (take_all at names every)) found.1) found.2),
)
