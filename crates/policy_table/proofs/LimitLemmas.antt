-- Texts that pass a test, and different texts, with one more.
use Rattle.std.proofs.Common.{◌≡◌, ℕ, ◌+◌, ◌<◌, ◌≤◌, ◌^◌, Bool, true, false, not, ◌||◌, cond, append-nil, if◌then◌else◌, List, [], ◌∷◌, ◌++◌, length, filter, refl, sym, ap, ◌∙◌, arith}
use Rattle.std.proofs.lemmas.Bool.Decides.{same_from_decides}
use Rattle.std.proofs.lemmas.List.{length-map}
use Rattle.std.proofs.lemmas.Slice.Eq.{bytes_eq-Decides}
use Rattle.std.specs.List.{list_any}
use Rattle.std.specs.Str.{bytes_eq}
use Rattle.indexmap.specs.IndexSet.{insert_key}
use Rattle.policy_table.proofs.RuleLemmas.{fewer}
use Rattle.policy_table.specs.Helps.Domains.{domain_of}
use Rattle.policy_table.specs.Limits.{different, domains_of}
use Rattle.policy_table.specs.Tables.{Fields}

-- one more item passes a test or does not
filter_push : {X : Type 0} (p : X → Bool) (xs : List X) (y : X) → filter p (xs ++ y ∷ []) ≡ filter p xs ++ cond (p y) (y ∷ []) []
filter_push p [] y = refl
filter_push p (x ∷ xs) y = by_test (p x) (filter_push p xs y)
  where
    by_test : (test : Bool) → filter p (xs ++ y ∷ []) ≡ filter p xs ++ cond (p y) (y ∷ []) []
        → cond test (x ∷ filter p (xs ++ y ∷ [])) (filter p (xs ++ y ∷ [])) ≡ cond test (x ∷ filter p xs) (filter p xs) ++ cond (p y) (y ∷ []) []
    by_test true e = ap (λ l. x ∷ l) e
    by_test false e = e

-- and how many pass
pub passing_push : {X : Type 0} (p : X → Bool) (xs : List X) (y : X) → length (filter p (xs ++ y ∷ [])) ≡ length (filter p xs) + cond (p y) 1 0
passing_push p [] y = by_test (p y)
  where
    by_test : (test : Bool) → length (cond test (y ∷ []) []) ≡ 0 + cond test 1 0
    by_test true = refl
    by_test false = refl
passing_push p (x ∷ xs) y = by_test (p x) (passing_push p xs y)
  where
    by_test : (test : Bool) → length (filter p (xs ++ y ∷ [])) ≡ length (filter p xs) + cond (p y) 1 0
        → length (cond test (x ∷ filter p (xs ++ y ∷ [])) (filter p (xs ++ y ∷ []))) ≡ length (cond test (x ∷ filter p xs) (filter p xs)) + cond (p y) 1 0
    by_test true e = omega (arith, e)
    by_test false e = e

-- equality of texts has two sides
pub flipped : (a b : List ℕ) → bytes_eq a b ≡ bytes_eq b a
flipped a b = same_from_decides (bytes_eq a b) (bytes_eq b a) (bytes_eq-Decides a b) ((λ e. sym ((bytes_eq-Decides b a).0 e)), (λ e. (bytes_eq-Decides b a).1 (sym e)))

-- the texts other than this one
abbrev pub others : List ℕ → List (List ℕ) → List (List ℕ)
others text texts = filter (λ (other : List ℕ). not (bytes_eq text other)) texts

-- another text stands among the others where it stands
pub stands_still : (x y : List ℕ) (texts : List (List ℕ)) → bytes_eq y x ≡ false → list_any (bytes_eq y) (others x texts) ≡ list_any (bytes_eq y) texts
stands_still x y [] apart = refl
stands_still x y (text ∷ texts) apart = by_test (bytes_eq x text) refl (stands_still x y texts apart)
  where
    by_test : (test : Bool) → bytes_eq x text ≡ test → list_any (bytes_eq y) (others x texts) ≡ list_any (bytes_eq y) texts
        → list_any (bytes_eq y) (cond (not test) (text ∷ others x texts) (others x texts)) ≡ (bytes_eq y text || list_any (bytes_eq y) texts)
    by_test true e rest = rw (sym (ap (bytes_eq y) ((bytes_eq-Decides x text).0 e)) ∙ apart) rest
    by_test false e rest = ap (λ b. bytes_eq y text || b) rest

-- a text behind others, and the first of them
insert_others : (x y : List ℕ) (texts : List (List ℕ)) → x ∷ others x (insert_key bytes_eq texts y) ≡ insert_key bytes_eq (x ∷ others x texts) y
insert_others x y texts = by_first (bytes_eq y x) refl
  where
    standing : (b : Bool) → others x (if b then texts else texts ++ y ∷ []) ≡ (if b then others x texts else others x texts ++ cond (not (bytes_eq x y)) (y ∷ []) [])
    standing true = refl
    standing false = filter_push (λ (other : List ℕ). not (bytes_eq x other)) texts y

    same_first : (b : Bool) → x ∷ (if b then others x texts else others x texts ++ []) ≡ x ∷ others x texts
    same_first true = refl
    same_first false = ap (λ (l : List (List ℕ)). x ∷ l) (simp append-nil)

    new_last : (b : Bool) → x ∷ (if b then others x texts else others x texts ++ y ∷ []) ≡ (if b then x ∷ others x texts else x ∷ others x texts ++ y ∷ [])
    new_last true = refl
    new_last false = refl

    by_first : (first : Bool) → bytes_eq y x ≡ first → x ∷ others x (insert_key bytes_eq texts y) ≡ insert_key bytes_eq (x ∷ others x texts) y
    by_first true e =
        ap (λ (l : List (List ℕ)). x ∷ l) (standing (list_any (bytes_eq y) texts))
        ∙ ap (λ b. x ∷ (if list_any (bytes_eq y) texts then others x texts else others x texts ++ cond (not b) (y ∷ []) [])) (flipped x y ∙ e)
        ∙ same_first (list_any (bytes_eq y) texts)
        ∙ sym (ap (λ b. if b || list_any (bytes_eq y) (others x texts) then x ∷ others x texts else (x ∷ others x texts) ++ y ∷ []) e)
    by_first false e =
        ap (λ (l : List (List ℕ)). x ∷ l) (standing (list_any (bytes_eq y) texts))
        ∙ ap (λ b. x ∷ (if list_any (bytes_eq y) texts then others x texts else others x texts ++ cond (not b) (y ∷ []) [])) (flipped x y ∙ e)
        ∙ new_last (list_any (bytes_eq y) texts)
        ∙ sym (ap (λ b. if b || list_any (bytes_eq y) (others x texts) then x ∷ others x texts else (x ∷ others x texts) ++ y ∷ []) e
        ∙ ap (λ b. if b then x ∷ others x texts else (x ∷ others x texts) ++ y ∷ []) (stands_still x y texts e))

-- one more text is one more of the different ones, unless it stands there
pub different_push : (texts : List (List ℕ)) (y : List ℕ) → different (texts ++ y ∷ []) ≡ insert_key bytes_eq (different texts) y
unfolding different
different_push [] y = refl
different_push (x ∷ texts) y = ap (λ (l : List (List ℕ)). x ∷ others x l) (different_push texts y) ∙ insert_others x y (different texts)

-- nothing stands in no list
pub different_none : different [] ≡ []
unfolding different
different_none = refl

-- no more texts are different than there are
pub different_fewer : (texts : List (List ℕ)) → length (different texts) ≤ length texts
unfolding different
different_fewer [] = omega arith
different_fewer (x ∷ texts) =
    let le = different_fewer texts in
    let kept = fewer (λ (other : List ℕ). not (bytes_eq x other)) (different texts) in
    omega (arith, le, kept)

-- of fewer rules than that, no more have such domains, and no more domains are different
pub passing_few : (test : List ℕ → Bool) (rules : List Fields) → length rules < 2 ^ 32 → length (filter test (domains_of rules)) < 2 ^ 32
passing_few test rules few = omega (arith, few, fewer test (domains_of rules), length-map rules domain_of)

pub different_few : (rules : List Fields) → length rules < 2 ^ 32 → length (different (domains_of rules)) < 2 ^ 32
different_few rules few = omega (arith, few, different_fewer (domains_of rules), length-map rules domain_of)
