-- Rows that are gone through one after the other, and tests that tell which texts a domain fits.
use Rattle.std.proofs.Common.{◌≡◌, ◌<◌, ◌≤◌, ◌+◌, ◌↔◌, ◌&&◌, inl, ℕ, Bool, true, false, List, [], ◌∷◌, ◌++◌, IsTrue, length, take, get_or, refl, sym, ap, subst, ◌∙◌, arith}
use Rattle.std.specs.List.{count_by}
use Rattle.std.proofs.lemmas.Bool.{false≢true}
use Rattle.std.proofs.lemmas.List.{take_all}
use Rattle.std.proofs.lemmas.List.Sums.{sum_by_more}
use Rattle.perm_base.specs.declared.shapes.Fit.{Fit}
use Rattle.policy_table.specs.Tables.{Fields, same}
use Rattle.role_domain.specs.Relations.{Tells, counted, pair_of}
use Rattle.role_graph.specs.Groups.{times}
use Rattle.role_graph.proofs.CallerLemmas.{once, times_more}
use Rattle.role_meaning.specs.Fits.{Fits}
use Rattle.role_meaning.specs.Links.{domain_of}

-- one more row of a list
pub count_next : {X : Type 0} (test : X → Bool) (xs : List X) (at : ℕ) (x : X) → at < length xs → x ≡ get_or xs at x → count_by test (take (at + 1) xs) ≡ count_by test (take at xs) + once (test x)
count_next {X} test xs at x within is =
    sum_by_more (λ (y : X). once (test y)) xs at x within ∙ ap (λ (y : X). count_by test (take at xs) + once (test y)) (sym is)

-- each text fits itself
pub fits_same : (fit : Fit) (text domain : List ℕ) → text ≡ domain → Fits fit text domain
unfolding Fits
fits_same fit text domain same = inl same

-- a test that tells says what another answer says
pub told_as : (fit : Fit) (text : List ℕ) (test : List ℕ → Bool) (found domain : List ℕ) (answer : Bool) → Tells fit text test → found ≡ domain → IsTrue answer ↔ Fits fit text found → test domain ≡ answer
told_as fit text test found domain answer tells same told = by (test domain) refl answer told
  where
    by : (b : Bool) → test domain ≡ b → (c : Bool) → IsTrue c ↔ Fits fit text found → b ≡ c
    by true is true told = refl
    by false is false told = refl
    by true is false told = absurd (false≢true (told.1 (subst (Fits fit text) (sym same) ((tells.told domain).0 is))))
    by false is true told = absurd (false≢true (sym is ∙ (tells.told domain).1 (subst (Fits fit text) same (told.0 refl))))

-- a row that the domain does not fit adds nothing
pub fitting_past : (test : List ℕ → Bool) (rows : List Fields) (at : ℕ) (item one : Fields) (pairs : List Fields) → at < length rows → item ≡ get_or rows at item → test (domain_of item) ≡ false → times one pairs ≡ counted test one (take at rows) → times one pairs ≡ counted test one (take (at + 1) rows)
fitting_past test rows at item one pairs within is fails now =
    let more : counted test one (take (at + 1) rows) ≡ counted test one (take at rows) + once (test (domain_of item) && same one (pair_of item)) = count_next (λ (row : Fields). test (domain_of row) && same one (pair_of row)) rows at item within is in
    let none : once (test (domain_of item) && same one (pair_of item)) ≡ 0 = ap (λ (b : Bool). once (b && same one (pair_of item))) fails in
    omega (arith, now, more, none)

-- and one that it fits its user and role
pub fitting_more : (test : List ℕ → Bool) (rows : List Fields) (at : ℕ) (item one pair : Fields) (pairs after : List Fields) → at < length rows → item ≡ get_or rows at item → test (domain_of item) ≡ true → pair ≡ pair_of item → after ≡ pairs ++ pair ∷ [] → times one pairs ≡ counted test one (take at rows) → times one after ≡ counted test one (take (at + 1) rows)
fitting_more test rows at item one pair pairs after within is passes pair_is pushed now =
    let more : counted test one (take (at + 1) rows) ≡ counted test one (take at rows) + once (test (domain_of item) && same one (pair_of item)) = count_next (λ (row : Fields). test (domain_of row) && same one (pair_of row)) rows at item within is in
    let here : once (test (domain_of item) && same one (pair_of item)) ≡ once (same one (pair_of item)) = ap (λ (b : Bool). once (b && same one (pair_of item))) passes in
    let last : times one after ≡ times one pairs + once (same one pair) = ap (times one) pushed ∙ times_more one pair pairs in
    let alike : once (same one pair) ≡ once (same one (pair_of item)) = ap (λ (p : Fields). once (same one p)) pair_is in
    omega (arith, now, more, here, last, alike)

-- at the end all are counted
pub counted_all : (test : List ℕ → Bool) (one : Fields) (rows : List Fields) (at : ℕ) → length rows ≤ at → counted test one (take at rows) ≡ counted test one rows
counted_all test one rows at every = ap (counted test one) (take_all at rows every)
