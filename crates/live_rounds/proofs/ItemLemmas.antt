-- Items one after the other, and the requests among them.
use Rattle.std.proofs.Common.{◌≡◌, ℕ, zero, suc, ◌+◌, ◌<◌, ◌≤◌, true, false, List, [], ◌∷◌, ◌++◌, append_assoc, append-nil, get_or, length, length-append, take, refl, sym, ap, ◌∙◌, arith}
use Rattle.desk_session.specs.Steps.{is_request}
use Rattle.live_rounds.specs.Helps.Passed.{is_asked, is_end}
use Rattle.live_rounds.specs.Requests.{requests}
use Rattle.script_read.specs.ItemLines.{IsToldAs}
use Rattle.script_read.specs.Said.{Reading, Said, is_sync}
use Rattle.script_read.specs.Said as said
use Rattle.script_read.specs.declared.said_lines.AskedLine.{AskedLine}
use Rattle.script_read.specs.declared.said_lines.FirstItem.{FirstItem}
use Rattle.script_read.specs.declared.said_lines.FirstItem.TheVariants as first

-- ---- requests of items

pub requests_both : (front back : List Said) → requests (front ++ back) ≡ requests front ++ requests back
requests_both [] back = refl
requests_both (said.asks reading ∷ front) back = ap (λ (l : List Reading). reading ∷ l) (requests_both front back)
requests_both (item ∷ front) back = requests_both front back

pub none_requested : (item : Said) → is_request item ≡ false → requests (item ∷ []) ≡ []
none_requested (said.asks reading) is = absurd cc
none_requested _ is = refl

pub one_requested : (item : Said) → is_request item ≡ true → length (requests (item ∷ [])) ≡ 1
one_requested (said.asks reading) is = refl
one_requested _ is = absurd cc

-- an item more that is no request, and one that is
pub other_more : (done : List Said) (item : Said) → is_request item ≡ false → requests (done ++ item ∷ []) ≡ requests done
other_more done item other = requests_both done (item ∷ []) ∙ ap (λ (l : List Reading). requests done ++ l) (none_requested item other) ∙ append-nil (requests done)

pub asked_more : (done : List Said) (item : Said) → is_request item ≡ true → length (requests (done ++ item ∷ [])) ≡ length (requests done) + 1
asked_more done item asks = ap (λ (l : List Reading). length l) (requests_both done (item ∷ [])) ∙ length-append (requests done) (requests (item ∷ [])) ∙ ap (λ (k : ℕ). length (requests done) + k) (one_requested item asks)

pub requests_few : (items : List Said) → length (requests items) ≤ length items
requests_few [] = omega arith
requests_few (said.asks reading ∷ items) = let rest = requests_few items in omega (arith, rest)
requests_few (item ∷ items) = let rest = requests_few items in omega (arith, rest)

-- ---- items that are done, and those that are left

pub parts_more : (all done left next : List Said) (item : Said) → all ≡ done ++ left → left ≡ item ∷ next → all ≡ (done ++ item ∷ []) ++ next
parts_more all done left next item parts first_is = parts ∙ ap (λ (l : List Said). done ++ l) first_is ∙ sym (append_assoc done (item ∷ []) next)

pub parts_all : (all done left : List Said) → all ≡ done ++ left → left ≡ [] → done ≡ all
parts_all all done left parts none = sym (parts ∙ ap (λ (l : List Said). done ++ l) none ∙ append-nil done)

-- ---- what is told of an item

pub told_asked : (first_is : FirstItem) (item : Said) → IsToldAs first_is item → is_request item ≡ is_asked first_is
told_asked (first.Request asked) item is = ap is_request is
told_asked first.Sync item is = by item is
  where
    by : (item : Said) → is_sync item ≡ true → is_request item ≡ false
    by (said.asks reading) is = absurd cc
    by _ is = refl
told_asked first.Other item is = is.0

pub told_end : (first_is : FirstItem) (item : Said) → IsToldAs first_is item → is_sync item ≡ is_end first_is
told_end (first.Request asked) item is = ap is_sync is
told_end first.Sync item is = is
told_end first.Other item is = is.1

pub told_other : (first_is : FirstItem) (item : Said) → IsToldAs first_is item → ((asked : AskedLine) → first_is ≡ first.Request asked → ⊥) → is_request item ≡ false
told_other (first.Request asked) item is none = absurd (none asked refl)
told_other first.Sync item is none = told_asked first.Sync item is
told_other first.Other item is none = is.0

-- ---- a slice

pub taken : {X : Type 0} (xs : List X) (n : ℕ) (x : X) → n < length xs → x ≡ get_or xs n x → take (n + 1) xs ≡ take n xs ++ x ∷ []
taken [] n x within is = absurd (omega (arith, within))
taken (y ∷ xs) zero x within is = ap (λ (z : _). z ∷ []) (sym is)
taken (y ∷ xs) (suc n) x within is = let e : suc n + 1 ≡ suc (n + 1) = omega arith in rw e (ap (λ (l : List _). y ∷ l) (taken xs n x (omega (arith, within)) is))
