-- Seats that learn of a front, one after the other.
use Rattle.std.proofs.Common.{◌≡◌, ℕ, zero, suc, ◌+◌, ◌<◌, ◌≤◌, List, [], ◌∷◌, ◌++◌, append_assoc, append-nil, drop, get_or, length, set, take, take_all, refl, sym, ap, subst, ◌∙◌, arith}
use Rattle.std.specs.List.{AllZip}
use Rattle.std.proofs.lemmas.List.{drop_all}
use Rattle.std.proofs.lemmas.List.Elements.{AllZip-push, length_all_zip}
use Rattle.std.proofs.Math.Seq.{drop-cons}
use Rattle.live_pair.specs.Seats.{SeatSeen}
use Rattle.live_rounds.proofs.ItemLemmas.{taken}
use Rattle.live_rounds.specs.Helps.Learned.{HasLearned}
use Rattle.policy_table.specs.declared.change.Change.{Change}

get_behind : {A : Type 0} (xs : List A) (y : A) (ys : List A) (n : ℕ) (d : A) → length xs ≡ n → get_or (xs ++ y ∷ ys) n d ≡ y
get_behind [] y ys zero d is = refl
get_behind [] y ys (suc n) d is = absurd (omega (arith, is))
get_behind (x ∷ xs) y ys zero d is = absurd (omega (arith, is))
get_behind (x ∷ xs) y ys (suc n) d is = get_behind xs y ys n d (omega (arith, is))

set_behind : {A : Type 0} (xs : List A) (y z : A) (ys : List A) (n : ℕ) → length xs ≡ n → set (xs ++ y ∷ ys) n z ≡ xs ++ z ∷ ys
set_behind [] y z ys zero is = refl
set_behind [] y z ys (suc n) is = absurd (omega (arith, is))
set_behind (x ∷ xs) y z ys zero is = absurd (omega (arith, is))
set_behind {A = A} (x ∷ xs) y z ys (suc n) is = ap (λ (l : List A). x ∷ l) (set_behind xs y z ys n (omega (arith, is)))

took_long : {A : Type 0} (n : ℕ) (xs : List A) → n ≤ length xs → length (take n xs) ≡ n
took_long zero xs within = refl
took_long (suc n) [] within = absurd (omega (arith, within))
took_long (suc n) (x ∷ xs) within = ap (λ (m : ℕ). suc m) (took_long n xs (omega (arith, within)))

module _ (front : List (List (List Change))) (olds : List SeatSeen) where
  -- so many seats have learned of it
  pub record HaveLearnedUpTo (n : ℕ) (now : List SeatSeen) : Type 0 where
    pub learned : List SeatSeen
    pub are : AllZip (HasLearned front) (take n olds) learned
    pub now_is : now ≡ learned ++ drop n olds

  pub learned_none : HaveLearnedUpTo 0 olds
  learned_none = record { learned = []; are = tt; now_is = refl }

  pub learned_more : (n : ℕ) (now after : List SeatSeen) (new d : SeatSeen) → n < length olds → HaveLearnedUpTo n now → HasLearned front (get_or now n d) new → after ≡ set now n new → HaveLearnedUpTo (n + 1) after
  learned_more n now after new d within so is made =
      let old = get_or olds n d in
      let long : length so.learned ≡ n = sym (length_all_zip (HasLearned front) (take n olds) so.learned so.are) ∙ took_long n olds (omega (arith, within)) in
      let rest : drop n olds ≡ old ∷ drop (suc n) olds = drop-cons olds n d within in
      let split : now ≡ so.learned ++ old ∷ drop (suc n) olds = so.now_is ∙ ap (λ (l : List SeatSeen). so.learned ++ l) rest in
      let here : get_or now n d ≡ old = ap (λ (l : List SeatSeen). get_or l n d) split ∙ get_behind so.learned old (drop (suc n) olds) n d long in
      let more : take (n + 1) olds ≡ take n olds ++ old ∷ [] = taken olds n old within (get_any olds n d old within) in
      let next : suc n ≡ n + 1 = omega arith in
      record {
        learned = so.learned ++ new ∷ [];
        are = subst (λ (l : List SeatSeen). AllZip (HasLearned front) l (so.learned ++ new ∷ [])) (sym more) (AllZip-push (HasLearned front) (take n olds) so.learned old new so.are (subst (λ (s : SeatSeen). HasLearned front s new) here is));
        now_is = made ∙ ap (λ (l : List SeatSeen). set l n new) split ∙ set_behind so.learned old new (drop (suc n) olds) n long
            ∙ sym (append_assoc so.learned (new ∷ []) (drop (suc n) olds)) ∙ ap (λ (k : ℕ). (so.learned ++ new ∷ []) ++ drop k olds) next;
      }
    where
      get_any : (l : List SeatSeen) (k : ℕ) (one other : SeatSeen) → k < length l → get_or l k one ≡ get_or l k other
      get_any [] k one other few = absurd (omega (arith, few))
      get_any (x ∷ l) zero one other few = refl
      get_any (x ∷ l) (suc k) one other few = get_any l k one other (omega (arith, few))

  pub learned_all : (n : ℕ) (now : List SeatSeen) → length olds ≤ n → HaveLearnedUpTo n now → AllZip (HasLearned front) olds now
  learned_all n now past so =
      let whole : now ≡ so.learned = so.now_is ∙ ap (λ (l : List SeatSeen). so.learned ++ l) (drop_all n olds past) ∙ append-nil so.learned in
      subst (λ (l : List SeatSeen). AllZip (HasLearned front) l now) (take_all n olds past) (subst (AllZip (HasLearned front) (take n olds)) (sym whole) so.are)
