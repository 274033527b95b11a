-- Items that are passed one after the other: to the end of a round, and behind so many requests.
use Rattle.std.proofs.Common.{◌≡◌, ℕ, suc, ◌+◌, ◌-◌, ◌<◌, ◌≤◌, Bool, true, false, List, [], ◌∷◌, ◌++◌, append-nil, append_assoc, length, length-append, take, refl, sym, ap, subst, ◌∙◌, arith}
use Rattle.std.specs.Prelude.{cond, if◌then◌else◌}
use Rattle.std.specs.List.{list_all}
use Rattle.desk_session.specs.Steps.{is_request}
use Rattle.live_rounds.proofs.ItemLemmas.{asked_more, other_more, parts_more, requests_both, requests_few}
use Rattle.live_rounds.proofs.RoundLemmas.{take_front}
use Rattle.live_rounds.specs.Helps.Passed.{IsBehindRequests, IsCutBehind, IsPassed}
use Rattle.live_rounds.specs.Requests.{requests}
use Rattle.live_rounds.specs.Scripts.{IsFirstRound, round_size}
use Rattle.live_rounds.specs.Stretches.{IsCounted, items_of}
use Rattle.live_rounds.specs.declared.stretch.Stretch.{Stretch}
use Rattle.script_read.specs.ItemLines.{ArePassed}
use Rattle.script_read.specs.Said.{Reading, Said, is_sync}
use Rattle.script_read.specs.Said as said

-- one or none
pub cond_few : (test : Bool) → cond test 1 0 ≤ 1
cond_few true = omega arith
cond_few false = omega arith

-- ---- to the end of a round

-- so many items that end no round stand in front of what is left, and so many of them are requests
pub record IsPassing (count asks : ℕ) (all left : List Said) : Type 0 where
  pub front : List Said
  pub parts : all ≡ front ++ left
  pub size : round_size all ≡ length front + round_size left
  pub count_is : count ≡ length front
  pub requests_are : asks ≡ length (requests front)

pub passing_none : (all left : List Said) → left ≡ all → IsPassing 0 0 all left
passing_none all left same = subst (IsPassing 0 0 all) (sym same) (record { front = []; parts = refl; size = omega arith; count_is = refl; requests_are = refl })

-- there are no more requests than items
pub passing_few : (count asks : ℕ) (all left : List Said) → IsPassing count asks all left → asks ≤ count
passing_few count asks all left so = let few = requests_few so.front in omega (arith, few, so.count_is, so.requests_are)

calm_sync : (item : Said) → is_sync item ≡ true → is_request item ≡ false
calm_sync (said.asks reading) is = absurd cc
calm_sync _ is = refl

module _ (count asks : ℕ) (all left next : List Said) (item : Said) (so : IsPassing count asks all left) (first_is : left ≡ item ∷ next) where
  abbrev front_on : List Said
  front_on = so.front ++ item ∷ []

  longer : length front_on ≡ length so.front + 1
  longer = length-append so.front (item ∷ [])

  size_by : round_size left ≡ (if is_sync item then 1 else suc (round_size next))
  size_by = ap round_size first_is

  -- an item that ends none
  pub passing_more : (more : ℕ) → is_sync item ≡ false → more ≡ asks + cond (is_request item) 1 0 → IsPassing (count + 1) more all next
  passing_more more other more-is =
      let on : round_size left ≡ suc (round_size next) = size_by ∙ ap (λ (test : Bool). if test then 1 else suc (round_size next)) other in
      record {
        front = front_on;
        parts = parts_more all so.front left next item so.parts first_is;
        size = omega (arith, so.size, longer, on);
        count_is = omega (arith, so.count_is, longer);
        requests_are = by (is_request item) refl;
      }
    where
      by : (test : Bool) → is_request item ≡ test → more ≡ length (requests front_on)
      by true is = let one : more ≡ asks + 1 = more-is ∙ ap (λ (test : Bool). asks + cond test 1 0) is in omega (arith, one, so.requests_are, asked_more so.front item is)
      by false is = let none : more ≡ asks + 0 = more-is ∙ ap (λ (test : Bool). asks + cond test 1 0) is in omega (arith, none, so.requests_are, ap (λ (l : List Reading). length l) (other_more so.front item is))

  -- one that ends it
  pub passing_last : is_sync item ≡ true → IsPassed (count + 1) asks all next
  passing_last last =
      let one : round_size left ≡ 1 = size_by ∙ ap (λ (test : Bool). if test then 1 else suc (round_size next)) last in
      record {
        round = front_on;
        first = record { parts = parts_more all so.front left next item so.parts first_is; size = omega (arith, so.size, longer, one) };
        count_is = omega (arith, so.count_is, longer);
        requests_are = omega (arith, so.requests_are, ap (λ (l : List Reading). length l) (other_more so.front item (calm_sync item last)));
      }

-- requests that are passed at once
passed_size : (passed next : List Said) → list_all is_request passed ≡ true → round_size (passed ++ next) ≡ length passed + round_size next
passed_size [] next asked = omega arith
passed_size (said.asks reading ∷ passed) next asked = let rest = passed_size passed next asked in omega (arith, rest)
passed_size (item ∷ passed) next asked = absurd cc

passed_asked : (passed : List Said) → list_all is_request passed ≡ true → length (requests passed) ≡ length passed
passed_asked [] asked = refl
passed_asked (said.asks reading ∷ passed) asked = let rest = passed_asked passed asked in omega (arith, rest)
passed_asked (item ∷ passed) asked = absurd cc

pub passing_first : (count : ℕ) (all next : List Said) → ArePassed count all next → IsPassing count count all next
passing_first count all next is = record {
  front = is.passed;
  parts = is.parts;
  size = ap round_size is.parts ∙ passed_size is.passed next is.asked;
  count_is = sym is.long;
  requests_are = omega (arith, is.long, passed_asked is.passed is.asked);
}

pub passing_many : (count asks more : ℕ) (all left next : List Said) → IsPassing count asks all left → ArePassed more left next → IsPassing (count + more) (asks + more) all next
passing_many count asks more all left next so is = record {
  front = so.front ++ is.passed;
  parts = so.parts ∙ ap (λ (l : List Said). so.front ++ l) is.parts ∙ sym (append_assoc so.front is.passed next);
  size = omega (arith, so.size, ap round_size is.parts, passed_size is.passed next is.asked, length-append so.front is.passed);
  count_is = omega (arith, so.count_is, is.long, length-append so.front is.passed);
  requests_are = omega (arith, so.requests_are, is.long, passed_asked is.passed is.asked, ap (λ (l : List Reading). length l) (requests_both so.front is.passed), length-append (requests so.front) (requests is.passed));
}

-- no item is left
pub passing_end : (count asks : ℕ) (all left next : List Said) → IsPassing count asks all left → left ≡ [] → next ≡ [] → IsPassed count asks all next
passing_end count asks all left next so none nothing =
    let size : round_size left ≡ 0 = ap round_size none in
    record {
      round = so.front;
      first = record { parts = so.parts ∙ ap (λ (l : List Said). so.front ++ l) (none ∙ sym nothing); size = omega (arith, so.size, size) };
      count_is = so.count_is;
      requests_are = so.requests_are;
    }

-- the round that was passed, as so many of the first items
pub round_front : (count asks : ℕ) (all next : List Said) (is : IsPassed count asks all next) (round : List Said) → round ≡ take count all → round ≡ is.round
round_front count asks all next is round round-is = round-is ∙ ap (take count) is.first.parts ∙ take_front count is.round next is.count_is

pub round_first : (count asks : ℕ) (all next : List Said) (is : IsPassed count asks all next) (round : List Said) → round ≡ take count all → IsFirstRound all round next
round_first count asks all next is round round-is = subst (λ (l : List Said). IsFirstRound all l next) (sym (round_front count asks all next is round round-is)) is.first

pub round_counted : (asks : ℕ) (all next : List Said) (round : Stretch) (is : IsPassed round.count asks all next) → items_of round ≡ take round.count all → round.requests ≡ asks → IsCounted round
round_counted asks all next round is round-is asks-are =
    let same = round_front round.count asks all next is (items_of round) round-is in
    record { count = is.count_is ∙ ap (λ (l : List Said). length l) (sym same); requests = asks-are ∙ is.requests_are ∙ ap (λ (l : List Said). length (requests l)) (sym same) }

pub round_some : (count asks : ℕ) (all next : List Said) (is : IsPassed count asks all next) (round : List Said) → round ≡ take count all → ¬ (count ≡ 0) → 0 < length round
round_some count asks all next is round round-is some = let same = round_front count asks all next is round round-is in omega (arith, is.count_is, ap (λ (l : List Said). length l) same, some)

pub round_none : (count asks : ℕ) (all next : List Said) (is : IsPassed count asks all next) → count ≡ 0 → all ≡ []
round_none count asks [] next is none = refl
round_none count asks (item ∷ all) next is none = absurd (by (is_sync item) refl)
  where
    by : (test : Bool) → is_sync item ≡ test → ⊥
    by true e = let size : round_size (item ∷ all) ≡ 1 = ap (λ (t : Bool). if t then 1 else suc (round_size all)) e in omega (arith, size, is.first.size, is.count_is, none)
    by false e = let size : round_size (item ∷ all) ≡ suc (round_size all) = ap (λ (t : Bool). if t then 1 else suc (round_size all)) e in omega (arith, size, is.first.size, is.count_is, none)

-- ---- behind so many requests

-- so many items stand in front of what is left, and so many of them are requests
pub record IsGoneTo (count found : ℕ) (all left : List Said) : Type 0 where
  pub front : List Said
  pub parts : all ≡ front ++ left
  pub count_is : count ≡ length front
  pub found_is : found ≡ length (requests front)

pub gone_none : (all left : List Said) → left ≡ all → IsGoneTo 0 0 all left
gone_none all left same = subst (IsGoneTo 0 0 all) (sym same) (record { front = []; parts = refl; count_is = refl; found_is = refl })

pub gone_more : (count found more : ℕ) (all left next : List Said) (item : Said) → IsGoneTo count found all left → left ≡ item ∷ next → more ≡ found + cond (is_request item) 1 0 → IsGoneTo (count + 1) more all next
gone_more count found more all left next item so first_is more-is = record {
  front = so.front ++ item ∷ [];
  parts = parts_more all so.front left next item so.parts first_is;
  count_is = omega (arith, so.count_is, length-append so.front (item ∷ []));
  found_is = by (is_request item) refl;
}
  where
    by : (test : Bool) → is_request item ≡ test → more ≡ length (requests (so.front ++ item ∷ []))
    by true is = let one : more ≡ found + 1 = more-is ∙ ap (λ (test : Bool). found + cond test 1 0) is in omega (arith, one, so.found_is, asked_more so.front item is)
    by false is = let none : more ≡ found + 0 = more-is ∙ ap (λ (test : Bool). found + cond test 1 0) is in omega (arith, none, so.found_is, ap (λ (l : List Reading). length l) (other_more so.front item is))

-- requests that are passed at once
pub gone_first : (count : ℕ) (all next : List Said) → ArePassed count all next → IsGoneTo count count all next
gone_first count all next is = record { front = is.passed; parts = is.parts; count_is = sym is.long; found_is = omega (arith, is.long, passed_asked is.passed is.asked) }

pub gone_many : (count found more : ℕ) (all left next : List Said) → IsGoneTo count found all left → ArePassed more left next → IsGoneTo (count + more) (found + more) all next
gone_many count found more all left next so is = record {
  front = so.front ++ is.passed;
  parts = so.parts ∙ ap (λ (l : List Said). so.front ++ l) is.parts ∙ sym (append_assoc so.front is.passed next);
  count_is = omega (arith, so.count_is, is.long, length-append so.front is.passed);
  found_is = omega (arith, so.found_is, is.long, passed_asked is.passed is.asked, ap (λ (l : List Reading). length l) (requests_both so.front is.passed), length-append (requests so.front) (requests is.passed));
}

-- it is within all items
pub gone_within : (count found : ℕ) (all left next : List Said) (item : Said) → IsGoneTo count found all left → left ≡ item ∷ next → count + 1 ≤ length all
gone_within count found all left next item so first_is =
    omega (arith, so.count_is, ap (λ (l : List Said). length l) so.parts, length-append so.front left, ap (λ (l : List Said). length l) first_is)

pub gone_few : (count found : ℕ) (all left : List Said) → IsGoneTo count found all left → found ≤ count
gone_few count found all left so = let few = requests_few so.front in omega (arith, few, so.count_is, so.found_is)

-- all that is left has no request where all were found
pub gone_all : (count found : ℕ) (all left : List Said) → IsGoneTo count found all left → left ≡ [] → found ≡ length (requests all)
gone_all count found all left so none = so.found_is ∙ ap (λ (l : List Said). length (requests l)) (sym (so.parts ∙ ap (λ (l : List Said). so.front ++ l) none ∙ append-nil so.front))

pub gone_behind : (share count found : ℕ) (all left : List Said) → IsGoneTo count found all left → found ≡ share → IsBehindRequests share all left count
gone_behind share count found all left so all-are = record { front = so.front; parts = so.parts; count_is = so.count_is; share_is = sym so.found_is ∙ all-are }

-- ---- what is cut there

module _ (share count : ℕ) (items part left : Stretch) (rest : List Said) (is : IsBehindRequests share (items_of items) rest count) (counted : IsCounted items) where
  both : length (requests (items_of items)) ≡ share + length (requests rest)
  both = ap (λ (l : List Said). length (requests l)) is.parts ∙ ap (λ (l : List Reading). length l) (requests_both is.front rest) ∙ length-append (requests is.front) (requests rest) ∙ ap (λ (k : ℕ). k + length (requests rest)) is.share_is

  long : length (items_of items) ≡ count + length rest
  long = omega (arith, ap (λ (l : List Said). length l) is.parts, length-append is.front rest, is.count_is)

  pub cut_within : count ≤ items.count
  cut_within = omega (arith, counted.count, long)

  pub cut_is : items_of part ≡ take count (items_of items) → part.count ≡ count → part.requests ≡ share → items_of left ≡ rest → left.count ≡ items.count - count → left.requests ≡ items.requests - share → IsCutBehind share (items_of items) part left
  cut_is part-is part-count part-asks left-is left-count left-asks =
      let front : items_of part ≡ is.front = part-is ∙ ap (take count) is.parts ∙ take_front count is.front rest is.count_is in
      record {
        parts = is.parts ∙ (λ j. sym front j ++ sym left-is j);
        share_is = ap (λ (l : List Said). length (requests l)) front ∙ is.share_is;
        part_counted = record { count = part-count ∙ is.count_is ∙ ap (λ (l : List Said). length l) (sym front); requests = part-asks ∙ sym is.share_is ∙ ap (λ (l : List Said). length (requests l)) (sym front) };
        left_counted = record {
          count = omega (arith, left-count, counted.count, long, ap (λ (l : List Said). length l) left-is);
          requests = omega (arith, left-asks, counted.requests, both, ap (λ (l : List Said). length (requests l)) left-is);
        };
      }
