-- Seats that are made one after the other.
use Rattle.std.proofs.Common.{◌≡◌, ℕ, ◌+◌, ◌<◌, ◌≤◌, List, [], ◌∷◌, ◌++◌, length, length-append, All, ap, sym, subst, ◌∙◌, arith}
use Rattle.std.proofs.lemmas.List.Elements.{All-push}
use Rattle.live_pair.specs.Seats.{IsNew, SeatSeen, Way}
use Rattle.outside.specs.Faults.{Rose}
use Rattle.policy_table.specs.declared.change.Change.{Change}

-- so many further ways in were asked for, and one: each seat is new, and where one lacks there was a refusal
pub record AreMade (front : List (List (List Change))) (before now counter : ℕ) (seats : List SeatSeen) : Type 0 where
  pub new : All (IsNew front) seats
  pub few : length seats + 1 ≤ counter
  pub counted : before ≤ now
  pub fewer : length seats + 1 < counter → Rose before now

-- the seat of a way in that was not refused yet
abbrev pub seat_of : Way → SeatSeen
seat_of way = record { front = way.front; entries = 0; refused = way.refused; last = 0 }

new_seat : (front : List (List (List Change))) (way : Way) (seat : SeatSeen) → seat ≡ seat_of way → way.front ≡ front → way.refused ≡ 0 → IsNew front seat
new_seat front way seat is known none = record {
  front_is = ap (λ (s : SeatSeen). s.front) is ∙ known;
  entries_are = ap (λ (s : SeatSeen). s.entries) is;
  refused_is = ap (λ (s : SeatSeen). s.refused) is ∙ none;
  last_is = ap (λ (s : SeatSeen). s.last) is;
}

-- one more seat
pub all_new : (front : List (List (List Change))) (way : Way) (seat : SeatSeen) (seats more : List SeatSeen) → seat ≡ seat_of way → way.front ≡ front → way.refused ≡ 0 → more ≡ seats ++ seat ∷ []
    → All (IsNew front) seats → All (IsNew front) more
all_new front way seat seats more is known none made all = subst (All (IsNew front)) (sym made) (All-push (IsNew front) seats seat all (new_seat front way seat is known none))

-- a refusal behind others
rose_later : (before between now : ℕ) → Rose before between → between ≤ now → Rose before now
rose_later before between now rose later = omega (arith, rose, later)

pub made_given : (front : List (List (List Change))) (before between now counter : ℕ) (way : Way) (seat : SeatSeen) (seats more : List SeatSeen) → AreMade front before between counter seats → between ≤ now
    → seat ≡ seat_of way → way ≡ record { front = front; refused = 0 } → more ≡ seats ++ seat ∷ [] → AreMade front before now (counter + 1) more
made_given front before between now counter way seat seats more are later is same made =
    let size : length more ≡ length seats + 1 = ap (λ (l : List SeatSeen). length l) made ∙ length-append seats (seat ∷ []) in
    record {
      new = all_new front way seat seats more is (ap (λ (w : Way). w.front) same) (ap (λ (w : Way). w.refused) same) made are.new;
      few = omega (arith, are.few, size);
      counted = omega (arith, are.counted, later);
      fewer = λ lacks. rose_later before between now (are.fewer (omega (arith, lacks, size))) later;
    }
