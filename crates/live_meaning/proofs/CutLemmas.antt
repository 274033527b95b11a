-- What is published behind a list of events never falls.
use Rattle.std.proofs.Common.{◌≡◌, ℕ, zero, suc, ◌+◌, ◌-◌, ◌≤◌, ◌⊎◌, inl, inr, Bool, true, false, not, cond, List, [], ◌∷◌, ◌++◌, append_assoc, append-nil, length, length-append, take, take_all, drop, Some, slice_get, refl, sym, ap, subst, ◌∙◌, arith}
use Rattle.std.proofs.lemmas.List.{take-append-le}
use Rattle.std.proofs.lemmas.Option.{slice_get_within}
use Rattle.std.proofs.Math.Seq.{take-add}
use Rattle.perm_base.proofs.CallerLemmas.{front_of, last_before, last_here}
use Rattle.live_meaning.proofs.EventLemmas.{versions_front}
use Rattle.live_meaning.specs.Events.{cut, is_publish, versions}
use Rattle.live_meaning.specs.Laws.{IsPublished}
use Rattle.live_meaning.specs.declared.events.Event.{Event}
use Rattle.live_meaning.specs.declared.events.Event.TheVariants.{Edit, Publish, Note, Learn, Enter, Seat}

-- ---- one event more

pub cut_published : (events : List Event) → cut (events ++ Publish ∷ []) ≡ versions events
unfolding cut
cut_published events = ap versions (last_here is_publish events Publish refl)

pub cut_kept : (events : List Event) (event : Event) → is_publish event ≡ false → cut (events ++ event ∷ []) ≡ cut events
unfolding cut
cut_kept events event other = ap versions (last_before is_publish events event other)

cut_among : (events : List Event) → cut events ≤ versions events
unfolding cut
cut_among events = versions_front _ events

cut_next : (events : List Event) (event : Event) → cut events ≤ cut (events ++ event ∷ [])
cut_next events Publish = omega (arith, cut_published events, cut_among events)
cut_next events (Edit edit) = omega (arith, cut_kept events (Edit edit) refl)
cut_next events Note = omega (arith, cut_kept events Note refl)
cut_next events (Learn seat note) = omega (arith, cut_kept events (Learn seat note) refl)
cut_next events (Enter seat) = omega (arith, cut_kept events (Enter seat) refl)
cut_next events Seat = omega (arith, cut_kept events Seat refl)

-- ---- more events

-- what is published never falls
pub cut_rises : (front back : List Event) → cut front ≤ cut (front ++ back)
cut_rises front [] = omega (arith, ap cut (append-nil front))
cut_rises front (event ∷ back) =
    omega (arith, cut_next front event, cut_rises (front ++ event ∷ []) back, ap cut (append_assoc front (event ∷ []) back))

pub cut_later : (i j : ℕ) (events : List Event) → i ≤ j → cut (take i events) ≤ cut (take j events)
cut_later i j events later =
    let n : ℕ = j - i in
    let whole : i + (j - i) ≡ j = omega (arith, later) in
    let parts : take j events ≡ take i events ++ take (j - i) (drop i events) = ap (λ (m : ℕ). take m events) (sym whole) ∙ take-add i (j - i) events in
    omega (arith, cut_rises (take i events) (take (j - i) (drop i events)), ap cut parts)

-- ---- every cut is one of whole publishes

-- the version is none, or that of a publish among the events
abbrev pub IsWhole : List Event → ℕ → Type 0
IsWhole events version = (version ≡ 0) ⊎ IsPublished events version

still : (xs ys : List Event) (at : ℕ) (x : Event) → slice_get xs at ≡ Some x → slice_get (xs ++ ys) at ≡ Some x
still [] ys at x is = absurd cc
still (y ∷ xs) ys zero x is = is
still (y ∷ xs) ys (suc at) x is = still xs ys at x is

last_is : (n : ℕ) (xs : List Event) (x : Event) → n ≡ length xs → slice_get (xs ++ x ∷ []) n ≡ Some x
last_is zero [] x is = refl
last_is zero (y ∷ xs) x is = absurd (omega arith)
last_is (suc n) [] x is = absurd (omega arith)
last_is (suc n) (y ∷ xs) x is = last_is n xs x (omega arith)

whole_still : (events : List Event) (event : Event) (version : ℕ) → IsWhole events version → IsWhole (events ++ event ∷ []) version
whole_still events event version (inl none) = inl none
whole_still events event version (inr is) =
    let within : is.at ≤ length events = omega (arith, slice_get_within events is.at Publish is.stands) in
    inr (record {
      at = is.at;
      stands = still events (event ∷ []) is.at Publish is.stands;
      edits = is.edits ∙ ap versions (sym (take-append-le is.at events (event ∷ []) within));
    })

whole_kept : (events : List Event) (event : Event) → is_publish event ≡ false → IsWhole events (cut events) → IsWhole (events ++ event ∷ []) (cut (events ++ event ∷ []))
whole_kept events event other is = subst (IsWhole (events ++ event ∷ [])) (sym (cut_kept events event other)) (whole_still events event (cut events) is)

whole_next : (events : List Event) (event : Event) → IsWhole events (cut events) → IsWhole (events ++ event ∷ []) (cut (events ++ event ∷ []))
whole_next events Publish is = inr (record {
  at = length events;
  stands = last_is (length events) events Publish refl;
  edits = cut_published events ∙ ap versions (sym (front_of events (Publish ∷ [])));
})
whole_next events (Edit edit) is = whole_kept events (Edit edit) refl is
whole_next events Note is = whole_kept events Note refl is
whole_next events (Learn seat note) is = whole_kept events (Learn seat note) refl is
whole_next events (Enter seat) is = whole_kept events (Enter seat) refl is
whole_next events Seat is = whole_kept events Seat refl is

whole_more : (front back : List Event) → IsWhole front (cut front) → IsWhole (front ++ back) (cut (front ++ back))
whole_more front [] is = subst (λ (l : List Event). IsWhole l (cut l)) (sym (append-nil front)) is
whole_more front (event ∷ back) is =
    subst (λ (l : List Event). IsWhole l (cut l)) (append_assoc front (event ∷ []) back) (whole_more (front ++ event ∷ []) back (whole_next front event is))

pub cut_none : cut [] ≡ 0
unfolding cut versions
cut_none = refl

pub cut_whole : (events : List Event) → IsWhole events (cut events)
cut_whole events = whole_more [] events (inl cut_none)
