-- The life of a pair in the core of live edits.
use Rattle.std.proofs.Common.{◌≡◌, ◌⊎◌, inl, inr, false, ℕ, suc, ◌+◌, ◌-◌, ◌≤◌, List, [], ◌∷◌, ◌++◌, length, fold, take, refl, ap, sym, subst, ◌∙◌, arith, append_assoc, length-append, Ok}
use Rattle.std.proofs.lemmas.List.{append-nil}
use Rattle.std.proofs.lemmas.List.Sums.{fold-append}
use mathlib.Core.List.{IsPrefix}
use Rattle.live_meaning.proofs.CallerLemmas.{cut_kept, cut_none, cut_published, versions_both}
use Rattle.live_meaning.specs.Events.{cut, is_publish, versions}
use Rattle.live_meaning.specs.Fronts.{IsLegal, front}
use Rattle.live_meaning.specs.Replies.{reply_of}
use Rattle.live_meaning.specs.declared.events.Event.{Event}
use Rattle.live_meaning.specs.declared.events.Event.TheVariants.{Edit, Publish, Note, Learn, Enter, Seat}
use Rattle.live_meaning.specs.declared.events.Reply.TheVariants.{Published}
use Rattle.live_pair.proofs.FrontLemmas.{one_less}
use Rattle.live_pair.proofs.StoryLemmas.{edits_more}
use Rattle.live_pair.specs.Admins.{AdminSeen}
use Rattle.live_pair.specs.Life.{HasLived, life, lived, published}
use Rattle.live_pair.specs.Seats.{version_of}
use Rattle.live_pair.specs.Story.{Story, edits_in}
use Rattle.policy_table.specs.declared.change.Change.{Change}

life_more : (first : List (List Change)) (all : List Event) (event : Event) → life first (all ++ event ∷ []) ≡ lived (life first all) event
life_more first all event = fold-append lived (record { done = first ∷ []; rest = [] }) all (event ∷ [])

-- ---- numbers

-- how many edits a story has, published ones and others; the published ones are those before the last publish
record IsAt (first : List (List Change)) (all : List Event) (story : Story) : Type 0 where
  out : version_of story.done ≡ length first + cut all
  given : version_of story.done + length story.rest ≡ length first + versions all

at_none : (first : List (List Change)) → IsAt first [] (record { done = first ∷ []; rest = [] })
unfolding versions
at_none first = record {
  out = omega (arith, cut_none, ap (λ (l : List (List Change)). length l) (append-nil first));
  given = omega (arith, ap (λ (l : List (List Change)). length l) (append-nil first));
}

edit_versions : (all : List Event) (edit : List Change) → versions (all ++ Edit edit ∷ []) ≡ versions all + 1
unfolding versions
edit_versions all edit = versions_both all (Edit edit ∷ [])

other_versions : (all : List Event) (event : Event) → versions (event ∷ []) ≡ 0 → versions (all ++ event ∷ []) ≡ versions all
other_versions all event none = omega (arith, versions_both all (event ∷ []), none)

at_other : (first : List (List Change)) (all : List Event) (event : Event) (story : Story) → is_publish event ≡ false → versions (event ∷ []) ≡ 0 → IsAt first all story → IsAt first (all ++ event ∷ []) story
at_other first all event story other none is = record {
  out = omega (arith, is.out, cut_kept all event other);
  given = omega (arith, is.given, other_versions all event none);
}

at_more : (first : List (List Change)) (all : List Event) (event : Event) (story : Story) → IsAt first all story → IsAt first (all ++ event ∷ []) (lived story event)
unfolding versions
at_more first all (Edit edit) story is = record {
  out = omega (arith, is.out, cut_kept all (Edit edit) refl);
  given = omega (arith, is.given, edit_versions all edit, length-append story.rest (edit ∷ []));
}
at_more first all Publish story is =
    let size : version_of (story.done ++ story.rest ∷ []) ≡ version_of story.done + length story.rest
    = ap (λ (l : List (List Change)). length l) (edits_more story.done story.rest) ∙ length-append (edits_in story.done) story.rest in
    record {
      out = omega (arith, is.given, size, cut_published all);
      given = omega (arith, is.given, size, other_versions all Publish refl);
    }
at_more first all Note story is = at_other first all Note story refl refl is
at_more first all (Learn seat note) story is = at_other first all (Learn seat note) story refl refl is
at_more first all (Enter seat) story is = at_other first all (Enter seat) story refl refl is
at_more first all Seat story is = at_other first all Seat story refl refl is

at_all : (first : List (List Change)) (done left : List Event) (story : Story) → IsAt first done story → IsAt first (done ++ left) (fold lived story left)
at_all first done [] story is = subst (λ (l : List Event). IsAt first l story) (sym (append-nil done)) is
at_all first done (event ∷ left) story is =
    subst (λ (l : List Event). IsAt first l (fold lived (lived story event) left)) (append_assoc done (event ∷ []) left)
    (at_all first (done ++ event ∷ []) left (lived story event) (at_more first done event story is))

-- the published history has as many edits as the core publishes, and those of the opening
pub published_version : (first : List (List Change)) (all : List Event) → version_of (published first all) ≡ length first + cut all
published_version first all = (at_all first [] all (record { done = first ∷ []; rest = [] }) (at_none first)).out

-- ---- each prefix of the published history was the published one at some place

record WasAt (story : Story) (all : List Event) (now : List (List (List Change))) : Type 0 where
  place : ℕ
  within : place ≤ length all
  is : now ≡ (fold lived story (take place all)).done

abbrev Placed : Story → List Event → List (List (List Change)) → Type 0
Placed story all now = IsPrefix now story.done ⊎ WasAt story all now

one_later : (story : Story) (event : Event) (all : List Event) (now : List (List (List Change))) → WasAt (lived story event) all now → WasAt story (event ∷ all) now
one_later story event all now was = record { place = suc was.place; within = omega (arith, was.within); is = was.is }

later : (story : Story) (event : Event) (all : List Event) (now : List (List (List Change))) → (lived story event).done ≡ story.done → Placed (lived story event) all now → Placed story (event ∷ all) now
later story event all now same (inl begun) = inl (subst (IsPrefix now) same begun)
later story event all now same (inr was) = inr (one_later story event all now was)

placed : (story : Story) (all : List Event) (now : List (List (List Change))) → IsPrefix now (fold lived story all).done → Placed story all now
placed story [] now begun = inl begun
placed story (Publish ∷ all) now begun = by (placed (lived story Publish) all now begun)
  where
    split : IsPrefix now story.done ⊎ (now ≡ story.done ++ story.rest ∷ []) → Placed story (Publish ∷ all) now
    split (inl before) = inl before
    split (inr is) = inr (record { place = 1; within = omega arith; is = is })

    by : Placed (lived story Publish) all now → Placed story (Publish ∷ all) now
    by (inl before) = split (one_less now story.done story.rest before)
    by (inr was) = inr (one_later story Publish all now was)
placed story (Edit edit ∷ all) now begun = later story (Edit edit) all now refl (placed (lived story (Edit edit)) all now begun)
placed story (Note ∷ all) now begun = later story Note all now refl (placed story all now begun)
placed story (Learn seat note ∷ all) now begun = later story (Learn seat note) all now refl (placed story all now begun)
placed story (Enter seat ∷ all) now begun = later story (Enter seat) all now refl (placed story all now begun)
placed story (Seat ∷ all) now begun = later story Seat all now refl (placed story all now begun)

-- the version of a prefix, counted from the opening, was published at some place
record WasCut (first : List (List Change)) (all : List Event) (version : ℕ) : Type 0 where
  place : ℕ
  within : place ≤ length all
  is : version - length first ≡ cut (take place all)

-- a prefix of a list of one is none of it or all
of_one : (now : List (List (List Change))) (first : List (List Change)) → IsPrefix now (first ∷ []) → version_of now ≤ length first
of_one now first begun = by (one_less now [] first begun)
  where
    by : IsPrefix now [] ⊎ (now ≡ first ∷ []) → version_of now ≤ length first
    by (inr is) = omega (arith, ap version_of is, ap (λ (l : List (List Change)). length l) (append-nil first))
    by (inl none) = empty now none
      where
        empty : (now : List (List (List Change))) → IsPrefix now [] → version_of now ≤ length first
        empty [] p = omega arith
        empty (x ∷ xs) p = absurd (cc (p.1))

was_cut : (first : List (List Change)) (all : List Event) (now : List (List (List Change))) → IsPrefix now (published first all) → WasCut first all (version_of now)
was_cut first all now begun = by (placed (record { done = first ∷ []; rest = [] }) all now begun)
  where
    by : Placed (record { done = first ∷ []; rest = [] }) all now → WasCut first all (version_of now)
    by (inl before) = record { place = 0; within = omega arith; is = omega (arith, of_one now first before, cut_none) }
    by (inr was) = record { place = was.place; within = was.within; is = omega (arith, ap version_of was.is, published_version first (take was.place all)) }

-- a longer history has no fewer edits
longer_version : (before now : List (List (List Change))) → IsPrefix before now → version_of before ≤ version_of now
longer_version [] now p = omega arith
longer_version (x ∷ xs) [] p = absurd (cc (p.1))
longer_version (x ∷ xs) (y ∷ ys) p =
    let heads : x ≡ y = cc (p.1) in
    omega (arith, longer_version xs ys (p.0, cc (p.1)), ap (λ (l : List (List Change)). length l) heads, length-append x (edits_in xs), length-append y (edits_in ys))

-- ---- the laws

pub legal_entry : (first : List (List Change)) (all : List Event) (seat : ℕ) (before now : List (List (List Change))) → IsPrefix before now → IsPrefix now (published first all)
    → front all seat + length first ≤ version_of before → IsLegal all seat (version_of now - length first)
legal_entry first all seat before now begun out known =
    let was = was_cut first all now out in
    let more = longer_version before now begun in
    record {
      place = was.place;
      within = was.within;
      published = was.is;
      shown_before = omega (arith, more, known);
      not_above = omega (arith, longer_version now (published first all) out, published_version first all);
    }

pub counted_publish : (first : List (List Change)) (all : List Event) (version : ℕ) → reply_of all Publish ≡ Ok (Published version) → version_of (published first (all ++ Publish ∷ [])) ≡ length first + version
counted_publish first all version replied =
    let same : versions all ≡ version = cc replied in
    omega (arith, published_version first (all ++ Publish ∷ []), cut_published all, same)

pub lived_edit : (first : List (List Change)) (all : List Event) (before after : AdminSeen) (edit : List Change) → HasLived first all before → after.list ≡ before.list
    → after.desk.pending ≡ before.desk.pending ++ edit ∷ [] → HasLived first (all ++ Edit edit ∷ []) after
lived_edit first all before after edit is same more =
    let next = life_more first all (Edit edit) in
    record {
      list = same ∙ is.list ∙ ap (λ (s : Story). s.done) (sym next);
      pending = more ∙ ap (λ (l : List (List Change)). l ++ edit ∷ []) is.pending ∙ ap (λ (s : Story). s.rest) (sym next);
    }

pub lived_publish : (first : List (List Change)) (all : List Event) (before after : AdminSeen) → HasLived first all before → after.list ≡ before.list ++ before.desk.pending ∷ []
    → after.desk.pending ≡ [] → HasLived first (all ++ Publish ∷ []) after
lived_publish first all before after is more none =
    let next = life_more first all Publish in
    record {
      list = more ∙ ap (λ (l : List (List (List Change))). l ++ before.desk.pending ∷ []) is.list ∙ ap (λ (l : List (List Change)). published first all ++ l ∷ []) is.pending ∙ ap (λ (s : Story). s.done) (sym next);
      pending = none ∙ ap (λ (s : Story). s.rest) (sym next);
    }
