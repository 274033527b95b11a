-- What one event more does to a history.
use Rattle.std.proofs.Common.{◌≡◌, ℕ, ◌+◌, ◌<◌, List, [], ◌∷◌, ◌++◌, length, fold, refl, ap, sym, subst, ◌∙◌, arith, append_assoc, length-append, Option, Some, None, drop, take}
use Rattle.std.proofs.lemmas.List.{append-nil}
use Rattle.std.proofs.lemmas.List.Sums.{fold-append}
use mathlib.Core.List.{IsPrefix}
use Rattle.live_pair.proofs.FrontLemmas.{first_all, one_more, prefix_self, prefix_trans, rest_all}
use Rattle.live_pair.specs.Helps.Sides.{AreCounted, ending, handed, history}
use Rattle.live_pair.specs.Story.{Story, edits_in, publishes, story, told, unpublished}
use Rattle.live_pair.specs.declared.edits.HistoryEvent.{HistoryEvent}
use Rattle.live_pair.specs.declared.edits.HistoryEvent.TheVariants.{Staged, Publish}
use Rattle.policy_table.specs.declared.change.Change.{Change}

pub story_more : (first : List (List Change)) (log : List HistoryEvent) (x : HistoryEvent) → story first (log ++ x ∷ []) ≡ told (story first log) x
story_more first log x = fold-append told (record { done = first ∷ []; rest = [] }) log (x ∷ [])

-- the edits of two lists of publishes are those of the one and those of the other
pub edits_both : (front back : List (List (List Change))) → edits_in (front ++ back) ≡ edits_in front ++ edits_in back
edits_both [] back = refl
edits_both (publish ∷ front) back = ap (λ (l : List (List Change)). publish ++ l) (edits_both front back) ∙ sym (append_assoc publish (edits_in front) (edits_in back))

pub edits_more : (l : List (List (List Change))) (p : List (List Change)) → edits_in (l ++ p ∷ []) ≡ edits_in l ++ p
edits_more l p = edits_both l (p ∷ []) ∙ ap (λ (z : List (List Change)). edits_in l ++ z) (append-nil p)

-- the edits of a published history are the first so many of a longer one's
pub edits_begin : (before now : List (List (List Change))) → IsPrefix before now → edits_in before ≡ take (length (edits_in before)) (edits_in now)
edits_begin before now begun = first_all (edits_in before) (edits_in now) (edits_in begun.0, sym (edits_both before begun.0) ∙ ap edits_in begun.1)

pub handed_both : (front back : List HistoryEvent) → handed (front ++ back) ≡ handed front ++ handed back
handed_both [] back = refl
handed_both (Staged edits ∷ front) back = ap (λ (l : List (List Change)). edits ++ l) (handed_both front back) ∙ sym (append_assoc edits (handed front) (handed back))
handed_both (Publish ∷ front) back = handed_both front back

-- ---- all edits are those of the publishes, and those that are in none

-- the edits of a history so far
abbrev all_in : Story → List (List Change)
all_in s = edits_in s.done ++ s.rest

all_from : (s : Story) (log : List HistoryEvent) → all_in (fold told s log) ≡ all_in s ++ handed log
all_from s [] = sym (append-nil (all_in s))
all_from s (Staged edits ∷ log) =
    all_from (told s (Staged edits)) log
    ∙ ap (λ (l : List (List Change)). l ++ handed log) (sym (append_assoc (edits_in s.done) s.rest edits))
    ∙ append_assoc (all_in s) edits (handed log)
all_from s (Publish ∷ log) =
    all_from (told s Publish) log
    ∙ ap (λ (l : List (List Change)). l ++ handed log) (append-nil (edits_in (s.done ++ s.rest ∷ [])) ∙ edits_more s.done s.rest)

pub all_edits : (first : List (List Change)) (log : List HistoryEvent) → edits_in (publishes first log) ++ unpublished first log ≡ history first log
all_edits first log =
    all_from (record { done = first ∷ []; rest = [] }) log ∙ ap (λ (l : List (List Change)). l ++ handed log) (append-nil (first ++ []) ∙ append-nil first)

-- ---- numbers

pub counted_staged : (first : List (List Change)) (log : List HistoryEvent) (es : List (List Change)) (n p w v : ℕ) → AreCounted first log n p w v → AreCounted first (log ++ Staged es ∷ []) (n + 1) p (w + length es) v
counted_staged first log es n p w v c =
    let m = story_more first log (Staged es) in
    record {
      entries_are = omega (arith, c.entries_are, length-append log (Staged es ∷ []));
      parts_are = c.parts_are ∙ ap (λ (s : Story). length s.done) (sym m);
      waiting_is = omega (arith, c.waiting_is, length-append (unpublished first log) es) ∙ ap (λ (s : Story). length s.rest) (sym m);
      version_is = c.version_is ∙ ap (λ (s : Story). length (edits_in s.done)) (sym m);
    }

pub counted_published : (first : List (List Change)) (log : List HistoryEvent) (n p w v : ℕ) → AreCounted first log n p w v → AreCounted first (log ++ Publish ∷ []) (n + 1) (p + 1) 0 (v + w)
counted_published first log n p w v c =
    let m = story_more first log Publish in
    let d = publishes first log in
    let r = unpublished first log in
    record {
      entries_are = omega (arith, c.entries_are, length-append log (Publish ∷ []));
      parts_are = omega (arith, c.parts_are, length-append d (r ∷ [])) ∙ ap (λ (s : Story). length s.done) (sym m);
      waiting_is = ap (λ (s : Story). length s.rest) (sym m);
      version_is = omega (arith, c.version_is, c.waiting_is, ap (λ (l : List (List Change)). length l) (edits_more d r), length-append (edits_in d) r) ∙ ap (λ (s : Story). length (edits_in s.done)) (sym m);
    }

-- the numbers add up to that of all edits
pub counted_all : (first : List (List Change)) (log : List HistoryEvent) (n p w v : ℕ) → AreCounted first log n p w v → v + w ≡ length (history first log)
counted_all first log n p w v c =
    omega (arith, c.waiting_is, c.version_is, length-append (edits_in (publishes first log)) (unpublished first log), ap (λ (l : List (List Change)). length l) (all_edits first log))

-- ---- beginnings

-- the publishes of a beginning begin the publishes of the whole
done_grows : (s : Story) (log : List HistoryEvent) → IsPrefix s.done (fold told s log).done
done_grows s [] = prefix_self s.done
done_grows s (Staged e ∷ log) = done_grows (told s (Staged e)) log
done_grows s (Publish ∷ log) = prefix_trans s.done (told s Publish).done (fold told (told s Publish) log).done (s.rest ∷ [], refl) (done_grows (told s Publish) log)

pub publishes_grow : (first : List (List Change)) (xs ys : List HistoryEvent) → IsPrefix xs ys → IsPrefix (publishes first xs) (publishes first ys)
publishes_grow first xs ys p =
    let start : Story = record { done = first ∷ []; rest = [] } in
    let all : fold told start ys ≡ fold told (story first xs) p.0 = ap (λ (l : List HistoryEvent). fold told start l) (sym p.1) ∙ fold-append told start xs p.0 in
    subst (λ (s : Story). IsPrefix (publishes first xs) s.done) (sym all) (done_grows (story first xs) p.0)

pub ending_more : (log : List HistoryEvent) (x : HistoryEvent) → ending (log ++ x ∷ []) ≡ Some x
ending_more log x = fold-append (λ (o : Option HistoryEvent) (y : HistoryEvent). Some y) None log (x ∷ [])

-- the longer history has these edits more
pub next_staged : (xs ys : List HistoryEvent) (es : List (List Change)) → IsPrefix xs ys → length ys ≡ length xs + 1 → ending ys ≡ Some (Staged es) → ys ≡ xs ++ Staged es ∷ []
next_staged xs ys es p n last =
    let r = one_more xs ys p n in
    let same : Some r.0 ≡ Some (Staged es) = sym (ending_more xs r.0) ∙ ap ending (sym r.1) ∙ last in
    let x : r.0 ≡ Staged es = cc same in
    r.1 ∙ ap (λ (y : HistoryEvent). xs ++ y ∷ []) x

-- the longer history has a publish more
pub next_publish : (first : List (List Change)) (xs ys : List HistoryEvent) → IsPrefix xs ys → length ys ≡ length xs + 1 → length (publishes first xs) < length (publishes first ys) → ys ≡ xs ++ Publish ∷ []
next_publish first xs ys p n more =
    let r = one_more xs ys p n in
    r.1 ∙ ap (λ (y : HistoryEvent). xs ++ y ∷ []) (by_event r.0 (subst (λ (l : List HistoryEvent). length (publishes first xs) < length (publishes first l)) r.1 more))
  where
    by_event : (x : HistoryEvent) → length (publishes first xs) < length (publishes first (xs ++ x ∷ [])) → x ≡ Publish
    by_event Publish h = refl
    by_event (Staged es) h = absurd (omega (arith, h, ap (λ (s : Story). length s.done) (story_more first xs (Staged es))))

-- ---- what is in no publish yet

pub staged_rest : (first : List (List Change)) (log new : List HistoryEvent) (es waiting : List (List Change)) (w : ℕ) → IsPrefix (unpublished first log) waiting → w ≡ length (unpublished first log)
    → es ≡ drop w waiting → new ≡ log ++ Staged es ∷ [] → unpublished first new ≡ waiting
staged_rest first log new es waiting w p len is more =
    ap (λ (l : List HistoryEvent). unpublished first l) more ∙ ap (λ (s : Story). s.rest) (story_more first log (Staged es))
    ∙ ap (λ (z : List (List Change)). unpublished first log ++ z) (is ∙ ap (λ (n : ℕ). drop n waiting) len) ∙ rest_all (unpublished first log) waiting p
