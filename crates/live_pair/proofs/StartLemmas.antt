-- Where the log of a copy starts.
use Rattle.std.proofs.Common.{◌≡◌, ℕ, ◌≤◌, Bool, true, false, true≢false, List, [], ◌∷◌, ◌++◌, length, fold, Option, Some, None, refl, ap, sym, subst, ◌∙◌, arith, length-append}
use Rattle.std.proofs.lemmas.List.{append-nil}
use mathlib.Core.List.{IsPrefix}
use Rattle.live_pair.proofs.StoryLemmas.{ending_more, publishes_grow, story_more}
use Rattle.live_pair.specs.Helps.Sides.{is_published, is_published_by, start_by}
use Rattle.live_pair.specs.Seats.{before_last, start_of, version_of}
use Rattle.live_pair.specs.Story.{Story, edits_in, publishes, told, unpublished}
use Rattle.live_pair.specs.declared.edits.HistoryEvent.{HistoryEvent}
use Rattle.live_pair.specs.declared.edits.HistoryEvent.TheVariants.{Staged, Publish}
use Rattle.policy_table.specs.declared.change.Change.{Change}

-- ---- publishes before the last

-- with one publish more, those before the last are all that were there
before_more : (ps : List (List (List Change))) (p : List (List Change)) → before_last (ps ++ p ∷ []) ≡ version_of ps
before_more [] p = refl
before_more (x ∷ []) p = omega (arith, ap (λ (l : List (List Change)). length l) (append-nil x))
before_more (x ∷ y ∷ ys) p = omega (arith, before_more (y ∷ ys) p, length-append x (edits_in (y ∷ ys)))

start_more : (opened : List (List Change)) (ps : List (List (List Change))) (p : List (List Change)) → start_of (opened ∷ ps ++ p ∷ []) ≡ version_of (opened ∷ ps)
start_more opened ps p = omega (arith, before_more ps p, length-append opened (edits_in ps))

-- behind one publish more the log starts at the version before it
start_published : (first : List (List Change)) (log : List HistoryEvent) (p : List (List Change)) → start_of (publishes first log ++ p ∷ []) ≡ version_of (publishes first log)
start_published first log p =
    let begun : IsPrefix (first ∷ []) (publishes first log) = publishes_grow first [] log (log, refl) in
    subst (λ (ps : List (List (List Change))). start_of (ps ++ p ∷ []) ≡ version_of ps) begun.1 (start_more first begun.0 p)

before_least : (ps : List (List (List Change))) → before_last ps ≤ version_of ps
before_least [] = omega arith
before_least (x ∷ []) = omega arith
before_least (x ∷ y ∷ ys) = omega (arith, before_least (y ∷ ys), length-append x (edits_in (y ∷ ys)))

-- it starts at no later version than that of its publishes
pub start_least : (whole : Bool) (ps : List (List (List Change))) → start_by whole ps ≤ version_of ps
start_least true [] = omega arith
start_least true (x ∷ ps) = omega (arith, before_least ps, length-append x (edits_in ps))
start_least false ps = omega arith

-- ---- what is in no publish yet

rest_behind : (s : Story) (x : HistoryEvent) → is_published_by (Some x) ≡ true → (told s x).rest ≡ []
rest_behind s (Staged edits) is = absurd (true≢false (sym is))
rest_behind s Publish is = refl

rest_from : (s : Story) (last : Option HistoryEvent) (log : List HistoryEvent) → (is_published_by last ≡ true → s.rest ≡ []) → is_published_by (fold (λ (_ : Option HistoryEvent) (x : HistoryEvent). Some x) last log) ≡ true → (fold told s log).rest ≡ []
rest_from s last [] none is = none is
rest_from s last (x ∷ log) none is = rest_from (told s x) (Some x) log (rest_behind s x) is

-- where nothing was handed over since the last publish, each edit is in a publish
pub none_waits : (first : List (List Change)) (log : List HistoryEvent) → is_published log ≡ true → unpublished first log ≡ []
none_waits first log is = rest_from (record { done = first ∷ []; rest = [] }) None log (λ e. refl) is

-- ---- one event more

pub is_staged : (log next : List HistoryEvent) (es : List (List Change)) → next ≡ log ++ Staged es ∷ [] → false ≡ is_published next
is_staged log next es more = sym (ap (λ (l : List HistoryEvent). is_published l) more ∙ ap (λ (o : Option HistoryEvent). is_published_by o) (ending_more log (Staged es)))

pub is_closed : (log next : List HistoryEvent) → next ≡ log ++ Publish ∷ [] → true ≡ is_published next
is_closed log next more = sym (ap (λ (l : List HistoryEvent). is_published l) more ∙ ap (λ (o : Option HistoryEvent). is_published_by o) (ending_more log Publish))

pub start_staged : (first : List (List Change)) (log next : List HistoryEvent) (es : List (List Change)) (start : ℕ) → next ≡ log ++ Staged es ∷ [] → start ≡ version_of (publishes first log) → start ≡ start_by (is_published next) (publishes first next)
start_staged first log next es start more is =
    let same : publishes first next ≡ publishes first log = ap (λ (l : List HistoryEvent). publishes first l) more ∙ ap (λ (s : Story). s.done) (story_more first log (Staged es)) in
    is ∙ sym (ap (λ (b : Bool). start_by b (publishes first next)) (sym (is_staged log next es more)) ∙ ap (λ (ps : List (List (List Change))). version_of ps) same)

pub start_closed : (first : List (List Change)) (log next : List HistoryEvent) (start : ℕ) → next ≡ log ++ Publish ∷ [] → false ≡ is_published log → start ≡ start_by (is_published log) (publishes first log) → start ≡ start_by (is_published next) (publishes first next)
start_closed first log next start more waits is =
    let here : start ≡ version_of (publishes first log) = is ∙ ap (λ (b : Bool). start_by b (publishes first log)) (sym waits) in
    let done : publishes first next ≡ publishes first log ++ unpublished first log ∷ [] = ap (λ (l : List HistoryEvent). publishes first l) more ∙ ap (λ (s : Story). s.done) (story_more first log Publish) in
    here
    ∙ sym (ap (λ (b : Bool). start_by b (publishes first next)) (sym (is_closed log next more)) ∙ ap (λ (ps : List (List (List Change))). start_of ps) done ∙ start_published first log (unpublished first log))
