-- What the copy that is shown comes to.
use Rattle.std.proofs.Common.{◌≡◌, ◌⊎◌, inl, inr, ℕ, ◌+◌, ◌-◌, ◌<◌, ◌≤◌, ◌==◌, Bool, true, false, MatchBool, List, [], ◌∷◌, ◌++◌, length, length-append, fold, Result, Ok, Err, MatchResult, OnOk, Option, Some, None, refl, ap, sym, ◌∙◌, arith, true≢false}
use Rattle.std.specs.Prelude.{nat_lt}
use Rattle.std.proofs.lemmas.Bool.{eq-eqb}
use Rattle.std.proofs.lemmas.Bool.Decides.{nat_tests}
use Rattle.std.proofs.lemmas.List.{append_cancel_right}
use Rattle.std.proofs.lemmas.List.Sums.{fold-append}
use mathlib.Core.List.{IsPrefix}
use Rattle.live_pair.proofs.StoryLemmas.{ending_more, next_publish, story_more}
use Rattle.live_pair.specs.Helps.Sides.{closed, closed_by, ending}
use Rattle.live_pair.specs.Story.{Story, publishes}
use Rattle.live_pair.specs.declared.edits.HistoryEvent.{HistoryEvent}
use Rattle.live_pair.specs.declared.edits.HistoryEvent.TheVariants.{Staged, Publish}
use Rattle.policy_table.specs.declared.change.Change.{Change}

-- a history that ends in edits, with its publish or without
pub closed_told : (told old new : List HistoryEvent) (edits : List (List Change)) (done : Bool) → ending told ≡ Some (Staged edits) → old ≡ told → MatchBool done (new ≡ old ++ Publish ∷ []) (new ≡ old) → closed new ≡ told ++ Publish ∷ []
closed_told told old new edits true last same is =
    ap closed (is ∙ ap (λ (l : List HistoryEvent). l ++ Publish ∷ []) same) ∙ ap (λ (e : Option HistoryEvent). closed_by e (told ++ Publish ∷ [])) (ending_more told Publish)
closed_told told old new edits false last same is = ap closed (is ∙ same) ∙ ap (λ (e : Option HistoryEvent). closed_by e told) last

-- what comes to a history and a publish is the one or both
pub opened : (log shown : List HistoryEvent) → closed shown ≡ log ++ Publish ∷ [] → (shown ≡ log) ⊎ (shown ≡ log ++ Publish ∷ [])
opened log shown is = by (ending shown) is
  where
    by : (last : Option HistoryEvent) → closed_by last shown ≡ log ++ Publish ∷ [] → (shown ≡ log) ⊎ (shown ≡ log ++ Publish ∷ [])
    by (Some (Staged edits)) e = inl (append_cancel_right shown log (Publish ∷ []) e)
    by (Some Publish) e = inr e
    by None e = inr e

-- where it is not both, it is the one
pub lacks_publish : (log shown : List HistoryEvent) → closed shown ≡ log ++ Publish ∷ [] → ¬ (shown ≡ log ++ Publish ∷ []) → shown ≡ log
lacks_publish log shown is other = by (opened log shown is)
  where
    by : (shown ≡ log) ⊎ (shown ≡ log ++ Publish ∷ []) → shown ≡ log
    by (inl same) = same
    by (inr more) = absurd (other more)

-- the last of some operations alone tells what they come to
pub told_last : {X : Type 0} (told : X → List HistoryEvent) (front : List X) (operation : X) (log line : List HistoryEvent) → told operation ≡ line
    → fold (λ (_ : List HistoryEvent) (x : X). told x ++ Publish ∷ []) log (front ++ operation ∷ []) ≡ line ++ Publish ∷ []
told_last told front operation log line is = fold-append (λ (_ : List HistoryEvent) x. told x ++ Publish ∷ []) log front (operation ∷ []) ∙ ap (λ (l : List HistoryEvent). l ++ Publish ∷ []) is

pub appended : {U X : Type 0} (told : X → List HistoryEvent) (old new : List X) (operation : X) (result : Result U X) → MatchResult result (λ _. new ≡ old ++ operation ∷ []) (λ x. (x ≡ operation) × (new ≡ old))
    → OnOk result ((log : List HistoryEvent) → fold (λ (_ : List HistoryEvent) (x : X). told x ++ Publish ∷ []) log new ≡ told operation ++ Publish ∷ [])
appended told old new operation (Ok u) is = λ log. ap (fold (λ (_ : List HistoryEvent) x. told x ++ Publish ∷ []) log) is ∙ told_last told old operation log (told operation) refl
appended told old new operation (Err x) is = tt

-- ---- one event more

-- a longer list does not begin the shorter
pub no_longer : (xs ys : List HistoryEvent) → IsPrefix ys xs → ¬ (IsPrefix xs ys × (length ys ≡ length xs + 1))
no_longer xs ys begun both = absurd (omega (arith, both.1, ap (λ (l : List HistoryEvent). length l) begun.1, length-append ys begun.0))

-- a history and a publish is one event longer, and has one publish more
pub one_longer : (xs ys : List HistoryEvent) → ys ≡ xs ++ Publish ∷ [] → IsPrefix xs ys × (length ys ≡ length xs + 1)
one_longer xs ys is = ((Publish ∷ [], sym is), omega (arith, ap (λ (l : List HistoryEvent). length l) is, length-append xs (Publish ∷ [])))

pub one_publish_more : (first : List (List Change)) (xs ys : List HistoryEvent) → ys ≡ xs ++ Publish ∷ [] → length (publishes first ys) ≡ length (publishes first xs) + 1
one_publish_more first xs ys is =
    ap (λ (l : List HistoryEvent). length (publishes first l)) is ∙ ap (λ (s : Story). length s.done) (story_more first xs Publish) ∙ length-append (publishes first xs) _

by_difference : (xs ys : List HistoryEvent) → IsPrefix xs ys → (a b : ℕ) → a ≡ length xs → b ≡ length ys → (t : Bool) → ((b - a) == 1) ≡ t
    → MatchBool t (IsPrefix xs ys × (length ys ≡ length xs + 1)) (¬ (IsPrefix xs ys × (length ys ≡ length xs + 1)))
by_difference xs ys begun a b m n true is =
    let one : b - a ≡ 1 = grind (arith, nat_tests) in
    let whole : length xs + length begun.0 ≡ length ys = sym (length-append xs begun.0) ∙ ap (λ (l : List HistoryEvent). length l) begun.1 in
    (begun, omega (arith, one, whole, m, n))
by_difference xs ys begun a b m n false is = λ both.
    let one : b - a ≡ 1 = omega (arith, both.1, m, n) in
    true≢false (sym (eq-eqb (b - a) 1 one) ∙ is)

-- whether a longer list is one event longer, told by the lengths
pub one_short : (xs ys : List HistoryEvent) → IsPrefix xs ys → (a b : ℕ) → a ≡ length xs → b ≡ length ys
    → MatchBool ((b - a) == 1) (IsPrefix xs ys × (length ys ≡ length xs + 1)) (¬ (IsPrefix xs ys × (length ys ≡ length xs + 1)))
one_short xs ys begun a b m n = by_difference xs ys begun a b m n ((b - a) == 1) refl

by_parts : (first : List (List Change)) (xs ys : List HistoryEvent) → IsPrefix xs ys × (length ys ≡ length xs + 1) → (a b : ℕ) → a ≡ length (publishes first xs) → b ≡ length (publishes first ys) → (t : Bool) → nat_lt a b ≡ t
    → MatchBool t (ys ≡ xs ++ Publish ∷ []) (¬ (ys ≡ xs ++ Publish ∷ []))
by_parts first xs ys one a b m n true is =
    let less : a < b = grind (arith, nat_tests) in
    next_publish first xs ys one.0 one.1 (omega (arith, less, m, n))
by_parts first xs ys one a b m n false is = λ more.
    let least : b ≤ a = grind (arith, nat_tests) in
    absurd (omega (arith, least, m, n, one_publish_more first xs ys more))

-- whether the event more is a publish, told by the numbers of publishes
pub publish_short : (first : List (List Change)) (xs ys : List HistoryEvent) → IsPrefix xs ys × (length ys ≡ length xs + 1) → (a b : ℕ) → a ≡ length (publishes first xs) → b ≡ length (publishes first ys)
    → MatchBool (nat_lt a b) (ys ≡ xs ++ Publish ∷ []) (¬ (ys ≡ xs ++ Publish ∷ []))
publish_short first xs ys one a b m n = by_parts first xs ys one a b m n (nat_lt a b) refl
