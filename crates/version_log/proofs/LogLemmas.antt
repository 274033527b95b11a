-- What a log stands for, and edits in two parts.
use Rattle.std.proofs.Common.{◌≡◌, ℕ, ◌+◌, ◌-◌, ◌<◌, ◌≤◌, List, [], ◌∷◌, ◌++◌, length, length-append, length-drop, drop, refl, sym, ap, ◌∙◌, arith}
use Rattle.std.proofs.Math.Seq.{drop-drop}
use Rattle.std.proofs.lemmas.List.{drop-append-le}
use Rattle.policy_table.specs.Changes.{edited, replay}
use Rattle.policy_table.specs.Tables.{Policy}
use Rattle.policy_table.specs.declared.change.Change.{Change}
use Rattle.version_log.specs.Log.{Logged, Stands, versions}

pub replay_both : (front back : List (List Change)) (policy : Policy) → replay (front ++ back) policy ≡ replay back (replay front policy)
replay_both [] back policy = refl
replay_both (edit ∷ front) back policy = replay_both front back (edited edit policy)

-- one edit more
pub stands_more : (log after : Logged) (history : List (List Change)) (edit : List Change) → after.start ≡ log.start → after.tail ≡ log.tail ++ edit ∷ [] → Stands log history → Stands after (history ++ edit ∷ [])
stands_more log after history edit start tail stands = record {
  within = omega (arith, start, stands.within, length-append history (edit ∷ []));
  tail = tail ∙ ap (λ (l : List (List Change)). l ++ edit ∷ []) stands.tail ∙ sym (drop-append-le log.start history (edit ∷ []) stands.within) ∙ ap (λ (n : ℕ). drop n (history ++ edit ∷ [])) (sym start);
}

-- a later start
pub stands_from : (log after : Logged) (history : List (List Change)) (to : ℕ) → log.start ≤ to → to ≤ versions log → after.start ≡ to → after.tail ≡ drop (to - log.start) log.tail → Stands log history → Stands after history
stands_from log after history to from until start tail stands =
    let size : length log.tail ≡ length history - log.start = ap (λ (l : List (List Change)). length l) stands.tail ∙ length-drop log.start history in
    let rest : drop (to - log.start) log.tail ≡ drop to history = ap (drop (to - log.start)) stands.tail ∙ drop-drop (to - log.start) log.start history ∙ ap (λ (m : ℕ). drop m history) (omega (arith, from)) in
    record {
      within = omega (arith, stands.within, size, until, start);
      tail = tail ∙ rest ∙ ap (λ (m : ℕ). drop m history) (sym start);
    }

-- an edit more that is dropped
pub dropped_more : (tail now next : List (List Change)) (count : ℕ) → now ≡ drop count tail → next ≡ drop 1 now → next ≡ drop (count + 1) tail
dropped_more tail now next count is step = step ∙ ap (drop 1) is ∙ drop-drop 1 count tail

-- where fewer are dropped than there are, one is left
pub some_left : (log now : Logged) (count : ℕ) → now.tail ≡ drop count log.tail → count < length log.tail → 0 < length now.tail
some_left log now count is less =
    let size : length now.tail ≡ length log.tail - count = ap (λ (l : List (List Change)). length l) is ∙ length-drop count log.tail in
    omega (arith, size, less)

-- a start that follows what is dropped leaves the number of versions
pub same_versions : (log now : Logged) (count : ℕ) → now.start ≡ log.start + count → now.tail ≡ drop count log.tail → count ≤ length log.tail → versions now ≡ versions log
same_versions log now count start is few =
    let size : length now.tail ≡ length log.tail - count = ap (λ (l : List (List Change)). length l) is ∙ length-drop count log.tail in
    omega (arith, start, size, few)
