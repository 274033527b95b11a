-- Edits that are put behind the others of a log, one after the other; what a policy stands for.
use Rattle.std.proofs.Common.{◌≡◌, ℕ, ◌+◌, ◌-◌, ◌≤◌, List, [], ◌∷◌, ◌++◌, length, drop, append_assoc, sym, ap, subst, ◌∙◌, arith, length-append, length-drop}
use Rattle.policy_state.specs.States.{StandsFor, State, tables}
use Rattle.policy_table.specs.Changes.{replay}
use Rattle.policy_table.specs.Tables.{Policy}
use Rattle.policy_table.specs.declared.change.Change.{Change}
use Rattle.version_log.specs.Log.{Logged, Stands, most_versions, versions}
use Rattle.version_log.proofs.CallerLemmas.{replay_both}

-- the log after some of the edits, with those that are left
pub record Pushes (whole : List (List Change)) (old : Logged) (rest : List (List Change)) (log : Logged) : Type 0 where
  pub done : List (List Change)
  pub all : done ++ rest ≡ whole
  pub room : length rest ≤ log.spare
  pub few : versions log + length rest ≤ most_versions
  pub start : log.start ≡ old.start
  pub tail : log.tail ≡ old.tail ++ done
  pub versions_all : versions log + length rest ≡ versions old + length whole
  pub stands : (history : List (List Change)) → Stands old history → Stands log (history ++ done)

-- one more
pub pushes_more : (whole : List (List Change)) (old : Logged) (edit : List Change) (rest : List (List Change)) (log new : Logged) → Pushes whole old (edit ∷ rest) log
    → new.start ≡ log.start → new.tail ≡ log.tail ++ edit ∷ [] → new.spare + 1 ≡ log.spare
    → ((history : List (List Change)) → Stands log history → Stands new (history ++ edit ∷ [])) → Pushes whole old rest new
pushes_more whole old edit rest log new is start tail spare stands = record {
  done = is.done ++ edit ∷ [];
  all = append_assoc is.done (edit ∷ []) rest ∙ is.all;
  room = omega (arith, is.room, spare);
  few = omega (arith, is.few, more);
  start = start ∙ is.start;
  tail = tail ∙ ap (λ (l : List (List Change)). l ++ edit ∷ []) is.tail ∙ append_assoc old.tail is.done (edit ∷ []);
  versions_all = omega (arith, is.versions_all, more);
  stands = λ history before. subst (Stands new) (append_assoc history is.done (edit ∷ [])) (stands (history ++ is.done) (is.stands history before));
}
  where
    more : versions new ≡ versions log + 1
    more = omega (arith, start, ap length tail, length-append log.tail (edit ∷ []))

-- ---- what a policy stands for

-- the version of a log is the number of edits that it stands for
pub version_stands : (log : Logged) (history : List (List Change)) → Stands log history → versions log ≡ length history
version_stands log history stands =
    let size : length log.tail ≡ length history - log.start = ap (λ (l : List (List Change)). length l) stands.tail ∙ length-drop log.start history in
    omega (arith, size, stands.within)

-- a log as it was
pub log_stands_same : (log new : Logged) (history : List (List Change)) → new.start ≡ log.start → new.tail ≡ log.tail → Stands log history → Stands new history
log_stands_same log new history start tail stands = record {
  within = omega (arith, stands.within, start);
  tail = tail ∙ stands.tail ∙ ap (λ (n : ℕ). drop n history) (sym start);
}

-- a policy as it was
pub stands_same : (state new : State) (opening : Policy) (history : List (List Change)) → new.log.start ≡ state.log.start → new.log.tail ≡ state.log.tail → tables new ≡ tables state
    → StandsFor state opening history → StandsFor new opening history
stands_same state new opening history start tail same stands = record {
  log = log_stands_same state.log new.log history start tail stands.log;
  tables = same ∙ stands.tables;
}

-- a policy after further edits
pub stands_after : (state new : State) (opening : Policy) (history edits : List (List Change)) → Stands new.log (history ++ edits) → tables new ≡ replay edits (tables state) → StandsFor state opening history
    → StandsFor new opening (history ++ edits)
stands_after state new opening history edits log made stands = record {
  log = log;
  tables = made ∙ ap (replay edits) stands.tables ∙ sym (replay_both history edits opening);
}
