-- What a cache is to a seat, and what a request is answered at a seat by way of one (Casbin, the cached enforcer).
use Rattle.std.specs.Prelude.{◌≡◌, ◌⊎◌, ◌≤◌, ℕ, List, [], IsTrue, take}
use Rattle.answer_cache.specs.Answered.{IsAnswered}
use Rattle.answer_cache.specs.Cached.{Cached, at_version, entries_of}
use Rattle.answer_cache.specs.Good.{AreJudged}
use Rattle.live_pair.specs.Seats.{SeatSeen, version_of}
use Rattle.live_pair.specs.Story.{edits_in}
use Rattle.live_seat.specs.Decided.{IsDecidedAt}
use Rattle.live_seat.specs.declared.answered.Answered.{Answered}
use Rattle.live_seat.specs.declared.answered.SeatAnswer.{SeatAnswer}
use Rattle.live_seat.specs.declared.answered.SeatStop.{SeatStop}
use Rattle.live_seat.specs.declared.answered.SeatStop.TheVariants.{NoMemory, Shut}
use Rattle.model_conf.specs.ModelText.{ModelParts}
use Rattle.perm_base.specs.declared.shapes.Shapes.{Shapes}
use Rattle.perm_value.specs.Datum.{Datum}
use Rattle.policy_table.specs.Changes.{replay}
use Rattle.policy_table.specs.Tables.{Policy}
use Rattle.policy_table.specs.declared.change.Change.{Change}
use Rattle.regex_gate.specs.Refusals.{Refusals}

-- the tables of a version: those behind the first so many edits of publishes
abbrev pub tables_of_version : ℕ → Policy → List (List (List Change)) → Policy
tables_of_version version opening front = replay (take version (edits_in front)) opening

-- the verdicts of a cache are of publishes: these have its version, and each verdict is that of judging anew over the tables of that version
pub record AreOf (model : ModelParts) (shapes : Shapes) (opening : Policy) (front : List (List (List Change))) (cache : Cached) : Type 0 where
  pub within : cache.version ≤ version_of front
  pub judged : AreJudged model shapes (tables_of_version cache.version opening front) (entries_of cache)

-- a cache serves a seat that knows of these publishes: it has no verdicts, or they are of them
abbrev pub ServesAt : ModelParts → Shapes → Policy → List (List (List Change)) → Cached → Type 0
ServesAt model shapes opening front cache = (cache.entries ≡ []) ⊎ AreOf model shapes opening front cache

-- what an answer by way of a cache tells of the decision
abbrev pub decision_of : SeatAnswer → Answered
decision_of told = record { version = told.version; verdict = told.answer.verdict }

-- a request is decided by one entry, and is answered by way of the cache at the version of the front; where it stood there, the finder was not asked
pub record IsCachedAt (model : ModelParts) (shapes : Shapes) (opening : Policy) (values : List Datum) (before now : Refusals) (old new : SeatSeen) (cache left : Cached) (told : SeatAnswer) : Type 0 where
  pub decided : IsDecidedAt model shapes opening values before now old new (decision_of told)
  pub answered : IsAnswered values (at_version (version_of new.front) cache) left told.answer
  pub untouched : IsTrue told.answer.hit → now ≡ before

-- what becomes of the cache where nothing is answered: it stays where the entry was refused, and else has gone to the version of the front
abbrev pub IsLeft : List (List (List Change)) → (cache left : Cached) → SeatStop → Type 0
IsLeft front cache left Shut = left ≡ cache
IsLeft front cache left NoMemory = left ≡ at_version (version_of front) cache
