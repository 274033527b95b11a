-- What a round leaves: its lines, what the finders refused, and where its seats stand.
use Rattle.std.specs.Prelude.{◌≡◌, ◌≤◌, ◌+◌, ℕ, ⊤, min, List, [], ◌∷◌, ◌++◌, Option, Some, None, length, map, sum_by}
use Rattle.std.specs.List.{AllZip}
use mathlib.Core.List.{IsPrefix}
use Rattle.answer_lines.specs.Printed.{PrintedAnswer, PrintedLine}
use Rattle.answer_lines.specs.declared.printed.Shown.{Shown}
use Rattle.answer_lines.specs.declared.printed.Shown.TheVariants as shown
use Rattle.answer_lines.specs.Printed.{printed_line}
use Rattle.answer_lines.specs.declared.answer.Line.{Line}
use Rattle.live_pair.specs.Admins.{AdminSeen}
use Rattle.live_pair.specs.Seats.{SeatSeen, version_of}
use Rattle.live_rounds.specs.Administrators.{IsAdminBehind}
use Rattle.live_rounds.specs.Lists.{last_from}
use Rattle.live_rounds.specs.Requests.{at_each_request}
use Rattle.model_conf.specs.ModelText.{ModelParts}
use Rattle.outside.specs.Faults.{Rose, most_faults}
use Rattle.perm_base.specs.declared.shapes.Shapes.{Shapes}
use Rattle.policy_table.specs.Tables.{Policy}
use Rattle.regex_gate.specs.Refusals.{Refusals, after_refusals}
use Rattle.script_read.specs.Said.{Said}
use Rattle.session_meaning.specs.Plain.{all_refused}
use Rattle.session_meaning.specs.Rounds.{AreOfRound, shares}

-- ---- finders

-- the finders refused these patterns, each finder its own list
abbrev pub HaveRefused : (before now : List Refusals) → List (List (List ℕ)) → Type 0
HaveRefused [] [] [] = ⊤
HaveRefused (before ∷ befores) (now ∷ nows) (more ∷ others) = (now ≡ after_refusals before more) × HaveRefused befores nows others
HaveRefused _ _ _ = ⊥

-- the lines of a round, and what was refused for its items: the finders refused each pattern at least as often, however patterns
-- are weighed
pub record AreLinesOf (model : ModelParts) (shapes : Shapes) (opening : Policy) (workers : ℕ) (before round : List Said) (finders now : List Refusals) (lines : List Line) : Type 0 where
  pub refused : List (List (List ℕ))
  pub lines_are : AreOfRound model shapes opening workers before round refused lines
  pub more : List (List (List ℕ))
  pub used : HaveRefused finders now more
  pub told : (weight : List ℕ → ℕ) → sum_by weight (all_refused refused) ≤ sum_by weight (all_refused more)

-- ---- seats

-- the version that an answer shows where it is a verdict
abbrev pub version_shown : Shown → Option ℕ
version_shown (shown.Allow version) = Some version
version_shown (shown.Deny version) = Some version
version_shown (shown.Fault version) = Some version
version_shown _ = None

-- a version in front of others, where there is one
abbrev pub onto_shown : Option ℕ → List ℕ → List ℕ
onto_shown None versions = versions
onto_shown (Some version) versions = version ∷ versions

-- the versions of verdicts
abbrev pub versions_shown : List PrintedAnswer → List ℕ
versions_shown [] = []
versions_shown (reply ∷ replies) = onto_shown (version_shown reply.shown) (versions_shown replies)

-- where no entry of a seat was refused, and its version is not above this one, it made at least as many entries as its share has
-- verdicts, and the last of these shows the version of its last entry
abbrev pub HasEntered : (version : ℕ) (share : List PrintedAnswer) (old new : SeatSeen) → Type 0
HasEntered version share old new =
    (¬ Rose old.refused new.refused) → version_of new.front ≤ version
    → (min (old.entries + length (versions_shown share)) most_faults ≤ new.entries) × (last_from new.last (versions_shown share) ≡ new.last)

-- seats and their shares, as far as there are both
abbrev pub EachHasEntered : (version : ℕ) → List (List PrintedAnswer) → (olds news : List SeatSeen) → Type 0
EachHasEntered version (share ∷ shares) (old ∷ olds) (new ∷ news) = HasEntered version share old new × EachHasEntered version shares olds news
EachHasEntered version _ _ _ = ⊤

-- so it is for the seats and the shares of the requests of a round
abbrev pub AreEntered : (workers : ℕ) → List Said → AdminSeen → (olds news : List SeatSeen) → List PrintedLine → Type 0
AreEntered workers round admin olds news printed = EachHasEntered (version_of admin.list) (shares workers (map (λ (line : PrintedLine). line.answer) (at_each_request round printed))) olds news

-- each seat knows of all that it knew of, and of the administrator's publishes
abbrev pub HaveLearned : AdminSeen → (olds news : List SeatSeen) → Type 0
HaveLearned admin olds news = AllZip (λ (old new : SeatSeen). IsPrefix old.front new.front × IsPrefix admin.list new.front) olds news

-- ---- a round

-- what a round behind others leaves: its lines as they are printed, the administrator behind it, and its seats
pub record IsRun (model : ModelParts) (shapes : Shapes) (opening : Policy) (workers : ℕ) (before round : List Said) (new : AdminSeen) (olds news : List SeatSeen) (finders now : List Refusals) (printed : List PrintedLine) : Type 0 where
  pub lines : List Line
  pub told : printed ≡ map printed_line lines
  pub lines_are : AreLinesOf model shapes opening workers before round finders now lines
  pub behind : IsAdminBehind shapes opening (before ++ round) new
  pub entered : AreEntered workers round new olds news printed
  pub learned : HaveLearned new olds news
