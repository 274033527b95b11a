-- The lines of a whole script whose requests are answered by workers, and what the finders refused for them.
use Rattle.std.specs.Prelude.{◌≡◌, ◌≤◌, ℕ, suc, List, [], ◌∷◌, ◌++◌, if◌then◌else◌, length, sum_by}
use Rattle.answer_lines.specs.declared.answer.Line.{Line}
use Rattle.live_rounds.specs.Done.{HaveRefused}
use Rattle.live_rounds.specs.Taken.{AreAllTaken, AreSomeTaken}
use Rattle.live_rounds.specs.declared.taker.TakeStop.{TakeStop}
use Rattle.model_conf.specs.ModelText.{ModelParts}
use Rattle.perm_base.specs.declared.shapes.Shapes.{Shapes}
use Rattle.policy_table.specs.Tables.{Policy}
use Rattle.regex_gate.specs.Refusals.{Refusals}
use Rattle.script_read.specs.Said.{Said}
use Rattle.session_meaning.specs.Plain.{all_refused}
use Rattle.session_meaning.specs.Rounds.{IsShared, is_sync}

-- the size of the first round: up to and with a sync, or to the end
abbrev pub round_size : List Said → ℕ
round_size [] = 0
round_size (item ∷ items) = if is_sync item then 1 else suc (round_size items)

-- this is the first round of items, and these are left behind it
pub record IsFirstRound (items round left : List Said) : Type 0 where
  pub parts : items ≡ round ++ left
  pub size : round_size items ≡ length round

-- these are lines of the items with so many workers. The finders, each by itself, refused each pattern at least as often as it was
-- refused for the items, however patterns are weighed
pub record AreSharedLines (model : ModelParts) (shapes : Shapes) (opening : Policy) (workers : ℕ) (finders now : List Refusals) (items : List Said) (lines : List Line) : Type 0 where
  pub refused : List (List (List ℕ))
  pub shared : IsShared model shapes opening workers items refused lines
  pub more : List (List (List ℕ))
  pub used : HaveRefused finders now more
  pub told : (weight : List ℕ → ℕ) → sum_by weight (all_refused refused) ≤ sum_by weight (all_refused more)

-- ---- lines that are taken

module _ {X : Type 0} (took : X → List Line → X → Type 0) (model : ModelParts) (shapes : Shapes) (opening : Policy) (workers : ℕ) (finders now : List Refusals) (items : List Said) where
  -- lines of the items were taken
  pub record AreAllShared (old new : X) : Type 0 where
    pub lines : List Line
    pub are : AreSharedLines model shapes opening workers finders now items lines
    pub taken : AreAllTaken took old lines new

  -- they were not taken to their end
  pub record AreSomeShared (stopped : X → List Line → X → TakeStop → Type 0) (old new : X) (stop : TakeStop) : Type 0 where
    pub lines : List Line
    pub are : AreSharedLines model shapes opening workers finders now items lines
    pub taken : AreSomeTaken took stopped old lines new stop
