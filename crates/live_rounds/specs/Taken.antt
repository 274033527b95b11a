-- Lines that are taken, those of each round once it is over.
use Rattle.std.specs.Prelude.{◌≡◌, ◌⊎◌, List, [], ◌∷◌, ◌++◌}
use Rattle.answer_lines.specs.declared.answer.Line.{Line}
use Rattle.live_rounds.specs.Shares.{in_turn}
use Rattle.live_rounds.specs.declared.taker.TakeStop.{TakeStop}
use Rattle.live_rounds.specs.declared.taker.TakeStop.TheVariants.{NoMemory}

module _ {X : Type 0} (took : X → List Line → X → Type 0) where
  -- lists of lines were taken, one after the other
  abbrev pub AreTaken : X → List (List Line) → X → Type 0
  AreTaken old [] new = new ≡ old
  AreTaken old (lines ∷ lists) new = (mid : X) × took old lines mid × AreTaken mid lists new

  -- these lines were, list by list
  pub record AreAllTaken (old : X) (lines : List Line) (new : X) : Type 0 where
    pub lists : List (List Line)
    pub taken : AreTaken old lists new
    pub are : lines ≡ in_turn lists

  -- the first of these lines were, and no others; or others were not taken to their end
  pub record AreSomeTaken (stopped : X → List Line → X → TakeStop → Type 0) (old : X) (lines : List Line) (new : X) (stop : TakeStop) : Type 0 where
    pub lists : List (List Line)
    pub mid : X
    pub next : List Line
    pub more : List Line
    pub taken : AreTaken old lists mid
    pub parts : lines ≡ in_turn lists ++ (next ++ more)
    pub ends : ((stop ≡ NoMemory) × (new ≡ mid)) ⊎ stopped mid next new stop
