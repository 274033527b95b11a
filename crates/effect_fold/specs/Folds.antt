-- A fold is seen by the outcomes that it took.
use Rattle.std.specs.Prelude.{◌≡◌, Bool, List, find, is_some}
use Rattle.effect_fold.specs.Helps.Progress.{Progress, begun, behind}
use Rattle.effect_fold.specs.Verdict.{Taken, ends}
use Rattle.effect_fold.specs.declared.effect.Effect.{Effect}

-- the fold has this effect, and took these outcomes in their order
unfoldable pub HasTaken : Progress → Effect → List Taken → Type 0
HasTaken fold e outcomes = fold ≡ behind (begun e) outcomes

-- an outcome among these ends the evaluation, so that no later one changes the verdict
abbrev pub is_settled : Effect → List Taken → Bool
is_settled e outcomes = is_some (find (ends e) outcomes)
