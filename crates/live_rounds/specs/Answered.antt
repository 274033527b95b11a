-- Requests of a round that are answered at cuts of it.
use Rattle.std.specs.Prelude.{◌≡◌, ◌≤◌, ℕ, ⊤, false, List, [], ◌∷◌, ◌++◌}
use Rattle.answer_lines.specs.Printed.{PrintedAnswer}
use Rattle.live_rounds.specs.Printed.{IsPrinted}
use Rattle.model_conf.specs.ModelText.{ModelParts}
use Rattle.perm_base.specs.declared.shapes.Shapes.{Shapes}
use Rattle.policy_table.specs.Tables.{Policy}
use Rattle.script_read.specs.Said.{Reading, Said, asks}
use Rattle.session_meaning.specs.Replies.{IsAnswerTo, is_decided}
use Rattle.session_meaning.specs.Rounds.{IsCut}
use Rattle.session_meaning.specs.Versions.{tables_at}

-- versions that do not fall, from this one on
abbrev pub Rise : ℕ → List ℕ → Type 0
Rise low [] = ⊤
Rise low (version ∷ versions) = (low ≤ version) × Rise version versions

module _ (model : ModelParts) (shapes : Shapes) (opening : Policy) (before round : List Said) where
  -- a request is answered at a cut of the round behind others, where these patterns were refused for it
  pub record IsAnsweredAt (version : ℕ) (refused : List (List ℕ)) (reply : PrintedAnswer) (reading : Reading) : Type 0 where
    pub cut : IsCut shapes opening before round version
    pub answers : IsPrinted (IsAnswerTo model shapes refused version (tables_at shapes opening (before ++ round) version) reading) reply
    pub unasked : is_decided model (asks reading) ≡ false → refused ≡ []

  -- the first of these requests are, as many as there are replies
  abbrev pub AreAnsweredAt : List ℕ → List (List (List ℕ)) → List PrintedAnswer → List Reading → Type 0
  AreAnsweredAt [] [] [] readings = ⊤
  AreAnsweredAt (version ∷ versions) (refused ∷ others) (reply ∷ replies) (reading ∷ readings) = IsAnsweredAt version refused reply reading × AreAnsweredAt versions others replies readings
  AreAnsweredAt _ _ _ _ = ⊥
