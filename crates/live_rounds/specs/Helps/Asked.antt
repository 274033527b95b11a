-- Requests that are answered over one policy.
use Rattle.std.specs.Prelude.{◌≡◌, ℕ, ⊤, false, List, [], ◌∷◌, ◌++◌, drop, length}
use Rattle.answer_lines.specs.Printed.{PrintedAnswer}
use Rattle.model_conf.specs.ModelText.{ModelParts}
use Rattle.perm_base.specs.declared.shapes.Shapes.{Shapes}
use Rattle.policy_state.specs.States.{State, tables}
use Rattle.policy_table.specs.Tables.{Policy}
use Rattle.regex_gate.specs.Refusals.{Refusals, after_refusals}
use Rattle.live_rounds.specs.Printed.{IsPrinted}
use Rattle.live_rounds.specs.Requests.{requests}
use Rattle.script_read.specs.Said.{Reading, Said, asks}
use Rattle.session_meaning.specs.Plain.{all_refused}
use Rattle.session_meaning.specs.Replies.{IsAnswerTo, is_decided}
use Rattle.version_log.specs.Log.{versions}

module _ (model : ModelParts) (shapes : Shapes) (version : ℕ) (policy : Policy) where
  -- one request, for which these patterns were refused
  pub record IsAnsweredOver (refused : List (List ℕ)) (reply : PrintedAnswer) (reading : Reading) : Type 0 where
    pub answers : IsPrinted (IsAnswerTo model shapes refused version policy reading) reply
    pub unasked : is_decided model (asks reading) ≡ false → refused ≡ []

  -- requests, one each
  abbrev pub AreAnsweredOver : List (List (List ℕ)) → List PrintedAnswer → List Reading → Type 0
  AreAnsweredOver [] [] [] = ⊤
  AreAnsweredOver (refused ∷ others) (reply ∷ replies) (reading ∷ readings) = IsAnsweredOver refused reply reading × AreAnsweredOver others replies readings
  AreAnsweredOver _ _ _ = ⊥

-- behind other replies stand those to these requests over a policy
pub record AddsAnswered (model : ModelParts) (state : State) (before now : Refusals) (readings : List Reading) (old new : List PrintedAnswer) : Type 0 where
  pub refused : List (List (List ℕ))
  pub replies : List PrintedAnswer
  pub added : new ≡ old ++ replies
  pub logged : now ≡ after_refusals before (all_refused refused)
  pub answered : AreAnsweredOver model state.shapes (versions state.log) (tables state) refused replies readings

-- ---- parts one after the other

-- what is kept for the first part, and for the others: nothing where there is none
abbrev pub first_kept : List (List PrintedAnswer) → List PrintedAnswer
first_kept [] = []
first_kept (kept ∷ others) = kept

abbrev pub others_kept : List (List PrintedAnswer) → List (List PrintedAnswer)
others_kept [] = []
others_kept (kept ∷ others) = others

module _ (model : ModelParts) (state : State) where
  -- the replies to the requests of parts, part by part: what is kept, and for the others what they are answered over a policy
  abbrev pub AreShared : List (List Said) → (kept : List (List PrintedAnswer)) → (before now : Refusals) → List (List PrintedAnswer) → Type 0
  AreShared [] kept before now [] = now ≡ before
  AreShared (part ∷ parts) kept before now (replies ∷ others) =
      (mid : Refusals) × AddsAnswered model state before mid (drop (length (first_kept kept)) (requests part)) (first_kept kept) replies × AreShared parts (others_kept kept) mid now others
  AreShared _ kept before now _ = ⊥

  -- they stand behind those of other parts
  pub record AddsShared (parts : List (List Said)) (kept : List (List PrintedAnswer)) (before now : Refusals) (old new : List (List PrintedAnswer)) : Type 0 where
    pub more : List (List PrintedAnswer)
    pub added : new ≡ old ++ more
    pub shared : AreShared parts kept before now more
