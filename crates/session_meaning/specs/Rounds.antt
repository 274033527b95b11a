-- The lines of a script whose requests are answered by workers, beside the one thread that does all other items in their order. A
-- script is cut into rounds, and the requests of each round are shared out among the workers.
use Rattle.std.specs.Prelude.{◌≡◌, ℕ, zero, suc, ◌+◌, ◌/◌, ⊤, All, List, [], ◌∷◌, ◌++◌, length, take, drop, if◌then◌else◌}
use Rattle.std.specs.List.Sorted.{IsNonDecreasing}
use Rattle.answer_lines.specs.declared.answer.Line.{Line}
use Rattle.model_conf.specs.ModelText.{ModelParts}
use Rattle.perm_base.specs.declared.shapes.Shapes.{Shapes}
use Rattle.policy_table.specs.Tables.{Policy}
use Rattle.script_read.specs.Said.{Said}
pub use Rattle.script_read.specs.Said.{is_sync}
use Rattle.script_read.specs.Said as said
use Rattle.session_meaning.specs.Plain.{IsLineAt}
use Rattle.session_meaning.specs.Versions.{out, tables_at}

-- ---- rounds and shares

-- an item at the front of the first round
abbrev pub onto_first : Said → List (List Said) → List (List Said)
onto_first item [] = (item ∷ []) ∷ []
onto_first item (round ∷ rounds) = (item ∷ round) ∷ rounds

-- the rounds of a script: each goes up to and with a sync, and the last to the end
abbrev pub rounds_of : List Said → List (List Said)
rounds_of [] = []
rounds_of (item ∷ items) = if is_sync item then (item ∷ []) ∷ rounds_of items else onto_first item (rounds_of items)

-- the size of the first of so many shares, one and others: an even share, and one more where it does not come out even
abbrev pub share_size : ℕ → ℕ → ℕ
share_size others count = (count + others) / suc others

-- a list in so many shares, one behind the other
abbrev pub shares : {X : Type 0} → ℕ → List X → List (List X)
shares zero xs = []
shares (suc others) xs = take (share_size others (length xs)) xs ∷ shares others (drop (share_size others (length xs)) xs)

-- of versions that are chosen for the items of a round, those for its requests
abbrev pub at_requests : List Said → List ℕ → List ℕ
at_requests (said.asks reading ∷ items) (version ∷ versions) = version ∷ at_requests items versions
at_requests (item ∷ items) (version ∷ versions) = at_requests items versions
at_requests _ _ = []

-- ---- one round

module _ (shapes : Shapes) (opening : Policy) where
  -- a cut of a round behind others: the version that is out behind some of its first items
  pub record IsCut (before round : List Said) (version : ℕ) : Type 0 where
    pub front : List Said
    pub back : List Said
    pub parts : round ≡ front ++ back
    pub is_out : version ≡ out shapes opening (before ++ front)

  -- versions for the items of a round: all are cuts, and those for its requests do not fall within the share of a worker
  pub record AreVersions (workers : ℕ) (before round : List Said) (versions : List ℕ) : Type 0 where
    pub cuts : All (IsCut before round) versions
    pub rise : All IsNonDecreasing (shares workers (at_requests round versions))

module _ (model : ModelParts) (shapes : Shapes) (opening : Policy) where
  -- the lines of items behind others, a request at the version that is chosen for it
  abbrev pub AreLinesAt : (ℕ → Policy) → List Said → List Said → List ℕ → List (List (List ℕ)) → List Line → Type 0
  AreLinesAt tables before [] [] [] [] = ⊤
  AreLinesAt tables before (item ∷ items) (version ∷ versions) (refused ∷ others) (line ∷ lines) =
      IsLineAt model shapes opening version (tables version) before item refused line × AreLinesAt tables (before ++ item ∷ []) items versions others lines
  AreLinesAt tables before _ _ _ _ = ⊥

  -- the lines of a round behind others, whose requests may be answered at any of its versions, also at one that stands behind them
  pub record AreOfRound (workers : ℕ) (before round : List Said) (refused : List (List (List ℕ))) (lines : List Line) : Type 0 where
    pub versions : List ℕ
    pub chosen : AreVersions shapes opening workers before round versions
    pub are : AreLinesAt (tables_at shapes opening (before ++ round)) before round versions refused lines

  -- ---- all rounds

  -- the lines of rounds behind others
  abbrev pub AreOfRounds : ℕ → List Said → List (List Said) → List (List (List ℕ)) → List Line → Type 0
  AreOfRounds workers before [] [] [] = ⊤
  AreOfRounds workers before (round ∷ rounds) refused lines =
      AreOfRound workers before round (take (length round) refused) (take (length round) lines)
      × AreOfRounds workers (before ++ round) rounds (drop (length round) refused) (drop (length round) lines)
  AreOfRounds workers before [] _ _ = ⊥

  -- the lines of a whole script with so many workers, one at least
  unfoldable pub IsShared : ℕ → List Said → List (List (List ℕ)) → List Line → Type 0
  IsShared workers items refused lines = AreOfRounds workers [] (rounds_of items) refused lines
