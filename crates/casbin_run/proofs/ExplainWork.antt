-- What explaining requests comes to as a task, and that it is one text.
use Rattle.std.proofs.Common.{◌≡◌, ℕ, ◌==◌, Bool, true, false, List, [], ◌∷◌, ◌++◌, Ok, length, inl, inr, ⊎_elim, refl, sym, ap, subst, ◌∙◌}
use Rattle.std.specs.Prelude.{MatchBool, Option}
use Rattle.std.specs.List.{Contains}
use Rattle.refusal_meaning.specs.Unread.{AreUnreadable}
use Rattle.answer_lines.specs.LineText.{line_text}
use Rattle.answer_lines.specs.declared.answer.Line.{Line}
use Rattle.model_conf.specs.ModelText.{ModelParts}
use Rattle.near_miss.specs.Lines.{miss_lines}
use Rattle.near_miss.specs.Misses.{AreNearMisses}
use Rattle.near_miss.specs.Parts.{AreParts}
use Rattle.near_miss.specs.declared.misses.NearMiss.{NearMiss}
use Rattle.perm_base.specs.declared.shapes.Shapes.{Shapes}
use Rattle.perm_base.specs.declared.shapes.TableId.TheVariants.{P}
use Rattle.perm_value.specs.Datum.{Datum}
use Rattle.policy_table.specs.Tables as table
use Rattle.refusal_meaning.proofs.CallerLemmas.{unread_left, unread_right}
use Rattle.regex_gate.specs.Refusals.{Refusals}
use Rattle.run_status.specs.declared.stop.Stop.{Stop}
use Rattle.run_status.specs.declared.stop.Stop.TheVariants.{CannotWrite, NoMemory}
use Rattle.script_read.specs.Said.{Said, asks}
use Rattle.session_meaning.specs.Plain.{IsPlain, all_refused}
use Rattle.loaded_work.specs.Explained.{ArePieces, IsBelow, IsExplained, IsPiece, TellsMisses}
use Rattle.loaded_work.specs.Finders.{HasRefused}
use Rattle.casbin_run.specs.Given.{SaysItems}
use Rattle.loaded_work.specs.Helps.ExplainedLines.{ExplainStops, ExplainedAll, ExplainedSome, PiecesOf, PiecesStop}
use Rattle.casbin_run.specs.Helps.Tasks.{DidAll, IsQuiet, WorkStops, Worked, ground}
use Rattle.loaded_work.specs.Texts.{joined}
use Rattle.loaded_work.specs.Sinks.{Taken}
use Rattle.loaded_work.specs.declared.loaded.Loaded.{Loaded}
use Rattle.casbin_run.specs.declared.job.Task.TheVariants.{Explain}

-- ---- as a task

module _ (json : Bool) (most : ℕ) (loaded : Loaded) (left : Option (List ℕ)) (IsSaid : List Said → Type 0) (says : (items : List Said) → IsSaid items → SaysItems (Explain json most) left items) (before now : Refusals) (out out_now : Option (List ℕ)) where
  abbrev explained_work : PiecesOf IsSaid most loaded.model loaded.shapes loaded.tables.policy (HasRefused before now) → Worked (ground (Explain json most) loaded left) (HasRefused before now)
  explained_work of = record {
    items = of.items;
    packets = [];
    refused = of.refused;
    pieces = of.pieces;
    text = joined of.pieces;
    says = says of.items of.says;
    carries = refl;
    room = tt;
    writes = of.explained;
    logged = of.logged;
  }

  pub explained_done : (err : Taken) → ExplainedAll IsSaid most loaded.model loaded.shapes loaded.tables.policy before now out out_now → DidAll (ground (Explain json most) loaded left) (HasRefused before now) out out_now err err
  explained_done err all = record { worked = explained_work all.printed; took = all.took; told = refl }

  some_pieces_stop : (input_rose out_rose : Type 0) (stop : Stop) → ExplainedSome IsSaid most loaded.model loaded.shapes loaded.tables.policy before now out out_now out_rose stop → WorkStops (ground (Explain json most) loaded left) (HasRefused before now) out out_now input_rose out_rose stop
  some_pieces_stop input_rose out_rose CannotWrite some = (record { worked = explained_work some.printed; took = some.stops.0 }, some.stops.1)
  some_pieces_stop input_rose out_rose NoMemory some = inr (record { worked = explained_work some.printed; count = some.stops.0; took = some.stops.1 })
  some_pieces_stop input_rose out_rose _ some = absurd some.stops

  pub explained_stops : (input_rose out_rose : Type 0) (stop : Stop) → ExplainStops IsSaid most loaded.model loaded.shapes loaded.tables.policy before now out out_now out_rose stop
      → WorkStops (ground (Explain json most) loaded left) (HasRefused before now) out out_now input_rose out_rose stop
  explained_stops input_rose out_rose stop stops =
      ⊎_elim (λ early. subst (λ (s : Stop). WorkStops (ground (Explain json most) loaded left) (HasRefused before now) out out_now input_rose out_rose s) (sym early.0) (inl early.1)) (λ some. some_pieces_stop input_rose out_rose stop some) stops

-- its stops are not quiet
memory_not_quiet : {A : Type 0} → IsQuiet NoMemory → A
memory_not_quiet quiet = absurd cc

pieces_not_quiet : {A : Type 0} (out out_now : Option (List ℕ)) (pieces : List (List ℕ)) (out_rose : Type 0) (stop : Stop) → PiecesStop out out_now pieces out_rose stop → IsQuiet stop → A
pieces_not_quiet out out_now pieces out_rose CannotWrite stops quiet = absurd cc
pieces_not_quiet out out_now pieces out_rose NoMemory stops quiet = absurd cc
pieces_not_quiet out out_now pieces out_rose _ stops quiet = absurd stops

pub explain_not_quiet : {A : Type 0} (IsSaid : List Said → Type 0) (most : ℕ) (model : ModelParts) (shapes : Shapes) (policy : table.Policy) (before now : Refusals) (out out_now : Option (List ℕ)) (out_rose : Type 0) (stop : Stop) → ExplainStops IsSaid most model shapes policy before now out out_now out_rose stop → IsQuiet stop → A
explain_not_quiet IsSaid most model shapes policy before now out out_now out_rose stop stops quiet =
    ⊎_elim (λ early. memory_not_quiet (subst IsQuiet early.0 quiet)) (λ some. pieces_not_quiet out out_now some.printed.pieces out_rose stop some.stops quiet) stops

-- ---- one text

-- what the laws of the crates below say
pub record ExplainsOnce : Type 0 where
  pub parts : (model : ModelParts) (first second : List ModelParts) → AreParts model first → AreParts model second → first ≡ second
  pub misses : (shapes : Shapes) (policy : table.Policy) (request : List Datum) (parts : List ModelParts) (most : ℕ) (refused others : List (List ℕ)) (first second : List NearMiss) → AreUnreadable refused → AreUnreadable others
      → AreNearMisses shapes policy request (Contains refused) parts most first → AreNearMisses shapes policy request (Contains others) parts most second → first ≡ second
  pub lines : (model : ModelParts) (shapes : Shapes) (opening : table.Policy) (items : List Said) (refused others : List (List (List ℕ))) (first second : List Line) → IsPlain model shapes opening items refused first → IsPlain model shapes opening items others second
      → AreUnreadable (all_refused refused) → AreUnreadable (all_refused others) → first ≡ second

module _ (once : ExplainsOnce) (parts : List ModelParts) (most : ℕ) (model : ModelParts) (shapes : Shapes) (policy : table.Policy) where
  module _ (few many : List (List ℕ)) (unread : AreUnreadable few) (no_other : AreUnreadable many) where
    below_once : (item : Said) (first second : List ℕ) → IsBelow parts most model shapes policy item few first → IsBelow parts most model shapes policy item many second → first ≡ second
    below_once (asks (Ok values)) first second p q = by (length values == length model.request) p q
      where
        by : (fits : Bool) → MatchBool fits (TellsMisses parts most shapes policy values few first) (first ≡ []) → MatchBool fits (TellsMisses parts most shapes policy values many second) (second ≡ []) → first ≡ second
        by true one other = one.told ∙ ap (λ (misses : List NearMiss). miss_lines parts (table.rows policy P) misses) (once.misses shapes policy values parts most few many one.misses other.misses unread no_other one.are other.are) ∙ sym other.told
        by false none nothing = none ∙ sym nothing
    below_once _ first second p q = p ∙ sym q

    piece_once : (item : Said) (line : Line) (first second : List ℕ) → IsPiece parts most model shapes policy item few line first → IsPiece parts most model shapes policy item many line second → first ≡ second
    piece_once item line first second (below, is, piece) (other, as_well, same) = piece ∙ ap (λ (text : List ℕ). line_text line ++ text) (below_once item below other is as_well) ∙ sym same

  pieces_once : (items : List Said) (refused others : List (List (List ℕ))) (lines : List Line) (first second : List (List ℕ)) → AreUnreadable (all_refused refused) → AreUnreadable (all_refused others)
      → ArePieces parts most model shapes policy items refused lines first → ArePieces parts most model shapes policy items others lines second → first ≡ second
  pieces_once [] [] [] [] [] [] unread no_other p q = refl
  pieces_once (item ∷ items) (patterns ∷ refused) (more ∷ others) (line ∷ lines) (x ∷ xs) (y ∷ ys) unread no_other p q =
      let head : x ≡ y = piece_once patterns more (unread_left patterns (all_refused refused) unread) (unread_left more (all_refused others) no_other) item line x y p.0 q.0 in
      let rest : xs ≡ ys = pieces_once items refused others lines xs ys (unread_right patterns (all_refused refused) unread) (unread_right more (all_refused others) no_other) p.1 q.1 in
      λ j. head j ∷ rest j
  pieces_once [] [] [] [] [] (y ∷ ys) unread no_other p q = absurd q
  pieces_once [] [] (more ∷ others) [] [] second unread no_other p q = absurd q
  pieces_once [] [] others [] (x ∷ xs) second unread no_other p q = absurd p
  pieces_once [] [] others (line ∷ lines) first second unread no_other p q = absurd p
  pieces_once [] (patterns ∷ refused) others lines first second unread no_other p q = absurd p
  pieces_once (item ∷ items) [] others lines first second unread no_other p q = absurd p
  pieces_once (item ∷ items) (patterns ∷ refused) others [] first second unread no_other p q = absurd p
  pieces_once (item ∷ items) (patterns ∷ refused) others (line ∷ lines) [] second unread no_other p q = absurd p
  pieces_once (item ∷ items) (patterns ∷ refused) [] (line ∷ lines) (x ∷ xs) second unread no_other p q = absurd q
  pieces_once (item ∷ items) (patterns ∷ refused) (more ∷ others) (line ∷ lines) (x ∷ xs) [] unread no_other p q = absurd q

-- requests are explained by one text, where nothing is refused but searches for patterns that cannot be read
pub explained_once : ExplainsOnce → (most : ℕ) (model : ModelParts) (shapes : Shapes) (policy : table.Policy) (items : List Said) (refused others : List (List (List ℕ))) (pieces more : List (List ℕ)) (text written : List ℕ) → IsExplained most model shapes policy items refused pieces text
    → IsExplained most model shapes policy items others more written → AreUnreadable (all_refused refused) → AreUnreadable (all_refused others) → text ≡ written
explained_once once most model shapes policy items refused others pieces more text written p q unread no_other =
    let parts_same : q.parts ≡ p.parts = once.parts model q.parts p.parts q.parts_are p.parts_are in
    let lines_same : q.lines ≡ p.lines = once.lines model shapes policy items others refused q.lines p.lines q.plain p.plain no_other unread in
    let here : ArePieces p.parts most model shapes policy items others q.lines more = subst (λ (parts : List ModelParts). ArePieces parts most model shapes policy items others q.lines more) parts_same q.below in
    let there : ArePieces p.parts most model shapes policy items others p.lines more = subst (λ (lines : List Line). ArePieces p.parts most model shapes policy items others lines more) lines_same here in
    let same : pieces ≡ more = pieces_once once p.parts most model shapes policy items refused others p.lines pieces more unread no_other p.below there in
    p.text_is ∙ ap joined same ∙ sym q.text_is
