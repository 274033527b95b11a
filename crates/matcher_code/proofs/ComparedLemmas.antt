-- Three instructions that compare a column of the request with one of the row, done as one.
use Rattle.std.proofs.Common.{arith, ◌≡◌, ◌⊎◌, inl, inr, ℕ, ◌+◌, ◌-◌, ◌<◌, ◌≤◌, Bool, List, [], ◌∷◌, length, map, Option, Some, None, Ok, Err, slice_get, refl, sym, ap, subst, ◌∙◌}
use Rattle.std.proofs.lemmas.List.{length-map}
use Rattle.std.specs.Str.{bytes_eq}
use Rattle.matcher_read.specs.declared.tree.Operator.TheVariants.{Equal}
use Rattle.perm_value.specs.Datum.{Datum, text, truth}
use Rattle.perm_value.specs.Seen.{datum_of_view}
use Rattle.perm_value.specs.declared.value.View.{View}
use Rattle.matcher_meaning.specs.Cases.{Case, where_refused}
use Rattle.matcher_meaning.specs.Meaning.{along}
use Rattle.matcher_code.specs.Helps.Compared.{Compares, HasCompared}
use Rattle.matcher_code.specs.Helps.Ends.{StepEnds}
use Rattle.matcher_code.specs.Helps.Runs.{IsAt, LeadsOn}
use Rattle.matcher_code.specs.Machine.{Does, Executes, field_at, goes, onward}
use Rattle.matcher_code.specs.Rules.{IsVerified, finds, leaves}
use Rattle.matcher_code.specs.declared.halt.Halt.{Halt}
use Rattle.matcher_code.specs.declared.op.Op.{Op}
use Rattle.matcher_code.specs.declared.op.Instruction.{Instruction}
use Rattle.matcher_code.specs.declared.op.Instruction.TheVariants as i
use Rattle.matcher_code.specs.declared.step.Step.TheVariants as step
use Rattle.matcher_code.proofs.RunLemmas.{executes_move, leads_step, leads_then}
use Rattle.matcher_code.proofs.RunStops.{run_goes}

-- ---- what each of the three does

asks_text : (case : Case) (place : ℕ) (op : Op) (column : ℕ) (bytes : List ℕ) (stack : List Datum) → op.instruction ≡ i.Request column → slice_get case.request column ≡ Some (text bytes)
    → Executes (where_refused case None) place op stack (goes (place + 1) (text bytes ∷ stack))
asks_text case place op column bytes stack asks there =
    subst (λ (what : Instruction). Does (where_refused case None) place op.at what stack (goes (place + 1) (text bytes ∷ stack))) (sym asks)
    (sym (ap (λ (found : Option Datum). onward place stack (along op.at found [])) there))

takes_field : (case : Case) (place : ℕ) (op : Op) (column : ℕ) (stack : List Datum) → op.instruction ≡ i.Policy column → Executes (where_refused case None) place op stack (goes (place + 1) (text (field_at case.row column) ∷ stack))
takes_field case place op column stack takes =
    subst (λ (what : Instruction). Does (where_refused case None) place op.at what stack (goes (place + 1) (text (field_at case.row column) ∷ stack))) (sym takes) refl

compares_texts : (case : Case) (place : ℕ) (op : Op) (bytes other : List ℕ) (below : List Datum) → op.instruction ≡ i.Binary Equal
    → Executes (where_refused case None) place op (text other ∷ text bytes ∷ below) (goes (place + 1) (truth (bytes_eq bytes other) ∷ below))
compares_texts case place op bytes other below compares =
    subst (λ (what : Instruction). Does (where_refused case None) place op.at what (text other ∷ text bytes ∷ below) (goes (place + 1) (truth (bytes_eq bytes other) ∷ below))) (sym compares) refl

-- ---- behind them

-- a run goes on by one instruction
goes_by : (case : Case) (ops : List Op) (columns policy_columns place reached to : ℕ) (before stack rest : List Datum) (op : Op) → IsVerified ops columns policy_columns → IsAt ops reached (length stack)
    → LeadsOn case ops place before reached stack → slice_get ops reached ≡ Some op → Executes (where_refused case None) reached op stack (goes to rest)
    → IsAt ops to (length rest) × LeadsOn case ops place before to rest
goes_by case ops columns policy_columns place reached to before stack rest op verified at leads there executes =
    let moved = executes_move (where_refused case None) ops columns policy_columns reached to stack rest op verified there at executes in
    (moved.1, leads_then case ops place reached to before stack rest leads (leads_step case ops reached to stack rest op there moved.0 moved.1.within executes))

-- by the three it comes to the place behind them, with what is told on the stack
compared_goes : (case : Case) (ops : List Op) (columns policy_columns place reached : ℕ) (before stack : List Datum) (op : Op) (same : Bool) → IsVerified ops columns policy_columns → IsAt ops reached (length stack)
    → LeadsOn case ops place before reached stack → slice_get ops reached ≡ Some op → Compares case.request case.row ops reached op same
    → IsAt ops (reached + 3) (length (truth same ∷ stack)) × LeadsOn case ops place before (reached + 3) (truth same ∷ stack)
compared_goes case ops columns policy_columns place reached before stack op same verified at leads there compares =
    let asked = text compares.bytes in
    let field = field_at case.row compares.field in
    let rest = compares.rest in
    let two : reached + 2 ≡ reached + 1 + 1 = omega arith in
    let three : reached + 1 + 1 + 1 ≡ reached + 3 = omega arith in
    let last : slice_get ops (reached + 1 + 1) ≡ Some rest.third = subst (λ (n : ℕ). slice_get ops n ≡ Some rest.third) two rest.last in
    let first = goes_by case ops columns policy_columns place reached (reached + 1) before stack (asked ∷ stack) op verified at leads there (asks_text case reached op compares.column compares.bytes stack compares.asks compares.there) in
    let second =
    goes_by case ops columns policy_columns place (reached + 1) (reached + 1 + 1) before (asked ∷ stack) (text field ∷ asked ∷ stack) rest.second verified first.0 first.1 rest.behind
    (takes_field case (reached + 1) rest.second compares.field (asked ∷ stack) rest.takes) in
    let third =
    goes_by case ops columns policy_columns place (reached + 1 + 1) (reached + 1 + 1 + 1) before (text field ∷ asked ∷ stack) (truth (bytes_eq compares.bytes field) ∷ stack) rest.third verified second.0 second.1 last
    (compares_texts case (reached + 1 + 1) rest.third compares.bytes field stack rest.compares) in
    subst (λ (n : ℕ). IsAt ops n (length (truth same ∷ stack)) × LeadsOn case ops place before n (truth same ∷ stack)) three
    (subst (λ (b : Bool). IsAt ops (reached + 1 + 1 + 1) (length (truth b ∷ stack)) × LeadsOn case ops place before (reached + 1 + 1 + 1) (truth b ∷ stack)) (sym compares.told) third)

-- ---- one instruction or three

pub advance_goes : (case : Case) (ops : List Op) (columns policy_columns place reached to : ℕ) (before stack after : List View) (op : Op) → IsVerified ops columns policy_columns → IsAt ops reached (length stack)
    → LeadsOn case ops place (map datum_of_view before) reached (map datum_of_view stack) → slice_get ops reached ≡ Some op
    → StepEnds case reached op stack after (Ok (step.Goes to)) ⊎ HasCompared case ops reached op stack after (Ok (step.Goes to))
    → (reached < to) × (IsAt ops to (length after) × LeadsOn case ops place (map datum_of_view before) to (map datum_of_view after))
advance_goes case ops columns policy_columns place reached to before stack after op verified at leads there (inl executes) =
    run_goes case ops columns policy_columns place reached to before stack after op verified at leads there executes
advance_goes case ops columns policy_columns place reached to before stack after op verified at leads there (inr has) =
    let goes_to = has.goes in
    let same : reached + 3 ≡ to = cc in
    let over : IsAt ops reached (length (map datum_of_view stack)) = subst (IsAt ops reached) (sym (length-map stack datum_of_view)) at in
    let on = compared_goes case ops columns policy_columns place reached (map datum_of_view before) (map datum_of_view stack) op has.same verified over leads there has.compares in
    let top : truth has.same ∷ map datum_of_view stack ≡ map datum_of_view after = sym (ap (map datum_of_view) has.puts) in
    let long : length (truth has.same ∷ map datum_of_view stack) ≡ length after = ap length top ∙ length-map after datum_of_view in
    subst (λ (n : ℕ). (reached < n) × (IsAt ops n (length after) × LeadsOn case ops place (map datum_of_view before) n (map datum_of_view after))) same (
      omega arith,
      (
        subst (IsAt ops (reached + 3)) long on.0,
        subst (λ (ds : List Datum). LeadsOn case ops place (map datum_of_view before) (reached + 3) ds) top on.1,
      ),
    )

pub advance_stops : (case : Case) (ops : List Op) (place : ℕ) (op : Op) (before after : List View) (stop : Halt) → StepEnds case place op before after (Err stop) ⊎ HasCompared case ops place op before after (Err stop) → StepEnds case place op before after (Err stop)
advance_stops case ops place op before after stop (inl ends) = ends
advance_stops case ops place op before after stop (inr has) = let never = has.goes in absurd cc

pub advance_stands : (case : Case) (ops : List Op) (place : ℕ) (op : Op) (before after : List View) (column : ℕ) → StepEnds case place op before after (Ok (step.Eval column)) ⊎ HasCompared case ops place op before after (Ok (step.Eval column))
    → StepEnds case place op before after (Ok (step.Eval column))
advance_stands case ops place op before after column (inl ends) = ends
advance_stands case ops place op before after column (inr has) = let never = has.goes in absurd cc

-- there is room for what is told
pub room_there : (op : Op) (column height room : ℕ) → op.instruction ≡ i.Request column → height - finds op.instruction + leaves op.instruction ≤ room → height < room
room_there op column height room asks enough =
    let same : height - finds op.instruction + leaves op.instruction ≡ height - 0 + 1 = ap (λ (what : Instruction). height - finds what + leaves what) asks in
    omega (arith, same, enough)
