-- What a whole run ends in, and what an `eval` comes to.
use Rattle.std.proofs.Common.{arith, ◌≡◌, ◌⊎◌, inl, inr, ℕ, ◌+◌, ◌<◌, ◌≤◌, Bool, true, false, true≢false, List, [], ◌∷◌, length, map, Option, Some, None, Result, Ok, Err, get_or, slice_get, refl, sym, ap, subst, ◌∙◌, ◌^◌}
use Rattle.std.specs.List.{list_any}
use Rattle.std.specs.Str.{bytes_eq}
use Rattle.std.proofs.lemmas.Bool.{cases_order, ltb-true, or_cases, or_left, or_right}
use Rattle.std.proofs.lemmas.List.{length-map}
use Rattle.std.proofs.lemmas.List.Folds.{list_any_at}
use Rattle.std.proofs.lemmas.Option.{get_or_from_slice_get, slice_get_within}
use Rattle.std.proofs.lemmas.Slice.Eq.{bytes_eq-Decides}
use Rattle.effect_fold.specs.declared.fault.Cause.{Cause}
use Rattle.effect_fold.specs.declared.fault.Cause.TheVariants.{Pattern}
use Rattle.effect_fold.specs.declared.fault.Fault.{Fault}
use Rattle.matcher_read.specs.Expression.{Expression}
use Rattle.model_conf.specs.Columns.{AreColumns}
use Rattle.perm_value.specs.Datum.{Datum}
use Rattle.perm_value.specs.Datum as datum
use Rattle.perm_value.specs.Seen.{datum_of_view}
use Rattle.perm_value.specs.declared.value.View.{View}
use Rattle.perm_value.specs.declared.value.View.TheVariants as views
use Rattle.regex_gate.specs.Refusals.{Refusals, RefusedOnly}
use Rattle.regex_gate.proofs.CallerLemmas.{only_since}
use Rattle.matcher_meaning.specs.Answers as answers
use Rattle.matcher_meaning.specs.Answers.{Evaluation, fails}
use Rattle.matcher_meaning.specs.Cases.{Case, row_text, where_refused}
use Rattle.matcher_meaning.specs.Comes.{Evaluates, RuleComesTo}
use Rattle.matcher_meaning.specs.Operators.{as_truth}
use Rattle.matcher_code.specs.Compiled.{has_eval_op, column_number}
use Rattle.matcher_code.specs.Helps.Ends.{refused_by, stop_of}
use Rattle.matcher_code.specs.Helps.Kept.{TextComesTo}
use Rattle.matcher_code.specs.Helps.Runs.{ComesFrom, IsAt, LeadsOn, RunEnds, StandsAt, some_searches}
use Rattle.matcher_code.specs.Machine.{CodeComesTo, Executes, field_at, goes}
use Rattle.matcher_code.specs.Rules.{CodeParts, IsCode}
use Rattle.matcher_code.specs.RunEnds.{IsAnswer, IsValueOf, IsWantOfMemory, evaluates, searches, some_takes_memory, takes_memory}
use Rattle.matcher_code.specs.declared.halt.Halt.{Halt}
use Rattle.matcher_code.specs.declared.halt.Halt.TheVariants as halt
use Rattle.matcher_code.specs.declared.op.Op.{Op}
use Rattle.matcher_code.specs.declared.op.Instruction.{Instruction}
use Rattle.matcher_code.specs.declared.op.Instruction.TheVariants as i
use Rattle.matcher_code.specs.declared.pause.Pause.{Pause}
use Rattle.matcher_code.specs.declared.no_truth.NoTruth.{NoTruth}
use Rattle.matcher_code.specs.declared.no_truth.NoTruth.TheVariants as stop
use Rattle.matcher_code.proofs.BuildUses.{column_there, field_there, number_within}
use Rattle.matcher_code.proofs.CheckLemmas.{kept_parts}
use Rattle.matcher_code.proofs.RunLemmas.{comes_fault, comes_whole, leads_then}
use Rattle.matcher_code.proofs.RunStops.{can_do, run_goes}

-- a run from a place on that stops is the whole run's stop
pub stops_whole : (case : Case) (ops : List Op) (place : ℕ) (before after : List View) (why : Halt) (first old now : Refusals) → LeadsOn case ops 0 [] place (map datum_of_view before) → RunEnds case ops place before after (Err why)
    → old ≡ first → RefusedOnly old now (refused_by {X = Pause} (Err why)) → IsValueOf case ops (RefusedOnly first now) (Err (stop_of why))
stops_whole case ops place before after (halt.Fault fault) first old now leads ends since used =
    inl (only_since first old now None since used, comes_whole (where_refused case None) ops (Err fault) (leads.found_is (Err fault) ends))
stops_whole case ops place before after (halt.Refused at pattern) first old now leads ends since used =
    inr (pattern.now, only_since first old now (Some pattern.now) since used, refl, comes_whole (where_refused case (Some (at, pattern.now))) ops (fails Pattern at) (leads.refused_is at pattern.now ends))
stops_whole case ops place before after halt.NoMemory first old now leads ends since used = only_since first old now None since used

-- one that ends is its value
pub value_whole : (case : Case) (ops : List Op) (place : ℕ) (before : List View) (v : View) → LeadsOn case ops 0 [] place (map datum_of_view before) → ComesFrom (where_refused case None) ops place (map datum_of_view before) (Ok (datum_of_view v))
    → CodeComesTo (where_refused case None) ops (Ok (datum_of_view v))
value_whole case ops place before v leads comes = comes_whole (where_refused case None) ops (Ok (datum_of_view v)) (leads.found_is (Ok (datum_of_view v)) comes)

-- what passes a test at a place
pub any_there : (test : Op → Bool) (ops : List Op) (at : ℕ) (op : Op) → slice_get ops at ≡ Some op → test op ≡ true → list_any test ops ≡ true
any_there test ops at op there passes = list_any_at test ops at op (slice_get_within ops at op there) (ap test (get_or_from_slice_get ops at op op there) ∙ passes)

-- code without an `eval` stands still at none
pub stands_nowhere : (case : Case) (ops : List Op) (place : ℕ) (before : List Datum) (standing : ℕ) (after : List Datum) (at column : ℕ) → StandsAt case ops place before standing after at column → has_eval_op ops ≡ false → ⊥
stands_nowhere case ops place before standing after at column stands none =
    true≢false (sym (any_there (λ (op : Op). evaluates op.instruction) ops standing _ stands.there refl) ∙ none)

-- ---- memory

one_takes : (instruction : Instruction) → searches instruction ≡ true → takes_memory instruction ≡ true
one_takes (i.Function called) some = some
one_takes (i.Eval column) some = refl
one_takes _ some = absurd (true≢false (sym some))

pub search_takes : (ops : List Op) → some_searches ops ≡ true → some_takes_memory ops ≡ true
search_takes [] some = some
search_takes (op ∷ ops) some = go (or_cases (searches op.instruction) (some_searches ops) some) (search_takes ops)
  where
    go : (searches op.instruction ≡ true) ⊎ (some_searches ops ≡ true) → (some_searches ops ≡ true → some_takes_memory ops ≡ true) → some_takes_memory (op ∷ ops) ≡ true
    go (inl one) others = or_left (takes_memory op.instruction) (some_takes_memory ops) (one_takes op.instruction one)
    go (inr some) others = or_right (takes_memory op.instruction) (some_takes_memory ops) (others some)

-- ---- evals

number_here : (columns : List (List ℕ)) (column : ℕ) → AreColumns columns → column < length columns → list_any (bytes_eq (get_or columns column [])) columns ≡ true → column_number columns (get_or columns column []) ≡ column
number_here columns column are within any = go (cases_order (column_number columns name) column)
  where
    name : List ℕ
    name = get_or columns column []

    same : get_or columns (column_number columns (get_or columns column [])) [] ≡ get_or columns column []
    same = column_there columns (get_or columns column []) any

    go : (column_number columns (get_or columns column []) ≡ column) ⊎ ((column_number columns (get_or columns column []) < column) ⊎ (column < column_number columns (get_or columns column []))) → column_number columns (get_or columns column []) ≡ column
    go (inl equal) = equal
    go (inr (inl less)) = absurd (are.distinct (column_number columns (get_or columns column [])) column [] less within same)
    go (inr (inr more)) = absurd (are.distinct column (column_number columns (get_or columns column [])) [] more (number_within columns (get_or columns column []) any) (sym same))

-- the text of a row in a column, by its number and by its name
text_there : (case : Case) (column : ℕ) → AreColumns case.model.policy → column < length case.model.policy → row_text case (get_or case.model.policy column []) ≡ field_at case.row column
text_there case column are within =
    let name = get_or case.model.policy column [] in
    let any = list_any_at (bytes_eq name) case.model.policy column [] within ((bytes_eq-Decides name name).1 refl) in
    field_there case.model.policy case.row name any ∙ ap (field_at case.row) (number_here case.model.policy column are within any)

-- what an `eval` of this text comes to, where it is the row's field
pub eval_text : (case : Case) (at column : ℕ) (bytes : List ℕ) (r : Evaluation) → AreColumns case.model.policy → column < length case.model.policy → bytes ≡ field_at case.row column → TextComesTo case at bytes r
    → Evaluates case at (get_or case.model.policy column []) r
eval_text case at column bytes r are within is comes = subst (λ (text : List ℕ). TextComesTo case at text r) (is ∙ sym (text_there case column are within)) comes

-- what is said of each answer is said of a stop
pub stop_says : {X Y : Type 0} (Says Other : Option (ℕ × List ℕ) → Evaluation → Type 0) (value : X → Datum) (other : Y → Datum) (Refused : Option (List ℕ) → Type 0) (why : NoTruth) → ((refused : Option (ℕ × List ℕ)) (r : Evaluation) → Says refused r → Other refused r)
    → IsAnswer Says value Refused (Err why) → IsAnswer Other other Refused (Err why)
stop_says Says Other value other Refused (stop.Fault failed_) says (inl (none, is)) = inl (none, says None (Err failed_) is)
stop_says Says Other value other Refused (stop.Fault failed_) says (inr (pattern, refused, cause, is)) = inr (pattern, refused, cause, says (Some (failed_.at, pattern)) (Err failed_) is)
stop_says Says Other value other Refused stop.NoMemory says none = none

-- what is said of each answer is said of an end
pub answer_says : {X : Type 0} (Says Other : Option (ℕ × List ℕ) → Evaluation → Type 0) (value : X → Datum) (Refused : Option (List ℕ) → Type 0) (r : Result X NoTruth) → ((refused : Option (ℕ × List ℕ)) (answer : Evaluation) → Says refused answer → Other refused answer)
    → IsAnswer Says value Refused r → IsAnswer Other value Refused r
answer_says Says Other value Refused (Ok x) says (none, is) = (none, says None (Ok (value x)) is)
answer_says Says Other value Refused (Err why) says is = stop_says Says Other value value Refused why says is

-- a rule comes to no value but a truth
pub rule_is_truth : (case : Case) (at : ℕ) (rule : Expression) (v : View) → RuleComesTo case at rule (Ok (datum_of_view v)) → (b : Bool) × (v ≡ views.Truth b)
rule_is_truth case at rule v (x, comes, is) = go x is
  where
    shown : (w : View) (b : Bool) → datum_of_view w ≡ datum.truth b → (c : Bool) × (w ≡ views.Truth c)
    shown (views.Text t) b same = absurd cc
    shown (views.Whole n) b same = absurd cc
    shown (views.Truth c) b same = (c, refl)
    shown (views.List ds) b same = absurd cc
    shown (views.Object ms) b same = absurd cc
    shown views.Nothing b same = absurd cc

    go : (y : Evaluation) → Ok (datum_of_view v) ≡ answers.then y (as_truth at) → (b : Bool) × (v ≡ views.Truth b)
    go (Ok (datum.truth b)) same = shown v b cc
    go (Ok datum.nothing) same = absurd cc
    go (Ok (datum.whole n)) same = absurd cc
    go (Ok (datum.text t)) same = absurd cc
    go (Ok (datum.list ds)) same = absurd cc
    go (Ok (datum.object ms)) same = absurd cc
    go (Err fault) same = absurd cc

-- ---- the run that stands still

-- what is known where a run stands still at an `eval`
pub record StandsReady (code : CodeParts) (room : ℕ) (stack : List View) (standing column : ℕ) : Type 0 where
  pub column_there : column < code.policy_columns
  pub held : length stack < room
  pub few : standing < 2 ^ 32
  pub within : standing < length code.ops

pub stands_ready : (case : Case) (code : CodeParts) (room place : ℕ) (before : List Datum) (standing : ℕ) (after : List View) (at column : ℕ) → IsCode code → code.height ≤ room
    → StandsAt case code.ops place before standing (map datum_of_view after) at column → StandsReady code room after standing column
stands_ready case code room place before standing after at column is_code fits stands =
    let over : IsAt code.ops standing (length after) = subst (IsAt code.ops standing) (length-map after datum_of_view) stands.over in
    let can = can_do code standing (length after) room _ is_code over stands.there fits in
    let within = slice_get_within code.ops standing _ stands.there in
    record {
      column_there = ltb-true column code.policy_columns (kept_parts code.ops code.columns code.policy_columns standing _ (length after) (is_code.verified.each standing over.within) stands.there over.reached).1;
      held = omega (arith, can.next);
      few = omega (arith, within, is_code.few);
      within = within;
    }

-- behind the `eval`, with the truth of its rule on the stack
pub eval_goes : (case : Case) (code : CodeParts) (place : ℕ) (before : List View) (standing : ℕ) (after pushed : List View) (at column : ℕ) (b : Bool) → IsCode code → pushed ≡ views.Truth b ∷ after
    → LeadsOn case code.ops 0 [] place (map datum_of_view before) → StandsAt case code.ops place (map datum_of_view before) standing (map datum_of_view after) at column
    → Evaluates (where_refused case None) at (get_or case.model.policy column []) (Ok (datum.truth b))
    → IsAt code.ops (standing + 1) (length pushed) × LeadsOn case code.ops 0 [] (standing + 1) (map datum_of_view pushed)
eval_goes case code place before standing after pushed at column b is_code is leads stands evals =
    let executes : Executes (where_refused case None) standing (record { at = at; instruction = i.Eval column }) (map datum_of_view after) (goes (standing + 1) (map datum_of_view pushed)) =
    (Ok (datum.truth b), evals, ap (λ (vs : List View). goes (standing + 1) (map datum_of_view vs)) is) in
    (run_goes case code.ops code.columns code.policy_columns 0 standing (standing + 1) [] after pushed (record { at = at; instruction = i.Eval column }) is_code.verified (subst (IsAt code.ops standing) (length-map after datum_of_view) stands.over)
    (leads_then case code.ops 0 place standing [] (map datum_of_view before) (map datum_of_view after) leads stands.leads) stands.there executes).1

-- an `eval` that stops is the whole run's stop
pub eval_stops : (case : Case) (ops : List Op) (place : ℕ) (before : List Datum) (standing : ℕ) (after : List Datum) (at column : ℕ) (why : NoTruth) (first old now : Refusals)
    → LeadsOn case ops 0 [] place before → StandsAt case ops place before standing after at column → old ≡ first
    → IsAnswer (λ refused answer. Evaluates (where_refused case refused) at (get_or case.model.policy column []) answer) (λ b. datum.truth b) (RefusedOnly old now) (Err why)
    → IsValueOf case ops (RefusedOnly first now) (Err why)
eval_stops case ops place before standing after at column (stop.Fault fault) first old now leads stands since (inl (none, evals)) =
    inl (only_since first old now None since none, comes_whole (where_refused case None) ops (Err fault) (leads.found_is (Err fault) (stands.leads.found_is (Err fault) (comes_fault (where_refused case None) ops standing after _ fault stands.there (Err fault, evals, refl)))))
eval_stops case ops place before standing after at column (stop.Fault fault) first old now leads stands since (inr (pattern, refused, cause, evals)) =
    let held = where_refused case (Some (fault.at, pattern)) in
    let same : fault ≡ record { cause = Pattern; at = fault.at } = ap (λ (one : Cause). record fault { cause = one }) cause in
    let comes = subst (λ (one : Fault). ComesFrom held ops standing after (Err one)) same (comes_fault held ops standing after _ fault stands.there (Err fault, evals, refl)) in
    let whole = comes_whole held ops (fails Pattern fault.at) (leads.refused_is fault.at pattern (stands.leads.refused_is fault.at pattern comes)) in
    inr (pattern, only_since first old now (Some pattern) since refused, cause, subst (λ (one : Fault). CodeComesTo held ops (Err one)) (sym same) whole)
eval_stops case ops place before standing after at column stop.NoMemory first old now leads stands since none = only_since first old now None since none

-- an `eval` takes memory
pub eval_takes : (case : Case) (ops : List Op) (place : ℕ) (before : List Datum) (standing : ℕ) (after : List Datum) (at column : ℕ) → StandsAt case ops place before standing after at column → some_takes_memory ops ≡ true
eval_takes case ops place before standing after at column stands = any_there (λ (op : Op). takes_memory op.instruction) ops standing _ stands.there refl

-- a run from a place on that wants memory has a search
pub halt_takes : (case : Case) (ops : List Op) (place : ℕ) (before after : List View) (why : Halt) → RunEnds case ops place before after (Err why) → IsWantOfMemory (stop_of why) → some_takes_memory ops ≡ true
halt_takes case ops place before after (halt.Fault fault) ends wants = absurd wants
halt_takes case ops place before after (halt.Refused at pattern) ends wants = absurd wants
halt_takes case ops place before after halt.NoMemory ends wants = search_takes ops ends
