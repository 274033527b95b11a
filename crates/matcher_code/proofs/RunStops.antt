-- What a run can do at a place, and where it stops.
use Rattle.std.proofs.Common.{arith, ◌≡◌, ◌⊎◌, inl, inr, ℕ, ◌+◌, ◌-◌, ◌<◌, ◌≤◌, ◌^◌, ◌==◌, ◌&&◌, ◌||◌, true, nat_lt, nat_le, List, [], ◌∷◌, length, map, Some, None, Ok, Err, slice_get, refl, sym, ap, subst, ◌∙◌}
use Rattle.std.proofs.lemmas.Bool.{and_parts, eqb-true, leb-true, or_cases}
use Rattle.std.proofs.lemmas.List.{length-map}
use Rattle.std.proofs.lemmas.List.Folds.{list_any_at}
use Rattle.std.proofs.lemmas.Option.{get_or_from_slice_get, slice_get_within}
use Rattle.effect_fold.specs.declared.fault.Cause.TheVariants.{Pattern}
use Rattle.effect_fold.specs.declared.effect.Effect.TheVariants.{AllowOverride}
use Rattle.matcher_read.specs.Expression.{truth}
use Rattle.model_conf.specs.ModelText.{ModelParts, parts_of}
use Rattle.perm_value.specs.Seen.{datum_of_view}
use Rattle.perm_value.specs.declared.value.View.{View}
use Rattle.matcher_meaning.specs.Cases.{Case, where_refused}
use Rattle.matcher_code.specs.Helps.Ends.{IsAskedRightly, StepEnds}
use Rattle.matcher_code.specs.Helps.Runs.{ComesFrom, IsAt, LeadsOn, RunEnds, StandsAt}
use Rattle.matcher_code.specs.Machine.{Executes, goes}
use Rattle.matcher_code.specs.Rules.{IsCode, IsVerified, CodeParts, is_right, finds, leaves, height_at, height_behind, names_rightly}
use Rattle.matcher_code.specs.RunEnds.{searches}
use Rattle.matcher_code.specs.declared.halt.Halt.{Halt}
use Rattle.matcher_code.specs.declared.halt.Halt.TheVariants as halt
use Rattle.matcher_code.specs.declared.op.Op.{Op}
use Rattle.matcher_code.specs.declared.step.Step.TheVariants as step
use Rattle.matcher_code.specs.declared.op.Instruction.{Instruction}
use Rattle.matcher_code.specs.declared.op.Instruction.TheVariants as i
use Rattle.matcher_code.proofs.CheckLemmas.{end_right, kept_parts}
use Rattle.matcher_code.proofs.HeightLemmas.{height_next, height_within}
use Rattle.matcher_code.proofs.RunLemmas.{behind_is, comes_end, comes_fault, executes_move, leads_step, leads_then}

-- what the instruction at a place finds
pub record CanDo (instruction : Instruction) (place height room : ℕ) : Type 0 where
  pub few : place < 2 ^ 32
  pub operands : finds instruction ≤ height
  pub next : height - finds instruction + leaves instruction ≤ room
  pub held : height ≤ room
  pub names : IsAskedRightly instruction

asked_rightly : (columns policy_columns at size : ℕ) (instruction : Instruction) → names_rightly columns policy_columns at size instruction ≡ true → IsAskedRightly instruction
asked_rightly columns policy_columns at size (i.Role number names) right = go (or_cases (names == 2) (names == 3) (and_parts (nat_lt 0 number && nat_le number 8) (names == 2 || names == 3) right).1)
  where
    go : ((names == 2) ≡ true) ⊎ ((names == 3) ≡ true) → (names ≡ 2) ⊎ (names ≡ 3)
    go (inl two) = inl (eqb-true names 2 two)
    go (inr three) = inr (eqb-true names 3 three)
asked_rightly columns policy_columns at size _ right = tt

pub can_do : (code : CodeParts) (place height room : ℕ) (op : Op) → IsCode code → IsAt code.ops place height → slice_get code.ops place ≡ Some op → code.height ≤ room → CanDo op.instruction place height room
can_do code place height room op is_code at there fits =
    let kept = kept_parts code.ops code.columns code.policy_columns place op height (is_code.verified.each place at.within) there at.reached in
    let enough = leb-true (finds op.instruction) height kept.0 in
    let on : height_at code.ops (place + 1) ≡ Some (height - finds op.instruction + leaves op.instruction) =
    height_next code.ops place op there ∙ ap (height_behind op.instruction) at.reached ∙ behind_is op.instruction height (height - finds op.instruction + leaves op.instruction) enough refl in
    record {
      few = omega (arith, slice_get_within code.ops place op there, is_code.few);
      operands = enough;
      next = omega (arith, height_within code.ops (place + 1) (height - finds op.instruction + leaves op.instruction) on, is_code.highest, fits);
      held = omega (arith, height_within code.ops place height at.reached, is_code.highest, fits);
      names = asked_rightly code.columns code.policy_columns place (length code.ops) op.instruction kept.1;
    }

-- at the end of code one value is left
pub one_left : (code : CodeParts) (place height : ℕ) → IsCode code → IsAt code.ops place height → length code.ops ≤ place → height ≡ 1
one_left code place height is_code at past =
    let end : place ≡ length code.ops = omega (arith, at.within, past) in
    let one = is_code.verified.each (length code.ops) (omega arith) in
    end_height (subst (λ (p : ℕ). height_at code.ops p ≡ Some height) end at.reached) one.right
  where
    end_height : height_at code.ops (length code.ops) ≡ Some height → is_right code.columns code.policy_columns (length code.ops) (length code.ops) (slice_get code.ops (length code.ops)) (height_at code.ops (length code.ops)) ≡ true → height ≡ 1
    end_height reached right = eqb-true height 1 (sym (end_right code.ops code.columns code.policy_columns height reached) ∙ right)

-- where the instruction at a place stops, the run does
pub run_stops : (case : Case) (ops : List Op) (place reached : ℕ) (before stack after : List View) (op : Op) (stop : Halt) → LeadsOn case ops place (map datum_of_view before) reached (map datum_of_view stack)
    → slice_get ops reached ≡ Some op → StepEnds case reached op stack after (Err stop) → RunEnds case ops place before after (Err stop)
run_stops case ops place reached before stack after op (halt.Fault fault) leads there ends = leads.found_is (Err fault) (comes_fault (where_refused case None) ops reached (map datum_of_view stack) op fault there ends)
run_stops case ops place reached before stack after op (halt.Refused at pattern) leads there ends =
    leads.refused_is at pattern.now (comes_fault (where_refused case (Some (at, pattern.now))) ops reached (map datum_of_view stack) op (record { cause = Pattern; at = at }) there ends)
run_stops case ops place reached before stack after op halt.NoMemory leads there ends =
    list_any_at (λ (one : Op). searches one.instruction) ops reached op (slice_get_within ops reached op there) (ap (λ (one : Op). searches one.instruction) (get_or_from_slice_get ops reached op op there) ∙ ends)

-- where it goes on, the run does, at a later place
pub run_goes : (case : Case) (ops : List Op) (columns policy_columns place reached to : ℕ) (before stack after : List View) (op : Op) → IsVerified ops columns policy_columns → IsAt ops reached (length stack)
    → LeadsOn case ops place (map datum_of_view before) reached (map datum_of_view stack) → slice_get ops reached ≡ Some op → Executes (where_refused case None) reached op (map datum_of_view stack) (goes to (map datum_of_view after))
    → (reached < to) × (IsAt ops to (length after) × LeadsOn case ops place (map datum_of_view before) to (map datum_of_view after))
run_goes case ops columns policy_columns place reached to before stack after op verified at leads there executes =
    let over : IsAt ops reached (length (map datum_of_view stack)) = subst (IsAt ops reached) (sym (length-map stack datum_of_view)) at in
    let moved = executes_move (where_refused case None) ops columns policy_columns reached to (map datum_of_view stack) (map datum_of_view after) op verified there over executes in (
      moved.0,
      (
        subst (IsAt ops to) (length-map after datum_of_view) moved.1,
        leads_then case ops place reached to (map datum_of_view before) (map datum_of_view stack) (map datum_of_view after) leads (leads_step case ops reached to (map datum_of_view stack) (map datum_of_view after) op there moved.0 moved.1.within executes),
      ),
    )

-- at its end it comes to the top value
pub run_ends : (case : Case) (ops : List Op) (place reached : ℕ) (before stack below : List View) (v : View) → LeadsOn case ops place (map datum_of_view before) reached (map datum_of_view stack) → length ops ≤ reached → stack ≡ v ∷ below
    → ComesFrom (where_refused case None) ops place (map datum_of_view before) (Ok (datum_of_view v))
run_ends case ops place reached before stack below v leads past is =
    leads.found_is (Ok (datum_of_view v)) (comes_end (where_refused case None) ops reached (datum_of_view v) (map datum_of_view below) (map datum_of_view stack) past (ap (map datum_of_view) is))

-- at an `eval` it stands still
pub run_stands : (case : Case) (ops : List Op) (place reached : ℕ) (before stack after : List View) (op : Op) (column : ℕ) → place ≤ reached → LeadsOn case ops place (map datum_of_view before) reached (map datum_of_view stack) → IsAt ops reached (length stack)
    → slice_get ops reached ≡ Some op → StepEnds case reached op stack after (Ok (step.Eval column)) → StandsAt case ops place (map datum_of_view before) reached (map datum_of_view after) op.at column
run_stands case ops place reached before stack after op column behind leads at there (is, same) = record {
  behind = behind;
  leads = subst (λ (vs : List View). LeadsOn case ops place (map datum_of_view before) reached (map datum_of_view vs)) (sym same) leads;
  over = subst (IsAt ops reached) (sym (length-map after datum_of_view ∙ ap length same)) at;
  there = there ∙ ap (λ (instruction : Instruction). Some (record op { instruction = instruction })) is;
}

-- a model, by which what holds for each is told
pub some_model : ModelParts
some_model = parts_of [] [] [] AllowOverride [] (truth 0 true)
