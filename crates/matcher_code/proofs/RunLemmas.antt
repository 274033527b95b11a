-- Runs: what an instruction leads to, and where a run has come to.
use Rattle.std.proofs.Common.{arith, ◌≡◌, ◌⊎◌, inl, inr, ℕ, ◌+◌, ◌-◌, ◌<◌, ◌≤◌, zero, suc, true, false, List, [], ◌∷◌, length, Option, Some, None, MatchOption, Ok, Err, get_or, slice_get, option_map, refl, sym, ap, subst, ◌∙◌}
use Rattle.std.proofs.lemmas.Bool.{le-leb}
use Rattle.std.proofs.lemmas.Option.{slice_get_past, slice_get_within}
use Rattle.effect_fold.specs.declared.fault.Cause.TheVariants.{Pattern}
use Rattle.effect_fold.specs.declared.fault.Fault.{Fault}
use Rattle.matcher_read.specs.Calls.{arity}
use Rattle.matcher_read.specs.Expression.{Callee, function, relation}
use Rattle.perm_value.specs.Datum.{Datum}
use Rattle.perm_value.specs.Datum as datum
use Rattle.matcher_meaning.specs.Answers.{Evaluation, fails}
use Rattle.matcher_meaning.specs.CaseCalls.{Gives}
use Rattle.matcher_meaning.specs.Cases.{Case, where_refused}
use Rattle.matcher_meaning.specs.Comes.{Evaluates}
use Rattle.matcher_meaning.specs.Operators.{ended_by, ended_among}
use Rattle.matcher_meaning.proofs.CallerLemmas.{Keeps, evaluates_keeps, gives_keep}
use Rattle.matcher_code.specs.Helps.Runs.{ComesFrom, IsAt, LeadsOn}
use Rattle.matcher_code.specs.Machine.{Next, failed, goes, lacks, onward, ByAnswer, jumping, taken, Called, Does, Executes, top, Onward, Runs, CodeComesTo}
use Rattle.matcher_code.specs.Rules.{IsVerified, finds, leaves, height_behind, height_at, height_landing, jump}
use Rattle.matcher_code.specs.declared.op.Op.{Op}
use Rattle.matcher_code.specs.declared.op.Instruction.{Instruction}
use Rattle.matcher_code.specs.declared.op.Instruction.TheVariants as i
use Rattle.matcher_code.proofs.CheckLemmas.{jump_lies, kept_parts}
use Rattle.matcher_code.proofs.HeightLemmas.{height_next}

-- ---- refusals

-- where a search is refused, a step is the same, or it is the fault of that search
abbrev StepKeeps : ℕ → (Next → Type 0) → (Next → Type 0) → Type 0
StepKeeps at P Q = (next : Next) → P next → Q next ⊎ Q (failed (record { cause = Pattern; at = at }))

by_keeps : (at : ℕ) (P Q : Evaluation → Type 0) (place : ℕ) (below : List Datum) → Keeps at P Q → StepKeeps at (ByAnswer place below P) (ByAnswer place below Q)
by_keeps at P Q place below keep next (x, is, leads) = go (keep x is)
  where
    go : Q x ⊎ Q (fails Pattern at) → ByAnswer place below Q next ⊎ ByAnswer place below Q (failed (record { cause = Pattern; at = at }))
    go (inl same) = inl (x, same, leads)
    go (inr fault) = inr (fails Pattern at, fault, refl)

called_keeps : (case : Case) (at : ℕ) (pattern : List ℕ) (place place_at : ℕ) (callee : Callee) (parts : Option (List Datum × List Datum))
    → StepKeeps at (Called (where_refused case None) place place_at callee parts) (Called (where_refused case (Some (at, pattern))) place place_at callee parts)
called_keeps case at pattern place place_at callee None next is = inl is
called_keeps case at pattern place place_at callee (Some parts) next is =
    by_keeps at (Gives (where_refused case None) place_at callee parts.0) (Gives (where_refused case (Some (at, pattern))) place_at callee parts.0) place parts.1 (gives_keep case at pattern place_at callee parts.0) next is

does_keep : (case : Case) (at : ℕ) (pattern : List ℕ) (place place_at : ℕ) (instruction : Instruction) (stack : List Datum)
    → StepKeeps at (Does (where_refused case None) place place_at instruction stack) (Does (where_refused case (Some (at, pattern))) place place_at instruction stack)
does_keep case at pattern place place_at (i.Function called) stack next is = called_keeps case at pattern place place_at (function called) (taken (arity called) [] stack) next is
does_keep case at pattern place place_at (i.Role number names) stack next is = called_keeps case at pattern place place_at (relation number) (taken names [] stack) next is
does_keep case at pattern place place_at (i.Eval column) stack next is =
    by_keeps at (Evaluates (where_refused case None) place_at (get_or case.model.policy column [])) (Evaluates (where_refused case (Some (at, pattern))) place_at (get_or case.model.policy column [])) place stack
    (evaluates_keeps case at pattern place_at (get_or case.model.policy column [])) next is
does_keep case at pattern place place_at _ stack next is = inl is

pub executes_keeps : (case : Case) (at : ℕ) (pattern : List ℕ) (place : ℕ) (op : Op) (stack : List Datum)
    → StepKeeps at (Executes (where_refused case None) place op stack) (Executes (where_refused case (Some (at, pattern))) place op stack)
executes_keeps case at pattern place op stack = does_keep case at pattern place op.at op.instruction stack

-- ---- where a step goes

-- behind an instruction, or at the place that it jumps to, with the heights of both
abbrev pub Moves : Instruction → ℕ → ℕ → ℕ → ℕ → Type 0
Moves instruction place height to rest =
    ((to ≡ place + 1) × ((finds instruction ≤ height) × (height - finds instruction + leaves instruction ≡ rest)))
    ⊎ ((jump instruction ≡ Some to) × (height_landing instruction height ≡ rest))

onward_goes : (place to : ℕ) (below rest : List Datum) (x : Evaluation) → goes to rest ≡ onward place below x → (to ≡ place + 1) × (length rest ≡ length below + 1)
onward_goes place to below rest (Ok d) is =
    let same : rest ≡ d ∷ below = cc in
    let long : length rest ≡ suc (length below) = ap length same in
    (cc, omega (arith, long))
onward_goes place to below rest (Err fault) is = absurd cc

jumping_goes : (place to other : ℕ) (below stack rest : List Datum) (x : Option Evaluation) → goes to rest ≡ jumping other below x (goes (place + 1) stack)
    → ((to ≡ place + 1) × (length rest ≡ length stack)) ⊎ ((to ≡ other) × (length rest ≡ length below + 1))
jumping_goes place to other below stack rest None is = inl (cc, (let same : rest ≡ stack = cc in ap length same))
jumping_goes place to other below stack rest (Some (Ok d)) is =
    let same : rest ≡ d ∷ below = cc in
    let long : length rest ≡ suc (length below) = ap length same in
    inr (cc, omega (arith, long))
jumping_goes place to other below stack rest (Some (Err fault)) is = absurd cc

taken_long : (many : ℕ) (ds stack : List Datum) (parts : List Datum × List Datum) → taken many ds stack ≡ Some parts → length stack ≡ many + length parts.1
taken_long zero ds stack parts is = let same : stack ≡ parts.1 = ap (λ (p : List Datum × List Datum). p.1) (some_is (ds, stack) parts is) in omega (arith, ap length same)
  where
    some_is : (p q : List Datum × List Datum) → ◌≡◌ {A = Option (List Datum × List Datum)} (Some p) (Some q) → p ≡ q
    some_is p q same = cc
taken_long (suc more) ds [] parts is = absurd cc
taken_long (suc more) ds (d ∷ stack) parts is = omega (arith, taken_long more (d ∷ ds) stack parts is)

called_goes : (case : Case) (place at : ℕ) (callee : Callee) (many : ℕ) (stack : List Datum) (to : ℕ) (rest : List Datum) → Called case place at callee (taken many [] stack) (goes to rest)
    → (to ≡ place + 1) × ((many ≤ length stack) × (length stack - many + 1 ≡ length rest))
called_goes case place at callee many stack to rest is = go (taken many [] stack) refl is
  where
    go : (parts : Option (List Datum × List Datum)) → taken many [] stack ≡ parts → Called case place at callee parts (goes to rest) → (to ≡ place + 1) × ((many ≤ length stack) × (length stack - many + 1 ≡ length rest))
    go None lost is = absurd cc
    go (Some parts) taken_is (x, gives, leads) =
        let long = taken_long many [] stack parts taken_is in
        let on = onward_goes place to parts.1 rest x leads in
        (on.0, (omega (arith, long), omega (arith, long, on.1)))

-- one value becomes another
one_goes : (place to : ℕ) (d : Datum) (below rest : List Datum) (x : Evaluation) → goes to rest ≡ onward place below x → (to ≡ place + 1) × ((1 ≤ length (d ∷ below)) × (length (d ∷ below) - 1 + 1 ≡ length rest))
one_goes place to d below rest x is = let on = onward_goes place to below rest x is in (on.0, (omega arith, omega (arith, on.1)))

-- one value more
more_goes : (place to : ℕ) (stack rest : List Datum) (x : Evaluation) → goes to rest ≡ onward place stack x → (to ≡ place + 1) × ((0 ≤ length stack) × (length stack - 0 + 1 ≡ length rest))
more_goes place to stack rest x is = let on = onward_goes place to stack rest x is in (on.0, (omega arith, omega (arith, on.1)))

skip_goes : (place to other : ℕ) (d : Datum) (below rest : List Datum) (x : Option Evaluation) → goes to rest ≡ jumping other below x (goes (place + 1) below)
    → ((to ≡ place + 1) × ((1 ≤ length (d ∷ below)) × (length (d ∷ below) - 1 + 0 ≡ length rest))) ⊎ ((Some other ≡ Some to) × (length (d ∷ below) ≡ length rest))
skip_goes place to other d below rest x is = go (jumping_goes place to other below below rest x is)
  where
    go : ((to ≡ place + 1) × (length rest ≡ length below)) ⊎ ((to ≡ other) × (length rest ≡ length below + 1))
        → ((to ≡ place + 1) × ((1 ≤ length (d ∷ below)) × (length (d ∷ below) - 1 + 0 ≡ length rest))) ⊎ ((Some other ≡ Some to) × (length (d ∷ below) ≡ length rest))
    go (inl (same, long)) = inl (same, (omega arith, omega (arith, long)))
    go (inr (same, long)) = inr (ap Some (sym same), omega (arith, long))

member_goes : (place to other : ℕ) (e d : Datum) (below rest : List Datum) (x : Option Evaluation) → goes to rest ≡ jumping other below x (goes (place + 1) (d ∷ below))
    → ((to ≡ place + 1) × ((2 ≤ length (e ∷ d ∷ below)) × (length (e ∷ d ∷ below) - 2 + 1 ≡ length rest))) ⊎ ((Some other ≡ Some to) × (length (e ∷ d ∷ below) - 1 ≡ length rest))
member_goes place to other e d below rest x is = go (jumping_goes place to other below (d ∷ below) rest x is)
  where
    go : ((to ≡ place + 1) × (length rest ≡ length (d ∷ below))) ⊎ ((to ≡ other) × (length rest ≡ length below + 1))
        → ((to ≡ place + 1) × ((2 ≤ length (e ∷ d ∷ below)) × (length (e ∷ d ∷ below) - 2 + 1 ≡ length rest))) ⊎ ((Some other ≡ Some to) × (length (e ∷ d ∷ below) - 1 ≡ length rest))
    go (inl (same, long)) = inl (same, (omega arith, omega (arith, long)))
    go (inr (same, long)) = inr (ap Some (sym same), omega (arith, long))

does_move : (case : Case) (place at : ℕ) (instruction : Instruction) (stack : List Datum) (to : ℕ) (rest : List Datum) → Does case place at instruction stack (goes to rest) → Moves instruction place (length stack) to (length rest)
does_move case place at (i.Text bytes) stack to rest is = inl (more_goes place to stack rest (Ok (datum.text bytes)) is)
does_move case place at (i.Whole n) stack to rest is = inl (more_goes place to stack rest (Ok (datum.whole n)) is)
does_move case place at (i.Truth b) stack to rest is = inl (more_goes place to stack rest (Ok (datum.truth b)) is)
does_move case place at (i.Request column) stack to rest is = inl (more_goes place to stack rest _ is)
does_move case place at (i.Policy column) stack to rest is = inl (more_goes place to stack rest (Ok (datum.text _)) is)
does_move case place at (i.Attribute name) [] to rest is = absurd cc
does_move case place at (i.Attribute name) (d ∷ below) to rest is = inl (one_goes place to d below rest _ is)
does_move case place at i.Not [] to rest is = absurd cc
does_move case place at i.Not (d ∷ below) to rest is = inl (one_goes place to d below rest _ is)
does_move case place at i.Negate [] to rest is = absurd cc
does_move case place at i.Negate (d ∷ below) to rest is = inl (one_goes place to d below rest _ is)
does_move case place at (i.Binary op) [] to rest is = absurd cc
does_move case place at (i.Binary op) (e ∷ []) to rest is = absurd cc
does_move case place at (i.Binary op) (e ∷ d ∷ below) to rest is = let on = onward_goes place to below rest _ is in inl (on.0, (omega arith, omega (arith, on.1)))
does_move case place at (i.SkipFalse other) [] to rest is = absurd cc
does_move case place at (i.SkipFalse other) (d ∷ below) to rest is = skip_goes place to other d below rest (ended_by at false d) is
does_move case place at (i.SkipTrue other) [] to rest is = absurd cc
does_move case place at (i.SkipTrue other) (d ∷ below) to rest is = skip_goes place to other d below rest (ended_by at true d) is
does_move case place at i.NeedTruth [] to rest is = absurd cc
does_move case place at i.NeedTruth (d ∷ below) to rest is = inl (one_goes place to d below rest _ is)
does_move case place at (i.Member other) [] to rest is = absurd cc
does_move case place at (i.Member other) (e ∷ []) to rest is = absurd cc
does_move case place at (i.Member other) (e ∷ d ∷ below) to rest is = member_goes place to other e d below rest (ended_among d (Ok e)) is
does_move case place at i.Miss [] to rest is = absurd cc
does_move case place at i.Miss (d ∷ below) to rest is = inl (one_goes place to d below rest (Ok (datum.truth false)) is)
does_move case place at (i.Function called) stack to rest is = inl (called_goes case place at (function called) (arity called) stack to rest is)
does_move case place at (i.Role number names) stack to rest is = inl (called_goes case place at (relation number) names stack to rest is)
does_move case place at (i.Eval column) stack to rest (x, evaluates, leads) = inl (more_goes place to stack rest x leads)

-- with its operands there, the height behind an instruction
pub behind_is : (instruction : Instruction) (height rest : ℕ) → finds instruction ≤ height → height - finds instruction + leaves instruction ≡ rest → height_behind instruction (Some height) ≡ Some rest
behind_is instruction height rest enough is = rw (le-leb (finds instruction) height enough) (ap Some is)

-- a step goes to a later place, with the height that this wants
pub moves_at : (ops : List Op) (columns policy_columns place height to rest : ℕ) (op : Op) → IsVerified ops columns policy_columns → slice_get ops place ≡ Some op → IsAt ops place height
    → Moves op.instruction place height to rest → (place < to) × IsAt ops to rest
moves_at ops columns policy_columns place height to rest op verified there at (inl (same, (enough, is))) =
    let before = slice_get_within ops place op there in
    let on : height_at ops (place + 1) ≡ Some rest = height_next ops place op there ∙ ap (height_behind op.instruction) at.reached ∙ behind_is op.instruction height rest enough is in
    (omega (arith, same), record { within = omega (arith, same, before); reached = ap (height_at ops) same ∙ on })
moves_at ops columns policy_columns place height to rest op verified there at (inr (lands, is)) =
    let names = (kept_parts ops columns policy_columns place op height (verified.each place at.within) there at.reached).1 in
    let ahead = jump_lies columns policy_columns place (length ops) op.instruction to names lands in
    let keeps = verified.each to ahead.1 in
    (ahead.0, record { within = ahead.1; reached = sym (keeps.landing place op ahead.0 there lands) ∙ ap (option_map (height_landing op.instruction)) at.reached ∙ ap Some is })

pub executes_move : (case : Case) (ops : List Op) (columns policy_columns place to : ℕ) (stack rest : List Datum) (op : Op) → IsVerified ops columns policy_columns → slice_get ops place ≡ Some op → IsAt ops place (length stack)
    → Executes case place op stack (goes to rest) → (place < to) × IsAt ops to (length rest)
executes_move case ops columns policy_columns place to stack rest op verified there at executes =
    moves_at ops columns policy_columns place (length stack) to (length rest) op verified there at (does_move case place op.at op.instruction stack to rest executes)

-- ---- runs

-- what is said of a run of one more instruction, by the instruction there
abbrev RunsBy : Case → List Op → ℕ → ℕ → List Datum → Option Evaluation → Option Op → Type 0
RunsBy case ops left place stack r there = MatchOption there (r ≡ top stack) (λ op. (next : Next) × Executes case place op stack next × Onward next (λ to rest. Runs case ops left to rest r) r)

-- with an instruction more
runs_here : (case : Case) (ops : List Op) (left place : ℕ) (stack : List Datum) (op : Op) (next : Next) (r : Option Evaluation) → slice_get ops place ≡ Some op → Executes case place op stack next
    → Onward next (λ to rest. Runs case ops left to rest r) r → Runs case ops (suc left) place stack r
unfolding Runs
runs_here case ops left place stack op next r there executes on = subst (RunsBy case ops left place stack r) (sym there) (next, executes, on)

-- at the end
runs_end : (case : Case) (ops : List Op) (left place : ℕ) (stack : List Datum) (r : Option Evaluation) → slice_get ops place ≡ None → r ≡ top stack → Runs case ops left place stack r
unfolding Runs
runs_end case ops zero place stack r none is = subst (λ (there : Option Op). MatchOption there (r ≡ top stack) (λ op. r ≡ None)) (sym none) is
runs_end case ops (suc left) place stack r none is = subst (RunsBy case ops left place stack r) (sym none) is

-- a run that has ended is the same with more instructions
runs_more : (case : Case) (ops : List Op) (left more place : ℕ) (stack : List Datum) (r : Evaluation) → left ≤ more → Runs case ops left place stack (Some r) → Runs case ops more place stack (Some r)
unfolding Runs
runs_more case ops zero more place stack r less runs = go (slice_get ops place) refl
  where
    go : (there : Option Op) → slice_get ops place ≡ there → Runs case ops more place stack (Some r)
    go None none = runs_end case ops more place stack (Some r) none (subst (λ (o : Option Op). MatchOption o (◌≡◌ {A = Option Evaluation} (Some r) (top stack)) (λ op. ◌≡◌ {A = Option Evaluation} (Some r) None)) none runs)
    go (Some op) there = absurd (let never : ◌≡◌ {A = Option Evaluation} (Some r) None = subst (λ (o : Option Op). MatchOption o (◌≡◌ {A = Option Evaluation} (Some r) (top stack)) (λ op. ◌≡◌ {A = Option Evaluation} (Some r) None)) there runs in cc)
runs_more case ops (suc left) zero place stack r less runs = absurd (omega (arith, less))
runs_more case ops (suc left) (suc more) place stack r less runs = go (slice_get ops place) refl (λ to rest on. runs_more case ops left more to rest r (omega (arith, less)) on)
  where
    onward_more : (next : Next) → ((to : ℕ) (rest : List Datum) → Runs case ops left to rest (Some r) → Runs case ops more to rest (Some r))
        → Onward next (λ to rest. Runs case ops left to rest (Some r)) (Some r) → Onward next (λ to rest. Runs case ops more to rest (Some r)) (Some r)
    onward_more (failed fault) rest_more on = on
    onward_more (goes to rest) rest_more on = rest_more to rest on
    onward_more lacks rest_more on = on

    go : (there : Option Op) → slice_get ops place ≡ there → ((to : ℕ) (rest : List Datum) → Runs case ops left to rest (Some r) → Runs case ops more to rest (Some r)) → Runs case ops (suc more) place stack (Some r)
    go None none rest_more = runs_end case ops (suc more) place stack (Some r) none (subst (RunsBy case ops left place stack (Some r)) none runs)
    go (Some op) there rest_more =
        let parts = subst (RunsBy case ops left place stack (Some r)) there runs in
        runs_here case ops more place stack op parts.0 (Some r) there parts.1 (onward_more parts.0 rest_more parts.2)

-- ---- runs from a place on

-- a step, and then what comes from where it goes
comes_step : (case : Case) (ops : List Op) (place to : ℕ) (stack rest : List Datum) (op : Op) (r : Evaluation) → slice_get ops place ≡ Some op → place < to → to ≤ length ops → Executes case place op stack (goes to rest)
    → ComesFrom case ops to rest r → ComesFrom case ops place stack r
comes_step case ops place to stack rest op r there less within executes comes =
    let before = slice_get_within ops place op there in
    let one : suc (length ops - place - 1) ≡ length ops - place = omega (arith, before) in
    subst (λ (left : ℕ). Runs case ops left place stack (Some r)) one
    (runs_here case ops (length ops - place - 1) place stack op (goes to rest) (Some r) there executes
    (runs_more case ops (length ops - to) (length ops - place - 1) to rest r (omega (arith, less, within)) comes))

-- a step that stops
pub comes_fault : (case : Case) (ops : List Op) (place : ℕ) (stack : List Datum) (op : Op) (fault : Fault) → slice_get ops place ≡ Some op → Executes case place op stack (failed fault) → ComesFrom case ops place stack (Err fault)
comes_fault case ops place stack op fault there executes =
    let before = slice_get_within ops place op there in
    let one : suc (length ops - place - 1) ≡ length ops - place = omega (arith, before) in
    subst (λ (left : ℕ). Runs case ops left place stack (Some (Err fault))) one
    (runs_here case ops (length ops - place - 1) place stack op (failed fault) (Some (Err fault)) there executes refl)

-- behind the last instruction
pub comes_end : (case : Case) (ops : List Op) (place : ℕ) (d : Datum) (below stack : List Datum) → length ops ≤ place → stack ≡ d ∷ below → ComesFrom case ops place stack (Ok d)
comes_end case ops place d below stack past is = runs_end case ops (length ops - place) place stack (Some (Ok d)) (slice_get_past ops place past) (sym (ap top is))

-- from the first place over an empty stack
pub comes_whole : (case : Case) (ops : List Op) (r : Evaluation) → ComesFrom case ops 0 [] r → CodeComesTo case ops r
comes_whole case ops r comes = let all : length ops - 0 ≡ length ops = omega arith in subst (λ (left : ℕ). Runs case ops left 0 [] (Some r)) all comes

-- ---- how far a run has come

pub leads_none : (case : Case) (ops : List Op) (place : ℕ) (stack : List Datum) → LeadsOn case ops place stack place stack
leads_none case ops place stack = record { found_is = λ r comes. comes; refused_is = λ at pattern comes. comes }

pub leads_then : (case : Case) (ops : List Op) (place between to : ℕ) (stack middle rest : List Datum) → LeadsOn case ops place stack between middle → LeadsOn case ops between middle to rest → LeadsOn case ops place stack to rest
leads_then case ops place between to stack middle rest one other = record {
  found_is = λ r comes. one.found_is r (other.found_is r comes);
  refused_is = λ at pattern comes. one.refused_is at pattern (other.refused_is at pattern comes);
}

pub leads_step : (case : Case) (ops : List Op) (place to : ℕ) (stack rest : List Datum) (op : Op) → slice_get ops place ≡ Some op → place < to → to ≤ length ops → Executes (where_refused case None) place op stack (goes to rest)
    → LeadsOn case ops place stack to rest
leads_step case ops place to stack rest op there less within executes = record {
  found_is = λ r comes. comes_step (where_refused case None) ops place to stack rest op r there less within executes comes;
  refused_is = λ at pattern comes. go at pattern comes (executes_keeps case at pattern place op stack (goes to rest) executes);
}
  where
    go : (at : ℕ) (pattern : List ℕ) → ComesFrom (where_refused case (Some (at, pattern))) ops to rest (fails Pattern at)
        → Executes (where_refused case (Some (at, pattern))) place op stack (goes to rest) ⊎ Executes (where_refused case (Some (at, pattern))) place op stack (failed (record { cause = Pattern; at = at }))
        → ComesFrom (where_refused case (Some (at, pattern))) ops place stack (fails Pattern at)
    go at pattern comes (inl same) = comes_step (where_refused case (Some (at, pattern))) ops place to stack rest op (fails Pattern at) there less within same comes
    go at pattern comes (inr fault) = comes_fault (where_refused case (Some (at, pattern))) ops place stack op (record { cause = Pattern; at = at }) there fault
