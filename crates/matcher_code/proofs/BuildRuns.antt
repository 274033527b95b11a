-- What the code of an expression comes to: what the expression does, and then what the code behind it does.
use Rattle.std.proofs.Common.{◌≡◌, ◌⊎◌, inl, inr, ℕ, ◌+◌, zero, suc, ◌==◌, ◌||◌, Bool, true, false, true≢false, List, [], ◌∷◌, ◌++◌, length, Option, Some, None, Result, Ok, Err, MatchOption, refl, sym, ap, ◌∙◌, subst, arith}
use Rattle.std.specs.Prelude.{if◌then◌else◌, slice_get}
use Rattle.std.proofs.lemmas.Bool.{and_parts, eqb-true, or_cases}
use Rattle.std.proofs.lemmas.List.{append-nil}
use Rattle.effect_fold.specs.declared.fault.Fault.{Fault}
use Rattle.perm_value.specs.Attribute.{attribute}
use Rattle.perm_value.specs.Datum.{Datum}
use Rattle.perm_value.specs.Datum as datum
use Rattle.matcher_read.specs.Calls.{arity, takes}
use Rattle.matcher_read.specs.Expression.{Callee, function, relation, unknown, Expression, text, whole, truth, request, policy, evaluated, negation, opposite, binary, among, call, Expressions, no_more, one_more, count}
use Rattle.matcher_read.specs.Matcher.{is_sound, are_sound}
use Rattle.matcher_read.specs.declared.tree.Operator.{Operator}
use Rattle.matcher_read.specs.declared.tree.Operator.TheVariants as operators
use Rattle.model_conf.specs.Uses.{of_request, of_policy, uses, all_uses, called as called_uses}
use Rattle.matcher_meaning.specs.Answers as answers
use Rattle.matcher_meaning.specs.Answers.{Evaluation, After, Unless, with_first}
use Rattle.matcher_meaning.specs.CaseCalls.{Gives}
use Rattle.matcher_meaning.specs.Cases.{Case, asked_value, row_text}
use Rattle.matcher_meaning.specs.Comes.{ComesTo, IsAmongBy, ComeToBy, Evaluates}
use Rattle.matcher_meaning.specs.Meaning.{along}
use Rattle.matcher_meaning.specs.Operators.{negated, opposed, as_truth, settled, joined, ended_among}
use Rattle.matcher_code.specs.Compiled.{op_at, column_number, attributes, skip, op_or_none, right_begins, joins, names_asked, calls, behind, behind_members, behind_all, compiled, members, arguments}
use Rattle.matcher_code.specs.Machine.{Next, failed, goes, lacks, onward, jumping, taken, Called, field_at, Executes, top, Onward, Runs}
use Rattle.matcher_code.specs.declared.op.Op.{Op}
use Rattle.matcher_code.specs.declared.op.Instruction.{Instruction}
use Rattle.matcher_code.specs.declared.op.Instruction.TheVariants as i
use Rattle.matcher_code.proofs.BuildPlaces.{Stands, stand_first, stand_at, stand_skips, members_end_at, arguments_end_at}
use Rattle.matcher_code.proofs.BuildUses.{are_named, named_parts, named_one, value_there, field_there, column_there}

-- from a place on, over a stack, the code comes to this answer
abbrev pub Ends : Case → List Op → ℕ → List Datum → Evaluation → Type 0
Ends case ops place stack r = (left : ℕ) × Runs case ops left place stack (Some r)

-- so it does from where an instruction leads
abbrev pub GoesOn : Case → List Op → Next → Evaluation → Type 0
GoesOn case ops (failed fault) r = r ≡ Err fault
GoesOn case ops (goes place stack) r = Ends case ops place stack r
GoesOn case ops lacks r = ⊥

-- it does so behind a value of which this holds, or that fault is the answer
abbrev pub Leads : Case → List Op → ℕ → List Datum → (Evaluation → Type 0) → Evaluation → Type 0
Leads case ops place below Is r = (x : Evaluation) × Is x × After x (λ d. Ends case ops place (d ∷ below) r) r

-- ---- one instruction

goes_on : (case : Case) (ops : List Op) (left : ℕ) (r : Evaluation) (next : Next) → Onward next (λ to rest. Runs case ops left to rest (Some r)) (Some r) → GoesOn case ops next r
goes_on case ops left r (failed fault) is = cc
goes_on case ops left r (goes place stack) run = (left, run)
goes_on case ops left r lacks is = absurd cc

step : (case : Case) (ops : List Op) (place : ℕ) (stack : List Datum) (r : Evaluation) (op : Op) → slice_get ops place ≡ Some op → Ends case ops place stack r
    → (next : Next) × Executes case place op stack next × GoesOn case ops next r
unfolding Runs
step case ops place stack r op is (zero, run) =
    let none : ◌≡◌ {A = Option Evaluation} (Some r) None = subst (λ (there : Option Op). MatchOption there (◌≡◌ {A = Option Evaluation} (Some r) (top stack)) (λ op. ◌≡◌ {A = Option Evaluation} (Some r) None)) is run in
    absurd cc
step case ops place stack r op is (suc left, run) =
    let gone = subst (λ (there : Option Op). MatchOption there (◌≡◌ {A = Option Evaluation} (Some r) (top stack)) (λ op. (next : Next) × Executes case place op stack next × Onward next (λ to rest. Runs case ops left to rest (Some r)) (Some r))) is run in
    (gone.0, gone.1, goes_on case ops left r gone.0 gone.2)

pub at_end : (case : Case) (ops : List Op) (place : ℕ) (stack : List Datum) (r : Evaluation) → slice_get ops place ≡ None → Ends case ops place stack r → Some r ≡ top stack
unfolding Runs
at_end case ops place stack r is (zero, run) = subst (λ (there : Option Op). MatchOption there (◌≡◌ {A = Option Evaluation} (Some r) (top stack)) (λ op. ◌≡◌ {A = Option Evaluation} (Some r) None)) is run
at_end case ops place stack r is (suc left, run) =
    subst (λ (there : Option Op). MatchOption there (◌≡◌ {A = Option Evaluation} (Some r) (top stack)) (λ op. (next : Next) × Executes case place op stack next × Onward next (λ to rest. Runs case ops left to rest (Some r)) (Some r))) is run

-- an instruction that leads to one next state
pub moved : (case : Case) (ops : List Op) (place : ℕ) (stack : List Datum) (r : Evaluation) (op : Op) (to : Next) → slice_get ops place ≡ Some op → ((next : Next) → Executes case place op stack next → next ≡ to)
    → Ends case ops place stack r → GoesOn case ops to r
moved case ops place stack r op to is leads ends = let gone = step case ops place stack r op is ends in subst (λ (next : Next). GoesOn case ops next r) (leads gone.0 gone.1) gone.2

-- ---- answers

pub after_onward : (case : Case) (ops : List Op) (place : ℕ) (below : List Datum) (x r : Evaluation) → GoesOn case ops (onward place below x) r → After x (λ d. Ends case ops (place + 1) (d ∷ below) r) r
after_onward case ops place below (Ok d) r on = on
after_onward case ops place below (Err fault) r on = on

-- the value of an operand is turned by an instruction into what it gives
turned : (case : Case) (ops : List Op) (place : ℕ) (below : List Datum) (r : Evaluation) (give : Datum → Evaluation) (x : Evaluation)
    → ((d : Datum) → Ends case ops place (d ∷ below) r → GoesOn case ops (onward place below (give d)) r)
    → After x (λ d. Ends case ops place (d ∷ below) r) r → After (answers.then x give) (λ d. Ends case ops (place + 1) (d ∷ below) r) r
turned case ops place below r give (Ok d) turn after = after_onward case ops place below (give d) r (turn d after)
turned case ops place below r give (Err fault) turn after = after

-- an answer that is already there goes on at another place, or else it is what is said behind
jumped : (case : Case) (ops : List Op) (to place : ℕ) (below stack : List Datum) (r : Evaluation) (Is : Evaluation → Type 0) (there : Option Evaluation)
    → (Ends case ops place stack r → Leads case ops to below Is r)
    → GoesOn case ops (jumping to below there (goes place stack)) r → Leads case ops to below (λ z. Unless there (Is z) z) r
jumped case ops to place below stack r Is None rest on = rest on
jumped case ops to place below stack r Is (Some (Ok d)) rest on = (Ok d, refl, on)
jumped case ops to place below stack r Is (Some (Err fault)) rest on = (Err fault, refl, on)

-- ---- the attributes of a path

walked : (case : Case) (ops : List Op) (place at : ℕ) (below : List Datum) (r : Evaluation) (value : Option Datum) (path : List (List ℕ)) → Stands ops place (attributes at path)
    → After (along at value []) (λ d. Ends case ops place (d ∷ below) r) r → After (along at value path) (λ d. Ends case ops (place + length path) (d ∷ below) r) r
walked case ops place at below r None path stand after = after
walked case ops place at below r (Some d) [] stand ends = let same : place ≡ place + 0 = omega arith in subst (λ (n : ℕ). Ends case ops n (d ∷ below) r) same ends
walked case ops place at below r (Some d) (name ∷ names) (is, stand) ends =
    let on = moved case ops place (d ∷ below) r (op_at at (i.Attribute name)) (onward place below (along at (Some d) (name ∷ []))) is (λ next leads. leads) ends in
    let rest = walked case ops (place + 1) at below r (attribute d name) names stand (after_onward case ops place below (along at (attribute d name) []) r on) in
    let same : place + 1 + length names ≡ place + length (name ∷ names) = omega arith in
    subst (λ (n : ℕ). After (along at (attribute d name) names) (λ v. Ends case ops n (v ∷ below) r) r) same rest

-- ---- calls

-- these values, the last on top
abbrev pub put : List Datum → List Datum → List Datum
put [] stack = stack
put (d ∷ ds) stack = put ds (d ∷ stack)

taken_on : (ds more stack : List Datum) (left : ℕ) → taken (length ds + left) more (put ds stack) ≡ taken left (ds ++ more) stack
taken_on [] more stack left = let none : 0 + left ≡ left = omega arith in ap (λ (n : ℕ). taken n more stack) none
taken_on (d ∷ ds) more stack left =
    let same : length (d ∷ ds) + left ≡ length ds + suc left = omega arith in
    ap (λ (n : ℕ). taken n more (put ds (d ∷ stack))) same ∙ taken_on ds more (d ∷ stack) (suc left)

taken_all : (ds stack : List Datum) (given : ℕ) → length ds ≡ given → taken given [] (put ds stack) ≡ Some (ds, stack)
taken_all ds stack given is =
    let same : given ≡ length ds + 0 = omega arith in
    ap (λ (n : ℕ). taken n [] (put ds stack)) same ∙ taken_on ds [] stack 0 ∙ ap (λ (all : List Datum). Some (all, stack)) (append-nil ds)

called : (case : Case) (ops : List Op) (place at : ℕ) (callee : Callee) (given : ℕ) (instruction : Instruction) (ds stack : List Datum) (r : Evaluation)
    → ((next : Next) → Executes case place (op_at at instruction) (put ds stack) next → Called case place at callee (taken given [] (put ds stack)) next)
    → length ds ≡ given → slice_get ops place ≡ Some (op_at at instruction) → Ends case ops place (put ds stack) r
    → Leads case ops (place + 1) stack (Gives case at callee ds) r
called case ops place at callee given instruction ds stack r leads many is ends =
    let gone = step case ops place (put ds stack) r (op_at at instruction) is ends in
    let by = subst (λ (parts : Option (List Datum × List Datum)). Called case place at callee parts gone.0) (taken_all ds stack given many) (leads gone.0 gone.1) in
    (by.0, by.1, after_onward case ops place stack by.0 r (subst (λ (next : Next). GoesOn case ops next r) by.2 gone.2))

-- a relation is asked with two names or three
asked_with : (given : ℕ) → (given == 2 || given == 3) ≡ true → given ≡ names_asked given
asked_with given right = by_three (given == 3) refl
  where
    two : ((given == 2) ≡ true) ⊎ ((given == 3) ≡ true) → (given == 3) ≡ false → given ≡ 2
    two (inl is) not_three = eqb-true given 2 is
    two (inr is) not_three = absurd (true≢false (sym is ∙ not_three))

    by_three : (test : Bool) → (given == 3) ≡ test → given ≡ (if test then 3 else 2)
    by_three true is = eqb-true given 3 is
    by_three false is = two (or_cases (given == 2) (given == 3) right) is

-- a call of what takes so many arguments
call_leads : (case : Case) (ops : List Op) (place at : ℕ) (callee : Callee) (given : ℕ) (ds stack : List Datum) (r : Evaluation) → takes callee given ≡ true
    → length ds ≡ given → slice_get ops place ≡ Some (op_at at (calls callee given)) → Ends case ops place (put ds stack) r → Leads case ops (place + 1) stack (Gives case at callee ds) r
call_leads case ops place at (function f) given ds stack r right many is ends =
    called case ops place at (function f) (arity f) (i.Function f) ds stack r (λ next leads. leads) (many ∙ eqb-true given (arity f) right) is ends
call_leads case ops place at (relation number) given ds stack r right many is ends =
    called case ops place at (relation number) (names_asked given) (i.Role number (names_asked given)) ds stack r (λ next leads. leads) (many ∙ asked_with given right) is ends
call_leads case ops place at (unknown parts) given ds stack r right many is ends = absurd (true≢false (sym right))

-- so many values are put on the stack, of which this holds, or the fault is the answer
abbrev pub LeadAll : Case → List Op → ℕ → List Datum → ℕ → (Result (List Datum) Fault → Type 0) → Evaluation → Type 0
LeadAll case ops place stack many Are r = (x : Result (List Datum) Fault) × Are x × After x (λ ds. (length ds ≡ many) × Ends case ops place (put ds stack) r) r

call_by : (case : Case) (ops : List Op) (place at : ℕ) (callee : Callee) (es : Expressions) (stack : List Datum) (r : Evaluation) → takes callee (count es) ≡ true → slice_get ops place ≡ Some (op_at at (calls callee (count es)))
    → LeadAll case ops place stack (count es) (ComeToBy case (Evaluates case) es) r → Leads case ops (place + 1) stack (ComesTo case (call at callee es)) r
call_by case ops place at callee es stack r right is (Ok ds, come, (many, ends)) =
    let gone = call_leads case ops place at callee (count es) ds stack r right many is ends in
    (gone.0, (Ok ds, come, gone.1), gone.2)
call_by case ops place at callee es stack r right is (Err fault, come, failed_) = (Err fault, (Err fault, come, refl), failed_)

argument_leads : (case : Case) (ops : List Op) (place last : ℕ) (stack : List Datum) (many : ℕ) (r : Evaluation) (Is : Evaluation → Type 0) (Are : Result (List Datum) Fault → Type 0)
    → ((d : Datum) → Ends case ops place (d ∷ stack) r → LeadAll case ops last (d ∷ stack) many Are r) → Leads case ops place stack Is r
    → LeadAll case ops last stack (1 + many) (λ all. (x : Evaluation) × Is x × After x (λ d. (y : Result (List Datum) Fault) × Are y × (all ≡ with_first d y)) all) r
argument_leads case ops place last stack many r Is Are rest (Err fault, is, failed_) = (Err fault, (Err fault, is, refl), failed_)
argument_leads case ops place last stack many r Is Are rest (Ok d, is, ends) = others d is (rest d ends)
  where
    others : (d : Datum) → Is (Ok d) → LeadAll case ops last (d ∷ stack) many Are r
        → LeadAll case ops last stack (1 + many) (λ all. (x : Evaluation) × Is x × After x (λ d. (y : Result (List Datum) Fault) × Are y × (all ≡ with_first d y)) all) r
    others d is (Ok ds, are, (long, ends)) = let longer : length (d ∷ ds) ≡ 1 + many = omega arith in (Ok (d ∷ ds), (Ok d, is, (Ok ds, are, refl)), (longer, ends))
    others d is (Err fault, are, failed_) = (Err fault, (Ok d, is, (Err fault, are, refl)), failed_)

-- ---- operators

sides_lead : (case : Case) (ops : List Op) (at : ℕ) (op : Operator) (d : Datum) (place : ℕ) (below stack : List Datum) (r : Evaluation) (Is : Evaluation → Type 0)
    → ((e : Datum) → Ends case ops place (e ∷ below) r → GoesOn case ops (onward place stack (joined at op d e)) r)
    → Leads case ops place below Is r → Leads case ops (place + 1) stack (λ z. (y : Evaluation) × Is y × (z ≡ answers.then y (joined at op d))) r
sides_lead case ops at op d place below stack r Is turn (y, is, after) = (answers.then y (joined at op d), (y, is, refl), joined_after y after)
  where
    joined_after : (y : Evaluation) → After y (λ e. Ends case ops place (e ∷ below) r) r → After (answers.then y (joined at op d)) (λ v. Ends case ops (place + 1) (v ∷ stack) r) r
    joined_after (Ok e) ends = after_onward case ops place stack (joined at op d e) r (turn e ends)
    joined_after (Err fault) failed_ = failed_

-- behind the left side
abbrev pub LeftLeads : Case → List Op → ℕ → Operator → ℕ → ℕ → List Datum → Evaluation → (Evaluation → Type 0) → Datum → Type 0
LeftLeads case ops at op place last stack r Is d = Ends case ops place (d ∷ stack) r
    → Leads case ops last stack (λ z. Unless (settled at op d) ((y : Evaluation) × Is y × (z ≡ answers.then y (joined at op d))) z) r

-- an operator that always evaluates its right side
both_lead : (case : Case) (ops : List Op) (at : ℕ) (op : Operator) (begins place : ℕ) (stack : List Datum) (r : Evaluation) (Is : Evaluation → Type 0) (d : Datum) → settled at op d ≡ None
    → slice_get ops place ≡ Some (op_at at (i.Binary op)) → ((below : List Datum) → Ends case ops begins below r → Leads case ops place below Is r) → LeftLeads case ops at op begins (place + 1) stack r Is d
both_lead case ops at op begins place stack r Is d open_ is right ends =
    let both = sides_lead case ops at op d place (d ∷ stack) stack r Is
    (λ e over. moved case ops place (e ∷ d ∷ stack) r (op_at at (i.Binary op)) (onward place stack (joined at op d e)) is (λ next so. so) over) (right (d ∷ stack) ends) in
    (both.0, subst (λ (there : Option Evaluation). Unless there ((y : Evaluation) × Is y × (both.0 ≡ answers.then y (joined at op d))) both.0) (sym open_) both.1, both.2)

-- `&&` or `||`
skip_leads : (case : Case) (ops : List Op) (at : ℕ) (op : Operator) (instruction : Instruction) (left place : ℕ) (stack : List Datum) (r : Evaluation) (Is : Evaluation → Type 0) (d : Datum)
    → ((e : Datum) → joined at op d e ≡ as_truth at e) → slice_get ops left ≡ Some (op_at at instruction)
    → ((next : Next) → Executes case left (op_at at instruction) (d ∷ stack) next → next ≡ jumping (place + 1) stack (settled at op d) (goes (left + 1) stack))
    → slice_get ops place ≡ Some (op_at at i.NeedTruth) → ((below : List Datum) → Ends case ops (left + 1) below r → Leads case ops place below Is r) → LeftLeads case ops at op left (place + 1) stack r Is d
skip_leads case ops at op instruction left place stack r Is d truths skip_is skips is right ends =
    jumped case ops (place + 1) (left + 1) stack stack r (λ z. (y : Evaluation) × Is y × (z ≡ answers.then y (joined at op d))) (settled at op d)
    (λ over. sides_lead case ops at op d place stack stack r Is
    (λ e so. subst (λ (x : Evaluation). GoesOn case ops (onward place stack x) r) (sym (truths e)) (moved case ops place (e ∷ stack) r (op_at at i.NeedTruth) (onward place stack (as_truth at e)) is (λ next leads. leads) so)) (right stack over))
    (moved case ops left (d ∷ stack) r (op_at at instruction) (jumping (place + 1) stack (settled at op d) (goes (left + 1) stack)) skip_is skips ends)

left_leads : (case : Case) (ops : List Op) (at : ℕ) (op : Operator) (left begins place : ℕ) (stack : List Datum) (r : Evaluation) (Is : Evaluation → Type 0)
    → Stands ops left (op_or_none at (skip op (place + 1))) → begins ≡ right_begins op left → slice_get ops place ≡ Some (op_at at (joins op))
    → ((below : List Datum) → Ends case ops begins below r → Leads case ops place below Is r) → (d : Datum) → LeftLeads case ops at op left (place + 1) stack r Is d
left_leads case ops at operators.And left begins place stack r Is skips same is right d =
    skip_leads case ops at operators.And (i.SkipFalse (place + 1)) left place stack r Is d (λ e. refl) skips.0 (λ next leads. leads) is
    (subst (λ (n : ℕ). (below : List Datum) → Ends case ops n below r → Leads case ops place below Is r) same right)
left_leads case ops at operators.Or left begins place stack r Is skips same is right d =
    skip_leads case ops at operators.Or (i.SkipTrue (place + 1)) left place stack r Is d (λ e. refl) skips.0 (λ next leads. leads) is
    (subst (λ (n : ℕ). (below : List Datum) → Ends case ops n below r → Leads case ops place below Is r) same right)
left_leads case ops at operators.Equal left begins place stack r Is skips same is right d =
    both_lead case ops at operators.Equal left place stack r Is d refl is (subst (λ (n : ℕ). (below : List Datum) → Ends case ops n below r → Leads case ops place below Is r) same right)
left_leads case ops at operators.NotEqual left begins place stack r Is skips same is right d =
    both_lead case ops at operators.NotEqual left place stack r Is d refl is (subst (λ (n : ℕ). (below : List Datum) → Ends case ops n below r → Leads case ops place below Is r) same right)
left_leads case ops at operators.Less left begins place stack r Is skips same is right d =
    both_lead case ops at operators.Less left place stack r Is d refl is (subst (λ (n : ℕ). (below : List Datum) → Ends case ops n below r → Leads case ops place below Is r) same right)
left_leads case ops at operators.AtMost left begins place stack r Is skips same is right d =
    both_lead case ops at operators.AtMost left place stack r Is d refl is (subst (λ (n : ℕ). (below : List Datum) → Ends case ops n below r → Leads case ops place below Is r) same right)
left_leads case ops at operators.Greater left begins place stack r Is skips same is right d =
    both_lead case ops at operators.Greater left place stack r Is d refl is (subst (λ (n : ℕ). (below : List Datum) → Ends case ops n below r → Leads case ops place below Is r) same right)
left_leads case ops at operators.AtLeast left begins place stack r Is skips same is right d =
    both_lead case ops at operators.AtLeast left place stack r Is d refl is (subst (λ (n : ℕ). (below : List Datum) → Ends case ops n below r → Leads case ops place below Is r) same right)
left_leads case ops at operators.Plus left begins place stack r Is skips same is right d =
    both_lead case ops at operators.Plus left place stack r Is d refl is (subst (λ (n : ℕ). (below : List Datum) → Ends case ops n below r → Leads case ops place below Is r) same right)
left_leads case ops at operators.Minus left begins place stack r Is skips same is right d =
    both_lead case ops at operators.Minus left place stack r Is d refl is (subst (λ (n : ℕ). (below : List Datum) → Ends case ops n below r → Leads case ops place below Is r) same right)
left_leads case ops at operators.Times left begins place stack r Is skips same is right d =
    both_lead case ops at operators.Times left place stack r Is d refl is (subst (λ (n : ℕ). (below : List Datum) → Ends case ops n below r → Leads case ops place below Is r) same right)
left_leads case ops at operators.Over left begins place stack r Is skips same is right d =
    both_lead case ops at operators.Over left place stack r Is d refl is (subst (λ (n : ℕ). (below : List Datum) → Ends case ops n below r → Leads case ops place below Is r) same right)
left_leads case ops at operators.Remainder left begins place stack r Is skips same is right d =
    both_lead case ops at operators.Remainder left place stack r Is d refl is (subst (λ (n : ℕ). (below : List Datum) → Ends case ops n below r → Leads case ops place below Is r) same right)

operator_leads : (case : Case) (ops : List Op) (at : ℕ) (op : Operator) (left begins place : ℕ) (stack : List Datum) (r : Evaluation) (Left Is : Evaluation → Type 0)
    → Stands ops left (op_or_none at (skip op (place + 1))) → begins ≡ right_begins op left → slice_get ops place ≡ Some (op_at at (joins op))
    → ((below : List Datum) → Ends case ops begins below r → Leads case ops place below Is r) → Leads case ops left stack Left r
    → Leads case ops (place + 1) stack (λ z. (x : Evaluation) × Left x × After x (λ d. Unless (settled at op d) ((y : Evaluation) × Is y × (z ≡ answers.then y (joined at op d))) z) z) r
operator_leads case ops at op left begins place stack r Left Is skips same is right (Err fault, first, failed_) = (Err fault, (Err fault, first, refl), failed_)
operator_leads case ops at op left begins place stack r Left Is skips same is right (Ok d, first, ends) =
    let on = left_leads case ops at op left begins place stack r Is skips same is right d ends in
    (on.0, (Ok d, first, on.1), on.2)

-- ---- members of an `in`

among_leads : (case : Case) (ops : List Op) (to : ℕ) (stack : List Datum) (r : Evaluation) (Is : Evaluation → Type 0) (Among : Datum → Evaluation → Type 0) (place : ℕ)
    → ((d : Datum) → Ends case ops place (d ∷ stack) r → Leads case ops to stack (Among d) r) → Leads case ops place stack Is r
    → Leads case ops to stack (λ z. (x : Evaluation) × Is x × After x (λ d. Among d z) z) r
among_leads case ops to stack r Is Among place rest (Err fault, is, failed_) = (Err fault, (Err fault, is, refl), failed_)
among_leads case ops to stack r Is Among place rest (Ok d, is, ends) = let on = rest d ends in (on.0, (Ok d, is, on.1), on.2)

member_leads : (case : Case) (ops : List Op) (at to place : ℕ) (d : Datum) (stack : List Datum) (r : Evaluation) (Is Among : Evaluation → Type 0) → slice_get ops place ≡ Some (op_at at (i.Member to))
    → (Ends case ops (place + 1) (d ∷ stack) r → Leads case ops to stack Among r) → Leads case ops place (d ∷ stack) Is r
    → Leads case ops to stack (λ z. (x : Evaluation) × Is x × Unless (ended_among d x) (Among z) z) r
member_leads case ops at to place d stack r Is Among is rest (Err fault, first, failed_) = (Err fault, (Err fault, first, refl), failed_)
member_leads case ops at to place d stack r Is Among is rest (Ok e, first, ends) =
    let on = jumped case ops to (place + 1) stack (d ∷ stack) r Among (ended_among d (Ok e)) rest
    (moved case ops place (e ∷ d ∷ stack) r (op_at at (i.Member to)) (jumping to stack (ended_among d (Ok e)) (goes (place + 1) (d ∷ stack))) is (λ next leads. leads) ends) in
    (on.0, (Ok e, first, on.1), on.2)

-- ---- expressions

-- the fact of a call's own use is not needed here
call_named : (case : Case) (at : ℕ) (callee : Callee) (es : Expressions) → are_named case.model (uses (call at callee es)) ≡ true → are_named case.model (all_uses es) ≡ true
call_named case at callee es named = (named_parts case.model (called_uses at callee (count es)) (all_uses es) named).1

mutual
  -- the code of an expression, from where it begins over a stack, comes to what the expression does: its value is put on the stack, and the rest runs from behind it
  pub leads : (case : Case) (ops : List Op) (e : Expression) (start : ℕ) (stack : List Datum) (r : Evaluation) → Stands ops start (compiled case.model start e) → is_sound e ≡ true → are_named case.model (uses e) ≡ true
      → Ends case ops start stack r → Leads case ops (behind start e) stack (ComesTo case e) r
  leads case ops (text at bytes) start stack r stand sound named ends =
      (Ok (datum.text bytes), refl, moved case ops start stack r (op_at at (i.Text bytes)) (goes (start + 1) (datum.text bytes ∷ stack)) stand.0 (λ next is. is) ends)
  leads case ops (whole at n) start stack r stand sound named ends =
      (Ok (datum.whole n), refl, moved case ops start stack r (op_at at (i.Whole n)) (goes (start + 1) (datum.whole n ∷ stack)) stand.0 (λ next is. is) ends)
  leads case ops (truth at b) start stack r stand sound named ends =
      (Ok (datum.truth b), refl, moved case ops start stack r (op_at at (i.Truth b)) (goes (start + 1) (datum.truth b ∷ stack)) stand.0 (λ next is. is) ends)
  leads case ops (request at column path) start stack r stand sound named ends =
      let number = column_number case.model.request column in
      let value = slice_get case.request number in
      let there = value_there case.model.request case.request column (named_one case.model (of_request at column) named) in
      let on = moved case ops start stack r (op_at at (i.Request number)) (onward start stack (along at value [])) stand.0 (λ next is. is) ends in (
        along at (asked_value case column) path,
        refl,
        subst (λ (asked : Option Datum). After (along at asked path) (λ d. Ends case ops (start + 1 + length path) (d ∷ stack) r) r) (sym there)
            (walked case ops (start + 1) at stack r value path stand.1 (after_onward case ops start stack (along at value []) r on)),
      )
  leads case ops (policy at column) start stack r stand sound named ends =
      let number = column_number case.model.policy column in
      let there = field_there case.model.policy case.row column (named_one case.model (of_policy at column) named) in (
        Ok (datum.text (row_text case column)),
        refl,
        subst (λ (field : List ℕ). Ends case ops (start + 1) (datum.text field ∷ stack) r) (sym there)
            (moved case ops start stack r (op_at at (i.Policy number)) (goes (start + 1) (datum.text (field_at case.row number) ∷ stack)) stand.0 (λ next is. is) ends),
      )
  leads case ops (evaluated at column) start stack r stand sound named ends =
      let number = column_number case.model.policy column in
      let gone = step case ops start stack r (op_at at (i.Eval number)) stand.0 ends in
      let there = column_there case.model.policy column (named_one case.model (of_policy at column) named) in (
        gone.1.0,
        subst (λ (name : List ℕ). Evaluates case at name gone.1.0) there gone.1.1,
        after_onward case ops start stack gone.1.0 r (subst (λ (next : Next). GoesOn case ops next r) gone.1.2 gone.2),
      )
  leads case ops (negation at e) start stack r stand sound named ends =
      let parts = stand_first case.model ops start e (op_at at i.Not ∷ []) stand in
      let first = leads case ops e start stack r parts.0 sound named ends in (
        answers.then first.0 (negated at),
        (first.0, first.1, refl),
        turned case ops (behind start e) stack r (negated at) first.0
            (λ d over. moved case ops (behind start e) (d ∷ stack) r (op_at at i.Not) (onward (behind start e) stack (negated at d)) parts.1.0 (λ next is. is) over) first.2,
      )
  leads case ops (opposite at e) start stack r stand sound named ends =
      let parts = stand_first case.model ops start e (op_at at i.Negate ∷ []) stand in
      let first = leads case ops e start stack r parts.0 sound named ends in (
        answers.then first.0 (opposed at),
        (first.0, first.1, refl),
        turned case ops (behind start e) stack r (opposed at) first.0
            (λ d over. moved case ops (behind start e) (d ∷ stack) r (op_at at i.Negate) (onward (behind start e) stack (opposed at d)) parts.1.0 (λ next is. is) over) first.2,
      )
  leads case ops (binary at op e f) start stack r stand sound named ends =
      let to = behind start (binary at op e f) in
      let begins = right_begins op (behind start e) in
      let right = compiled case.model begins f ++ op_at at (joins op) ∷ [] in
      let sounds = and_parts (is_sound e) (is_sound f) sound in
      let names = named_parts case.model (uses e) (uses f) named in
      let parts = stand_first case.model ops start e (op_or_none at (skip op to) ++ right) stand in
      let skips = stand_skips ops at op to (behind start e) right parts.1 in
      let sides = stand_first case.model ops begins f (op_at at (joins op) ∷ []) skips.1 in
      let first = leads case ops e start stack r parts.0 sounds.0 names.0 ends in
      operator_leads case ops at op (behind start e) begins (behind begins f) stack r (ComesTo case e) (ComesTo case f) skips.0 refl sides.1.0
      (λ below over. leads case ops f begins below r sides.0 sounds.1 names.1 over) first
  leads case ops (among at e es) start stack r stand sound named ends =
      let to = behind start (among at e es) in
      let code = members case.model at to (behind start e) es in
      let sounds = and_parts (is_sound e) (are_sound es) sound in
      let names = named_parts case.model (uses e) (all_uses es) named in
      let parts = stand_first case.model ops start e (code ++ op_at at i.Miss ∷ []) stand in
      let rest = stand_at ops (behind start e) (behind_members (behind start e) es) code (op_at at i.Miss ∷ []) (members_end_at case.model at to (behind start e) es) parts.1 in
      among_leads case ops to stack r (ComesTo case e) (λ d. IsAmongBy case (Evaluates case) d es) (behind start e)
      (λ d over. members_lead case ops d es at to (behind start e) stack r rest.0 rest.1.0 refl sounds.1 names.1 over) (leads case ops e start stack r parts.0 sounds.0 names.0 ends)
  leads case ops (call at callee es) start stack r stand sound named ends =
      let sounds = and_parts (takes callee (count es)) (are_sound es) sound in
      let parts = stand_at ops start (behind_all start es) (arguments case.model start es) (op_at at (calls callee (count es)) ∷ []) (arguments_end_at case.model start es) stand in
      call_by case ops (behind_all start es) at callee es stack r sounds.0 parts.1.0 (arguments_lead case ops es start stack r parts.0 sounds.1 (call_named case at callee es named) ends)

  -- that of the members of an `in`, over the value
  members_lead : (case : Case) (ops : List Op) (d : Datum) (es : Expressions) (at to start : ℕ) (stack : List Datum) (r : Evaluation) → Stands ops start (members case.model at to start es)
      → slice_get ops (behind_members start es) ≡ Some (op_at at i.Miss) → to ≡ behind_members start es + 1 → are_sound es ≡ true → are_named case.model (all_uses es) ≡ true
      → Ends case ops start (d ∷ stack) r → Leads case ops to stack (IsAmongBy case (Evaluates case) d es) r
  members_lead case ops d no_more at to start stack r stand miss last sound named ends = (
    Ok (datum.truth false),
    refl,
    subst (λ (n : ℕ). Ends case ops n (datum.truth false ∷ stack) r) (sym last)
        (moved case ops start (d ∷ stack) r (op_at at i.Miss) (goes (start + 1) (datum.truth false ∷ stack)) miss (λ next is. is) ends),
  )
  members_lead case ops d (one_more e es) at to start stack r stand miss last sound named ends =
      let sounds = and_parts (is_sound e) (are_sound es) sound in
      let names = named_parts case.model (uses e) (all_uses es) named in
      let parts = stand_first case.model ops start e (op_at at (i.Member to) ∷ members case.model at to (behind start e + 1) es) stand in
      member_leads case ops at to (behind start e) d stack r (ComesTo case e) (IsAmongBy case (Evaluates case) d es) parts.1.0
      (λ over. members_lead case ops d es at to (behind start e + 1) stack r parts.1.1 miss last sounds.1 names.1 over) (leads case ops e start (d ∷ stack) r parts.0 sounds.0 names.0 ends)

  -- that of arguments: their values are put on the stack
  arguments_lead : (case : Case) (ops : List Op) (es : Expressions) (start : ℕ) (stack : List Datum) (r : Evaluation) → Stands ops start (arguments case.model start es) → are_sound es ≡ true → are_named case.model (all_uses es) ≡ true
      → Ends case ops start stack r → LeadAll case ops (behind_all start es) stack (count es) (ComeToBy case (Evaluates case) es) r
  arguments_lead case ops no_more start stack r stand sound named ends = (Ok [], refl, (refl, ends))
  arguments_lead case ops (one_more e es) start stack r stand sound named ends =
      let sounds = and_parts (is_sound e) (are_sound es) sound in
      let names = named_parts case.model (uses e) (all_uses es) named in
      let parts = stand_first case.model ops start e (arguments case.model (behind start e) es) stand in
      argument_leads case ops (behind start e) (behind_all (behind start e) es) stack (count es) r (ComesTo case e) (ComeToBy case (Evaluates case) es)
      (λ d over. arguments_lead case ops es (behind start e) (d ∷ stack) r parts.1 sounds.1 names.1 over) (leads case ops e start stack r parts.0 sounds.0 names.0 ends)
