-- The fault that is met at a token is that of the machine's step from the state behind the tokens before it.
use Rattle.std.proofs.Common.{◌≡◌, ℕ, suc, ◌+◌, ◌≤◌, Bool, true, false, cond, nat_le, nat_lt, List, [], ◌∷◌, ◌++◌, length, Option, Some, None, option_and_then, Err, refl, sym, ap, ap₂, ◌∙◌, subst, arith, ltb-false, leb-false}
use Rattle.std.proofs.lemmas.Bool.{le-ltb}
use Rattle.std.specs.Str.Parse.{digits_value}
use Rattle.matcher_read.specs.Calls.{callee_of, is_known, takes}
use Rattle.matcher_read.specs.Expression.{Expression, Expressions, count}
use Rattle.matcher_read.specs.Faults.{IsOpen, IsOpenWithin, IsMet, unexpected, open_text, number_too_wide, unknown_function, wrong_arguments, too_deep, OpensLevel, exclamation_opens, minus_opens, parenthesis_opens, eval_opens}
use Rattle.matcher_read.specs.Grammar.{DerivesList}
use Rattle.matcher_read.specs.Matcher.{first_wide, most_levels}
use Rattle.matcher_read.specs.Tokens.{Placed, placed, Token, name, called, eval, number, text, unclosed, operator, exclamation, opening, closing, comma}
use Rattle.matcher_read.specs.declared.tree.Operator.TheVariants as op
use Rattle.matcher_read.specs.declared.fault.MatcherFault.{MatcherFault}
use Rattle.matcher_read.specs.declared.fault.MatcherFault.TheVariants as fault
use Rattle.matcher_read.proofs.Depths.{encloses, within_depth, open_within_here, enclosing_settles, deeper_encloses}
use Rattle.matcher_read.specs.Helps.Machine.{State, Control, Lefts, Frame, Kind, state_of, wants, has, has_members, opens, arguments, members, parentheses, start, step, step_by, pushed, depth, levels_at, goes, goes_within, call_fault, token_fault, after_fault, read_step, comparison_of}
use Rattle.matcher_read.proofs.Opens.{open_by_goes, top_call}
use Rattle.matcher_read.proofs.Gives.{step_opens}
use Rattle.matcher_read.proofs.Passes.{cond_some, goes_one, read_fault, read_none, read_some, within_behind, within_goes}
use Rattle.matcher_read.proofs.Runs.{derives_goes, list_goes}

option_step : {A B : Type 0} (f : A → Option B) (o : Option A) (b : B) → option_and_then f o ≡ Some b → (a : A) × (o ≡ Some a) × (f a ≡ Some b)
option_step f None b h = absurd cc
option_step f (Some a) b h = (a, refl, h)

-- what goes through more goes through less
pub goes_front : (s last : State) (ts us : List Placed) → goes s (ts ++ us) ≡ Some last → (m : State) × (goes s ts ≡ Some m) × (goes m us ≡ Some last)
goes_front s last [] us h = (s, refl, h)
goes_front s last (t ∷ ts) us h =
    let cut = option_step (λ m. goes m (ts ++ us)) (step s t) last h in
    let rest = goes_front cut.0 last ts us cut.2 in
    (rest.0, ap (option_and_then (λ m. goes m ts)) cut.1 ∙ rest.1, rest.2)

-- an open list goes through the machine
pub goes_open : (ts : List Placed) → IsOpen ts → (s : State) × (goes start ts ≡ Some s)
goes_open ts (levels, (further, e, derived)) =
    let run = derives_goes derived levels [] (omega arith) in
    let all = within_goes levels start _ (ts ++ further) run.2 in
    let cut = goes_front start _ ts further all in
    (cut.0, cut.1)

-- a test that fails gives the other side
cond_fault : {A : Type 0} (b : Bool) (x y : A) → cond b None (Some x) ≡ Some y → (b ≡ false) × (y ≡ x)
cond_fault true x y h = absurd cc
cond_fault false x y h = (refl, cc)

-- behind a token that has so many levels at most
abbrev pub shallow : State → Placed → ℕ → State → Option State → Option State
shallow s t most next o = cond (nat_le (levels_at s t.token next) most) o None

-- what goes through more goes through less, within so many levels
within_front : (most : ℕ) (s last : State) (ts us : List Placed) → goes_within most s (ts ++ us) ≡ Some last → (m : State) × (goes_within most s ts ≡ Some m) × (goes_within most m us ≡ Some last)
within_front most s last [] us h = (s, refl, h)
within_front most s last (t ∷ ts) us h =
    let cut = option_step (λ m. shallow s t most m (goes_within most m (ts ++ us))) (step s t) last h in
    let fits = cond_some (nat_le (levels_at s t.token cut.0) most) (goes_within most cut.0 (ts ++ us)) last cut.2 in
    let rest = within_front most cut.0 last ts us fits.1 in
    (rest.0, ap (option_and_then (λ m. shallow s t most m (goes_within most m ts))) cut.1 ∙ (ap (λ b. cond b (goes_within most cut.0 ts) None) fits.0 ∙ rest.1), rest.2)

goes_open_within : (most : ℕ) (ts : List Placed) → IsOpenWithin most ts → (s : State) × (goes_within most start ts ≡ Some s)
goes_open_within most ts (further, e, derived) =
    let run = derives_goes derived most [] (omega arith) in
    let cut = within_front most start _ ts further run.2 in
    (cut.0, cut.1)

-- one token that leads to a state within the levels
within_one : (most : ℕ) (s last : State) (t : Placed) → goes_within most s (t ∷ []) ≡ Some last → (step s t ≡ Some last) × (nat_le (levels_at s t.token last) most ≡ true)
within_one most s last t h =
    let cut = option_step (λ m. shallow s t most m (Some m)) (step s t) last h in
    let fits = cond_some (nat_le (levels_at s t.token cut.0) most) (Some cut.0) last cut.2 in
    let same : cut.0 ≡ last = cc in
    (cut.1 ∙ ap (λ m. Some m) same, ap (λ m. nat_le (levels_at s t.token m) most) (sym same) ∙ fits.0)

-- one token more, within the levels
within_token : (most : ℕ) (s m next : State) (ts : List Placed) (t : Placed) → goes_within most s ts ≡ Some m → step m t ≡ Some next → nat_le (levels_at m t.token next) most ≡ true → goes_within most s (ts ++ t ∷ []) ≡ Some next
within_token most s m next ts t gone stepped fits =
    within_behind most s m ts (t ∷ []) gone ∙ (ap (option_and_then (λ x. shallow m t most x (Some x))) stepped ∙ ap (λ b. cond b (Some next) None) fits)

-- a token that may not stand in the state behind tokens
unexpected_met : (before : List Placed) (s : State) (t : Placed) → goes start before ≡ Some s → step s t ≡ None → IsMet before t (fault.Unexpected t.at)
unexpected_met before s t h none = unexpected (open_by_goes before s h) (λ opened.
    let run = goes_open (before ++ t ∷ []) opened in
    let stepped : step s t ≡ Some run.0 = sym (goes_one start s before t h) ∙ run.1 in
    absurd (let e : None ≡ Some run.0 = sym none ∙ stepped in cc))

-- a token that opens one level too many
deep_met : (before : List Placed) (s next : State) (t : Placed) {at : ℕ} → OpensLevel t at → goes_within most_levels start before ≡ Some s → step s t ≡ Some next → nat_le (levels_at s t.token next) most_levels ≡ false → IsMet before t (fault.TooDeep at)
deep_met before s next t opens_level h stepped deep =
    let gone = within_goes most_levels start s before h in
    too_deep opens_level (open_by_goes (before ++ t ∷ []) next (goes_one start s before t gone ∙ stepped)) (λ opened.
    let run = goes_open_within most_levels (before ++ t ∷ []) opened in
    let cut = within_front most_levels start run.0 before (t ∷ []) run.1 in
    let same : s ≡ cut.0 = let e : Some s ≡ Some cut.0 = sym h ∙ cut.1 in cc in
    let one = within_one most_levels cut.0 run.0 t cut.2 in
    let there : next ≡ run.0 = let e : Some next ≡ Some run.0 = sym stepped ∙ (ap (λ m. step m t) same ∙ one.0) in cc in
    absurd (let e : false ≡ true = sym deep ∙ (ap₂ (λ m n. nat_le (levels_at m t.token n) most_levels) same there ∙ one.1) in cc))

-- a parenthesis closes behind what is complete
closing_complete : (s next : State) (at : ℕ) → step s (placed at closing) ≡ Some next → (e : Expression) × (comparison_of s.lefts s.control ≡ Some e)
unfolding step
closing_complete s next at h = by_control s.control h
  where
    by_control : (control : Control) → step_by control at closing s.lefts s.frames ≡ Some next → (e : Expression) × (comparison_of s.lefts control ≡ Some e)
    by_control wants h = absurd cc
    by_control (has e) h = (_, refl)
    by_control (has_members e) h = (e, refl)
    by_control (opens kind) h = absurd cc

-- the call that a closing parenthesis ends, where it has another number of arguments
pub record EndsCall (frames : List Frame) (f : MatcherFault) : Type 0 where
  pub at : ℕ
  pub names : List (List ℕ)
  pub outer : Lefts
  pub before : List Expression
  pub others : List Frame
  pub top : frames ≡ record { kind = arguments at names; outer = outer; before = before } ∷ others
  pub wrong : takes (callee_of names) (length before + 1) ≡ false
  pub is : f ≡ fault.WrongArguments at

ends_call : (frames : List Frame) (f : MatcherFault) → call_fault frames ≡ Some f → EndsCall frames f
ends_call [] f h = absurd cc
ends_call (frame ∷ frames) f h = by_kind frame.kind frame.outer frame.before h
  where
    by_kind : (kind : Kind) (outer : Lefts) (before : List Expression) → call_fault (record { kind = kind; outer = outer; before = before } ∷ frames) ≡ Some f → EndsCall (record { kind = kind; outer = outer; before = before } ∷ frames) f
    by_kind parentheses outer before h = absurd cc
    by_kind (members at left) outer before h = absurd cc
    by_kind (arguments at names) outer before h =
        let wrong = swapped (takes (callee_of names) (length before + 1)) h in
        record { at = at; names = names; outer = outer; before = before; others = frames; top = refl; wrong = wrong.0; is = wrong.1 }
      where
        swapped : (b : Bool) → cond b None (Some (fault.WrongArguments at)) ≡ Some f → (b ≡ false) × (f ≡ fault.WrongArguments at)
        swapped true h = absurd cc
        swapped false h = (refl, cc)

-- a token that encloses opens a level
encloses_opens : (at : ℕ) (tk : Token) → encloses tk ≡ true → (place : ℕ) × OpensLevel (placed at tk) place
encloses_opens at (operator op.Minus) h = (at, minus_opens)
encloses_opens at exclamation h = (at, exclamation_opens)
encloses_opens at opening h = (at, parenthesis_opens)
encloses_opens at (eval at_opening column) h = (at_opening, eval_opens)
encloses_opens at _ h = absurd cc

opens_encloses : {t : Placed} {place : ℕ} → OpensLevel t place → encloses t.token ≡ true
opens_encloses exclamation_opens = refl
opens_encloses minus_opens = refl
opens_encloses parenthesis_opens = refl
opens_encloses eval_opens = refl

-- a token round which too many levels stand opens one
pub deep_opens : (s next : State) (at : ℕ) (tk : Token) → depth s ≤ most_levels → step s (placed at tk) ≡ Some next → nat_le (levels_at s tk next) most_levels ≡ false → (place : ℕ) × OpensLevel (placed at tk) place
deep_opens s next at tk h stepped deep =
    let over = leb-false (levels_at s tk next) most_levels deep in
    encloses_opens at tk (deeper_encloses s next (placed at tk) stepped (omega arith))

-- and meets no other fault
pub deep_fault : {t : Placed} {place : ℕ} (s next : State) → OpensLevel t place → nat_le (levels_at s t.token next) most_levels ≡ false → token_fault s next t.at t.token ≡ Some (fault.TooDeep place)
deep_fault s next (exclamation_opens {at}) deep = ap (λ b. cond b None (Some (fault.TooDeep at))) deep
deep_fault s next (minus_opens {at}) deep = ap (λ b. cond b None (Some (fault.TooDeep at))) deep
deep_fault s next (parenthesis_opens {at}) deep = ap (λ b. cond b None (Some (fault.TooDeep at))) deep
deep_fault s next (eval_opens {at_opening = place}) deep = ap (λ b. cond b None (Some (fault.TooDeep place))) deep

-- a token that may stand in the state behind tokens, and its fault
token_met : (before : List Placed) (s next : State) (at : ℕ) (tk : Token) (f : MatcherFault) → goes_within most_levels start before ≡ Some s → step s (placed at tk) ≡ Some next → token_fault s next at tk ≡ Some f → IsMet before (placed at tk) f
token_met before s next at tk f h stepped = by_token tk stepped
  where
    opened : (t : Token) → step s (placed at t) ≡ Some next → IsOpen (before ++ placed at t ∷ [])
    opened t stepped' = open_by_goes (before ++ placed at t ∷ []) next (goes_one start s before (placed at t) (within_goes most_levels start s before h) ∙ stepped')

    deep : (t : Token) → nat_le (levels_at s t next) most_levels ≡ nat_le (depth next) most_levels → step s (placed at t) ≡ Some next → token_fault s next at t ≡ Some f → cond (nat_le (depth next) most_levels) None (Some (fault.TooDeep at)) ≡ Some f → IsMet before (placed at t) f
    deep t flat stepped' found' found =
        let over = cond_fault (nat_le (depth next) most_levels) (fault.TooDeep at) f found in
        let opens_level = deep_opens s next at t (within_depth most_levels before s h) stepped' (flat ∙ over.0) in
        let met = deep_fault s next opens_level.1 (flat ∙ over.0) in
        subst (IsMet before (placed at t)) (let e : Some (fault.TooDeep opens_level.0) ≡ Some f = sym met ∙ found' in cc) (deep_met before s next (placed at t) opens_level.1 h stepped' (flat ∙ over.0))

    by_token : (t : Token) → step s (placed at t) ≡ Some next → token_fault s next at t ≡ Some f → IsMet before (placed at t) f
    by_token (unclosed bytes) stepped' found = subst (IsMet before (placed at (unclosed bytes))) (let e : fault.OpenText at ≡ f = cc in e) (open_text (opened (unclosed bytes) stepped'))
    by_token (number digits) stepped' found =
        let wide = cond_fault (nat_lt (digits_value 10 digits) first_wide) (fault.NumberTooWide at) f found in
        subst (IsMet before (placed at (number digits))) (sym wide.1) (number_too_wide (opened (number digits) stepped') (ltb-false (digits_value 10 digits) first_wide wide.0))
    by_token (called names) stepped' found =
        let lacks = cond_fault (is_known (callee_of names)) (fault.UnknownFunction at) f found in
        subst (IsMet before (placed at (called names))) (sym lacks.1) (unknown_function (opened (called names) stepped') lacks.0)
    by_token closing stepped' found =
        let ends = ends_call s.frames f found in
        let complete = closing_complete s next at stepped' in
        let call = top_call before s (record { kind = arguments ends.at ends.names; outer = ends.outer; before = ends.before }) ends.others ends.at ends.names complete.0 (within_goes most_levels start s before h) ends.top refl complete.1 in
        subst (IsMet before (placed at closing)) (sym ends.is)
        (wrong_arguments call.at_opening at ends.names call.front call.inside (opened closing stepped') call.tokens call.derived (ap (takes (callee_of ends.names)) call.counted ∙ ends.wrong))
    by_token (eval at_opening column) stepped' found =
        let over = cond_fault (nat_le (suc (depth s)) most_levels) (fault.TooDeep at_opening) f found in
        subst (IsMet before (placed at (eval at_opening column))) (sym over.1) (deep_met before s next (placed at (eval at_opening column)) eval_opens h stepped' over.0)
    by_token (name names) stepped' found = deep (name names) refl stepped' found found
    by_token (text bytes) stepped' found = deep (text bytes) refl stepped' found found
    by_token (operator o) stepped' found = deep (operator o) refl stepped' found found
    by_token exclamation stepped' found = deep exclamation refl stepped' found found
    by_token opening stepped' found = deep opening refl stepped' found found
    by_token comma stepped' found = deep comma refl stepped' found found

-- the fault of a step is met behind the tokens that lead to its state
pub step_met : (before : List Placed) (s : State) (t : Placed) (f : MatcherFault) → goes_within most_levels start before ≡ Some s → read_step s t ≡ Err f → IsMet before t f
step_met before s t f h failed = by_step (step s t) refl
  where
    by_fault : (next : State) (o : Option MatcherFault) → after_fault next o ≡ Err f → o ≡ Some f
    by_fault next None e = absurd cc
    by_fault next (Some g) e = cc

    by_step : (o : Option State) → step s t ≡ o → IsMet before t f
    by_step None stepped = subst (IsMet before t) (let e : Err (fault.Unexpected t.at) ≡ Err f = sym (read_none s t stepped) ∙ failed in cc) (unexpected_met before s t (within_goes most_levels start s before h) stepped)
    by_step (Some next) stepped = token_met before s next t.at t.token f h stepped (by_fault next (token_fault s next t.at t.token) (sym (read_some s next t stepped) ∙ failed))

-- a token that may stand behind tokens leads on from their state
open_steps : (before : List Placed) (s : State) (t : Placed) → goes start before ≡ Some s → IsOpen (before ++ t ∷ []) → (next : State) × (step s t ≡ Some next)
open_steps before s t gone opened =
    let run = goes_open (before ++ t ∷ []) opened in
    (run.0, sym (goes_one start s before t gone) ∙ run.1)

called_opens : (s next : State) (at : ℕ) (names : List (List ℕ)) → step s (placed at (called names)) ≡ Some next → next ≡ state_of (opens (arguments at names)) s.lefts s.frames
unfolding step
called_opens s next at names h = by_control s.control h
  where
    by_control : (control : Control) → step_by control at (called names) s.lefts s.frames ≡ Some next → next ≡ state_of (opens (arguments at names)) s.lefts s.frames
    by_control wants h = cc
    by_control (has e) h = absurd cc
    by_control (has_members e) h = absurd cc
    by_control (opens kind) h = absurd cc

-- the state behind the arguments of a call
arguments_state : (front inside : List Placed) (at at_opening : ℕ) (names : List (List ℕ)) (s : State) {n : ℕ} {es : Expressions} → goes start (front ++ placed at (called names) ∷ placed at_opening opening ∷ inside) ≡ Some s
    → DerivesList n inside es → (outer : Lefts) × (frames : List Frame) × (before : List Expression) × (s.frames ≡ record { kind = arguments at names; outer = outer; before = before } ∷ frames) × (length before + 1 ≡ count es)
arguments_state front inside at at_opening names s gone derived =
    let cut = goes_front start s front (placed at (called names) ∷ placed at_opening opening ∷ inside) gone in
    let behind_call = option_step (λ m. goes m (placed at_opening opening ∷ inside)) (step cut.0 (placed at (called names))) s cut.2 in
    let behind_opening = option_step (λ m. goes m inside) (step behind_call.0 (placed at_opening opening)) s behind_call.2 in
    let opened : Some behind_opening.0 ≡ Some (pushed (arguments at names) cut.0.lefts cut.0.frames) =
    sym behind_opening.1 ∙ (ap (λ m. step m (placed at_opening opening)) (called_opens cut.0 behind_call.0 at names behind_call.1) ∙ step_opens at_opening (arguments at names) cut.0.lefts cut.0.frames) in
    let there : behind_opening.0 ≡ pushed (arguments at names) cut.0.lefts cut.0.frames = cc in
    let run = list_goes derived (arguments at names) cut.0.lefts cut.0.frames refl in
    let same : Some s ≡ Some (state_of run.0 run.1 (record { kind = arguments at names; outer = cut.0.lefts; before = run.2 } ∷ cut.0.frames)) =
    sym behind_opening.2 ∙ (ap (λ m. goes m inside) there ∙ run.3) in
    let is : s ≡ state_of run.0 run.1 (record { kind = arguments at names; outer = cut.0.lefts; before = run.2 } ∷ cut.0.frames) = cc in
    (cut.0.lefts, cut.0.frames, run.2, ap (λ m. m.frames) is, run.4)

-- a fault that is met behind tokens is that of the step from their state
pub met_step : {t : Placed} {f : MatcherFault} (before : List Placed) (s : State) → goes_within most_levels start before ≡ Some s → IsMet before t f → read_step s t ≡ Err f
met_step before s h (unexpected {t = t} opened closed) = by_step (step s t) refl
  where
    by_step : (o : Option State) → step s t ≡ o → read_step s t ≡ Err (fault.Unexpected t.at)
    by_step None stepped = read_none s t stepped
    by_step (Some next) stepped = absurd (closed (open_by_goes (before ++ t ∷ []) next (goes_one start s before t (within_goes most_levels start s before h) ∙ stepped)))
met_step before s h (open_text {at = at} {bytes = bytes} opened) =
    let next = open_steps before s (placed at (unclosed bytes)) (within_goes most_levels start s before h) opened in
    read_fault s next.0 (placed at (unclosed bytes)) (fault.OpenText at) next.1 refl
met_step before s h (number_too_wide {at = at} {digits = digits} opened wide) =
    let next = open_steps before s (placed at (number digits)) (within_goes most_levels start s before h) opened in
    read_fault s next.0 (placed at (number digits)) (fault.NumberTooWide at) next.1 (ap (λ b. cond b None (Some (fault.NumberTooWide at))) (le-ltb (digits_value 10 digits) first_wide wide))
met_step before s h (unknown_function {at = at} {parts = names} opened lacks) =
    let next = open_steps before s (placed at (called names)) (within_goes most_levels start s before h) opened in
    read_fault s next.0 (placed at (called names)) (fault.UnknownFunction at) next.1 (ap (λ b. cond b None (Some (fault.UnknownFunction at))) lacks)
met_step before s h (wrong_arguments at_opening at_closing {at = at} names front inside opened split derived wrong) =
    let gone = within_goes most_levels start s before h in
    let next = open_steps before s (placed at_closing closing) gone opened in
    let there = arguments_state front inside at at_opening names s (subst (λ ts. goes start ts ≡ Some s) split gone) derived in
    read_fault s next.0 (placed at_closing closing) (fault.WrongArguments at) next.1
    (ap call_fault there.3 ∙ (ap (λ k. cond (takes (callee_of names) k) None (Some (fault.WrongArguments at))) there.4 ∙ ap (λ b. cond b None (Some (fault.WrongArguments at))) wrong))
met_step before s h (too_deep {t = t} {at = place} opens_level opened over) = by_depth (nat_le (levels_at s t.token next.0) most_levels) refl
  where
    gone : goes start before ≡ Some s
    gone = within_goes most_levels start s before h

    next : (next : State) × (step s t ≡ Some next)
    next = open_steps before s t gone opened

    by_depth : (b : Bool) → nat_le (levels_at s t.token next.0) most_levels ≡ b → read_step s t ≡ Err (fault.TooDeep place)
    by_depth true fits = absurd (over (open_within_here most_levels (before ++ t ∷ []) next.0 (within_token most_levels start s next.0 before t h next.1 fits) (enclosing_settles s next.0 t next.1 (opens_encloses opens_level))))
    by_depth false deep = read_fault s next.0 t (fault.TooDeep place) next.1 (deep_fault s next.0 opens_level deep)
