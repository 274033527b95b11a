-- What derives runs through the machine, with the value that is derived; so tokens derive one expression at most, and what is sound is read without a fault.
use Rattle.std.proofs.Common.{◌≡◌, ℕ, ◌+◌, ◌≤◌, Bool, true, false, cond, List, [], ◌∷◌, ◌++◌, Option, Some, None, Result, Ok, Err, refl, ap, sym, ◌∙◌, arith, suc, length, codes, option_map, pos, nat_lt, subst, append_assoc, append-nil, unwrap_or, ap₂, le_refl}
use Rattle.std.proofs.lemmas.Bool.{false≢true}
use Rattle.std.specs.Str.Parse.{digits_value}
use Rattle.matcher_read.specs.Tokens.{Placed, placed, operator}
use Rattle.matcher_read.specs.Tokens as token
use Rattle.matcher_read.specs.Expression.{Expression, text, whole, truth, request, policy, evaluated, negation, opposite, binary, among, call, Expressions, one_more, count}
use Rattle.matcher_read.specs.Calls.{callee_of}
use Rattle.matcher_read.specs.Grammar.{Rule, or_rule, cmp_rule, prim_rule, Derives, DerivesList, by_part, by_join, by_comparison, by_members, by_negation, by_opposite, by_text, by_unclosed, by_number, by_true, by_false, by_request, by_policy, by_eval, by_call, by_parentheses, by_last, by_more}
use Rattle.matcher_read.specs.Matcher.{is_sound, most_levels, first_wide}
use Rattle.matcher_read.specs.declared.fault.MatcherFault.{MatcherFault}
use Rattle.matcher_read.specs.declared.fault.MatcherFault.TheVariants.{Unexpected, NumberTooWide}
use Rattle.matcher_read.specs.Helps.Machine.{State, Kind, goes, goes_within, depth, verdict, final_value, start, Lefts, members, Frame, Control, wants, no_lefts, comparison_of, or_of, state_of, levels_of}
use Rattle.matcher_read.proofs.Passes.{within_goes}
use Rattle.matcher_read.proofs.Passes.{reads, verdict_behind}
use Rattle.matcher_read.specs.Helps.Given.{entry, Gives, holds_list}
use Rattle.matcher_read.proofs.Gives.{step_negation, step_opposite, step_text, step_unclosed, step_number, step_true, step_false, step_request, step_policy, step_eval}
use Rattle.matcher_read.proofs.RunParts.{list_of, are_closed, Fine, GivesList, Runs, RunsList, shallow_fault, shallow_levels, runs_part, runs_join, runs_comparison, runs_sign, runs_operand}
use Rattle.matcher_read.proofs.RunLists.{number_before, list_last, list_more, runs_parentheses, runs_call, runs_members}
use Rattle.matcher_read.specs.declared.tree.Operator.TheVariants as op

-- ---- all that derives runs

same_tokens : (n : ℕ) (rule : Rule) (ts us : List Placed) (e : Expression) → ts ≡ us → Runs n rule us e → Runs n rule ts e
same_tokens n rule ts us e same r = subst (λ (x : List Placed). Runs n rule x e) (sym same) r

quiet_number : (at most : ℕ) (digits : List ℕ) → Fine most (placed at (token.number digits) ∷ []) (nat_lt (digits_value 10 digits) first_wide) → cond (nat_lt (digits_value 10 digits) first_wide) None (Some (NumberTooWide at)) ≡ None
quiet_number at most digits q = ap (λ (b : Bool). cond b None (Some (NumberTooWide at))) q.sound

mutual
  pub runs : {n : ℕ} {rule : Rule} {ts : List Placed} {e : Expression} → Derives n rule ts e → Runs n rule ts e
  runs (by_part {n} {rule} {part} {tokens} {e} i d) = runs_part n tokens e i (runs d)
  runs (by_join {n} {at} {rule} {part} {o} {tokens} {left} {right} {e} {f} j i d k same) = same_tokens n rule tokens (left ++ placed at (operator o) ∷ right) (binary at o e f) same (runs_join n at left right e f j i (runs d) (runs k))
  runs (by_comparison {n} {at} {o} {tokens} {left} {right} {e} {f} c d k same) = same_tokens n cmp_rule tokens (left ++ placed at (operator o) ∷ right) (binary at o e f) same (runs_comparison n at left right e f c (runs d) (runs k))
  runs (by_members at_opening at_closing {n} {at} {tokens} {left} {members = inside} {e} {es} d ds same) =
      let behind = placed at (token.name (codes "in" ∷ [])) ∷ placed at_opening token.opening ∷ inside in
      let closing = placed at_closing token.closing ∷ [] in
      same_tokens (suc n) cmp_rule tokens (left ++ (behind ++ closing)) (among at e es) (same ∙ append_assoc left behind closing) (runs_members n at at_opening at_closing left inside e es (runs d) (runs_list ds))
  runs (by_negation {n} {at} {tokens} {e} d) =
      runs_sign n at token.exclamation true (negation at) tokens e (step_negation at) (λ s next. refl) (λ s next. refl) (λ l frames. refl) refl (runs d)
  runs (by_opposite {n} {at} {tokens} {e} d) =
      runs_sign n at (operator op.Minus) false (opposite at) tokens e (step_opposite at) (λ s next. refl) (λ s next. refl) (λ l frames. refl) refl (runs d)
  runs (by_text {n} {at} {bytes}) = runs_operand n at (token.text bytes) (text at bytes) (step_text at bytes) (λ most l frames h. omega (arith, h)) (λ most s next small q. shallow_fault next at most small q.shallow)
  runs (by_unclosed {n} {at} {bytes}) = runs_operand n at (token.unclosed bytes) (text at bytes) (step_unclosed at bytes) (λ most l frames h. omega (arith, h)) (λ most s next small q. absurd (false≢true q.closed))
  runs (by_number {n} {at} {digits}) = runs_operand n at (token.number digits) (whole at (pos (digits_value 10 digits))) (step_number at digits) (λ most l frames h. omega (arith, h)) (λ most s next small q. quiet_number at most digits q)
  runs (by_true {n} {at}) = runs_operand n at (token.name (codes "true" ∷ [])) (truth at true) (step_true at) (λ most l frames h. omega (arith, h)) (λ most s next small q. shallow_fault next at most small q.shallow)
  runs (by_false {n} {at}) = runs_operand n at (token.name (codes "false" ∷ [])) (truth at false) (step_false at) (λ most l frames h. omega (arith, h)) (λ most s next small q. shallow_fault next at most small q.shallow)
  runs (by_request {n} {at} {column} {path}) =
      runs_operand n at (token.name (codes "r" ∷ column ∷ path)) (request at column path) (step_request at column path) (λ most l frames h. omega (arith, h)) (λ most s next small q. shallow_fault next at most small q.shallow)
  runs (by_policy {n} {at} {column}) = runs_operand n at (token.name (codes "p" ∷ column ∷ [])) (policy at column) (step_policy at column) (λ most l frames h. omega (arith, h)) (λ most s next small q. shallow_fault next at most small q.shallow)
  runs (by_eval {n} {at} {at_opening} {column}) =
      runs_operand (suc n) at (token.eval at_opening column) (evaluated at column) (step_eval at at_opening column) (λ most l frames h. omega (arith, h)) (λ most s next small q. shallow_levels (suc (depth s)) at_opening most small q.shallow)
  runs (by_call at_opening at_closing {n} {at} {parts = names} {tokens} {arguments = inside} {es} ds same) =
      same_tokens (suc n) prim_rule tokens (placed at (token.called names) ∷ placed at_opening token.opening ∷ inside ++ placed at_closing token.closing ∷ []) (call at (callee_of names) es) same
      (runs_call n at at_opening at_closing names inside es (runs_list ds))
  runs (by_parentheses at_opening at_closing {n} {tokens} {inside} {e} d same) =
      same_tokens (suc n) prim_rule tokens (placed at_opening token.opening ∷ inside ++ placed at_closing token.closing ∷ []) e same (runs_parentheses n at_opening at_closing inside e (runs d))

  pub runs_list : {n : ℕ} {ts : List Placed} {es : Expressions} → DerivesList n ts es → RunsList n ts es
  runs_list (by_last {n} {tokens} {e} d) = list_last n tokens e (runs d)
  runs_list (by_more at {n} {tokens} {first} {others} {e} {es} d ds same) = subst (λ (x : List Placed). RunsList n x (one_more e es)) (sym same) (list_more n at first others e es (runs d) (runs_list ds))

-- ---- the machine goes through what derives

pub derives_goes : {n : ℕ} {ts : List Placed} {e : Expression} → Derives n or_rule ts e → (most : ℕ) (frames : List Frame) → levels_of frames + n ≤ most
    → (c : Control) × (l : Lefts) × (goes_within most (state_of wants no_lefts frames) ts ≡ Some (state_of c l frames)) × (option_map (or_of l) (comparison_of l c) ≡ Some e)
derives_goes d most frames h =
    let k = runs d most no_lefts frames (omega (arith, h)) in
    (k.gives.0, record k.gives.1 { signs = [] }, k.passes.within ∙ ap Some k.gives.2, k.gives.3)

-- the number of what stands before its last comma
pub list_goes : {n : ℕ} {ts : List Placed} {es : Expressions} → DerivesList n ts es → (kind : Kind) (outer : Lefts) (frames : List Frame) → holds_list kind ≡ true
    → (c : Control) × (l : Lefts) × (before : List Expression)
    × (goes (state_of wants no_lefts (record { kind = kind; outer = outer; before = [] } ∷ frames)) ts ≡ Some (state_of c l (record { kind = kind; outer = outer; before = before } ∷ frames)))
    × (length before + 1 ≡ count es)
list_goes {n} {ts} {es} d kind outer frames h =
    let frame : Frame = record { kind = kind; outer = outer; before = [] } in
    let most = levels_of (frame ∷ frames) + n in
    let k = runs_list d most frame frames h (omega arith) in
    let g = k.gives in (
      g.3.0,
      record g.3.1 { signs = [] },
      g.0,
      within_goes most (state_of wants no_lefts (frame ∷ frames)) k.state ts k.passes.within ∙ ap Some g.3.2,
      number_before g.0 g.1 es g.2,
    )

-- ---- one expression at most

some_one : {A : Type 0} (x y : A) → Some x ≡ Some y → x ≡ y
some_one x y e = ap (λ (o : Option _). unwrap_or o x) e

-- the expression that is complete in a state
abbrev pub value_of : State → Option Expression
value_of s = option_map (or_of s.lefts) (comparison_of s.lefts s.control)

pub gives_value : (l : Lefts) (frames : List Frame) (s : State) (e : Expression) → Gives or_rule l frames s e → value_of s ≡ Some e
gives_value l frames s e g = ap value_of g.2 ∙ g.3

pub derives_one : {n m : ℕ} {ts : List Placed} {e f : Expression} → Derives n or_rule ts e → Derives m or_rule ts f → e ≡ f
derives_one {n} {m} {ts} {e} {f} d k =
    let p = runs d (n + m) no_lefts [] (omega arith) in
    let q = runs k (n + m) no_lefts [] (omega arith) in
    let same = some_one p.state q.state (sym p.passes.within ∙ q.passes.within) in
    some_one e f (sym (gives_value no_lefts [] p.state e p.gives) ∙ ap value_of same ∙ gives_value no_lefts [] q.state f q.gives)

-- some list that stands open
abbrev open_list : Frame
open_list = record { kind = members 0 (text 0 []); outer = no_lefts; before = [] }

abbrev inside : List Frame → List Expression
inside [] = []
inside (frame ∷ frames) = frame.before

one_list : (s t : State) (es fs : Expressions) → GivesList open_list [] s es → GivesList open_list [] t fs → s ≡ t → list_of es ≡ list_of fs
one_list s t es fs g h same =
    let before : g.0 ≡ h.0 = sym (ap (λ (x : State). inside x.frames) g.3.2) ∙ ap (λ (x : State). inside x.frames) same ∙ ap (λ (x : State). inside x.frames) h.3.2 in
    let first = record open_list { before = g.0 } ∷ [] in
    let second = record open_list { before = h.0 } ∷ [] in
    let last = some_one g.1 h.1 (sym (gives_value no_lefts first s g.1 g.3) ∙ ap value_of same ∙ gives_value no_lefts second t h.1 h.3) in
    sym g.2 ∙ ap₂ (λ (b : List Expression) (x : Expression). b ++ x ∷ []) before last ∙ h.2

-- ---- read without a fault

-- what a sound expression is read to, within the levels that a matcher may have
pub record ReadsTo (before : State) (ts : List Placed) (next : State) : Type 0 where
  pub within : goes_within most_levels before ts ≡ Some next
  pub without_fault : reads before ts ≡ Ok next
  pub goes_on : (size : ℕ) (stray : Option ℕ) (us : List Placed) → verdict size stray before (ts ++ us) ≡ verdict size stray next us

pub reads_through : {n : ℕ} {rule : Rule} {ts : List Placed} {e : Expression} → Derives n rule ts e → is_sound e ≡ true → are_closed ts ≡ true
    → (l : Lefts) (frames : List Frame) → depth (entry rule l frames) + n ≤ most_levels → (next : State) × Gives rule l frames next e × ReadsTo (entry rule l frames) ts next
reads_through {n} {rule} {ts} {e} d sound closed l frames h =
    let k = runs d most_levels l frames h in
    let read = k.passes.without_fault (record { sound = sound; closed = closed; shallow = le_refl most_levels }) in
    (k.state, k.gives, record { within = k.passes.within; without_fault = read; goes_on = λ size stray us. verdict_behind size stray (entry rule l frames) k.state ts us read })

-- ---- whole texts

value_final : (s : State) (o : Option Expression) → s.frames ≡ [] → value_of s ≡ o → final_value s ≡ o
value_final s o none e = ap (λ (frames : List Frame). final_value (state_of s.control s.lefts frames)) none ∙ e

pub derives_final : {n : ℕ} {ts : List Placed} {e : Expression} → Derives n or_rule ts e → (s : State) × (goes_within n start ts ≡ Some s) × (final_value s ≡ Some e)
derives_final {n} {ts} {e} d =
    let k = runs d n no_lefts [] (omega arith) in
    (k.state, k.passes.within, value_final k.state (Some e) (ap (λ (s : State). s.frames) k.gives.2) (gives_value no_lefts [] k.state e k.gives))

pub whole_reads : {ts : List Placed} {e : Expression} (size : ℕ) → Derives most_levels or_rule ts e → is_sound e ≡ true → are_closed ts ≡ true → verdict size None start ts ≡ Ok e
whole_reads {ts} {e} size d sound closed =
    let k = reads_through d sound closed no_lefts [] (omega arith) in
    let value = value_final k.0 (Some e) (ap (λ (s : State). s.frames) k.1.2) (gives_value no_lefts [] k.0 e k.1) in
    ap (verdict size None start) (sym (append-nil ts)) ∙ k.2.goes_on size None [] ∙ ap (finished size) value
  where
    finished : ℕ → Option Expression → Result Expression MatcherFault
    finished size o = elim o [
      | Some x ↦ Ok x
      | None ↦ Err (Unexpected (size + 1))
    ]
