-- A run for what stands in parentheses: lists, calls, members.
use Rattle.std.proofs.Common.{◌≡◌, ℕ, ◌+◌, ◌≤◌, Bool, true, cond, ◌&&◌, List, [], ◌∷◌, ◌++◌, Some, None, refl, ap, ◌∙◌, arith, suc, length, codes, append_assoc, length-append}
use Rattle.std.proofs.lemmas.Bool.{false≢true}
use Rattle.matcher_read.specs.Tokens.{Placed, placed}
use Rattle.matcher_read.specs.Tokens as token
use Rattle.matcher_read.specs.Expression.{Expression, among, call, Expressions, no_more, one_more, expressions_of, Callee, function, relation, unknown, count}
use Rattle.matcher_read.specs.Calls.{callee_of, is_known, takes}
use Rattle.matcher_read.specs.Grammar.{or_rule, cmp_rule, sum_rule, prim_rule}
use Rattle.matcher_read.specs.Matcher.{is_sound, are_sound, most_levels}
use Rattle.matcher_read.specs.declared.fault.MatcherFault.TheVariants.{WrongArguments, UnknownFunction}
use Rattle.matcher_read.specs.Helps.Machine.{Lefts, State, step, depth, parentheses, members, arguments, Frame, wants, has_members, opens, no_lefts, state_of, with_operand, pushed, call_fault}
use Rattle.matcher_read.proofs.Passes.{Passes, passes_both, passes_more, passes_none, passes_weaker}
use Rattle.matcher_read.specs.Helps.Given.{fresh, entry}
use Rattle.matcher_read.proofs.Gives.{step_in, step_opens, with_one, comma_behind, closing_behind, step_parenthesis, step_called}
use Rattle.matcher_read.proofs.RunParts.{GivesList, list_of, list_of_same, list_of_count, Fine, fine_front, fine_behind, fine_first, fine_second, Runs, RunsList, shallow_fault}

-- ---- lists

pub list_last : (n : ℕ) (ts : List Placed) (e : Expression) → Runs n or_rule ts e → RunsList n ts (one_more e no_more)
list_last n ts e r most frame frames kind h =
    let k = r most no_lefts (frame ∷ frames) (omega (arith, h)) in
    record {
      state = k.state;
      gives = (frame.before, e, refl, k.gives);
      passes = passes_weaker (state_of wants no_lefts (frame ∷ frames)) k.state ts
          (λ q. fine_first (is_sound e) true q) k.passes;
    }

pub list_more : (n at : ℕ) (first others : List Placed) (e : Expression) (es : Expressions) → Runs n or_rule first e → RunsList n others es → RunsList n (first ++ placed at token.comma ∷ others) (one_more e es)
list_more n at first others e es r rs most frame frames kind h =
    let before = state_of wants no_lefts (frame ∷ frames) in
    let t = placed at token.comma in
    let k = r most no_lefts (frame ∷ frames) (omega (arith, h)) in
    let next = with_one frame e in
    let middle = state_of wants no_lefts (next ∷ frames) in
    let ks = rs most next frames kind h in
    record {
      state = ks.state;
      gives = (ks.gives.0, ks.gives.1, ks.gives.2 ∙ append_assoc frame.before (e ∷ []) (list_of es), ks.gives.3);
      passes = passes_both before k.state ks.state first (t ∷ others)
          (passes_weaker before k.state first (λ q. fine_front first (t ∷ others) (fine_first (is_sound e) (are_sound es) q)) k.passes)
          (passes_more k.state middle ks.state t others (comma_behind at no_lefts frame frames k.state e kind k.gives) (omega (arith, h)) (λ q. shallow_fault middle at most (omega (arith, h)) q.shallow)
          (passes_weaker middle ks.state others (λ q. fine_behind first t others (fine_second (is_sound e) (are_sound es) q)) ks.passes));
    }

-- ---- parentheses

-- what stands in parentheses, from the state in which they open
pub runs_inside : (at_opening at_closing most : ℕ) (fine : Type 0) (s middle last behind : State) (inside : List Placed)
    → step s (placed at_opening token.opening) ≡ Some middle → depth middle ≤ most → (fine → most ≤ most_levels)
    → Passes most fine middle inside last
    → step last (placed at_closing token.closing) ≡ Some behind → depth behind ≤ most → (fine → call_fault last.frames ≡ None)
    → Passes most fine s (placed at_opening token.opening ∷ inside ++ placed at_closing token.closing ∷ []) behind
runs_inside at_opening at_closing most fine s middle last behind inside opened small shallow p closes small_behind quiet =
    passes_more s middle behind (placed at_opening token.opening) (inside ++ placed at_closing token.closing ∷ []) opened small (λ q. shallow_fault middle at_opening most small (shallow q))
    (passes_both middle last behind inside (placed at_closing token.closing ∷ []) p
    (passes_more last behind behind (placed at_closing token.closing) [] closes small_behind quiet (passes_none behind)))

-- the expressions before a closing parenthesis, and their number
pub expressions_before : (before : List Expression) (e : Expression) (es : Expressions) → before ++ e ∷ [] ≡ [] ++ list_of es → expressions_of (before ++ e ∷ []) ≡ es
expressions_before before e es h = ap expressions_of h ∙ list_of_same es

pub number_before : (before : List Expression) (e : Expression) (es : Expressions) → before ++ e ∷ [] ≡ [] ++ list_of es → length before + 1 ≡ count es
number_before before e es h = omega (arith, length-append before (e ∷ []), ap length h, list_of_count es)

-- the parenthesis that closes the arguments of a call or the members of an `in`
pub call_closes : (at at_closing : ℕ) (names : List (List ℕ)) (outer : Lefts) (frames : List Frame) (s : State) (es : Expressions) → GivesList (record { kind = arguments at names; outer = outer; before = [] }) frames s es
    → step s (placed at_closing token.closing) ≡ Some (with_operand outer frames (call at (callee_of names) es))
call_closes at at_closing names outer frames s es g =
    closing_behind at_closing no_lefts (record { kind = arguments at names; outer = outer; before = g.0 } ∷ frames) s g.1 g.3
    ∙ ap (λ (x : Expressions). Some (with_operand outer frames (call at (callee_of names) x))) (expressions_before g.0 g.1 es g.2)

pub call_counted : (at : ℕ) (names : List (List ℕ)) (outer : Lefts) (frames : List Frame) (s : State) (es : Expressions) → GivesList (record { kind = arguments at names; outer = outer; before = [] }) frames s es
    → call_fault s.frames ≡ cond (takes (callee_of names) (count es)) None (Some (WrongArguments at))
call_counted at names outer frames s es g =
    ap (λ (x : State). call_fault x.frames) g.3.2
    ∙ ap (λ (k : ℕ). cond (takes (callee_of names) k) None (Some (WrongArguments at))) (number_before g.0 g.1 es g.2)

pub members_close : (at at_closing : ℕ) (left : Expression) (outer : Lefts) (frames : List Frame) (s : State) (es : Expressions) → GivesList (record { kind = members at left; outer = outer; before = [] }) frames s es
    → step s (placed at_closing token.closing) ≡ Some (state_of (has_members (among at left es)) outer frames)
members_close at at_closing left outer frames s es g =
    closing_behind at_closing no_lefts (record { kind = members at left; outer = outer; before = g.0 } ∷ frames) s g.1 g.3
    ∙ ap (λ (x : Expressions). Some (state_of (has_members (among at left x)) outer frames)) (expressions_before g.0 g.1 es g.2)

pub members_quiet : (at : ℕ) (left : Expression) (outer : Lefts) (frames : List Frame) (s : State) (es : Expressions) → GivesList (record { kind = members at left; outer = outer; before = [] }) frames s es → call_fault s.frames ≡ None
members_quiet at left outer frames s es g = ap (λ (x : State). call_fault x.frames) g.3.2

pub takes_known : (callee : Callee) (n : ℕ) → takes callee n ≡ true → is_known callee ≡ true
takes_known (function f) n h = refl
takes_known (relation number) n h = refl
takes_known (unknown parts) n h = absurd (false≢true h)

pub runs_parentheses : (n at_opening at_closing : ℕ) (inside : List Placed) (e : Expression) → Runs n or_rule inside e → Runs (suc n) prim_rule (placed at_opening token.opening ∷ inside ++ placed at_closing token.closing ∷ []) e
runs_parentheses n at_opening at_closing inside e r most l frames h =
    let frame : Frame = record { kind = parentheses; outer = l; before = [] } in
    let k = r most no_lefts (frame ∷ frames) (omega (arith, h)) in
    let last = placed at_closing token.closing ∷ [] in
    let all = placed at_opening token.opening ∷ inside ++ last in
    record {
      state = with_operand l frames e;
      gives = refl;
      passes = runs_inside at_opening at_closing most (Fine most all (is_sound e)) (state_of wants l frames) (pushed parentheses l frames) k.state (with_operand l frames e) inside
          (step_parenthesis at_opening l frames) (omega (arith, h)) (λ q. q.shallow)
          (passes_weaker (pushed parentheses l frames) k.state inside (λ q. fine_front inside last (fine_behind [] (placed at_opening token.opening) (inside ++ last) q)) k.passes)
          (closing_behind at_closing no_lefts (frame ∷ frames) k.state e k.gives) (omega (arith, h)) (λ q. ap (λ (s : State). call_fault s.frames) k.gives.2);
    }

pub runs_call : (n at at_opening at_closing : ℕ) (names : List (List ℕ)) (inside : List Placed) (es : Expressions) → RunsList n inside es
    → Runs (suc n) prim_rule (placed at (token.called names) ∷ placed at_opening token.opening ∷ inside ++ placed at_closing token.closing ∷ []) (call at (callee_of names) es)
runs_call n at at_opening at_closing names inside es r most l frames h =
    let frame : Frame = record { kind = arguments at names; outer = l; before = [] } in
    let k = r most frame frames refl (omega (arith, h)) in
    let before = state_of wants l frames in
    let middle = state_of (opens (arguments at names)) l frames in
    let last = placed at_closing token.closing ∷ [] in
    let others = placed at_opening token.opening ∷ inside ++ last in
    let behind = with_operand l frames (call at (callee_of names) es) in
    let sound = takes (callee_of names) (count es) && are_sound es in
    let fine = Fine most (placed at (token.called names) ∷ others) sound in
    record {
      state = behind;
      gives = refl;
      passes = passes_more before middle behind (placed at (token.called names)) others (step_called at names l frames) (omega (arith, h))
          (λ q. ap (λ (b : Bool). cond b None (Some (UnknownFunction at))) (takes_known (callee_of names) (count es) (fine_first (takes (callee_of names) (count es)) (are_sound es) q).sound))
          (runs_inside at_opening at_closing most fine middle (pushed (arguments at names) l frames) k.state behind inside (step_opens at_opening (arguments at names) l frames) (omega (arith, h)) (λ q. q.shallow)
          (passes_weaker (pushed (arguments at names) l frames) k.state inside
          (λ q. fine_front inside last (fine_behind (placed at (token.called names) ∷ []) (placed at_opening token.opening) (inside ++ last) (fine_second (takes (callee_of names) (count es)) (are_sound es) q))) k.passes)
          (call_closes at at_closing names l frames k.state es k.gives) (omega (arith, h))
          (λ q. call_counted at names l frames k.state es k.gives ∙ ap (λ (b : Bool). cond b None (Some (WrongArguments at))) (fine_first (takes (callee_of names) (count es)) (are_sound es) q).sound));
    }

pub runs_members : (n at at_opening at_closing : ℕ) (left inside : List Placed) (e : Expression) (es : Expressions) → Runs (suc n) sum_rule left e → RunsList n inside es
    → Runs (suc n) cmp_rule (left ++ (placed at (token.name (codes "in" ∷ [])) ∷ placed at_opening token.opening ∷ inside ++ placed at_closing token.closing ∷ [])) (among at e es)
runs_members n at at_opening at_closing left inside e es r rs most l frames h =
    let outer = fresh cmp_rule l in
    let frame : Frame = record { kind = members at e; outer = outer; before = [] } in
    let p = r most outer frames h in
    let k = rs most frame frames refl (omega (arith, h)) in
    let middle = state_of (opens (members at e)) outer frames in
    let last = placed at_closing token.closing ∷ [] in
    let others = placed at_opening token.opening ∷ inside ++ last in
    let t = placed at (token.name (codes "in" ∷ [])) in
    let behind = state_of (has_members (among at e es)) outer frames in
    let fine = Fine most (left ++ t ∷ others) (is_sound e && are_sound es) in
    record {
      state = behind;
      gives = (has_members (among at e es), outer, refl, refl);
      passes = passes_both (entry cmp_rule l frames) p.state behind left (t ∷ others)
          (passes_weaker (entry cmp_rule l frames) p.state left (λ q. fine_front left (t ∷ others) (fine_first (is_sound e) (are_sound es) q)) p.passes)
          (passes_more p.state middle behind t others (step_in at l frames p.state e p.gives) (omega (arith, h)) (λ q. shallow_fault middle at most (omega (arith, h)) q.shallow)
          (runs_inside at_opening at_closing most fine middle (pushed (members at e) outer frames) k.state behind inside (step_opens at_opening (members at e) outer frames) (omega (arith, h)) (λ q. q.shallow)
          (passes_weaker (pushed (members at e) outer frames) k.state inside
          (λ q. fine_front inside last (fine_behind [] (placed at_opening token.opening) (inside ++ last) (fine_behind left t others (fine_second (is_sound e) (are_sound es) q)))) k.passes)
          (members_close at at_closing e outer frames k.state es k.gives) (omega (arith, h)) (λ q. members_quiet at e outer frames k.state es k.gives)));
    }
