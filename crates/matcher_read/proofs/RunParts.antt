-- A run for each of the grammar's operators, from the runs of the operands.
use Rattle.std.proofs.Common.{subst, ◌≡◌, ℕ, ◌+◌, ◌≤◌, nat_le, Bool, true, cond, ◌&&◌, List, [], ◌∷◌, ◌++◌, Some, None, refl, ap, sym, ◌∙◌, arith, suc, length}
use Rattle.std.proofs.lemmas.Bool.{and_parts}
use Rattle.std.proofs.lemmas.List.Folds.{list_all-append}
use Rattle.std.specs.List.{list_all}
use Rattle.matcher_read.specs.Tokens.{Placed, placed, operator}
use Rattle.matcher_read.specs.Tokens as token
use Rattle.matcher_read.specs.Expression.{Expression, binary, Expressions, no_more, one_more, expressions_of, count}
use Rattle.matcher_read.specs.Grammar.{Rule, or_rule, cmp_rule, sum_rule, unary_rule, prim_rule, IsPartOf, Joins, Compares}
use Rattle.matcher_read.specs.Matcher.{is_sound, are_sound, is_closed, most_levels}
use Rattle.matcher_read.specs.declared.fault.MatcherFault.TheVariants.{TooDeep}
use Rattle.matcher_read.specs.declared.tree.Operator.{Operator}
use Rattle.matcher_read.specs.Helps.Machine.{State, step, depth, levels_at, token_fault, Lefts, Frame, wants, no_lefts, state_of, with_operand, levels_of}
use Rattle.matcher_read.proofs.Ranks.{comparing}
use Rattle.matcher_read.proofs.ReadSteps.{quiet}
use Rattle.matcher_read.proofs.Passes.{Passes, passes_both, passes_more, passes_none, passes_weaker}
use Rattle.matcher_read.specs.Helps.Given.{fresh, entry, Gives, holds_list}
use Rattle.matcher_read.proofs.Gives.{gives_part, same_entry, Continues, join_continues, comparison_continues}

-- ---- expressions as lists

abbrev pub list_of : Expressions → List Expression
list_of no_more = []
list_of (one_more e es) = e ∷ list_of es

pub list_of_same : (es : Expressions) → expressions_of (list_of es) ≡ es
list_of_same no_more = refl
list_of_same (one_more e es) = ap (one_more e) (list_of_same es)

pub list_of_count : (es : Expressions) → length (list_of es) ≡ count es
list_of_count no_more = refl
list_of_count (one_more e es) = omega (arith, list_of_count es)

-- ---- what is fine

-- no text among the tokens is left open
abbrev pub are_closed : List Placed → Bool
are_closed ts = list_all (λ (t : Placed). is_closed t.token) ts

-- reading the tokens of what is sound by this test meets no fault within so many levels
pub record Fine (most : ℕ) (ts : List Placed) (test : Bool) : Type 0 where
  pub sound : test ≡ true
  pub closed : are_closed ts ≡ true
  pub shallow : most ≤ most_levels

pub closed-append : (ts us : List Placed) → are_closed (ts ++ us) ≡ true → (are_closed ts ≡ true) × (are_closed us ≡ true)
closed-append ts us h = and_parts (are_closed ts) (are_closed us) (sym (list_all-append (λ (t : Placed). is_closed t.token) ts us) ∙ h)

-- with the whole its parts are fine
pub fine_front : {most : ℕ} {test : Bool} (ts us : List Placed) → Fine most (ts ++ us) test → Fine most ts test
fine_front ts us q = record { sound = q.sound; closed = (closed-append ts us q.closed).0; shallow = q.shallow }

pub fine_behind : {most : ℕ} {test : Bool} (ts : List Placed) (t : Placed) (us : List Placed) → Fine most (ts ++ t ∷ us) test → Fine most us test
fine_behind ts t us q = record { sound = q.sound; closed = (and_parts (is_closed t.token) (are_closed us) (closed-append ts (t ∷ us) q.closed).1).1; shallow = q.shallow }

pub fine_first : {most : ℕ} {ts : List Placed} (a b : Bool) → Fine most ts (a && b) → Fine most ts a
fine_first a b q = record { sound = (and_parts a b q.sound).0; closed = q.closed; shallow = q.shallow }

pub fine_second : {most : ℕ} {ts : List Placed} (a b : Bool) → Fine most ts (a && b) → Fine most ts b
fine_second a b q = record { sound = (and_parts a b q.sound).1; closed = q.closed; shallow = q.shallow }

-- ---- what runs

-- the run from the entry of a rule
pub record Ends (most : ℕ) (rule : Rule) (l : Lefts) (frames : List Frame) (ts : List Placed) (e : Expression) : Type 0 where
  pub state : State
  pub gives : Gives rule l frames state e
  pub passes : Passes most (Fine most ts (is_sound e)) (entry rule l frames) ts state

-- the state behind a list: the expressions before the last comma, and the last one
abbrev pub GivesList : Frame → List Frame → State → Expressions → Type 0
GivesList frame frames s es = (before : List Expression) × (e : Expression) × (before ++ e ∷ [] ≡ frame.before ++ list_of es) × Gives or_rule no_lefts (record frame { before = before } ∷ frames) s e

-- the run from behind an opening parenthesis or a comma
pub record EndsList (most : ℕ) (frame : Frame) (frames : List Frame) (ts : List Placed) (es : Expressions) : Type 0 where
  pub state : State
  pub gives : GivesList frame frames state es
  pub passes : Passes most (Fine most ts (are_sound es)) (state_of wants no_lefts (frame ∷ frames)) ts state

abbrev pub Runs : ℕ → Rule → List Placed → Expression → Type 0
Runs n rule ts e = (most : ℕ) (l : Lefts) (frames : List Frame) → depth (entry rule l frames) + n ≤ most → Ends most rule l frames ts e

abbrev pub RunsList : ℕ → List Placed → Expressions → Type 0
RunsList n ts es = (most : ℕ) (frame : Frame) (frames : List Frame) → holds_list frame.kind ≡ true → levels_of (frame ∷ frames) + n ≤ most → EndsList most frame frames ts es

-- ---- levels

pub shallow_levels : (levels at most : ℕ) → levels ≤ most → most ≤ most_levels → cond (nat_le levels most_levels) None (Some (TooDeep at)) ≡ None
shallow_levels levels at most h k = quiet at levels (omega arith)

pub shallow_fault : (next : State) (at most : ℕ) → depth next ≤ most → most ≤ most_levels → cond (nat_le (depth next) most_levels) None (Some (TooDeep at)) ≡ None
shallow_fault next at most h k = quiet at (depth next) (omega arith)

pub unsigned_depth : (l : Lefts) (frames : List Frame) → l.signs ≡ [] → depth (state_of wants l frames) ≡ levels_of frames
unsigned_depth l frames e = ap (λ (signs : List (ℕ × Bool)). length signs + levels_of frames) e ∙ omega arith

-- ---- a run for each constructor

pub runs_part : {rule part : Rule} (n : ℕ) (ts : List Placed) (e : Expression) → IsPartOf part rule → Runs n part ts e → Runs n rule ts e
runs_part {rule} n ts e i r most l frames h =
    let same = same_entry l frames i in
    let k = r most (fresh rule l) frames (subst (λ (s : State). depth s + n ≤ most) (sym same) h) in
    record { state = k.state; gives = gives_part l frames k.state e i k.gives; passes = subst (λ (s : State). Passes most (Fine most ts (is_sound e)) s ts k.state) same k.passes }

-- a part behind an operator
pub runs_behind : {rule part : Rule} (n at : ℕ) (o : Operator) (most : ℕ) (l : Lefts) (frames : List Frame) (before : State) (first : State) (left right : List Placed) (e f : Expression)
    → Passes most (Fine most left (is_sound e)) before left first → Continues rule part l frames first (placed at (operator o)) (binary at o e) → Runs n part right f
    → levels_of frames + n ≤ most
    → (later : State) × Gives rule l frames later (binary at o e f) × Passes most (Fine most (left ++ placed at (operator o) ∷ right) (is_sound e && is_sound f)) before (left ++ placed at (operator o) ∷ right) later
runs_behind {rule} {part} n at o most l frames before first left right e f p c r h =
    let t = placed at (operator o) in
    let middle = entry part c.lefts frames in
    let small : depth middle ≡ levels_of frames = unsigned_depth (fresh part c.lefts) frames c.unsigned in
    let k = r most c.lefts frames (omega (arith, small, h)) in (
      k.state,
      c.gives k.state f k.gives,
      passes_both before first k.state left (t ∷ right)
          (passes_weaker before first left (λ q. fine_front left (t ∷ right) (fine_first (is_sound e) (is_sound f) q)) p)
          (passes_more first middle k.state t right c.steps (omega (arith, small, h)) (λ q. shallow_fault middle at most (omega (arith, small, h)) q.shallow)
          (passes_weaker middle k.state right (λ q. fine_behind left t right (fine_second (is_sound e) (is_sound f) q)) k.passes)),
    )

pub runs_join : {rule part : Rule} {o : Operator} (n at : ℕ) (left right : List Placed) (e f : Expression) → Joins o rule → IsPartOf part rule → Runs n rule left e → Runs n part right f
    → Runs n rule (left ++ placed at (operator o) ∷ right) (binary at o e f)
runs_join {rule} {part} {o} n at left right e f j i r q most l frames h =
    let p = r most l frames h in
    let b = runs_behind n at o most l frames (entry rule l frames) p.state left right e f p.passes (join_continues at l frames p.state e j i p.gives) q (omega (arith, h)) in
    record { state = b.0; gives = b.1; passes = b.2 }

pub runs_comparison : {o : Operator} (n at : ℕ) (left right : List Placed) (e f : Expression) → Compares o → Runs n sum_rule left e → Runs n sum_rule right f
    → Runs n cmp_rule (left ++ placed at (operator o) ∷ right) (binary at o e f)
runs_comparison {o} n at left right e f c r q most l frames h =
    let p = r most (fresh cmp_rule l) frames h in
    let b = runs_behind n at o most l frames (entry cmp_rule l frames) p.state left right e f p.passes (comparison_continues at o l frames p.state e (comparing c) p.gives) q (omega (arith, h)) in
    record { state = b.0; gives = b.1; passes = b.2 }

-- an operator before its operand
pub runs_sign : (n at : ℕ) (t : token.Token) (is : Bool) (build : Expression → Expression) (ts : List Placed) (e : Expression)
    → ((l : Lefts) (frames : List Frame) → step (state_of wants l frames) (placed at t) ≡ Some (state_of wants (record l { signs = (at, is) ∷ l.signs }) frames))
    → ((s next : State) → token_fault s next at t ≡ cond (nat_le (depth next) most_levels) None (Some (TooDeep at))) → ((s next : State) → levels_at s t next ≡ depth next)
    → ((l : Lefts) (frames : List Frame) → with_operand (record l { signs = (at, is) ∷ l.signs }) frames e ≡ with_operand l frames (build e))
    → is_sound (build e) ≡ is_sound e → Runs n unary_rule ts e → Runs (suc n) unary_rule (placed at t ∷ ts) (build e)
runs_sign n at t is build ts e steps faults flat builds sounds r most l frames h =
    let inner : Lefts = record l { signs = (at, is) ∷ l.signs } in
    let before = state_of wants l frames in
    let middle = state_of wants inner frames in
    let k = r most inner frames (omega (arith, h)) in
    record {
      state = k.state;
      gives = k.gives ∙ builds l frames;
      passes = passes_more before middle k.state (placed at t) ts (steps l frames) (omega (arith, h, flat before middle)) (λ q. faults before middle ∙ shallow_fault middle at most (omega (arith, h)) q.shallow)
          (passes_weaker middle k.state ts (λ q. fine_behind [] (placed at t) ts (record { sound = sym sounds ∙ q.sound; closed = q.closed; shallow = q.shallow })) k.passes);
    }

-- an operand that is one token
pub runs_operand : (n at : ℕ) (t : token.Token) (e : Expression) → ((l : Lefts) (frames : List Frame) → step (state_of wants l frames) (placed at t) ≡ Some (with_operand l frames e))
    → ((most : ℕ) (l : Lefts) (frames : List Frame) → depth (state_of wants l frames) + n ≤ most → levels_at (state_of wants l frames) t (with_operand l frames e) ≤ most)
    → ((most : ℕ) (s next : State) → levels_at s t next ≤ most → Fine most (placed at t ∷ []) (is_sound e) → token_fault s next at t ≡ None) → Runs n prim_rule (placed at t ∷ []) e
runs_operand n at t e steps few quiet most l frames h =
    let before = state_of wants l frames in
    let behind = with_operand l frames e in
    record {
      state = behind;
      gives = refl;
      passes = passes_more before behind behind (placed at t) [] (steps l frames) (few most l frames h) (λ q. quiet most before behind (few most l frames h) q) (passes_none behind);
    }
