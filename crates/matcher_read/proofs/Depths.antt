-- How many levels stand round the places that the machine comes to.
use Rattle.std.proofs.Common.{◌≡◌, ℕ, suc, ◌+◌, ◌<◌, ◌≤◌, nat_le, Bool, true, false, cond, List, [], ◌∷◌, length, Option, Some, None, option_and_then, option_map, refl, sym, subst, arith, leb-true}
use Rattle.matcher_read.specs.Expression.{Expression}
use Rattle.matcher_read.specs.Faults.{IsOpenWithin}
use Rattle.matcher_read.specs.Tokens.{Placed, Token, name, called, number, unclosed, operator, exclamation, opening, closing, comma}
use Rattle.matcher_read.specs.Tokens as token
use Rattle.matcher_read.specs.declared.tree.Operator.{Operator}
use Rattle.matcher_read.specs.declared.tree.Operator.TheVariants as op
use Rattle.matcher_read.specs.Helps.Machine.{Left, Lefts, Kind, parentheses, members, arguments, Frame, State, Control, wants, has, has_members, opens, start, with_operand, goes_within, levels_at, joined_left, sum_of, Rank, term_rank, sum_rank, comparing_rank, and_rank, or_rank, rank, joins, operates, asks, parts, closes, name_operand, is_in, step_wants, step_by, step, levels_of, depth}
use Rattle.matcher_read.proofs.Opens.{awaited, open_within}

-- ---- the tokens that open a level

-- `(`, also that of `eval ( p.column )`, `!` and `-`
abbrev pub encloses : Token → Bool
encloses opening = true
encloses (token.eval at_opening column) = true
encloses exclamation = true
encloses (operator op.Minus) = true
encloses _ = false

abbrev Settles : Option State → Type 0
Settles None = Unit {0}
Settles (Some next) = awaited next.control ≡ 0

settles_by : (c : Control) (at : ℕ) (t : Token) (lefts : Lefts) (frames : List Frame) → encloses t ≡ true → Settles (step_by c at t lefts frames)
settles_by wants at opening lefts frames h = refl
settles_by wants at (token.eval at_opening column) lefts frames h = refl
settles_by wants at exclamation lefts frames h = refl
settles_by wants at (operator op.Minus) lefts frames h = refl
settles_by (has e) at opening lefts frames h = tt
settles_by (has e) at (token.eval at_opening column) lefts frames h = tt
settles_by (has e) at exclamation lefts frames h = tt
settles_by (has e) at (operator op.Minus) lefts frames h = refl
settles_by (has_members e) at opening lefts frames h = tt
settles_by (has_members e) at (token.eval at_opening column) lefts frames h = tt
settles_by (has_members e) at exclamation lefts frames h = tt
settles_by (has_members e) at (operator op.Minus) lefts frames h = tt
settles_by (opens kind) at opening lefts frames h = refl
settles_by (opens kind) at (token.eval at_opening column) lefts frames h = tt
settles_by (opens kind) at exclamation lefts frames h = tt
settles_by (opens kind) at (operator op.Minus) lefts frames h = tt
settles_by c at _ lefts frames h = absurd cc

-- behind a token that opens a level no parenthesis has to open
pub enclosing_settles : (s next : State) (t : Placed) → step s t ≡ Some next → encloses t.token ≡ true → awaited next.control ≡ 0
unfolding step
enclosing_settles s next t e h = subst Settles e (settles_by s.control t.at t.token s.lefts s.frames h)

-- the next state, if there is one, has no more levels
abbrev NoDeeper : ℕ → Option State → Type 0
NoDeeper d None = Unit {0}
NoDeeper d (Some next) = depth next ≤ d

operand_no_deeper : (lefts : Lefts) (frames : List Frame) (e : Option Expression) → NoDeeper (length lefts.signs + levels_of frames) (option_map (with_operand lefts frames) e)
operand_no_deeper lefts frames None = tt
operand_no_deeper lefts frames (Some e) = omega arith

closes_no_deeper : (signs : ℕ) (frames : List Frame) (e : Expression) → NoDeeper (signs + levels_of frames) (closes frames e)
closes_no_deeper signs [] e = tt
closes_no_deeper signs (frame ∷ frames) e = each frame.kind frame.outer frame.before where
  each : (kind : Kind) (lefts : Lefts) (before : List Expression) → NoDeeper (signs + suc (length lefts.signs + levels_of frames)) (closes (record { kind = kind; outer = lefts; before = before } ∷ frames) e)
  each parentheses lefts before = omega arith
  each (members at left) lefts before = omega arith
  each (arguments at names) lefts before = omega arith

parts_no_deeper : (signs : ℕ) (frames : List Frame) (e : Expression) → NoDeeper (signs + levels_of frames) (parts frames e)
parts_no_deeper signs [] e = tt
parts_no_deeper signs (frame ∷ frames) e = each frame.kind frame.outer frame.before where
  each : (kind : Kind) (lefts : Lefts) (before : List Expression) → NoDeeper (signs + suc (length lefts.signs + levels_of frames)) (parts (record { kind = kind; outer = lefts; before = before } ∷ frames) e)
  each parentheses lefts before = tt
  each (members at left) lefts before = omega arith
  each (arguments at names) lefts before = omega arith

module _ (at : ℕ) (lefts : Lefts) (frames : List Frame) where
  joins_no_deeper : (r : Rank) (o : Operator) (e : Expression) → NoDeeper (length lefts.signs + levels_of frames) (joins r at o lefts frames e)
  joins_no_deeper or_rank o e = omega arith
  joins_no_deeper and_rank o e = omega arith
  joins_no_deeper comparing_rank o e = tt
  joins_no_deeper sum_rank o e = tt
  joins_no_deeper term_rank o e = tt

  compared_no_deeper : (compared : Option Left) (s : State) → depth s ≤ length lefts.signs + levels_of frames → NoDeeper (length lefts.signs + levels_of frames) (elim compared [ None ↦ Some s | Some left ↦ None ])
  compared_no_deeper None s h = h
  compared_no_deeper (Some left) s h = tt

  operates_no_deeper : (r : Rank) (o : Operator) (e : Expression) → NoDeeper (length lefts.signs + levels_of frames) (operates r at o lefts frames e)
  operates_no_deeper term_rank o e = omega arith
  operates_no_deeper sum_rank o e = omega arith
  operates_no_deeper comparing_rank o e = compared_no_deeper lefts.compared _ (omega arith)
  operates_no_deeper and_rank o e = joins_no_deeper and_rank o (joined_left lefts.compared (sum_of lefts e))
  operates_no_deeper or_rank o e = joins_no_deeper or_rank o (joined_left lefts.compared (sum_of lefts e))

  in_no_deeper : (b : Bool) (e : Expression) → NoDeeper (length lefts.signs + levels_of frames) (cond b (asks at lefts frames e) None)
  in_no_deeper true e = compared_no_deeper lefts.compared _ (omega arith)
  in_no_deeper false e = tt

  minus_no_deeper : (o : Operator) → encloses (operator o) ≡ false → NoDeeper (length lefts.signs + levels_of frames) (step_wants at (operator o) lefts frames)
  minus_no_deeper op.Minus h = absurd cc
  minus_no_deeper _ h = tt

  no_deeper_by : (c : Control) (t : Token) → encloses t ≡ false → NoDeeper (length lefts.signs + levels_of frames) (step_by c at t lefts frames)
  no_deeper_by c opening h = absurd cc
  no_deeper_by c exclamation h = absurd cc
  no_deeper_by c (token.eval at_opening column) h = absurd cc
  no_deeper_by wants (name names) h = operand_no_deeper lefts frames (name_operand at names)
  no_deeper_by wants (called names) h = omega arith
  no_deeper_by wants (number digits) h = omega arith
  no_deeper_by wants (token.text bytes) h = omega arith
  no_deeper_by wants (unclosed bytes) h = omega arith
  no_deeper_by wants (operator o) h = minus_no_deeper o h
  no_deeper_by wants closing h = tt
  no_deeper_by wants comma h = tt
  no_deeper_by (has e) (name names) h = in_no_deeper (is_in names) e
  no_deeper_by (has e) (operator o) h = operates_no_deeper (rank o) o e
  no_deeper_by (has e) closing h = closes_no_deeper (length lefts.signs) frames _
  no_deeper_by (has e) comma h = parts_no_deeper (length lefts.signs) frames _
  no_deeper_by (has e) _ h = tt
  no_deeper_by (has_members e) (operator o) h = joins_no_deeper (rank o) o e
  no_deeper_by (has_members e) closing h = closes_no_deeper (length lefts.signs) frames _
  no_deeper_by (has_members e) comma h = parts_no_deeper (length lefts.signs) frames _
  no_deeper_by (has_members e) _ h = tt
  no_deeper_by (opens kind) _ h = tt

-- `eval ( p.column )` leads to no more levels
eval_no_deeper : (c : Control) (at at_opening : ℕ) (column : List ℕ) (lefts : Lefts) (frames : List Frame) → NoDeeper (length lefts.signs + levels_of frames) (step_by c at (token.eval at_opening column) lefts frames)
eval_no_deeper wants at at_opening column lefts frames = omega arith
eval_no_deeper (has e) at at_opening column lefts frames = tt
eval_no_deeper (has_members e) at at_opening column lefts frames = tt
eval_no_deeper (opens kind) at at_opening column lefts frames = tt

-- the state that is next has no more levels than stand round the token
pub depth_reached : (s next : State) (t : Placed) → step s t ≡ Some next → depth next ≤ levels_at s t.token next
unfolding step
depth_reached s next t e = each t.token e where
  each : (tk : Token) → step_by s.control t.at tk s.lefts s.frames ≡ Some next → depth next ≤ levels_at s tk next
  each (token.eval at_opening column) h =
      let few : depth next ≤ depth s = subst (NoDeeper (depth s)) h (eval_no_deeper s.control t.at at_opening column s.lefts s.frames) in
      omega (arith, few)
  each _ h = omega arith

-- only a token that opens a level leads to more levels
pub deeper_encloses : (s next : State) (t : Placed) → step s t ≡ Some next → depth s < levels_at s t.token next → encloses t.token ≡ true
unfolding step
deeper_encloses s next t e more = each t.token e more where
  flat : (tk : Token) → encloses tk ≡ false → step_by s.control t.at tk s.lefts s.frames ≡ Some next → depth s < depth next → true ≡ false
  flat tk h e more =
      let few : depth next ≤ depth s = subst (NoDeeper (depth s)) e (no_deeper_by t.at s.lefts s.frames s.control tk h) in
      absurd (omega (arith, few, more))

  by_test : (tk : Token) (b : Bool) → encloses tk ≡ b → step_by s.control t.at tk s.lefts s.frames ≡ Some next → depth s < depth next → b ≡ true
  by_test tk true h e more = refl
  by_test tk false h e more = sym (flat tk h e more)

  each : (tk : Token) → step_by s.control t.at tk s.lefts s.frames ≡ Some next → depth s < levels_at s tk next → encloses tk ≡ true
  each (token.eval at_opening column) e more = refl
  each (name names) e more = by_test (name names) false refl e more
  each (called names) e more = by_test (called names) false refl e more
  each (number digits) e more = by_test (number digits) false refl e more
  each (token.text bytes) e more = by_test (token.text bytes) false refl e more
  each (unclosed bytes) e more = by_test (unclosed bytes) false refl e more
  each (operator o) e more = by_test (operator o) (encloses (operator o)) refl e more
  each exclamation e more = refl
  each opening e more = refl
  each closing e more = by_test closing false refl e more
  each comma e more = by_test comma false refl e more

-- ---- within the levels

within_depth_from : (most : ℕ) (ts : List Placed) (s final : State) → depth s ≤ most → goes_within most s ts ≡ Some final → depth final ≤ most
within_depth_from most [] s final few e =
    let same : s ≡ final = cc in
    subst (λ (x : State). depth x ≤ most) same few
within_depth_from most (t ∷ ts) s final few e = each (λ next. within_depth_from most ts next final) (step s t) refl e where
  each : ((next : State) → depth next ≤ most → goes_within most next ts ≡ Some final → depth final ≤ most) → (o : Option State) → step s t ≡ o
      → option_and_then (λ next. cond (nat_le (levels_at s t.token next) most) (goes_within most next ts) None) o ≡ Some final → depth final ≤ most
  each further None stepped k = absurd cc
  each further (Some next) stepped k = both (nat_le (levels_at s t.token next) most) refl k where
    both : (b : Bool) → nat_le (levels_at s t.token next) most ≡ b → cond b (goes_within most next ts) None ≡ Some final → depth final ≤ most
    both true h f = further next (omega (arith, leb-true _ _ h, depth_reached s next t stepped)) f
    both false h f = absurd cc

pub within_depth : (most : ℕ) (ts : List Placed) (s : State) → goes_within most start ts ≡ Some s → depth s ≤ most
within_depth most ts s e = within_depth_from most ts start s (omega arith) e

-- where no parenthesis has to open next
pub open_within_here : (most : ℕ) (ts : List Placed) (s : State) → goes_within most start ts ≡ Some s → awaited s.control ≡ 0 → IsOpenWithin most ts
open_within_here most ts s e none = open_within most ts s e (omega (arith, none, within_depth most ts s e))
