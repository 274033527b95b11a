-- A machine that reads tokens from the left, one at a time, with what stands open round it.
use Rattle.std.specs.Prelude.{ℕ, suc, ◌+◌, nat_le, nat_lt, pos, Bool, true, false, cond, List, [], ◌∷◌, ◌++◌, length, codes, Option, Some, None, option_and_then, option_map, Result, Ok, Err}
use Rattle.std.specs.Str.{bytes_eq}
use Rattle.std.specs.Str.Parse.{digits_value}
use Rattle.matcher_read.specs.Calls.{callee_of, is_known, takes}
use Rattle.matcher_read.specs.Expression.{Expression, text, whole, evaluated, negation, opposite, binary, among, call, expressions_of}
use Rattle.matcher_read.specs.Helps.NameParts.{policy_of, request_of, truth_of}
use Rattle.matcher_read.specs.Matcher.{first_wide, most_levels}
use Rattle.matcher_read.specs.Tokens.{Placed, Token, name, called, number, unclosed, operator, exclamation, opening, closing, comma}
use Rattle.matcher_read.specs.Tokens as token
use Rattle.matcher_read.specs.declared.tree.Operator.{Operator}
use Rattle.matcher_read.specs.declared.tree.Operator.TheVariants as op
use Rattle.matcher_read.specs.declared.fault.MatcherFault.{MatcherFault}
use Rattle.matcher_read.specs.declared.fault.MatcherFault.TheVariants.{Unexpected, OpenText, NumberTooWide, UnknownFunction, WrongArguments, TooDeep}

-- an operator and its left side, which wait for the right side
pub record Left : Type 0 where
  pub at : ℕ
  pub operator : Operator
  pub side : Expression

-- what waits for the operand that is read: left sides by rule, and the signs before the operand, the last one first (true is `!`)
pub record Lefts : Type 0 where
  pub ors : Option Left
  pub ands : Option Left
  pub compared : Option Left
  pub sums : Option Left
  pub terms : Option Left
  pub signs : List (ℕ × Bool)

-- what an opening parenthesis opens
pub data Kind : Type 0 where
  parentheses : Kind
  members : ℕ → Expression → Kind
  arguments : ℕ → List (List ℕ) → Kind

-- an open parenthesis: what it is, what waits round it, and the expressions before the last comma in it
pub record Frame : Type 0 where
  pub kind : Kind
  pub outer : Lefts
  pub before : List Expression

-- what is expected: an operand; what follows an operand; what follows an `in`; an opening parenthesis
pub data Control : Type 0 where
  wants : Control
  has : Expression → Control
  has_members : Expression → Control
  opens : Kind → Control

pub record State : Type 0 where
  pub control : Control
  pub lefts : Lefts
  pub frames : List Frame

abbrev pub no_lefts : Lefts
no_lefts = record { ors = None; ands = None; compared = None; sums = None; terms = None; signs = [] }

abbrev pub start : State
start = record { control = wants; lefts = no_lefts; frames = [] }

abbrev pub joined_left : Option Left → Expression → Expression
joined_left None right = right
joined_left (Some left) right = binary left.at left.operator left.side right

-- the operand behind its signs
abbrev pub signed : List (ℕ × Bool) → Expression → Expression
signed [] e = e
signed (sign ∷ signs) e = signed signs (cond sign.1 (negation sign.0 e) (opposite sign.0 e))

abbrev pub term_of : Lefts → Expression → Expression
term_of lefts e = joined_left lefts.terms e

abbrev pub sum_of : Lefts → Expression → Expression
sum_of lefts e = joined_left lefts.sums (term_of lefts e)

-- the comparison that is complete, if an operand stands last
abbrev pub comparison_of : Lefts → Control → Option Expression
comparison_of lefts (has e) = Some (joined_left lefts.compared (sum_of lefts e))
comparison_of lefts (has_members e) = Some e
comparison_of lefts wants = None
comparison_of lefts (opens kind) = None

abbrev pub and_of : Lefts → Expression → Expression
and_of lefts e = joined_left lefts.ands e

abbrev pub or_of : Lefts → Expression → Expression
or_of lefts e = joined_left lefts.ors (and_of lefts e)

abbrev pub left_of : ℕ → Operator → Expression → Option Left
left_of at o e = Some (record { at = at; operator = o; side = e })

abbrev pub state_of : Control → Lefts → List Frame → State
state_of control lefts frames = record { control = control; lefts = lefts; frames = frames }

-- behind a complete operand, which its signs take up
abbrev pub with_operand : Lefts → List Frame → Expression → State
with_operand lefts frames e = state_of (has (signed lefts.signs e)) (record lefts { signs = [] }) frames

abbrev pub pushed : Kind → Lefts → List Frame → State
pushed kind lefts frames = state_of wants no_lefts (record { kind = kind; outer = lefts; before = [] } ∷ frames)

-- the rules whose operators stand behind an operand
pub data Rank : Type 0 where
  term_rank : Rank
  sum_rank : Rank
  comparing_rank : Rank
  and_rank : Rank
  or_rank : Rank

abbrev pub rank : Operator → Rank
rank op.Or = or_rank
rank op.And = and_rank
rank op.Equal = comparing_rank
rank op.NotEqual = comparing_rank
rank op.Less = comparing_rank
rank op.AtMost = comparing_rank
rank op.Greater = comparing_rank
rank op.AtLeast = comparing_rank
rank op.Plus = sum_rank
rank op.Minus = sum_rank
rank op.Times = term_rank
rank op.Over = term_rank
rank op.Remainder = term_rank

-- behind `&&` or `||`
abbrev pub joins : Rank → ℕ → Operator → Lefts → List Frame → Expression → Option State
joins or_rank at o lefts frames e = Some (state_of wants (record no_lefts { ors = left_of at o (or_of lefts e) }) frames)
joins and_rank at o lefts frames e = Some (state_of wants (record no_lefts { ors = lefts.ors; ands = left_of at o (and_of lefts e) }) frames)
joins comparing_rank at o lefts frames e = None
joins sum_rank at o lefts frames e = None
joins term_rank at o lefts frames e = None

-- behind an operator that stands behind an operand
abbrev pub operates : Rank → ℕ → Operator → Lefts → List Frame → Expression → Option State
operates term_rank at o lefts frames e = Some (state_of wants (record lefts { terms = left_of at o (term_of lefts e) }) frames)
operates sum_rank at o lefts frames e = Some (state_of wants (record lefts { sums = left_of at o (sum_of lefts e); terms = None }) frames)
operates comparing_rank at o lefts frames e = elim lefts.compared [
  | None ↦ Some (state_of wants (record lefts { compared = left_of at o (sum_of lefts e); sums = None; terms = None }) frames)
  | Some left ↦ None
]
operates and_rank at o lefts frames e = joins and_rank at o lefts frames (joined_left lefts.compared (sum_of lefts e))
operates or_rank at o lefts frames e = joins or_rank at o lefts frames (joined_left lefts.compared (sum_of lefts e))

-- behind `in`
abbrev pub asks : ℕ → Lefts → List Frame → Expression → Option State
asks at lefts frames e = elim lefts.compared [
  | None ↦ Some (state_of (opens (members at (sum_of lefts e))) (record lefts { sums = None; terms = None }) frames)
  | Some left ↦ None
]

-- behind a comma, with what is complete before it
abbrev pub parts : List Frame → Expression → Option State
parts [] e = None
parts (frame ∷ frames) e = elim frame.kind [
  | parentheses ↦ None
  | members at left ↦ Some (state_of wants no_lefts (record frame { before = frame.before ++ e ∷ [] } ∷ frames))
  | arguments at names ↦ Some (state_of wants no_lefts (record frame { before = frame.before ++ e ∷ [] } ∷ frames))
]

-- behind a closing parenthesis, with what is complete before it
abbrev pub closes : List Frame → Expression → Option State
closes [] e = None
closes (frame ∷ frames) e = Some (elim frame.kind [
  | parentheses ↦ with_operand frame.outer frames e
  | members at left ↦ state_of (has_members (among at left (expressions_of (frame.before ++ e ∷ [])))) frame.outer frames
  | arguments at names ↦ with_operand frame.outer frames (call at (callee_of names) (expressions_of (frame.before ++ e ∷ [])))
])

-- the name that a token is, as an operand
abbrev pub name_operand : ℕ → List (List ℕ) → Option Expression
name_operand at [] = None
name_operand at (first ∷ []) = truth_of at first
name_operand at (first ∷ column ∷ names) = cond (bytes_eq first (codes "r")) (Some (request_of at (column ∷ names))) (cond (bytes_eq first (codes "p")) (policy_of at (column ∷ names)) None)

-- it is the word `in`
abbrev pub is_in : List (List ℕ) → Bool
is_in [] = false
is_in (first ∷ []) = bytes_eq first (codes "in")
is_in (first ∷ next ∷ rest) = false

-- where an operand is expected
abbrev pub step_wants : ℕ → Token → Lefts → List Frame → Option State
step_wants at (name names) lefts frames = option_map (with_operand lefts frames) (name_operand at names)
step_wants at (called names) lefts frames = Some (state_of (opens (arguments at names)) lefts frames)
step_wants at (token.eval at_opening column) lefts frames = Some (with_operand lefts frames (evaluated at column))
step_wants at (number digits) lefts frames = Some (with_operand lefts frames (whole at (pos (digits_value 10 digits))))
step_wants at (token.text bytes) lefts frames = Some (with_operand lefts frames (text at bytes))
step_wants at (unclosed bytes) lefts frames = Some (with_operand lefts frames (text at bytes))
step_wants at (operator o) lefts frames = elim o [
  | op.Minus ↦ Some (state_of wants (record lefts { signs = (at, false) ∷ lefts.signs }) frames)
  | _ ↦ None
]
step_wants at exclamation lefts frames = Some (state_of wants (record lefts { signs = (at, true) ∷ lefts.signs }) frames)
step_wants at opening lefts frames = Some (pushed parentheses lefts frames)
step_wants at closing lefts frames = None
step_wants at comma lefts frames = None

-- behind an operand
abbrev pub step_has : ℕ → Token → Lefts → List Frame → Expression → Option State
step_has at (name names) lefts frames e = cond (is_in names) (asks at lefts frames e) None
step_has at (called names) lefts frames e = None
step_has at (token.eval at_opening column) lefts frames e = None
step_has at (number digits) lefts frames e = None
step_has at (token.text bytes) lefts frames e = None
step_has at (unclosed bytes) lefts frames e = None
step_has at (operator o) lefts frames e = operates (rank o) at o lefts frames e
step_has at exclamation lefts frames e = None
step_has at opening lefts frames e = None
step_has at closing lefts frames e = closes frames (or_of lefts (joined_left lefts.compared (sum_of lefts e)))
step_has at comma lefts frames e = parts frames (or_of lefts (joined_left lefts.compared (sum_of lefts e)))

-- behind the members of an `in`
abbrev pub step_members : ℕ → Token → Lefts → List Frame → Expression → Option State
step_members at (operator o) lefts frames e = joins (rank o) at o lefts frames e
step_members at closing lefts frames e = closes frames (or_of lefts e)
step_members at comma lefts frames e = parts frames (or_of lefts e)
step_members at _ lefts frames e = None

-- where a parenthesis has to open
abbrev pub step_opens : Token → Kind → Lefts → List Frame → Option State
step_opens opening kind lefts frames = Some (pushed kind lefts frames)
step_opens _ kind lefts frames = None

-- the state behind a token that may stand there
abbrev pub step_by : Control → ℕ → Token → Lefts → List Frame → Option State
step_by wants at t lefts frames = step_wants at t lefts frames
step_by (has e) at t lefts frames = step_has at t lefts frames e
step_by (has_members e) at t lefts frames = step_members at t lefts frames e
step_by (opens kind) at t lefts frames = step_opens t kind lefts frames

unfoldable pub step : State → Placed → Option State
step s t = step_by s.control t.at t.token s.lefts s.frames

-- how many levels stand round a place
abbrev pub levels_of : List Frame → ℕ
levels_of [] = 0
levels_of (frame ∷ frames) = suc (length frame.outer.signs + levels_of frames)

abbrev pub depth : State → ℕ
depth s = length s.lefts.signs + levels_of s.frames

-- the state behind tokens that may all stand there
abbrev pub goes : State → List Placed → Option State
goes s [] = Some s
goes s (t ∷ ts) = option_and_then (λ next. goes next ts) (step s t)

-- how many levels stand round a token's last place: `eval ( p.column )` opens one and closes it, and others stand before the state that is next
abbrev pub levels_at : State → Token → State → ℕ
levels_at s (token.eval at_opening column) next = suc (depth s)
levels_at s _ next = depth next

-- the same, with so many levels at most behind each of the tokens and in it
abbrev pub goes_within : ℕ → State → List Placed → Option State
goes_within most s [] = Some s
goes_within most s (t ∷ ts) = option_and_then (λ next. cond (nat_le (levels_at s t.token next) most) (goes_within most next ts) None) (step s t)

-- the call that a closing parenthesis ends, with the number of its arguments
abbrev pub call_fault : List Frame → Option MatcherFault
call_fault [] = None
call_fault (frame ∷ frames) = elim frame.kind [
  | parentheses ↦ None
  | members at left ↦ None
  | arguments at names ↦ cond (takes (callee_of names) (length frame.before + 1)) None (Some (WrongArguments at))
]

-- the fault of a token that may stand in a state
abbrev pub token_fault : State → State → ℕ → Token → Option MatcherFault
token_fault s next at (unclosed bytes) = Some (OpenText at)
token_fault s next at (number digits) = cond (nat_lt (digits_value 10 digits) first_wide) None (Some (NumberTooWide at))
token_fault s next at (called names) = cond (is_known (callee_of names)) None (Some (UnknownFunction at))
token_fault s next at (token.eval at_opening column) = cond (nat_le (suc (depth s)) most_levels) None (Some (TooDeep at_opening))
token_fault s next at closing = call_fault s.frames
token_fault s next at _ = cond (nat_le (depth next) most_levels) None (Some (TooDeep at))

-- a token that is read in a state: the next state, or the fault that is met
abbrev pub after_fault : State → Option MatcherFault → Result State MatcherFault
after_fault next None = Ok next
after_fault next (Some fault) = Err fault

abbrev pub read_step : State → Placed → Result State MatcherFault
read_step s t = elim (step s t) [
  | None ↦ Err (Unexpected t.at)
  | Some next ↦ after_fault next (token_fault s next t.at t.token)
]

-- nothing stands open, and an operand stands last
abbrev pub final_value : State → Option Expression
final_value s = elim s.frames [
  | [] ↦ option_map (or_of s.lefts) (comparison_of s.lefts s.control)
  | frame ∷ frames ↦ None
]

-- the end of the tokens, in a text of so many bytes, or a byte that begins no token
abbrev pub finish : ℕ → Option ℕ → State → Result Expression MatcherFault
finish size (Some place) s = Err (Unexpected place)
finish size None s = elim (final_value s) [
  | Some e ↦ Ok e
  | None ↦ Err (Unexpected (size + 1))
]

-- the expression that tokens say from a state on, or the first fault
abbrev pub verdict : ℕ → Option ℕ → State → List Placed → Result Expression MatcherFault
verdict size stray s [] = finish size stray s
verdict size stray s (t ∷ ts) = elim (read_step s t) [
  | Ok next ↦ verdict size stray next ts
  | Err fault ↦ Err fault
]
