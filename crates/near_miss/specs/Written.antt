-- An expression as a text, with a blank at each side of its operators (Casbin, syntax for models: matchers).
use Rattle.std.specs.Prelude.{ℕ, ◌||◌, Bool, true, false, if◌then◌else◌, nat_lt, List, [], ◌∷◌, ◌++◌, codes, flat_map, unwrap_or}
use Rattle.std.specs.Fmt.{signed_decimal}
use Rattle.std.specs.List.{join_with_byte}
use Rattle.text_parts.specs.Lines.{has_byte}
use Rattle.matcher_read.specs.Calls.{name_of}
use Rattle.matcher_read.specs.Expression.{Callee, function, relation, unknown, Expression, text, whole, truth, request, policy, evaluated, negation, opposite, binary, among, call, Expressions, no_more, one_more}
use Rattle.matcher_read.specs.Tokens.{sign}
use Rattle.matcher_read.specs.declared.tree.Operator.{Operator}
use Rattle.matcher_read.specs.declared.tree.Operator.TheVariants as op
use Rattle.perm_base.specs.TableNames as tables
use Rattle.perm_base.specs.declared.shapes.TableId.TheVariants.{G}

-- how tightly the rules of the grammar bind, from `||` to what stands alone
abbrev pub or_rank : ℕ
or_rank = 0

abbrev pub and_rank : ℕ
and_rank = 1

abbrev pub comparison_rank : ℕ
comparison_rank = 2

abbrev pub sum_rank : ℕ
sum_rank = 3

abbrev pub term_rank : ℕ
term_rank = 4

abbrev pub unary_rank : ℕ
unary_rank = 5

abbrev pub prime_rank : ℕ
prime_rank = 6

-- the rank of an operator between two sides
abbrev pub operator_rank : Operator → ℕ
operator_rank op.Or = or_rank
operator_rank op.And = and_rank
operator_rank op.Plus = sum_rank
operator_rank op.Minus = sum_rank
operator_rank op.Times = term_rank
operator_rank op.Over = term_rank
operator_rank op.Remainder = term_rank
operator_rank _ = comparison_rank

-- the least rank of its left side, and of its right side: operators group from the left, and a comparison stands between sums
abbrev pub left_rank : Operator → ℕ
left_rank op.Or = or_rank
left_rank op.And = and_rank
left_rank op.Times = term_rank
left_rank op.Over = term_rank
left_rank op.Remainder = term_rank
left_rank _ = sum_rank

abbrev pub right_rank : Operator → ℕ
right_rank op.Or = and_rank
right_rank op.And = comparison_rank
right_rank op.Plus = term_rank
right_rank op.Minus = term_rank
right_rank op.Times = unary_rank
right_rank op.Over = unary_rank
right_rank op.Remainder = unary_rank
right_rank _ = sum_rank

-- the rank of an expression
abbrev pub rank : Expression → ℕ
rank (negation at e) = unary_rank
rank (opposite at e) = unary_rank
rank (binary at op e f) = operator_rank op
rank (among at e es) = comparison_rank
rank _ = prime_rank

-- a text between quotes that it does not hold
abbrev pub quoted : List ℕ → List ℕ
quoted bytes = if has_byte 34 bytes then 39 ∷ bytes ++ 39 ∷ [] else 34 ∷ bytes ++ 34 ∷ []

abbrev pub truth_word : Bool → List ℕ
truth_word true = codes "true"
truth_word false = codes "false"

-- the names of attributes
abbrev pub path_words : List (List ℕ) → List ℕ
path_words path = flat_map (λ (name : List ℕ). codes "." ++ name) path

-- a column of a request, with the names of attributes behind it
abbrev pub request_words : List ℕ → List (List ℕ) → List ℕ
request_words column path = codes "r." ++ column ++ path_words path

-- the name of what is called
abbrev pub callee_word : Callee → List ℕ
callee_word (function called) = name_of called
callee_word (relation number) = unwrap_or (tables.name_of (G number)) []
callee_word (unknown parts) = join_with_byte 46 parts

-- the bytes, where they are needed
abbrev pub when : Bool → List ℕ → List ℕ
when true bytes = bytes
when false bytes = []

-- an operand is in brackets: each is, or its rank is too low for its side
abbrev pub is_inside : Bool → Expression → ℕ → Bool
is_inside all e least = all || nat_lt (rank e) least

-- a text in brackets, where these are needed
abbrev pub bracketed : Bool → List ℕ → List ℕ
bracketed needed bytes = when needed (codes "(") ++ bytes ++ when needed (codes ")")

abbrev mutual
  -- an expression as a text, with all operands in brackets, or those alone that need them
  pub written : Bool → Expression → List ℕ
  written all (text at bytes) = quoted bytes
  written all (whole at n) = signed_decimal n
  written all (truth at b) = truth_word b
  written all (request at column path) = request_words column path
  written all (policy at column) = codes "p." ++ column
  written all (evaluated at column) = codes "eval(p." ++ column ++ codes ")"
  written all (negation at e) = codes "!" ++ bracketed (is_inside all e unary_rank) (written all e)
  written all (opposite at e) = codes "-" ++ bracketed (is_inside all e unary_rank) (written all e)
  written all (binary at op e f) =
      bracketed (is_inside all e (left_rank op)) (written all e) ++ codes " " ++ sign op ++ codes " " ++ bracketed (is_inside all f (right_rank op)) (written all f)
  written all (among at e es) = bracketed (is_inside all e sum_rank) (written all e) ++ codes " in (" ++ written_list all false es ++ codes ")"
  written all (call at callee es) = callee_word callee ++ codes "(" ++ written_list all false es ++ codes ")"

  -- expressions with commas between them, and one before the first where others stand before it
  pub written_list : Bool → Bool → Expressions → List ℕ
  written_list all behind no_more = []
  written_list all behind (one_more e es) = when behind (codes ", ") ++ written all e ++ written_list all true es
