-- The code of an expression: what its instructions are, operands from the left.
use Rattle.std.specs.Prelude.{ℕ, ◌+◌, ◌==◌, if◌then◌else◌, List, [], ◌∷◌, ◌++◌, length, map, Option, Some, None, unwrap_or, position, Bool, Result, Ok, Err}
use Rattle.std.specs.List.{list_any}
use Rattle.std.specs.Str.{bytes_eq}
use Rattle.effect_fold.specs.declared.fault.Fault.{Fault}
use Rattle.perm_value.specs.Datum as datum
use Rattle.matcher_read.specs.Expression.{Callee, function, relation, unknown, Expression, text, whole, truth, request, policy, evaluated, negation, opposite, binary, among, call, Expressions, no_more, one_more, count, place}
use Rattle.matcher_read.specs.declared.tree.Operator.{Operator}
use Rattle.matcher_read.specs.declared.tree.Operator.TheVariants as operators
use Rattle.model_conf.specs.ModelText.{ModelParts}
use Rattle.model_conf.specs.RuleText.{IsRuleText}
use Rattle.matcher_meaning.specs.Answers.{Evaluation}
use Rattle.matcher_code.specs.RunEnds.{evaluates, searches}
use Rattle.matcher_code.specs.declared.op.Op.{Op}
use Rattle.matcher_code.specs.declared.op.Instruction.{Instruction}
use Rattle.matcher_code.specs.declared.op.Instruction.TheVariants as i

-- an instruction that serves the node at this place of the matcher's text
abbrev pub op_at : ℕ → Instruction → Op
op_at at instruction = record { at = at; instruction = instruction }

-- the number of a column, counted from 0; 0 where none has the name
abbrev pub column_number : List (List ℕ) → List ℕ → ℕ
column_number columns name = unwrap_or (position (bytes_eq name) columns) 0

-- the attributes of a path, one after the other
abbrev pub attributes : ℕ → List (List ℕ) → List Op
attributes at path = map (λ name. op_at at (i.Attribute name)) path

-- between the sides of `&&` and `||`: the machine goes on behind the right side where the left one settles them
abbrev pub skip : Operator → ℕ → Option Instruction
skip operators.And to = Some (i.SkipFalse to)
skip operators.Or to = Some (i.SkipTrue to)
skip _ to = None

-- an instruction, where there is one
abbrev pub op_or_none : ℕ → Option Instruction → List Op
op_or_none at None = []
op_or_none at (Some instruction) = op_at at instruction ∷ []

-- where the code of the right side begins, by where that of the left one ends
abbrev pub right_begins : Operator → ℕ → ℕ
right_begins operators.And place = place + 1
right_begins operators.Or place = place + 1
right_begins _ place = place

-- behind both sides: the right side of `&&` and `||` is their value, which has to be a truth
abbrev pub joins : Operator → Instruction
joins operators.And = i.NeedTruth
joins operators.Or = i.NeedTruth
joins op = i.Binary op

-- how many names a relation is asked with, which are two or three
abbrev pub names_asked : ℕ → ℕ
names_asked given = if given == 3 then 3 else 2

-- behind the arguments of a call; what is called has a name that is known
abbrev pub calls : Callee → ℕ → Instruction
calls (function called) given = i.Function called
calls (relation number) given = i.Role number (names_asked given)
calls (unknown parts) given = i.Miss

-- the place behind the code of an expression that begins at this place
abbrev mutual
  pub behind : ℕ → Expression → ℕ
  behind start (text at bytes) = start + 1
  behind start (whole at n) = start + 1
  behind start (truth at b) = start + 1
  behind start (request at column path) = start + 1 + length path
  behind start (policy at column) = start + 1
  behind start (evaluated at column) = start + 1
  behind start (negation at e) = behind start e + 1
  behind start (opposite at e) = behind start e + 1
  behind start (binary at op e f) = behind (right_begins op (behind start e)) f + 1
  behind start (among at e es) = behind_members (behind start e) es + 1
  behind start (call at callee es) = behind_all start es + 1

  -- behind that of members, each with its comparison
  pub behind_members : ℕ → Expressions → ℕ
  behind_members start no_more = start
  behind_members start (one_more e es) = behind_members (behind start e + 1) es

  -- behind that of arguments
  pub behind_all : ℕ → Expressions → ℕ
  behind_all start no_more = start
  behind_all start (one_more e es) = behind_all (behind start e) es

-- the code of an expression that begins at this place
abbrev mutual
  pub compiled : ModelParts → ℕ → Expression → List Op
  compiled model start (text at bytes) = op_at at (i.Text bytes) ∷ []
  compiled model start (whole at n) = op_at at (i.Whole n) ∷ []
  compiled model start (truth at b) = op_at at (i.Truth b) ∷ []
  compiled model start (request at column path) = op_at at (i.Request (column_number model.request column)) ∷ attributes at path
  compiled model start (policy at column) = op_at at (i.Policy (column_number model.policy column)) ∷ []
  compiled model start (evaluated at column) = op_at at (i.Eval (column_number model.policy column)) ∷ []
  compiled model start (negation at e) = compiled model start e ++ op_at at i.Not ∷ []
  compiled model start (opposite at e) = compiled model start e ++ op_at at i.Negate ∷ []
  compiled model start (binary at op e f) =
      compiled model start e ++ (op_or_none at (skip op (behind start (binary at op e f))) ++ (compiled model (right_begins op (behind start e)) f ++ op_at at (joins op) ∷ []))
  compiled model start (among at e es) = compiled model start e ++ (members model at (behind start (among at e es)) (behind start e) es ++ op_at at i.Miss ∷ [])
  compiled model start (call at callee es) = arguments model start es ++ op_at at (calls callee (count es)) ∷ []

  -- that of the members of an `in` at a place, which goes on at another where one is found
  pub members : ModelParts → ℕ → ℕ → ℕ → Expressions → List Op
  members model at to start no_more = []
  members model at to start (one_more e es) = compiled model start e ++ op_at at (i.Member to) ∷ members model at to (behind start e + 1) es

  -- that of arguments
  pub arguments : ModelParts → ℕ → Expressions → List Op
  arguments model start no_more = []
  arguments model start (one_more e es) = compiled model start e ++ arguments model (behind start e) es

-- the code of a whole matcher, whose value has to be a truth
abbrev pub code_of : ModelParts → Expression → List Op
code_of model e = compiled model 0 e ++ op_at (place e) i.NeedTruth ∷ []

-- a truth or a fault, as what code comes to
abbrev pub as_answer : Result Bool Fault → Evaluation
as_answer (Ok b) = Ok (datum.truth b)
as_answer (Err fault) = Err fault

-- the rule of a model that some text says
abbrev pub IsRule : ModelParts → Expression → Type 0
IsRule model rule = (bytes : List ℕ) × IsRuleText model bytes rule

-- an `eval` stands in the code
abbrev pub has_eval_op : List Op → Bool
has_eval_op ops = list_any (λ (op : Op). evaluates op.instruction) ops

-- a call of `regexMatch` stands in it
abbrev pub has_search_op : List Op → Bool
has_search_op ops = list_any (λ (op : Op). searches op.instruction) ops
