-- Which instructions stand in the code of an expression: those of its nodes.
use Rattle.std.proofs.Common.{◌≡◌, ℕ, ℤ, ◌+◌, ◌||◌, Bool, true, false, List, [], ◌∷◌, ◌++◌, refl, sym, ap, ◌∙◌}
use Rattle.std.specs.List.{list_any}
use Rattle.std.proofs.lemmas.List.Folds.{list_any-append}
use Rattle.matcher_read.specs.Expression.{Callee, function, relation, unknown, Expression, text, whole, truth, request, policy, evaluated, negation, opposite, binary, among, call, Expressions, no_more, one_more, count, some_node, among_some, place}
use Rattle.matcher_read.specs.Kinds.{is_of}
use Rattle.matcher_read.specs.declared.kinds.NodeKind.TheVariants.{Eval}
use Rattle.matcher_read.specs.declared.tree.Operator.{Operator}
use Rattle.matcher_read.specs.declared.tree.Operator.TheVariants as operators
use Rattle.model_conf.specs.ModelText.{ModelParts}
use Rattle.model_conf.specs.RuleText.{has_eval}
use Rattle.matcher_meaning.specs.Comes.{all_at, each_at, is_taker, takes_memory}
use Rattle.matcher_meaning.specs.Meaning.{is_search, is_search_call, searches, some_searches}
use Rattle.matcher_code.specs.Compiled.{op_at, column_number, attributes, skip, op_or_none, right_begins, joins, calls, behind, compiled, members, arguments, code_of, has_eval_op, has_search_op}
use Rattle.matcher_code.specs.RunEnds as code
use Rattle.matcher_code.specs.declared.op.Op.{Op}
use Rattle.matcher_code.specs.declared.op.Instruction.{Instruction}
use Rattle.matcher_code.specs.declared.op.Instruction.TheVariants as i

-- an instruction of the code passes the test
abbrev pub some_op : (Instruction → Bool) → List Op → Bool
some_op test ops = list_any (λ (op : Op). test op.instruction) ops

-- the instruction of each node passes the one test where the node passes the other, and no further instruction passes
pub record Tells (op_test : Instruction → Bool) (node_test : Expression → Bool) : Type 0 where
  pub text_is : (at : ℕ) (bytes : List ℕ) → op_test (i.Text bytes) ≡ node_test (text at bytes)
  pub whole_is : (at : ℕ) (n : ℤ) → op_test (i.Whole n) ≡ node_test (whole at n)
  pub truth_is : (at : ℕ) (b : Bool) → op_test (i.Truth b) ≡ node_test (truth at b)
  pub request_is : (at : ℕ) (column : List ℕ) (path : List (List ℕ)) (number : ℕ) → op_test (i.Request number) ≡ node_test (request at column path)
  pub attribute : (name : List ℕ) → op_test (i.Attribute name) ≡ false
  pub policy_is : (at : ℕ) (column : List ℕ) (number : ℕ) → op_test (i.Policy number) ≡ node_test (policy at column)
  pub evaluated_is : (at : ℕ) (column : List ℕ) (number : ℕ) → op_test (i.Eval number) ≡ node_test (evaluated at column)
  pub negation_is : (at : ℕ) (e : Expression) → op_test i.Not ≡ node_test (negation at e)
  pub opposite_is : (at : ℕ) (e : Expression) → op_test i.Negate ≡ node_test (opposite at e)
  pub skip_false : (to : ℕ) → op_test (i.SkipFalse to) ≡ false
  pub skip_true : (to : ℕ) → op_test (i.SkipTrue to) ≡ false
  pub binary_is : (at : ℕ) (op : Operator) (e f : Expression) → op_test (joins op) ≡ node_test (binary at op e f)
  pub member : (to : ℕ) → op_test (i.Member to) ≡ false
  pub among_is : (at : ℕ) (e : Expression) (es : Expressions) → op_test i.Miss ≡ node_test (among at e es)
  pub call_is : (at : ℕ) (callee : Callee) (es : Expressions) → op_test (calls callee (count es)) ≡ node_test (call at callee es)
  pub need : op_test i.NeedTruth ≡ false

or_false : (b : Bool) → (b || false) ≡ b
or_false true = refl
or_false false = refl

-- an instruction behind others, which is that of the root
root_last : (a t : Bool) → (a || (t || false)) ≡ (t || a)
root_last true true = refl
root_last true false = refl
root_last false true = refl
root_last false false = refl

root_behind : (a b t : Bool) → (a || (b || (t || false))) ≡ (t || (a || b))
root_behind true true true = refl
root_behind true true false = refl
root_behind true false true = refl
root_behind true false false = refl
root_behind false true true = refl
root_behind false true false = refl
root_behind false false true = refl
root_behind false false false = refl

last_op : (test : Instruction → Bool) (a : List Op) (at : ℕ) (instruction : Instruction) (inner root : Bool) → some_op test a ≡ inner → test instruction ≡ root → some_op test (a ++ op_at at instruction ∷ []) ≡ (root || inner)
last_op test a at instruction inner root first last =
    list_any-append (λ (op : Op). test op.instruction) a (op_at at instruction ∷ []) ∙ ap (λ (x : Bool). x || (test instruction || false)) first ∙ ap (λ (x : Bool). inner || (x || false)) last ∙ root_last inner root

ops_first : (test : Instruction → Bool) (a b : List Op) (first rest : Bool) → some_op test a ≡ first → some_op test b ≡ rest → some_op test (a ++ b) ≡ (first || rest)
ops_first test a b first rest is other = list_any-append (λ (op : Op). test op.instruction) a b ∙ ap (λ (x : Bool). x || some_op test b) is ∙ ap (λ (x : Bool). first || x) other

path_none : (op_test : Instruction → Bool) (at : ℕ) (path : List (List ℕ)) → ((name : List ℕ) → op_test (i.Attribute name) ≡ false) → some_op op_test (attributes at path) ≡ false
path_none op_test at [] none = refl
path_none op_test at (name ∷ names) none = ap (λ (x : Bool). x || some_op op_test (attributes at names)) (none name) ∙ path_none op_test at names none

skip_none : (op_test : Instruction → Bool) (node_test : Expression → Bool) (tells : Tells op_test node_test) (at : ℕ) (op : Operator) (to : ℕ) → some_op op_test (op_or_none at (skip op to)) ≡ false
skip_none op_test node_test tells at operators.And to = or_false (op_test (i.SkipFalse to)) ∙ tells.skip_false to
skip_none op_test node_test tells at operators.Or to = or_false (op_test (i.SkipTrue to)) ∙ tells.skip_true to
skip_none op_test node_test tells at _ to = refl

one_op : (test : Instruction → Bool) (at : ℕ) (instruction : Instruction) (root : Bool) → test instruction ≡ root → some_op test (op_at at instruction ∷ []) ≡ root
one_op test at instruction root is = or_false (test instruction) ∙ is

mutual
  pub code_tells : (op_test : Instruction → Bool) (node_test : Expression → Bool) (tells : Tells op_test node_test) (model : ModelParts) (start : ℕ) (e : Expression) → some_op op_test (compiled model start e) ≡ some_node node_test e
  code_tells op_test node_test tells model start (text at bytes) = one_op op_test at (i.Text bytes) (node_test (text at bytes)) (tells.text_is at bytes)
  code_tells op_test node_test tells model start (whole at n) = one_op op_test at (i.Whole n) (node_test (whole at n)) (tells.whole_is at n)
  code_tells op_test node_test tells model start (truth at b) = one_op op_test at (i.Truth b) (node_test (truth at b)) (tells.truth_is at b)
  code_tells op_test node_test tells model start (request at column path) =
      let number = column_number model.request column in
      ap (λ (x : Bool). op_test (i.Request number) || x) (path_none op_test at path tells.attribute) ∙ or_false (op_test (i.Request number)) ∙ tells.request_is at column path number
  code_tells op_test node_test tells model start (policy at column) = one_op op_test at (i.Policy (column_number model.policy column)) (node_test (policy at column)) (tells.policy_is at column (column_number model.policy column))
  code_tells op_test node_test tells model start (evaluated at column) = one_op op_test at (i.Eval (column_number model.policy column)) (node_test (evaluated at column)) (tells.evaluated_is at column (column_number model.policy column))
  code_tells op_test node_test tells model start (negation at e) = last_op op_test (compiled model start e) at i.Not (some_node node_test e) (node_test (negation at e)) (code_tells op_test node_test tells model start e) (tells.negation_is at e)
  code_tells op_test node_test tells model start (opposite at e) = last_op op_test (compiled model start e) at i.Negate (some_node node_test e) (node_test (opposite at e)) (code_tells op_test node_test tells model start e) (tells.opposite_is at e)
  code_tells op_test node_test tells model start (binary at op e f) =
      let begins = right_begins op (behind start e) in
      let skipping = op_or_none at (skip op (behind start (binary at op e f))) in
      let left = some_node node_test e in
      let right = some_node node_test f in
      let root = node_test (binary at op e f) in
      ops_first op_test (compiled model start e) (skipping ++ (compiled model begins f ++ op_at at (joins op) ∷ [])) left (right || (root || false)) (code_tells op_test node_test tells model start e)
      (ops_first op_test skipping (compiled model begins f ++ op_at at (joins op) ∷ []) false (right || (root || false)) (skip_none op_test node_test tells at op (behind start (binary at op e f)))
      (ops_first op_test (compiled model begins f) (op_at at (joins op) ∷ []) right (root || false) (code_tells op_test node_test tells model begins f) (ap (λ (x : Bool). x || false) (tells.binary_is at op e f))))
      ∙ root_behind left right root
  code_tells op_test node_test tells model start (among at e es) =
      let to = behind start (among at e es) in
      let value = some_node node_test e in
      let inner = among_some node_test es in
      let root = node_test (among at e es) in
      ops_first op_test (compiled model start e) (members model at to (behind start e) es ++ op_at at i.Miss ∷ []) value (inner || (root || false)) (code_tells op_test node_test tells model start e)
      (ops_first op_test (members model at to (behind start e) es) (op_at at i.Miss ∷ []) inner (root || false) (members_tell op_test node_test tells model at to (behind start e) es) (ap (λ (x : Bool). x || false) (tells.among_is at e es)))
      ∙ root_behind value inner root
  code_tells op_test node_test tells model start (call at callee es) =
      last_op op_test (arguments model start es) at (calls callee (count es)) (among_some node_test es) (node_test (call at callee es)) (arguments_tell op_test node_test tells model start es) (tells.call_is at callee es)

  members_tell : (op_test : Instruction → Bool) (node_test : Expression → Bool) (tells : Tells op_test node_test) (model : ModelParts) (at to start : ℕ) (es : Expressions) → some_op op_test (members model at to start es) ≡ among_some node_test es
  members_tell op_test node_test tells model at to start no_more = refl
  members_tell op_test node_test tells model at to start (one_more e es) =
      let rest = members model at to (behind start e + 1) es in
      ops_first op_test (compiled model start e) (op_at at (i.Member to) ∷ rest) (some_node node_test e) (among_some node_test es) (code_tells op_test node_test tells model start e)
      (ap (λ (x : Bool). x || some_op op_test rest) (tells.member to) ∙ members_tell op_test node_test tells model at to (behind start e + 1) es)

  arguments_tell : (op_test : Instruction → Bool) (node_test : Expression → Bool) (tells : Tells op_test node_test) (model : ModelParts) (start : ℕ) (es : Expressions) → some_op op_test (arguments model start es) ≡ among_some node_test es
  arguments_tell op_test node_test tells model start no_more = refl
  arguments_tell op_test node_test tells model start (one_more e es) =
      ops_first op_test (compiled model start e) (arguments model (behind start e) es) (some_node node_test e) (among_some node_test es) (code_tells op_test node_test tells model start e)
      (arguments_tell op_test node_test tells model (behind start e) es)

-- the code of a whole matcher has such an instruction where the matcher has such a node
pub whole_tells : (op_test : Instruction → Bool) (node_test : Expression → Bool) → Tells op_test node_test → (model : ModelParts) (e : Expression) → some_op op_test (code_of model e) ≡ some_node node_test e
whole_tells op_test node_test tells model e =
    last_op op_test (compiled model 0 e) (place e) i.NeedTruth (some_node node_test e) false (code_tells op_test node_test tells model 0 e) tells.need

-- ---- the tests of code

no_join : (test : Instruction → Bool) → test i.NeedTruth ≡ false → ((op : Operator) → test (i.Binary op) ≡ false) → (op : Operator) → test (joins op) ≡ false
no_join test last others operators.And = last
no_join test last others operators.Or = last
no_join test last others op = others op

takers_tell : Tells code.takes_memory is_taker
takers_tell = record {
  text_is = λ at bytes. refl;
  whole_is = λ at n. refl;
  truth_is = λ at b. refl;
  request_is = λ at column path number. refl;
  attribute = λ name. refl;
  policy_is = λ at column number. refl;
  evaluated_is = λ at column number. refl;
  negation_is = λ at e. refl;
  opposite_is = λ at e. refl;
  skip_false = λ to. refl;
  skip_true = λ to. refl;
  binary_is = λ at op e f. no_join code.takes_memory refl (λ other. refl) op;
  member = λ to. refl;
  among_is = λ at e es. refl;
  call_is = λ at callee es. by_callee callee es;
  need = refl;
}
  where
    by_callee : (callee : Callee) (es : Expressions) → code.takes_memory (calls callee (count es)) ≡ (is_search callee || false)
    by_callee (function f) es = sym (or_false (is_search (function f)))
    by_callee (relation number) es = refl
    by_callee (unknown parts) es = refl

searches_tell : Tells code.searches is_search_call
searches_tell = record {
  text_is = λ at bytes. refl;
  whole_is = λ at n. refl;
  truth_is = λ at b. refl;
  request_is = λ at column path number. refl;
  attribute = λ name. refl;
  policy_is = λ at column number. refl;
  evaluated_is = λ at column number. refl;
  negation_is = λ at e. refl;
  opposite_is = λ at e. refl;
  skip_false = λ to. refl;
  skip_true = λ to. refl;
  binary_is = λ at op e f. no_join code.searches refl (λ other. refl) op;
  member = λ to. refl;
  among_is = λ at e es. refl;
  call_is = λ at callee es. by_callee callee es;
  need = refl;
}
  where
    by_callee : (callee : Callee) (es : Expressions) → code.searches (calls callee (count es)) ≡ is_search callee
    by_callee (function f) es = refl
    by_callee (relation number) es = refl
    by_callee (unknown parts) es = refl

evals_tell : Tells code.evaluates (λ node. is_of node Eval)
evals_tell = record {
  text_is = λ at bytes. refl;
  whole_is = λ at n. refl;
  truth_is = λ at b. refl;
  request_is = λ at column path number. refl;
  attribute = λ name. refl;
  policy_is = λ at column number. refl;
  evaluated_is = λ at column number. refl;
  negation_is = λ at e. refl;
  opposite_is = λ at e. refl;
  skip_false = λ to. refl;
  skip_true = λ to. refl;
  binary_is = λ at op e f. no_join code.evaluates refl (λ other. refl) op;
  member = λ to. refl;
  among_is = λ at e es. refl;
  call_is = λ at callee es. by_callee callee es;
  need = refl;
}
  where
    by_callee : (callee : Callee) (es : Expressions) → code.evaluates (calls callee (count es)) ≡ false
    by_callee (function f) es = refl
    by_callee (relation number) es = refl
    by_callee (unknown parts) es = refl

-- the code of a matcher takes memory where the matcher does
pub whole_takes : (model : ModelParts) (e : Expression) → code.some_takes_memory (code_of model e) ≡ takes_memory e
whole_takes model e = whole_tells code.takes_memory is_taker takers_tell model e

pub whole_evaluates : (model : ModelParts) (e : Expression) → has_eval_op (code_of model e) ≡ has_eval e
whole_evaluates model e = whole_tells code.evaluates (λ node. is_of node Eval) evals_tell model e

pub whole_searches : (model : ModelParts) (e : Expression) → has_search_op (code_of model e) ≡ searches e
whole_searches model e = whole_tells code.searches is_search_call searches_tell model e

-- moving the nodes of a rule leaves its searches
mutual
  pub placed_searches : (at : ℕ) (e : Expression) → searches (all_at at e) ≡ searches e
  placed_searches at (text own bytes) = refl
  placed_searches at (whole own n) = refl
  placed_searches at (truth own b) = refl
  placed_searches at (request own column path) = refl
  placed_searches at (policy own column) = refl
  placed_searches at (evaluated own column) = refl
  placed_searches at (negation own e) = placed_searches at e
  placed_searches at (opposite own e) = placed_searches at e
  placed_searches at (binary own op e f) = rw (placed_searches at e, placed_searches at f) refl
  placed_searches at (among own e es) = rw (placed_searches at e, each_searches at es) refl
  placed_searches at (call own callee es) = rw (each_searches at es) refl

  each_searches : (at : ℕ) (es : Expressions) → some_searches (each_at at es) ≡ some_searches es
  each_searches at no_more = refl
  each_searches at (one_more e es) = rw (placed_searches at e, each_searches at es) refl
