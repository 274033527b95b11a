-- The targets of members: all that stand in finished code lie behind, and members that go on nowhere yet get theirs.
use Rattle.std.proofs.Common.{◌≡◌, ℕ, ◌+◌, ◌<◌, zero, suc, List, [], ◌∷◌, ◌++◌, map, refl, ap, ◌∙◌, arith}
use Rattle.std.proofs.lemmas.List.{map-append}
use Rattle.matcher_read.specs.Expression.{Callee, function, relation, unknown, Expression, text, whole, truth, request, policy, evaluated, negation, opposite, binary, among, call, Expressions, no_more, one_more, count}
use Rattle.matcher_read.specs.declared.tree.Operator.{Operator}
use Rattle.matcher_read.specs.declared.tree.Operator.TheVariants as operators
use Rattle.model_conf.specs.ModelText.{ModelParts}
use Rattle.matcher_code.specs.Compiled.{op_at, column_number, attributes, skip, op_or_none, right_begins, joins, calls, behind, compiled, members, arguments}
use Rattle.matcher_code.specs.Helps.Targets.{landed}
use Rattle.matcher_code.specs.declared.op.Op.{Op}
use Rattle.matcher_code.specs.declared.op.Instruction.TheVariants as i

-- finished code stays
abbrev IsLanded : ℕ → List Op → Type 0
IsLanded to code = map (landed to) code ≡ code

both_landed : (to : ℕ) (a b : List Op) → IsLanded to a → IsLanded to b → IsLanded to (a ++ b)
both_landed to a b first second = map-append (landed to) a b ∙ ap (λ (l : List Op). l ++ map (landed to) b) first ∙ ap (λ (l : List Op). a ++ l) second

one_landed : (to : ℕ) (op : Op) (code : List Op) → landed to op ≡ op → IsLanded to code → IsLanded to (op ∷ code)
one_landed to op code is rest = ap (λ (x : Op). x ∷ map (landed to) code) is ∙ ap (λ (l : List Op). op ∷ l) rest

path_landed : (to at : ℕ) (path : List (List ℕ)) → IsLanded to (attributes at path)
path_landed to at [] = refl
path_landed to at (name ∷ names) = one_landed to (op_at at (i.Attribute name)) (attributes at names) refl (path_landed to at names)

skip_landed : (to at : ℕ) (op : Operator) (target : ℕ) → IsLanded to (op_or_none at (skip op target))
skip_landed to at operators.And target = refl
skip_landed to at operators.Or target = refl
skip_landed to at _ target = refl

join_landed : (to at : ℕ) (op : Operator) → IsLanded to (op_at at (joins op) ∷ [])
join_landed to at operators.And = refl
join_landed to at operators.Or = refl
join_landed to at _ = refl

call_landed : (to at : ℕ) (callee : Callee) (given : ℕ) → IsLanded to (op_at at (calls callee given) ∷ [])
call_landed to at (function called) given = refl
call_landed to at (relation number) given = refl
call_landed to at (unknown parts) given = refl

member_landed : (to at target : ℕ) → 0 < target → landed to (op_at at (i.Member target)) ≡ op_at at (i.Member target)
member_landed to at zero lies = absurd (omega arith)
member_landed to at (suc target) lies = refl

mutual
  pub code_landed : (model : ModelParts) (to start : ℕ) (e : Expression) → IsLanded to (compiled model start e)
  code_landed model to start (text at bytes) = refl
  code_landed model to start (whole at n) = refl
  code_landed model to start (truth at b) = refl
  code_landed model to start (request at column path) = ap (λ (l : List Op). op_at at (i.Request (column_number model.request column)) ∷ l) (path_landed to at path)
  code_landed model to start (policy at column) = refl
  code_landed model to start (evaluated at column) = refl
  code_landed model to start (negation at e) = both_landed to (compiled model start e) (op_at at i.Not ∷ []) (code_landed model to start e) refl
  code_landed model to start (opposite at e) = both_landed to (compiled model start e) (op_at at i.Negate ∷ []) (code_landed model to start e) refl
  code_landed model to start (binary at op e f) =
      let begins = right_begins op (behind start e) in
      let skipping = op_or_none at (skip op (behind start (binary at op e f))) in
      both_landed to (compiled model start e) (skipping ++ (compiled model begins f ++ op_at at (joins op) ∷ [])) (code_landed model to start e)
      (both_landed to skipping (compiled model begins f ++ op_at at (joins op) ∷ []) (skip_landed to at op (behind start (binary at op e f)))
      (both_landed to (compiled model begins f) (op_at at (joins op) ∷ []) (code_landed model to begins f) (join_landed to at op)))
  code_landed model to start (among at e es) =
      let target = behind start (among at e es) in
      let lies : 0 < target = omega arith in
      both_landed to (compiled model start e) (members model at target (behind start e) es ++ op_at at i.Miss ∷ []) (code_landed model to start e)
      (both_landed to (members model at target (behind start e) es) (op_at at i.Miss ∷ []) (members_landed model to at target (behind start e) es lies) refl)
  code_landed model to start (call at callee es) =
      both_landed to (arguments model start es) (op_at at (calls callee (count es)) ∷ []) (arguments_landed model to start es) (call_landed to at callee (count es))

  members_landed : (model : ModelParts) (to at target start : ℕ) (es : Expressions) → 0 < target → IsLanded to (members model at target start es)
  members_landed model to at target start no_more lies = refl
  members_landed model to at target start (one_more e es) lies =
      both_landed to (compiled model start e) (op_at at (i.Member target) ∷ members model at target (behind start e + 1) es) (code_landed model to start e)
      (one_landed to (op_at at (i.Member target)) (members model at target (behind start e + 1) es) (member_landed to at target lies) (members_landed model to at target (behind start e + 1) es lies))

  arguments_landed : (model : ModelParts) (to start : ℕ) (es : Expressions) → IsLanded to (arguments model start es)
  arguments_landed model to start no_more = refl
  arguments_landed model to start (one_more e es) =
      both_landed to (compiled model start e) (arguments model (behind start e) es) (code_landed model to start e) (arguments_landed model to (behind start e) es)

-- members get their target
pub members_land : (model : ModelParts) (at to start : ℕ) (es : Expressions) → map (landed to) (members model at 0 start es) ≡ members model at to start es
members_land model at to start no_more = refl
members_land model at to start (one_more e es) =
    map-append (landed to) (compiled model start e) (op_at at (i.Member 0) ∷ members model at 0 (behind start e + 1) es)
    ∙ ap (λ (l : List Op). l ++ op_at at (i.Member to) ∷ map (landed to) (members model at 0 (behind start e + 1) es)) (code_landed model to start e)
    ∙ ap (λ (l : List Op). compiled model start e ++ op_at at (i.Member to) ∷ l) (members_land model at to (behind start e + 1) es)
