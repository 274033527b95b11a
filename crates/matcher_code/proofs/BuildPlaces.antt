-- Where the code of an expression stands: behind how many instructions it ends, and its parts within code.
use Rattle.std.proofs.Common.{◌≡◌, ℕ, ◌+◌, List, [], ◌∷◌, ◌++◌, length, Some, refl, subst, arith}
use Rattle.std.specs.Prelude.{slice_get}
use Rattle.std.proofs.lemmas.List.{append_assoc, length-append, length-map, length_push}
use Rattle.matcher_read.specs.Expression.{Expression, text, whole, truth, request, policy, evaluated, negation, opposite, binary, among, call, Expressions, no_more, one_more, count}
use Rattle.matcher_read.specs.declared.tree.Operator.{Operator}
use Rattle.matcher_read.specs.declared.tree.Operator.TheVariants as operators
use Rattle.model_conf.specs.ModelText.{ModelParts}
use Rattle.matcher_code.specs.Compiled.{op_at, skip, op_or_none, right_begins, joins, calls, behind, behind_members, behind_all, compiled, members, arguments}
use Rattle.matcher_code.specs.declared.op.Op.{Op}
use Rattle.matcher_code.specs.declared.op.Instruction.TheVariants as i

-- ---- how long code is

pub joined_length : (a b : List Op) (start middle last : ℕ) → start + length a ≡ middle → middle + length b ≡ last → start + length (a ++ b) ≡ last
joined_length a b start middle last first second = omega (arith, length-append a b)

longer : (op : Op) (code : List Op) (place last : ℕ) → place + 1 + length code ≡ last → place + length (op ∷ code) ≡ last
longer op code place last is = omega arith

pub skips_length : (at : ℕ) (op : Operator) (to place : ℕ) → place + length (op_or_none at (skip op to)) ≡ right_begins op place
skips_length at operators.And to place = refl
skips_length at operators.Or to place = refl
skips_length at _ to place = omega arith

mutual
  pub ends_at : (model : ModelParts) (start : ℕ) (e : Expression) → start + length (compiled model start e) ≡ behind start e
  ends_at model start (text at bytes) = refl
  ends_at model start (whole at n) = refl
  ends_at model start (truth at b) = refl
  ends_at model start (request at column path) = omega (arith, length-map path (λ name. op_at at (i.Attribute name)))
  ends_at model start (policy at column) = refl
  ends_at model start (evaluated at column) = refl
  ends_at model start (negation at e) = joined_length (compiled model start e) (op_at at i.Not ∷ []) start (behind start e) (behind start e + 1) (ends_at model start e) refl
  ends_at model start (opposite at e) = joined_length (compiled model start e) (op_at at i.Negate ∷ []) start (behind start e) (behind start e + 1) (ends_at model start e) refl
  ends_at model start (binary at op e f) =
      let begins = right_begins op (behind start e) in
      let skipping = op_or_none at (skip op (behind start (binary at op e f))) in
      let right = compiled model begins f in
      let join = op_at at (joins op) ∷ [] in
      joined_length (compiled model start e) (skipping ++ (right ++ join)) start (behind start e) (behind begins f + 1) (ends_at model start e)
      (joined_length skipping (right ++ join) (behind start e) begins (behind begins f + 1) (skips_length at op (behind start (binary at op e f)) (behind start e))
      (joined_length right join begins (behind begins f) (behind begins f + 1) (ends_at model begins f) refl))
  ends_at model start (among at e es) =
      let to = behind start (among at e es) in
      joined_length (compiled model start e) (members model at to (behind start e) es ++ op_at at i.Miss ∷ []) start (behind start e) to (ends_at model start e)
      (joined_length (members model at to (behind start e) es) (op_at at i.Miss ∷ []) (behind start e) (behind_members (behind start e) es) to (members_end_at model at to (behind start e) es) refl)
  ends_at model start (call at callee es) =
      joined_length (arguments model start es) (op_at at (calls callee (count es)) ∷ []) start (behind_all start es) (behind_all start es + 1) (arguments_end_at model start es) refl

  pub members_end_at : (model : ModelParts) (at to start : ℕ) (es : Expressions) → start + length (members model at to start es) ≡ behind_members start es
  members_end_at model at to start no_more = omega arith
  members_end_at model at to start (one_more e es) =
      joined_length (compiled model start e) (op_at at (i.Member to) ∷ members model at to (behind start e + 1) es) start (behind start e) (behind_members (behind start e + 1) es) (ends_at model start e)
      (longer (op_at at (i.Member to)) (members model at to (behind start e + 1) es) (behind start e) (behind_members (behind start e + 1) es) (members_end_at model at to (behind start e + 1) es))

  pub arguments_end_at : (model : ModelParts) (start : ℕ) (es : Expressions) → start + length (arguments model start es) ≡ behind_all start es
  arguments_end_at model start no_more = omega arith
  arguments_end_at model start (one_more e es) =
      joined_length (compiled model start e) (arguments model (behind start e) es) start (behind start e) (behind_all (behind start e) es) (ends_at model start e) (arguments_end_at model (behind start e) es)

-- ---- where code stands

-- these instructions stand in the code from this place on
abbrev pub Stands : List Op → ℕ → List Op → Type 0
Stands ops start [] = Unit {0}
Stands ops start (op ∷ code) = (slice_get ops start ≡ Some op) × Stands ops (start + 1) code

pub stand_parts : (ops : List Op) (start : ℕ) (a b : List Op) → Stands ops start (a ++ b) → Stands ops start a × Stands ops (start + length a) b
stand_parts ops start [] b stand = let same : start ≡ start + 0 = omega arith in (tt, subst (λ (n : ℕ). Stands ops n b) same stand)
stand_parts ops start (op ∷ a) b (is, stand) =
    let parts = stand_parts ops (start + 1) a b stand in
    let same : start + 1 + length a ≡ start + length (op ∷ a) = omega arith in
    ((is, parts.0), subst (λ (n : ℕ). Stands ops n b) same parts.1)

-- the parts, the second from the place where the first ends
pub stand_at : (ops : List Op) (start middle : ℕ) (a b : List Op) → start + length a ≡ middle → Stands ops start (a ++ b) → Stands ops start a × Stands ops middle b
stand_at ops start middle a b is stand = let parts = stand_parts ops start a b stand in (parts.0, subst (λ (n : ℕ). Stands ops n b) is parts.1)

pub stand_first : (model : ModelParts) (ops : List Op) (start : ℕ) (e : Expression) (b : List Op) → Stands ops start (compiled model start e ++ b) → Stands ops start (compiled model start e) × Stands ops (behind start e) b
stand_first model ops start e b stand = stand_at ops start (behind start e) (compiled model start e) b (ends_at model start e) stand

pub stand_skips : (ops : List Op) (at : ℕ) (op : Operator) (to place : ℕ) (b : List Op) → Stands ops place (op_or_none at (skip op to) ++ b) → Stands ops place (op_or_none at (skip op to)) × Stands ops (right_begins op place) b
stand_skips ops at op to place b stand = stand_at ops place (right_begins op place) (op_or_none at (skip op to)) b (skips_length at op to place) stand

get_seam : (front : List Op) (op : Op) (code : List Op) → slice_get (front ++ op ∷ code) (length front) ≡ Some op
get_seam [] op code = refl
get_seam (x ∷ front) op code = get_seam front op code

pub stand_behind : (front code : List Op) → Stands (front ++ code) (length front) code
stand_behind front [] = tt
stand_behind front (op ∷ code) =
    let rest = stand_behind (front ++ op ∷ []) code in
    (get_seam front op code, subst (λ (ops : List Op). Stands ops (length front + 1) code) (append_assoc front (op ∷ []) code) (subst (λ (n : ℕ). Stands (front ++ op ∷ [] ++ code) n code) (length_push front op) rest))
