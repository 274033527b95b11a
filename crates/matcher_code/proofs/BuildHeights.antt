-- The heights of the stack in the code of an expression: it finds its operands from any height, rises by one, and is never higher than the expression has nodes.
use Rattle.std.proofs.Common.{◌≡◌, ◌⊎◌, inl, inr, ℕ, ◌+◌, ◌-◌, ◌<◌, ◌≤◌, ◌==◌, ◌&&◌, ◌||◌, true, true≢false, List, [], ◌∷◌, ◌++◌, length, Option, Some, None, refl, sym, ap, ◌∙◌, subst, arith}
use Rattle.std.specs.Prelude.{All, nat_le, nat_lt, slice_get}
use Rattle.std.specs.List.{list_any}
use Rattle.std.proofs.lemmas.Bool.{and_from, and_parts, cases_lt, cond-true, eqb-true, le-leb, lt-ltb, or_cases}
use Rattle.std.proofs.lemmas.List.Elements.{All-head, All-tail}
use Rattle.std.proofs.lemmas.Option.{slice_get_within}
use Rattle.matcher_read.specs.Calls.{arity, takes}
use Rattle.matcher_read.specs.Expression.{Callee, function, relation, unknown, Expression, text, whole, truth, request, policy, evaluated, negation, opposite, binary, among, call, Expressions, no_more, one_more, count, nodes, all_nodes}
use Rattle.matcher_read.specs.Matcher.{is_sound, are_sound}
use Rattle.matcher_read.specs.declared.tree.Operator.{Operator}
use Rattle.matcher_read.specs.declared.tree.Operator.TheVariants as operators
use Rattle.perm_base.specs.declared.shapes.RoleShape.{RoleShape}
use Rattle.model_conf.specs.Kept.{AreRelations, IsRelation}
use Rattle.model_conf.specs.ModelText.{ModelParts}
use Rattle.model_conf.specs.Uses.{of_request, of_policy, of_relation, uses, all_uses, names_of, called as called_uses}
use Rattle.matcher_code.specs.Compiled.{op_at, column_number, attributes, skip, op_or_none, right_begins, joins, names_asked, calls, behind, behind_members, behind_all, compiled, members, arguments}
use Rattle.matcher_code.specs.Rules.{finds, leaves, height_behind, height_at, jump, height_landing, names_rightly, lies_behind}
use Rattle.matcher_code.specs.declared.op.Op.{Op}
use Rattle.matcher_code.specs.declared.op.Instruction.{Instruction}
use Rattle.matcher_code.specs.declared.op.Instruction.TheVariants as i
use Rattle.matcher_code.proofs.BuildPlaces.{Stands, stand_first, stand_at, stand_skips, ends_at, members_end_at, arguments_end_at}
use Rattle.matcher_code.proofs.HeightLemmas.{height_next}
use Rattle.matcher_code.proofs.BuildUses.{are_named, named_parts, named_one, number_within}

-- code, the model whose columns and relations it names, and a bound of its heights
pub record Setting : Type 0 where
  pub model : ModelParts
  pub relations : AreRelations model.relations
  pub ops : List Op
  pub highest : ℕ

-- the instruction at a place finds its operands, names what is there, and jumps to where its height is that of going on
pub record IsRight (s : Setting) (at : ℕ) : Type 0 where
  pub op : Op
  pub height : ℕ
  pub stands : slice_get s.ops at ≡ Some op
  pub high : height_at s.ops at ≡ Some height
  pub low : height ≤ s.highest
  pub operands : finds op.instruction ≤ height
  pub names : names_rightly (length s.model.request) (length s.model.policy) at (length s.ops) op.instruction ≡ true
  pub lands : (to : ℕ) → jump op.instruction ≡ Some to → height_at s.ops to ≡ Some (height_landing op.instruction height)

-- those from a place to another are, and behind them this is the height
pub record AreRight (s : Setting) (from last height : ℕ) : Type 0 where
  pub each : (at : ℕ) → from ≤ at → at < last → IsRight s at
  pub high : height_at s.ops last ≡ Some height

-- ---- one instruction

next_height : (ops : List Op) (at height : ℕ) (op : Op) → slice_get ops at ≡ Some op → height_at ops at ≡ Some height → height_at ops (at + 1) ≡ height_behind op.instruction (Some height)
next_height ops at height op is high = height_next ops at op is ∙ ap (height_behind op.instruction) high

height_is : (instruction : Instruction) (height below after : ℕ) → height ≡ finds instruction + below → below + leaves instruction ≡ after → height_behind instruction (Some height) ≡ Some after
height_is instruction height below after is leaves_is =
    let enough : nat_le (finds instruction) height ≡ true = le-leb (finds instruction) height (omega arith) in
    let rises : height - finds instruction + leaves instruction ≡ after = omega arith in
    cond-true (nat_le (finds instruction) height) (Some (height - finds instruction + leaves instruction)) None enough ∙ ap (λ (n : ℕ). Some n) rises

one_right : (s : Setting) (at node : ℕ) (instruction : Instruction) (height below after : ℕ) → slice_get s.ops at ≡ Some (op_at node instruction) → height_at s.ops at ≡ Some height → height ≤ s.highest
    → height ≡ finds instruction + below → below + leaves instruction ≡ after → names_rightly (length s.model.request) (length s.model.policy) at (length s.ops) instruction ≡ true
    → ((to : ℕ) → jump instruction ≡ Some to → height_at s.ops to ≡ Some (height_landing instruction height)) → AreRight s at (at + 1) after
one_right s at node instruction height below after is high low operands leaves_is names lands =
    let enough : finds instruction ≤ height = omega arith in
    let right : IsRight s at = record { op = op_at node instruction; height = height; stands = is; high = high; low = low; operands = enough; names = names; lands = lands } in
    record {
      each = λ place from last. let same : at ≡ place = omega arith in subst (λ (n : ℕ). IsRight s n) same right;
      high = next_height s.ops at height (op_at node instruction) is high ∙ height_is instruction height below after operands leaves_is;
    }

-- one that does not jump
pub plain_right : (s : Setting) (at node : ℕ) (instruction : Instruction) (height below after : ℕ) → slice_get s.ops at ≡ Some (op_at node instruction) → height_at s.ops at ≡ Some height → height ≤ s.highest
    → height ≡ finds instruction + below → below + leaves instruction ≡ after → names_rightly (length s.model.request) (length s.model.policy) at (length s.ops) instruction ≡ true
    → jump instruction ≡ None → AreRight s at (at + 1) after
plain_right s at node instruction height below after is high low operands leaves_is names stays =
    one_right s at node instruction height below after is high low operands leaves_is names (λ to jumps. let both : ◌≡◌ {A = Option ℕ} None (Some to) = sym stays ∙ jumps in absurd cc)

-- ---- instructions one after the other

none_right : (s : Setting) (at height : ℕ) → height_at s.ops at ≡ Some height → AreRight s at at height
none_right s at height high = record { each = λ place from last. absurd (omega arith); high = high }

pub both_right : (s : Setting) (from middle last first second : ℕ) → AreRight s from middle first → AreRight s middle last second → AreRight s from last second
both_right s from middle last first second a b = record { each = λ at begins ends. elim (cases_lt at middle) [ inl before ↦ a.each at begins before | inr past ↦ b.each at past ends ]; high = b.high }

path_right : (s : Setting) (at node : ℕ) (path : List (List ℕ)) (height : ℕ) → Stands s.ops at (attributes node path) → height_at s.ops at ≡ Some (height + 1) → height + 1 ≤ s.highest → AreRight s at (at + length path) (height + 1)
path_right s at node [] height stand high low = let same : at ≡ at + 0 = omega arith in subst (λ (n : ℕ). AreRight s at n (height + 1)) same (none_right s at (height + 1) high)
path_right s at node (name ∷ names) height stand high low =
    let operands : height + 1 ≡ 1 + height = omega arith in
    let one = plain_right s at node (i.Attribute name) (height + 1) height (height + 1) stand.0 high low operands refl refl refl in
    let same : at + 1 + length names ≡ at + length (name ∷ names) = omega arith in
    subst (λ (n : ℕ). AreRight s at n (height + 1)) same
    (both_right s at (at + 1) (at + 1 + length names) (height + 1) (height + 1) one (path_right s (at + 1) node names height stand.1 one.high low))

-- ---- operators

-- what is said of the code of the right side
abbrev pub RightSide : Setting → ℕ → ℕ → ℕ → Type 0
RightSide s begins last many = (height : ℕ) → height_at s.ops begins ≡ Some height → height + many ≤ s.highest → AreRight s begins last (height + 1)

both_sides_right : (s : Setting) (at : ℕ) (op : Operator) (begins last height many : ℕ) → slice_get s.ops last ≡ Some (op_at at (i.Binary op)) → names_rightly (length s.model.request) (length s.model.policy) last (length s.ops) (i.Binary op) ≡ true
    → RightSide s begins last many → height_at s.ops begins ≡ Some (height + 1) → height + 1 + many ≤ s.highest → 1 ≤ many → AreRight s begins (last + 1) (height + 1)
both_sides_right s at op begins last height many is names right high low some =
    let side = right (height + 1) high low in
    let under : height + 1 + 1 ≤ s.highest = omega arith in
    let operands : height + 1 + 1 ≡ 2 + height = omega arith in
    both_right s begins last (last + 1) (height + 1 + 1) (height + 1) side (plain_right s last at (i.Binary op) (height + 1 + 1) height (height + 1) is side.high under operands refl names refl)

skip_right : (s : Setting) (at : ℕ) (instruction : Instruction) (left last height many : ℕ) → slice_get s.ops left ≡ Some (op_at at instruction) → slice_get s.ops last ≡ Some (op_at at i.NeedTruth)
    → finds instruction ≡ 1 → leaves instruction ≡ 0 → jump instruction ≡ Some (last + 1) → ((n : ℕ) → height_landing instruction n ≡ n)
    → names_rightly (length s.model.request) (length s.model.policy) left (length s.ops) instruction ≡ lies_behind left (length s.ops) (last + 1)
    → RightSide s (left + 1) last many → left < last → height_at s.ops left ≡ Some (height + 1) → height + 1 ≤ s.highest → height + many ≤ s.highest → AreRight s left (last + 1) (height + 1)
skip_right s at instruction left last height many skip_is is one none jumps lands names right before high low under =
    let operands : height + 1 ≡ finds instruction + height = omega arith in
    let leaves_is : height + leaves instruction ≡ height = omega arith in
    let begins : height_at s.ops (left + 1) ≡ Some height = next_height s.ops left (height + 1) (op_at at instruction) skip_is high ∙ height_is instruction (height + 1) height height operands leaves_is in
    let side = right height begins under in
    let ended : height + 1 ≡ 1 + height = omega arith in
    let need = plain_right s last at i.NeedTruth (height + 1) height (height + 1) is side.high low ended refl refl refl in
    let within : last < length s.ops = slice_get_within s.ops last (op_at at i.NeedTruth) is in
    let behind_is : lies_behind left (length s.ops) (last + 1) ≡ true = and_from (nat_lt left (last + 1)) (nat_le (last + 1) (length s.ops)) (lt-ltb left (last + 1) (omega arith)) (le-leb (last + 1) (length s.ops) (omega arith)) in
    let landing : (to : ℕ) → jump instruction ≡ Some to → height_at s.ops to ≡ Some (height_landing instruction (height + 1)) =
    λ to goes. let same : last + 1 ≡ to = cc (sym jumps ∙ goes) in subst (λ (n : ℕ). height_at s.ops n ≡ Some (height_landing instruction (height + 1))) same (need.high ∙ ap (λ (n : ℕ). Some n) (sym (lands (height + 1)))) in
    both_right s left (left + 1) (last + 1) height (height + 1)
    (one_right s left at instruction (height + 1) height height skip_is high low operands leaves_is (names ∙ behind_is) landing)
    (both_right s (left + 1) last (last + 1) (height + 1) (height + 1) side need)

operator_right : (s : Setting) (at : ℕ) (op : Operator) (left begins last height many : ℕ) → Stands s.ops left (op_or_none at (skip op (last + 1))) → begins ≡ right_begins op left → slice_get s.ops last ≡ Some (op_at at (joins op))
    → RightSide s begins last many → begins ≤ last → height_at s.ops left ≡ Some (height + 1) → height + 1 + many ≤ s.highest → 1 ≤ many → AreRight s left (last + 1) (height + 1)
operator_right s at operators.And left begins last height many skips same is right before high low some =
    skip_right s at (i.SkipFalse (last + 1)) left last height many skips.0 is refl refl refl (λ n. refl) refl (subst (λ (n : ℕ). RightSide s n last many) same right) (omega arith) high (omega arith) (omega arith)
operator_right s at operators.Or left begins last height many skips same is right before high low some =
    skip_right s at (i.SkipTrue (last + 1)) left last height many skips.0 is refl refl refl (λ n. refl) refl (subst (λ (n : ℕ). RightSide s n last many) same right) (omega arith) high (omega arith) (omega arith)
operator_right s at operators.Equal left begins last height many skips same is right before high low some =
    both_sides_right s at operators.Equal left last height many is refl (subst (λ (n : ℕ). RightSide s n last many) same right) high low some
operator_right s at operators.NotEqual left begins last height many skips same is right before high low some =
    both_sides_right s at operators.NotEqual left last height many is refl (subst (λ (n : ℕ). RightSide s n last many) same right) high low some
operator_right s at operators.Less left begins last height many skips same is right before high low some =
    both_sides_right s at operators.Less left last height many is refl (subst (λ (n : ℕ). RightSide s n last many) same right) high low some
operator_right s at operators.AtMost left begins last height many skips same is right before high low some =
    both_sides_right s at operators.AtMost left last height many is refl (subst (λ (n : ℕ). RightSide s n last many) same right) high low some
operator_right s at operators.Greater left begins last height many skips same is right before high low some =
    both_sides_right s at operators.Greater left last height many is refl (subst (λ (n : ℕ). RightSide s n last many) same right) high low some
operator_right s at operators.AtLeast left begins last height many skips same is right before high low some =
    both_sides_right s at operators.AtLeast left last height many is refl (subst (λ (n : ℕ). RightSide s n last many) same right) high low some
operator_right s at operators.Plus left begins last height many skips same is right before high low some =
    both_sides_right s at operators.Plus left last height many is refl (subst (λ (n : ℕ). RightSide s n last many) same right) high low some
operator_right s at operators.Minus left begins last height many skips same is right before high low some =
    both_sides_right s at operators.Minus left last height many is refl (subst (λ (n : ℕ). RightSide s n last many) same right) high low some
operator_right s at operators.Times left begins last height many skips same is right before high low some =
    both_sides_right s at operators.Times left last height many is refl (subst (λ (n : ℕ). RightSide s n last many) same right) high low some
operator_right s at operators.Over left begins last height many skips same is right before high low some =
    both_sides_right s at operators.Over left last height many is refl (subst (λ (n : ℕ). RightSide s n last many) same right) high low some
operator_right s at operators.Remainder left begins last height many skips same is right before high low some =
    both_sides_right s at operators.Remainder left last height many is refl (subst (λ (n : ℕ). RightSide s n last many) same right) high low some

-- ---- calls

-- a relation that is declared is one of eight
numbered_in : (relations : List RoleShape) (number names : ℕ) → All IsRelation relations → list_any (λ (shape : RoleShape). shape.number == number && names == names_of shape) relations ≡ true → (0 < number) × (number ≤ 8)
numbered_in [] number names each any = absurd (true≢false (sym any))
numbered_in (shape ∷ relations) number names each any =
    elim (or_cases (shape.number == number && names == names_of shape) (list_any (λ (other : RoleShape). other.number == number && names == names_of other) relations) any) [
      | inl here ↦ this here
      | inr later ↦ numbered_in relations number names (All-tail IsRelation shape relations each) later
    ]
  where
    this : (shape.number == number && names == names_of shape) ≡ true → (0 < number) × (number ≤ 8)
    this here =
        let same = eqb-true shape.number number (and_parts (shape.number == number) (names == names_of shape) here).0 in
        let kept = (All-head IsRelation shape relations each).numbered in
        (subst (λ (n : ℕ). 0 < n) same kept.some, subst (λ (n : ℕ). n ≤ 8) same kept.few)

asked_with_few : (given : ℕ) → given ≡ 2 ⊎ given ≡ 3 → (names_asked given ≡ given) × ((names_asked given == 2 || names_asked given == 3) ≡ true)
asked_with_few given (inl is) = subst (λ (n : ℕ). (names_asked n ≡ n) × ((names_asked n == 2 || names_asked n == 3) ≡ true)) (sym is) (refl, refl)
asked_with_few given (inr is) = subst (λ (n : ℕ). (names_asked n ≡ n) × ((names_asked n == 2 || names_asked n == 3) ≡ true)) (sym is) (refl, refl)

two_or_three : (given : ℕ) → (given == 2 || given == 3) ≡ true → given ≡ 2 ⊎ given ≡ 3
two_or_three given right = elim (or_cases (given == 2) (given == 3) right) [ inl is ↦ inl (eqb-true given 2 is) | inr is ↦ inr (eqb-true given 3 is) ]

call_right : (s : Setting) (at spot : ℕ) (callee : Callee) (given height : ℕ) → takes callee given ≡ true → are_named s.model (called_uses at callee given) ≡ true → slice_get s.ops spot ≡ Some (op_at at (calls callee given))
    → height_at s.ops spot ≡ Some (height + given) → height + given ≤ s.highest → AreRight s spot (spot + 1) (height + 1)
call_right s at spot (function f) given height right named is high low =
    let operands : height + given ≡ arity f + height = omega (arith, eqb-true given (arity f) right) in
    plain_right s spot at (i.Function f) (height + given) height (height + 1) is high low operands refl refl refl
call_right s at spot (relation number) given height right named is high low =
    let asked = asked_with_few given (two_or_three given right) in
    let numbered = numbered_in s.model.relations number given s.relations.each (named_one s.model (of_relation at number given) named) in
    let operands : height + given ≡ names_asked given + height = omega (arith, asked.0) in
    let role : names_rightly (length s.model.request) (length s.model.policy) spot (length s.ops) (i.Role number (names_asked given)) ≡ true =
    and_from (nat_lt 0 number && nat_le number 8) (names_asked given == 2 || names_asked given == 3) (and_from (nat_lt 0 number) (nat_le number 8) (lt-ltb 0 number numbered.0) (le-leb number 8 numbered.1)) asked.1 in
    plain_right s spot at (i.Role number (names_asked given)) (height + given) height (height + 1) is high low operands refl role refl
call_right s at spot (unknown parts) given height right named is high low = absurd (true≢false (sym right))

-- ---- expressions

pub some_nodes : (e : Expression) → 1 ≤ nodes e
some_nodes (text at bytes) = omega arith
some_nodes (whole at n) = omega arith
some_nodes (truth at b) = omega arith
some_nodes (request at column path) = omega arith
some_nodes (policy at column) = omega arith
some_nodes (evaluated at column) = omega arith
some_nodes (negation at e) = omega arith
some_nodes (opposite at e) = omega arith
some_nodes (binary at op e f) = omega arith
some_nodes (among at e es) = omega arith
some_nodes (call at callee es) = omega arith

count_below_nodes : (es : Expressions) → count es ≤ all_nodes es
count_below_nodes no_more = omega arith
count_below_nodes (one_more e es) = omega (arith, some_nodes e, count_below_nodes es)

-- members: behind each the value is on top again, and the place that they go on at has this height
pub record MembersRight (s : Setting) (from last to height : ℕ) : Type 0 where
  pub each : height_at s.ops to ≡ Some height → (at : ℕ) → from ≤ at → at < last → IsRight s at
  pub high : height_at s.ops last ≡ Some height

member_right : (s : Setting) (at to start next last height : ℕ) → slice_get s.ops next ≡ Some (op_at at (i.Member to)) → AreRight s start next (height + 1 + 1) → MembersRight s (next + 1) last to (height + 1)
    → height + 1 + 1 ≤ s.highest → next < to → to ≤ length s.ops → MembersRight s start last to (height + 1)
member_right s at to start next last height is first rest low before within =
    let operands : height + 1 + 1 ≡ 2 + height = omega arith in
    let names : lies_behind next (length s.ops) to ≡ true = and_from (nat_lt next to) (nat_le to (length s.ops)) (lt-ltb next to before) (le-leb to (length s.ops) within) in
    let less : height + 1 + 1 - 1 ≡ height + 1 = omega arith in
    record {
      each = λ landing.
          (both_right s start next last (height + 1 + 1) (height + 1) first
          (both_right s next (next + 1) last (height + 1) (height + 1)
          (one_right s next at (i.Member to) (height + 1 + 1) height (height + 1) is first.high low operands refl names
          (λ other goes. let same : to ≡ other = cc goes in subst (λ (n : ℕ). height_at s.ops n ≡ Some (height + 1 + 1 - 1)) same (landing ∙ ap (λ (n : ℕ). Some n) (sym less))))
          (record { each = rest.each landing; high = rest.high }))).each;
      high = rest.high;
    }

mutual
  pub code_right : (s : Setting) (e : Expression) (start height : ℕ) → Stands s.ops start (compiled s.model start e) → is_sound e ≡ true → are_named s.model (uses e) ≡ true → height_at s.ops start ≡ Some height → height + nodes e ≤ s.highest
      → AreRight s start (behind start e) (height + 1)
  code_right s (text at bytes) start height stand sound named high low = plain_right s start at (i.Text bytes) height height (height + 1) stand.0 high (omega arith) (omega arith) refl refl refl
  code_right s (whole at n) start height stand sound named high low = plain_right s start at (i.Whole n) height height (height + 1) stand.0 high (omega arith) (omega arith) refl refl refl
  code_right s (truth at b) start height stand sound named high low = plain_right s start at (i.Truth b) height height (height + 1) stand.0 high (omega arith) (omega arith) refl refl refl
  code_right s (request at column path) start height stand sound named high low =
      let number = column_number s.model.request column in
      let within = number_within s.model.request column (named_one s.model (of_request at column) named) in
      let one = plain_right s start at (i.Request number) height height (height + 1) stand.0 high (omega arith) (omega arith) refl (lt-ltb number (length s.model.request) within) refl in
      both_right s start (start + 1) (start + 1 + length path) (height + 1) (height + 1) one (path_right s (start + 1) at path height stand.1 one.high low)
  code_right s (policy at column) start height stand sound named high low =
      let number = column_number s.model.policy column in
      let within = number_within s.model.policy column (named_one s.model (of_policy at column) named) in
      plain_right s start at (i.Policy number) height height (height + 1) stand.0 high (omega arith) (omega arith) refl (lt-ltb number (length s.model.policy) within) refl
  code_right s (evaluated at column) start height stand sound named high low =
      let number = column_number s.model.policy column in
      let within = number_within s.model.policy column (named_one s.model (of_policy at column) named) in
      plain_right s start at (i.Eval number) height height (height + 1) stand.0 high (omega arith) (omega arith) refl (lt-ltb number (length s.model.policy) within) refl
  code_right s (negation at e) start height stand sound named high low =
      let parts = stand_first s.model s.ops start e (op_at at i.Not ∷ []) stand in
      let first = code_right s e start height parts.0 sound named high (omega arith) in
      let under : height + 1 ≤ s.highest = omega (arith, some_nodes e) in
      let operands : height + 1 ≡ 1 + height = omega arith in
      both_right s start (behind start e) (behind start e + 1) (height + 1) (height + 1) first
      (plain_right s (behind start e) at i.Not (height + 1) height (height + 1) parts.1.0 first.high under operands refl refl refl)
  code_right s (opposite at e) start height stand sound named high low =
      let parts = stand_first s.model s.ops start e (op_at at i.Negate ∷ []) stand in
      let first = code_right s e start height parts.0 sound named high (omega arith) in
      let under : height + 1 ≤ s.highest = omega (arith, some_nodes e) in
      let operands : height + 1 ≡ 1 + height = omega arith in
      both_right s start (behind start e) (behind start e + 1) (height + 1) (height + 1) first
      (plain_right s (behind start e) at i.Negate (height + 1) height (height + 1) parts.1.0 first.high under operands refl refl refl)
  code_right s (binary at op e f) start height stand sound named high low =
      let left = behind start e in
      let begins = right_begins op left in
      let last = behind begins f in
      let right = compiled s.model begins f ++ op_at at (joins op) ∷ [] in
      let sounds = and_parts (is_sound e) (is_sound f) sound in
      let names = named_parts s.model (uses e) (uses f) named in
      let parts = stand_first s.model s.ops start e (op_or_none at (skip op (last + 1)) ++ right) stand in
      let skips = stand_skips s.ops at op (last + 1) left right parts.1 in
      let sides = stand_first s.model s.ops begins f (op_at at (joins op) ∷ []) skips.1 in
      let first = code_right s e start height parts.0 sounds.0 names.0 high (omega arith) in
      let later : begins ≤ last = omega (arith, ends_at s.model begins f) in
      let under : height + 1 + nodes f ≤ s.highest = omega (arith, some_nodes e) in
      both_right s start left (last + 1) (height + 1) (height + 1) first
      (operator_right s at op left begins last height (nodes f) skips.0 refl sides.1.0 (λ n so bound. code_right s f begins n sides.0 sounds.1 names.1 so bound) later first.high under (some_nodes f))
  code_right s (among at e es) start height stand sound named high low =
      let left = behind start e in
      let last = behind_members left es in
      let to = last + 1 in
      let code = members s.model at to left es in
      let sounds = and_parts (is_sound e) (are_sound es) sound in
      let names = named_parts s.model (uses e) (all_uses es) named in
      let parts = stand_first s.model s.ops start e (code ++ op_at at i.Miss ∷ []) stand in
      let rest = stand_at s.ops left last code (op_at at i.Miss ∷ []) (members_end_at s.model at to left es) parts.1 in
      let first = code_right s e start height parts.0 sounds.0 names.0 high (omega arith) in
      let within : last < length s.ops = slice_get_within s.ops last (op_at at i.Miss) rest.1.0 in
      let under : height + 1 + all_nodes es ≤ s.highest = omega (arith, some_nodes e) in
      let few : height + 1 ≤ s.highest = omega arith in
      let found = members_right s es at to left height rest.0 refl (omega arith) sounds.1 names.1 first.high under in
      let operands : height + 1 ≡ 1 + height = omega arith in
      let miss = plain_right s last at i.Miss (height + 1) height (height + 1) rest.1.0 found.high few operands refl refl refl in
      both_right s start left to (height + 1) (height + 1) first (both_right s left last to (height + 1) (height + 1) (record { each = found.each miss.high; high = found.high }) miss)
  code_right s (call at callee es) start height stand sound named high low =
      let last = behind_all start es in
      let sounds = and_parts (takes callee (count es)) (are_sound es) sound in
      let names = named_parts s.model (called_uses at callee (count es)) (all_uses es) named in
      let parts = stand_at s.ops start last (arguments s.model start es) (op_at at (calls callee (count es)) ∷ []) (arguments_end_at s.model start es) stand in
      let first = arguments_right s es start height parts.0 sounds.1 names.1 high (omega arith) in
      let under : height + count es ≤ s.highest = omega (arith, count_below_nodes es) in
      both_right s start last (last + 1) (height + count es) (height + 1) first (call_right s at last callee (count es) height sounds.0 names.0 parts.1.0 first.high under)

  members_right : (s : Setting) (es : Expressions) (at to start height : ℕ) → Stands s.ops start (members s.model at to start es) → to ≡ behind_members start es + 1 → to ≤ length s.ops → are_sound es ≡ true → are_named s.model (all_uses es) ≡ true
      → height_at s.ops start ≡ Some (height + 1) → height + 1 + all_nodes es ≤ s.highest → MembersRight s start (behind_members start es) to (height + 1)
  members_right s no_more at to start height stand last within sound named high low = record { each = λ landing. (none_right s start (height + 1) high).each; high = high }
  members_right s (one_more e es) at to start height stand last within sound named high low =
      let next = behind start e in
      let sounds = and_parts (is_sound e) (are_sound es) sound in
      let names = named_parts s.model (uses e) (all_uses es) named in
      let parts = stand_first s.model s.ops start e (op_at at (i.Member to) ∷ members s.model at to (next + 1) es) stand in
      let first = code_right s e start (height + 1) parts.0 sounds.0 names.0 high (omega arith) in
      let under : height + 1 + 1 ≤ s.highest = omega (arith, some_nodes e) in
      let before : next < to = omega (arith, members_end_at s.model at to (next + 1) es) in
      let operands : height + 1 + 1 ≡ 2 + height = omega arith in
      let again : height_at s.ops (next + 1) ≡ Some (height + 1) = next_height s.ops next (height + 1 + 1) (op_at at (i.Member to)) parts.1.0 first.high ∙ height_is (i.Member to) (height + 1 + 1) height (height + 1) operands refl in
      member_right s at to start next (behind_members (next + 1) es) height parts.1.0 first (members_right s es at to (next + 1) height parts.1.1 last within sounds.1 names.1 again (omega (arith, some_nodes e))) under before within

  arguments_right : (s : Setting) (es : Expressions) (start height : ℕ) → Stands s.ops start (arguments s.model start es) → are_sound es ≡ true → are_named s.model (all_uses es) ≡ true → height_at s.ops start ≡ Some height
      → height + all_nodes es ≤ s.highest → AreRight s start (behind_all start es) (height + count es)
  arguments_right s no_more start height stand sound named high low = let same : height ≡ height + 0 = omega arith in subst (λ (n : ℕ). AreRight s start start n) same (none_right s start height high)
  arguments_right s (one_more e es) start height stand sound named high low =
      let sounds = and_parts (is_sound e) (are_sound es) sound in
      let names = named_parts s.model (uses e) (all_uses es) named in
      let parts = stand_first s.model s.ops start e (arguments s.model (behind start e) es) stand in
      let first = code_right s e start height parts.0 sounds.0 names.0 high (omega arith) in
      let under : height + 1 + all_nodes es ≤ s.highest = omega (arith, some_nodes e) in
      let same : height + 1 + count es ≡ height + (1 + count es) = omega arith in
      both_right s start (behind start e) (behind_all (behind start e) es) (height + 1) (height + (1 + count es)) first
      (subst (λ (n : ℕ). AreRight s (behind start e) (behind_all (behind start e) es) n) same (arguments_right s es (behind start e) (height + 1) parts.1 sounds.1 names.1 first.high under))
