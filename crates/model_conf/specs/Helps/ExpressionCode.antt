-- Expressions told apart: each is written as a list of signs, operands first, which gives it back.
use Rattle.std.specs.Prelude.{◌≡◌, ℕ, ℤ, Bool, false, List, [], ◌∷◌, refl}
use Rattle.std.proofs.Common.{◌∙◌, ap}
use Rattle.std.specs.Coded.{Coded, code_by, coded_list}
use Rattle.matcher_read.specs.Expression.{Callee, Expression, Expressions, text, whole, truth, request, policy, evaluated, negation, opposite, binary, among, call, no_more, one_more}
use Rattle.matcher_read.specs.declared.tree.Operator.{Operator}

pub data Sign : Type 0 where
  text_sign : ℕ → List ℕ → Sign
  whole_sign : ℕ → ℤ → Sign
  truth_sign : ℕ → Bool → Sign
  request_sign : ℕ → List ℕ → List (List ℕ) → Sign
  policy_sign : ℕ → List ℕ → Sign
  evaluated_sign : ℕ → List ℕ → Sign
  negation_sign : ℕ → Sign
  opposite_sign : ℕ → Sign
  binary_sign : ℕ → Operator → Sign
  among_sign : ℕ → Sign
  call_sign : ℕ → Callee → Sign
  none_sign : Sign
  more_sign : Sign

-- the signs of an expression, before others
abbrev mutual
  pub signs : Expression → List Sign → List Sign
  signs (text at bytes) others = text_sign at bytes ∷ others
  signs (whole at n) others = whole_sign at n ∷ others
  signs (truth at b) others = truth_sign at b ∷ others
  signs (request at column path) others = request_sign at column path ∷ others
  signs (policy at column) others = policy_sign at column ∷ others
  signs (evaluated at column) others = evaluated_sign at column ∷ others
  signs (negation at e) others = signs e (negation_sign at ∷ others)
  signs (opposite at e) others = signs e (opposite_sign at ∷ others)
  signs (binary at op e f) others = signs e (signs f (binary_sign at op ∷ others))
  signs (among at e es) others = signs e (all_signs es (among_sign at ∷ others))
  signs (call at callee es) others = all_signs es (call_sign at callee ∷ others)

  pub all_signs : Expressions → List Sign → List Sign
  all_signs no_more others = none_sign ∷ others
  all_signs (one_more e es) others = signs e (all_signs es (more_sign ∷ others))

-- expressions, and lists of them, that wait for a sign
pub record Waiting : Type 0 where
  pub single : List Expression
  pub lists : List Expressions

abbrev pub waiting : List Expression → List Expressions → Waiting
waiting single lists = record { single = single; lists = lists }

abbrev pub with_one : (Expression → Expression) → List Expression → List Expressions → Waiting
with_one make [] lists = waiting [] lists
with_one make (e ∷ single) lists = waiting (make e ∷ single) lists

abbrev pub with_two : (Expression → Expression → Expression) → List Expression → List Expressions → Waiting
with_two make [] lists = waiting [] lists
with_two make (f ∷ []) lists = waiting [] lists
with_two make (f ∷ e ∷ single) lists = waiting (make e f ∷ single) lists

abbrev pub with_list : (Expressions → Expression) → List Expression → List Expressions → Waiting
with_list make single [] = waiting single []
with_list make single (es ∷ lists) = waiting (make es ∷ single) lists

abbrev pub with_both : (Expression → Expressions → Expression) → List Expression → List Expressions → Waiting
with_both make [] lists = waiting [] lists
with_both make (e ∷ single) [] = waiting single []
with_both make (e ∷ single) (es ∷ lists) = waiting (make e es ∷ single) lists

abbrev pub with_more : List Expression → List Expressions → Waiting
with_more [] lists = waiting [] lists
with_more (e ∷ single) [] = waiting single []
with_more (e ∷ single) (es ∷ lists) = waiting single (one_more e es ∷ lists)

-- what waits after one sign
abbrev pub after_sign : Sign → Waiting → Waiting
after_sign (text_sign at bytes) w = waiting (text at bytes ∷ w.single) w.lists
after_sign (whole_sign at n) w = waiting (whole at n ∷ w.single) w.lists
after_sign (truth_sign at b) w = waiting (truth at b ∷ w.single) w.lists
after_sign (request_sign at column path) w = waiting (request at column path ∷ w.single) w.lists
after_sign (policy_sign at column) w = waiting (policy at column ∷ w.single) w.lists
after_sign (evaluated_sign at column) w = waiting (evaluated at column ∷ w.single) w.lists
after_sign (negation_sign at) w = with_one (negation at) w.single w.lists
after_sign (opposite_sign at) w = with_one (opposite at) w.single w.lists
after_sign (binary_sign at op) w = with_two (binary at op) w.single w.lists
after_sign (among_sign at) w = with_both (among at) w.single w.lists
after_sign (call_sign at callee) w = with_list (call at callee) w.single w.lists
after_sign none_sign w = waiting w.single (no_more ∷ w.lists)
after_sign more_sign w = with_more w.single w.lists

abbrev pub after_signs : List Sign → Waiting → Waiting
after_signs [] w = w
after_signs (s ∷ others) w = after_signs others (after_sign s w)

abbrev pub first_or : List Expression → Expression
first_or [] = truth 0 false
first_or (e ∷ single) = e

mutual
  after_signs-signs : (e : Expression) (others : List Sign) (single : List Expression) (lists : List Expressions) → after_signs (signs e others) (waiting single lists) ≡ after_signs others (waiting (e ∷ single) lists)
  after_signs-signs (text at bytes) others single lists = refl
  after_signs-signs (whole at n) others single lists = refl
  after_signs-signs (truth at b) others single lists = refl
  after_signs-signs (request at column path) others single lists = refl
  after_signs-signs (policy at column) others single lists = refl
  after_signs-signs (evaluated at column) others single lists = refl
  after_signs-signs (negation at e) others single lists = after_signs-signs e (negation_sign at ∷ others) single lists
  after_signs-signs (opposite at e) others single lists = after_signs-signs e (opposite_sign at ∷ others) single lists
  after_signs-signs (binary at op e f) others single lists =
      after_signs-signs e (signs f (binary_sign at op ∷ others)) single lists ∙ after_signs-signs f (binary_sign at op ∷ others) (e ∷ single) lists
  after_signs-signs (among at e es) others single lists =
      after_signs-signs e (all_signs es (among_sign at ∷ others)) single lists ∙ after_signs-all es (among_sign at ∷ others) (e ∷ single) lists
  after_signs-signs (call at callee es) others single lists = after_signs-all es (call_sign at callee ∷ others) single lists

  after_signs-all : (es : Expressions) (others : List Sign) (single : List Expression) (lists : List Expressions) → after_signs (all_signs es others) (waiting single lists) ≡ after_signs others (waiting single (es ∷ lists))
  after_signs-all no_more others single lists = refl
  after_signs-all (one_more e es) others single lists =
      after_signs-signs e (all_signs es (more_sign ∷ others)) single lists ∙ after_signs-all es (more_sign ∷ others) (e ∷ single) lists

-- an expression is written as its signs, and read back from them
abbrev pub written : Expression → List Sign
written e = signs e []

abbrev pub read_back : List Sign → Expression
read_back all = first_or (after_signs all (waiting [] [])).single

pub read_back-written : (e : Expression) → read_back (written e) ≡ e
read_back-written e = ap (λ (w : Waiting). first_or w.single) (after_signs-signs e [] [] [])

-- expressions are told apart as lists of signs are
abbrev pub expression_code : Coded Sign → Coded Expression
expression_code signs_code = code_by (List Sign) (coded_list signs_code) written read_back read_back-written
