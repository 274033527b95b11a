-- Frames: what a text says and the code of its rule are the same in each model of a frame; and when two frames are one.
use Rattle.std.proofs.Common.{◌≡◌, ℕ, ◌+◌, ◌&&◌, List, [], ◌∷◌, ◌++◌, eqb, None, refl, sym, ap, ap₂, subst, ◌∙◌}
use Rattle.std.specs.Cmp.{booleans_Decides}
use Rattle.std.proofs.Math.Bool.{beq}
use Rattle.std.specs.Bool.{Decides}
use Rattle.std.proofs.lemmas.Bool.Decides.{Decides-and, Decides-eqb, Decides-like}
use denote.Enum.Bare.{same_true, sameb, true_same}
use Rattle.matcher_read.specs.Expression.{Expression, text, whole, truth, request, policy, evaluated, negation, opposite, binary, among, call, Expressions, no_more, one_more, count, place}
use Rattle.model_conf.specs.ModelText.{ModelParts}
use Rattle.model_conf.specs.Uses.{first_undeclared, uses}
use Rattle.matcher_meaning.specs.Comes.{all_at}
use Rattle.perm_base.specs.contracts.shapes.Fit.{the_type}
use Rattle.perm_base.specs.declared.shapes.Fit.{Fit}
use Rattle.perm_base.specs.declared.shapes.RoleShape.{RoleShape}
use Rattle.matcher_code.specs.Compiled.{op_at, column_number, attributes, skip, op_or_none, right_begins, joins, calls, behind, compiled, members, arguments}
use Rattle.matcher_code.specs.Helps.Kept.{IsFrameOf, IsCodeOf}
use Rattle.matcher_code.specs.declared.frame.Frame.{Frame}
use Rattle.matcher_code.specs.declared.op.Op.{Op}
use Rattle.matcher_code.specs.declared.op.Instruction.TheVariants as i
use Rattle.matcher_code.specs.declared.rule_code.RuleCode.{RuleCode}

-- ---- the code of an expression, by the columns

abbrev SameColumns : ModelParts → ModelParts → Type 0
SameColumns model other = (other.request ≡ model.request) × (other.policy ≡ model.policy)

mutual
  compiled_alike : (model other : ModelParts) → SameColumns model other → (start : ℕ) (e : Expression) → compiled other start e ≡ compiled model start e
  compiled_alike model other same start (text at bytes) = refl
  compiled_alike model other same start (whole at n) = refl
  compiled_alike model other same start (truth at b) = refl
  compiled_alike model other same start (request at column path) = ap (λ (columns : List (List ℕ)). op_at at (i.Request (column_number columns column)) ∷ attributes at path) same.0
  compiled_alike model other same start (policy at column) = ap (λ (columns : List (List ℕ)). op_at at (i.Policy (column_number columns column)) ∷ []) same.1
  compiled_alike model other same start (evaluated at column) = ap (λ (columns : List (List ℕ)). op_at at (i.Eval (column_number columns column)) ∷ []) same.1
  compiled_alike model other same start (negation at e) = ap (λ (ops : List Op). ops ++ op_at at i.Not ∷ []) (compiled_alike model other same start e)
  compiled_alike model other same start (opposite at e) = ap (λ (ops : List Op). ops ++ op_at at i.Negate ∷ []) (compiled_alike model other same start e)
  compiled_alike model other same start (binary at op e f) =
      ap₂ (λ (left right : List Op). left ++ (op_or_none at (skip op (behind start (binary at op e f))) ++ (right ++ op_at at (joins op) ∷ [])))
      (compiled_alike model other same start e) (compiled_alike model other same (right_begins op (behind start e)) f)
  compiled_alike model other same start (among at e es) =
      ap₂ (λ (value others : List Op). value ++ (others ++ op_at at i.Miss ∷ []))
      (compiled_alike model other same start e) (members_alike model other same at (behind start (among at e es)) (behind start e) es)
  compiled_alike model other same start (call at callee es) = ap (λ (ops : List Op). ops ++ op_at at (calls callee (count es)) ∷ []) (arguments_alike model other same start es)

  members_alike : (model other : ModelParts) → SameColumns model other → (at to start : ℕ) (es : Expressions) → members other at to start es ≡ members model at to start es
  members_alike model other same at to start no_more = refl
  members_alike model other same at to start (one_more e es) =
      ap₂ (λ (first rest : List Op). first ++ op_at at (i.Member to) ∷ rest) (compiled_alike model other same start e) (members_alike model other same at to (behind start e + 1) es)

  arguments_alike : (model other : ModelParts) → SameColumns model other → (start : ℕ) (es : Expressions) → arguments other start es ≡ arguments model start es
  arguments_alike model other same start no_more = refl
  arguments_alike model other same start (one_more e es) =
      ap₂ (λ (first rest : List Op). first ++ rest) (compiled_alike model other same start e) (arguments_alike model other same (behind start e) es)

-- ---- models of one frame

declared_alike : (model other : ModelParts) (e : Expression) → other.request ≡ model.request → other.policy ≡ model.policy → other.relations ≡ model.relations
    → first_undeclared model.request model.policy model.relations (uses e) ≡ None → first_undeclared other.request other.policy other.relations (uses e) ≡ None
declared_alike model other e requests policies relations none =
    subst (λ (shapes : List RoleShape). first_undeclared other.request other.policy shapes (uses e) ≡ None) (sym relations)
    (subst (λ (columns : List (List ℕ)). first_undeclared other.request columns model.relations (uses e) ≡ None) (sym policies)
    (subst (λ (columns : List (List ℕ)). first_undeclared columns model.policy model.relations (uses e) ≡ None) (sym requests) none))

-- the code of a text in one model is its code in each other
pub code_alike : (frame : Frame) (model other : ModelParts) (bytes : List ℕ) (code : RuleCode) → IsFrameOf frame model → IsFrameOf frame other → IsCodeOf model bytes code → IsCodeOf other bytes code
code_alike frame model other bytes code first second is =
    let requests : other.request ≡ model.request = second.request ∙ sym first.request in
    let policies : other.policy ≡ model.policy = second.policy ∙ sym first.policy in
    let relations : other.relations ≡ model.relations = second.relations ∙ sym first.relations in
    let seen = all_at code.at is.rule in
    record {
      rule = is.rule;
      says = record { matcher = is.says.matcher; no_eval = is.says.no_eval; declared = declared_alike model other is.rule requests policies relations is.says.declared };
      ops = is.ops ∙ sym (ap (λ (ops : List Op). ops ++ op_at (place seen) i.NeedTruth ∷ []) (compiled_alike model other (requests, policies) 0 seen));
      height = is.height;
    }

-- ---- relations that are equal

fit-Decides : (a b : Fit) → Decides (sameb the_type a b) (a ≡ b)
fit-Decides a b = (λ e. same_true the_type tt a b e, λ e. true_same the_type a b e)

pub shape-Decides : (a b : RoleShape) → Decides (eqb a.number b.number && (beq a.with_domain b.with_domain && (sameb the_type a.names b.names && sameb the_type a.domains b.domains))) (a ≡ b)
shape-Decides a b =
    Decides-like _ (λ same. λ i. record { number = same.0 i; with_domain = same.1.0 i; names = same.1.1.0 i; domains = same.1.1.1 i })
    (λ e. (ap (λ (s : RoleShape). s.number) e, (ap (λ (s : RoleShape). s.with_domain) e, (ap (λ (s : RoleShape). s.names) e, ap (λ (s : RoleShape). s.domains) e))))
    (Decides-and _ _ (Decides-eqb a.number b.number) (Decides-and _ _ (booleans_Decides a.with_domain b.with_domain) (Decides-and _ _ (fit-Decides a.names b.names) (fit-Decides a.domains b.domains))))
