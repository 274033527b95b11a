-- What a program keeps of its plan, and what must hold of a request so that it serves.
use Rattle.std.specs.Prelude.{◌≡◌, ℕ, ◌-◌, ◌==◌, ◌&&◌, Bool, List, [], ◌∷◌, ◌++◌, length, map, Option, Some, None, is_some, option_and_then, option_map, slice_get, nat_le, nat_lt}
use Rattle.std.specs.Borrow.{Bor}
use Rattle.std.specs.List.{list_all}
use Rattle.perm_base.specs.declared.shapes.Shapes.{Shapes}
use Rattle.perm_value.specs.Datum.{Datum}
use Rattle.perm_value.specs.Seen.{datum}
use Rattle.perm_value.specs.declared.value.Value.{Value}
use Rattle.matcher_read.specs.Expression.{Expression, call, Expressions, no_more, one_more, expression}
use Rattle.matcher_read.specs.declared.tree.Tree.{Tree}
use Rattle.model_conf.specs.ModelText.{ModelParts}
use Rattle.model_conf.specs.Shapes.{place_of}
use Rattle.model_conf.specs.Uses.{first_undeclared, uses}
use Rattle.matcher_meaning.specs.Calls.{text_of}
use Rattle.decision.specs.Plans.{Asked, Fitted, Fitting, Pair, Plan, Questioned, asked_column, by_pattern, by_roles, by_texts, conjuncts, first_question, key_of, pairs_in, plan_of, quiet_front}
use Rattle.decision.specs.declared.plan.AskedColumns.{AskedColumns}
use Rattle.decision.specs.declared.plan.By.{By}
use Rattle.decision.specs.declared.plan.By.TheVariants as by
use Rattle.decision.specs.declared.parts.FittedTree.{FittedTree}
use Rattle.decision.specs.declared.plan.FittingColumns.{FittingColumns}
use Rattle.decision.specs.declared.plan.KeptPlan.{KeptPlan}
use Rattle.decision.specs.declared.plan.EqualColumns.{EqualColumns}
use Rattle.decision.specs.declared.parts.QuestionTree.{QuestionTree}
use Rattle.decision.specs.declared.parts.Columns.{Columns}

abbrev pub column_before : Option (List ℕ) → List (List ℕ) → List (List ℕ)
column_before (Some column) columns = column ∷ columns
column_before None columns = columns

-- the columns of the request among these, without a path
abbrev pub asked_among : Expressions → List (List ℕ)
asked_among no_more = []
asked_among (one_more e es) = column_before (asked_column e) (asked_among es)

-- those among the arguments of a call
abbrev pub asked_of : Expression → List (List ℕ)
asked_of (call at callee es) = asked_among es
asked_of _ = []

-- those of parts
abbrev pub asked_in : List Expression → List (List ℕ)
asked_in [] = []
asked_in (e ∷ es) = asked_of e ++ asked_in es

-- the parts that count for a plan, and the columns of the request that have to be texts for them
abbrev pub parts_of_plan : ModelParts → List Expression
parts_of_plan model = quiet_front (conjuncts model.matcher)

abbrev pub names_of : ModelParts → List (List ℕ)
names_of model = asked_in (parts_of_plan model)

-- ---- what is kept, as the definitions say it

abbrev pub columns_seen : Columns → List ℕ × List ℕ
columns_seen columns = (columns.request.now, columns.policy.now)

abbrev pub fitted_seen : FittedTree → Fitted
fitted_seen is = record { called = is.called; kind = is.kind; asked = is.columns.request.now; column = is.columns.policy.now }

abbrev pub question_seen : QuestionTree → Questioned
question_seen is = record { number = is.relation; asked = is.columns.request.now; column = is.columns.policy.now; domain = option_map (λ (domain : Bor (List ℕ)). domain.now) is.domain }

abbrev pub pair_seen : EqualColumns → Pair
pair_seen pair = record { request = pair.request; policy = pair.policy }

abbrev pub fitting_seen : FittingColumns → Fitting
fitting_seen is = record { request = is.request; pattern = is.pattern }

abbrev pub asked_seen : AskedColumns → Asked
asked_seen is = record { number = is.relation; request = is.request; policy = is.policy; domain = is.domain }

abbrev pub plan_seen : List EqualColumns → By → Plan
plan_seen pairs by.Texts = by_texts (map pair_seen pairs)
plan_seen pairs (by.Pattern is) = by_pattern (map pair_seen pairs) (fitting_seen is)
plan_seen pairs (by.Roles is) = by_roles (asked_seen is)

-- the expressions of trees
abbrev pub seen : List (Bor Tree) → List Expression
seen trees = map (λ (tree : Bor Tree). expression tree.now) trees

-- so many pairs are all of so many parts, or all but a question
abbrev pub are_plain : ℕ → Option Asked → ℕ → Bool
are_plain pairs None parts = pairs == parts
are_plain pairs (Some question) parts = nat_lt pairs parts && (parts - pairs) == 1

-- the plan of the model, its key, and the places of the request's columns that have to be texts
pub record IsPlan (model : ModelParts) (kept : KeptPlan) : Type 0 where
  pub plan : plan_of model ≡ Some (plan_seen kept.pairs.items kept.by)
  pub key : kept.key ≡ key_of (plan_seen kept.pairs.items kept.by)
  pub declared : first_undeclared model.request model.policy model.relations (uses model.matcher) ≡ None
  pub names : kept.names.items ≡ map (place_of model.request) (names_of model)
  pub pairs : map pair_seen kept.pairs.items ≡ pairs_in model (parts_of_plan model)
  pub question : option_map asked_seen kept.question ≡ first_question model (parts_of_plan model)
  pub plain : kept.plain ≡ are_plain (length (map pair_seen kept.pairs.items)) (option_map asked_seen kept.question) (length (conjuncts model.matcher))

-- these, or that the model has no plan
abbrev pub IsPlanOf : ModelParts → Option KeptPlan → Type 0
IsPlanOf model None = plan_of model ≡ None
IsPlanOf model (Some kept) = IsPlan model kept

-- what a request has at a place
abbrev pub value_at : List Datum → Option ℕ → Option Datum
value_at values place = option_and_then (λ at. slice_get values at) place

-- it is a text
abbrev pub has_text_at : List Datum → Option ℕ → Bool
has_text_at values place = is_some (option_and_then text_of (value_at values place))

-- the plan serves for a request: it has as many values as the model wants, rows have the columns of the model, and each text that the parts want is there
abbrev pub serves : ModelParts → Shapes → List Value → KeptPlan → Bool
serves model shapes values kept = length values == length model.request && nat_le (length model.policy) shapes.columns && list_all (has_text_at (map datum values)) kept.names.items
