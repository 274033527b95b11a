-- By what the rows of p that may match are found: the parts of the matcher which `&&` joins, as far as none of them can fail, and the plan that they give (Casbin, syntax for models: matchers).
use Rattle.std.specs.Prelude.{◌==◌, ◌&&◌, ◌||◌, ℕ, Bool, true, false, List, [], ◌∷◌, ◌++◌, map, Option, Some, None, is_some, option_and_then, option_map, if◌then◌else◌}
use Rattle.std.specs.Option.{option_or, option_to_list}
use Rattle.matcher_read.specs.Expression.{Expression, text, whole, truth, request, policy, binary, call, relation, function, Expressions, no_more, one_more, count}
use Rattle.matcher_read.specs.declared.tree.Function.{Function}
use Rattle.matcher_read.specs.declared.tree.Function.TheVariants as f
use Rattle.matcher_read.specs.declared.tree.Operator.TheVariants.{And, Equal}
use Rattle.model_conf.specs.ModelText.{ModelParts}
use Rattle.model_conf.specs.Shapes.{place_of}
use Rattle.policy_index.specs.Keys.{KeyParts}
use Rattle.policy_index.specs.declared.key.FrontColumn.{FrontColumn}
use Rattle.policy_index.specs.declared.key.FrontKind.{FrontKind}
use Rattle.policy_index.specs.declared.key.FrontKind.TheVariants as fronts

-- the parts that `&&` joins, from the left
abbrev pub conjuncts : Expression → List Expression
conjuncts (binary at And e g) = conjuncts e ++ conjuncts g
conjuncts e = e ∷ []

-- a text, a column of the request without a path, or a column of the policy
abbrev pub is_name : Expression → Bool
is_name (text at bytes) = true
is_name (request at column []) = true
is_name (policy at column) = true
is_name _ = false

-- each of these is one
abbrev pub are_names : Expressions → Bool
are_names no_more = true
are_names (one_more e es) = is_name e && are_names es

-- they are two or three such names
abbrev pub are_asked : Expressions → Bool
are_asked es = (count es == 2 || count es == 3) && are_names es

-- such a name, a whole number or a truth
abbrev pub is_operand : Expression → Bool
is_operand (whole at n) = true
is_operand (truth at b) = true
is_operand e = is_name e

-- the patterns of a function have a front; those of `regexMatch` count as if they had none, since a search may be refused
abbrev pub kind_of : Function → Option FrontKind
kind_of f.KeyMatch = Some fronts.Star
kind_of f.KeyMatch2 = Some fronts.Colon
kind_of f.KeyMatch3 = Some fronts.Brace
kind_of f.KeyMatch4 = Some fronts.Brace
kind_of f.KeyMatch5 = Some fronts.CutBrace
kind_of f.GlobMatch = Some fronts.Glob
kind_of f.RegexMatch = None
kind_of f.IpMatch = None
kind_of f.KeyGet = None
kind_of f.KeyGet2 = None
kind_of f.KeyGet3 = None

-- an equality of operands, a role question of two or three names, or such a function of two names: none of these fails where the names are texts
abbrev pub is_quiet : Expression → Bool
is_quiet (binary at Equal e g) = is_operand e && is_operand g
is_quiet (call at (relation number) es) = are_asked es
is_quiet (call at (function called) es) = is_some (kind_of called) && (count es == 2 && are_names es)
is_quiet _ = false

-- those of the parts that stand before the first which may fail
abbrev pub quiet_front : List Expression → List Expression
quiet_front [] = []
quiet_front (e ∷ es) = if is_quiet e then e ∷ quiet_front es else []

-- the column of the request that this is, without a path
abbrev pub asked_column : Expression → Option (List ℕ)
asked_column (request at column []) = Some column
asked_column _ = None

-- the column of the policy that this is
abbrev pub policy_column : Expression → Option (List ℕ)
policy_column (policy at column) = Some column
policy_column _ = None

-- a column of the request and one of the policy
abbrev pub both_columns : Expression → Expression → Option (List ℕ × List ℕ)
both_columns e g = option_and_then (λ asked. option_map (λ column. (asked, column)) (policy_column g)) (asked_column e)

-- the column of the request and that of the policy which the expression says to be equal
abbrev pub compared : Expression → Option (List ℕ × List ℕ)
compared (binary at Equal e g) = option_or (both_columns e g) (both_columns g e)
compared _ = None

-- a text of the request has to fit the pattern in a column of the policy
pub record Fitted : Type 0 where
  pub called : Function
  pub kind : FrontKind
  pub asked : List ℕ
  pub column : List ℕ

abbrev pub fitted_pair : Function → Expression → Expression → Option Fitted
fitted_pair called e g =
    option_and_then (λ (way : FrontKind). option_map (λ (columns : List ℕ × List ℕ). record { called = called; kind = way; asked = columns.0; column = columns.1 }) (both_columns e g)) (kind_of called)

abbrev pub fitted : Expression → Option Fitted
fitted (call at (function called) (one_more e (one_more g no_more))) = fitted_pair called e g
fitted _ = None

-- a name of the request has to have as its role what stands in a column of the policy, in the domain that stands in a column of the request, or without one
pub record Questioned : Type 0 where
  pub number : ℕ
  pub asked : List ℕ
  pub column : List ℕ
  pub domain : Option (List ℕ)

abbrev pub question : ℕ → Option (List ℕ) → List ℕ × List ℕ → Questioned
question number domain columns = record { number = number; asked = columns.0; column = columns.1; domain = domain }

abbrev pub questioned : Expression → Option Questioned
questioned (call at (relation number) (one_more e (one_more g no_more))) = option_map (question number None) (both_columns e g)
questioned (call at (relation number) (one_more e (one_more g (one_more d no_more)))) =
    option_and_then (λ (domain : List ℕ). option_map (question number (Some domain)) (both_columns e g)) (asked_column d)
questioned _ = None

-- what is kept of a comparison, by the places of its columns
pub record Pair : Type 0 where
  pub request : Option ℕ
  pub policy : ℕ

abbrev pub pair_of : ModelParts → List ℕ × List ℕ → Option Pair
pair_of model columns = option_map (λ (at : ℕ). record { request = place_of model.request columns.0; policy = at }) (place_of model.policy columns.1)

-- the comparisons among parts
abbrev pub pairs_in : ModelParts → List Expression → List Pair
pairs_in model [] = []
pairs_in model (e ∷ es) = option_to_list (option_and_then (pair_of model) (compared e)) ++ pairs_in model es

-- the same of a pattern
pub record Fitting : Type 0 where
  pub request : Option ℕ
  pub pattern : FrontColumn

abbrev pub fitting_of : ModelParts → Fitted → Option Fitting
fitting_of model is = option_map (λ (at : ℕ). record { request = place_of model.request is.asked; pattern = record { column = at; kind = is.kind } }) (place_of model.policy is.column)

-- the first pattern among parts
abbrev pub first_fitting : ModelParts → List Expression → Option Fitting
first_fitting model [] = None
first_fitting model (e ∷ es) = option_or (option_and_then (fitting_of model) (fitted e)) (first_fitting model es)

-- the same of a role question
pub record Asked : Type 0 where
  pub number : ℕ
  pub request : Option ℕ
  pub policy : ℕ
  pub domain : Option (Option ℕ)

abbrev pub asked_of_question : ModelParts → Questioned → Option Asked
asked_of_question model is = option_map (λ (at : ℕ). record { number = is.number; request = place_of model.request is.asked; policy = at; domain = option_map (place_of model.request) is.domain }) (place_of model.policy is.column)

-- the first role question among parts
abbrev pub first_question : ModelParts → List Expression → Option Asked
first_question model [] = None
first_question model (e ∷ es) = option_or (option_and_then (asked_of_question model) (questioned e)) (first_question model es)

-- by what rows are found: columns that equal those of the request, a pattern beside them, or the roles of a name where there is neither
pub data Plan : Type 0 where
  by_texts : List Pair → Plan
  by_pattern : List Pair → Fitting → Plan
  by_roles : Asked → Plan

abbrev pub roles_or_none : Option Asked → Option Plan
roles_or_none None = None
roles_or_none (Some asked) = Some (by_roles asked)

abbrev pub plan_by : List Pair → Option Fitting → Option Asked → Option Plan
plan_by pairs (Some fitting) asked = Some (by_pattern pairs fitting)
plan_by (pair ∷ pairs) None asked = Some (by_texts (pair ∷ pairs))
plan_by [] None asked = roles_or_none asked

-- the plan of parts, and that of a model
abbrev pub plan_in : ModelParts → List Expression → Option Plan
plan_in model es = plan_by (pairs_in model es) (first_fitting model es) (first_question model es)

abbrev pub plan_of : ModelParts → Option Plan
plan_of model = plan_in model (quiet_front (conjuncts model.matcher))

-- the columns of pairs
abbrev pub policy_places : List Pair → List ℕ
policy_places pairs = map (λ (pair : Pair). pair.policy) pairs

-- the key of the index that a plan wants
abbrev pub key_of : Plan → KeyParts
key_of (by_texts pairs) = record { columns = policy_places pairs; pattern = None }
key_of (by_pattern pairs fitting) = record { columns = policy_places pairs; pattern = Some fitting.pattern }
key_of (by_roles asked) = record { columns = asked.policy ∷ []; pattern = None }

abbrev pub index_key : ModelParts → Option KeyParts
index_key model = option_map key_of (plan_of model)
