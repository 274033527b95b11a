-- Rule texts: what a column holds that a matcher reads by `eval` (Casbin, attributes of a request: eval).
use Rattle.std.specs.Prelude.{◌≡◌, ℕ, Bool, false, List, None}
use Rattle.matcher_read.specs.Expression.{Expression, some_node}
use Rattle.matcher_read.specs.Kinds.{is_of}
use Rattle.matcher_read.specs.Matcher.{IsMatcher}
use Rattle.matcher_read.specs.declared.kinds.NodeKind.TheVariants.{Eval}
use Rattle.model_conf.specs.ModelText.{ModelParts}
use Rattle.model_conf.specs.Uses.{uses, first_undeclared}

-- an `eval` stands in the expression
abbrev pub has_eval : Expression → Bool
has_eval e = some_node (λ node. is_of node Eval) e

-- the text says this rule: a matcher without `eval`, of which the model declares each column and each relation, the relation with its number of names
pub record IsRuleText (model : ModelParts) (bytes : List ℕ) (e : Expression) : Type 0 where
  pub matcher : IsMatcher bytes e
  pub no_eval : has_eval e ≡ false
  pub declared : first_undeclared model.request model.policy model.relations (uses e) ≡ None

-- the text says no rule
abbrev pub IsNoRuleText : ModelParts → List ℕ → Type 0
IsNoRuleText model bytes = (e : Expression) → ¬ (IsRuleText model bytes e)
