-- The parts of a matcher's conjunction, each as the matcher of a model of its own.
use Rattle.std.specs.Prelude.{◌≡◌, ◌&&◌, ◌⊎◌, ℕ, Bool, true, false, if◌then◌else◌, List, [], Any}
use Rattle.std.specs.List.{AllZip}
use Rattle.matcher_read.specs.Expression.{Expression, binary}
use Rattle.matcher_read.specs.declared.tree.Operator.TheVariants.{And}
use Rattle.model_conf.specs.ModelText.{ModelParts, IsModel}
use Rattle.model_conf.specs.Printed.{printed}
use Rattle.matcher_meaning.specs.Perm.{names_policy}
use Rattle.decision.specs.Plans.{conjuncts}
use Rattle.near_miss.specs.Written.{written}

-- parts that `&&` joins
abbrev pub is_conjunction : Expression → Bool
is_conjunction (binary at And e f) = true
is_conjunction _ = false

-- a conjunction that names a column of the policy
abbrev pub is_told : Expression → Bool
is_told matcher = is_conjunction matcher && names_policy matcher

-- the parts by which rows are told: none, where the matcher is no such conjunction
abbrev pub parts_of : Expression → List Expression
parts_of matcher = if is_told matcher then conjuncts matcher else []

-- the model with another matcher, of which only the text is changed
abbrev pub with_matcher : ModelParts → List ℕ → ModelParts
with_matcher model text = record model { matcher_text = text }

-- the text of a part has only the brackets that it needs
abbrev pub part_text : Expression → List ℕ
part_text part = written false part

-- a model of its own for a part: the text of the model, with that of the part as its matcher, says it, and what is read is the part, as both show with all their operands in brackets
pub record IsPart (model : ModelParts) (part : Expression) (own : ModelParts) : Type 0 where
  pub said : IsModel (printed (with_matcher model (part_text part))) own
  pub same : written true own.matcher ≡ written true part

-- there is no such model, as where its text has more bytes than a model may have
abbrev pub HasNoModel : ModelParts → Expression → Type 0
HasNoModel model part = (own : ModelParts) → ¬ (IsPart model part own)

-- the parts of the model's matcher in their order, each as a model of its own; none, where one of them has no such model
abbrev pub AreParts : ModelParts → List ModelParts → Type 0
AreParts model own =
    AllZip (IsPart model) (parts_of model.matcher) own
    ⊎ (Any (HasNoModel model) (parts_of model.matcher) × (own ≡ []))
