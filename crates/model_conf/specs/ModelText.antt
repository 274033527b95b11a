-- The text of a model (Casbin, model syntax).
use Rattle.std.specs.Prelude.{◌≡◌, ℕ, ◌≤◌, List, [], length, codes, Some, None, IsUtf8}
use Rattle.effect_fold.specs.declared.effect.Effect.{Effect}
use Rattle.matcher_read.specs.Expression.{Expression}
use Rattle.matcher_read.specs.Matcher.{IsMatcher}
use Rattle.perm_base.specs.declared.shapes.RoleShape.{RoleShape}
use Rattle.model_conf.specs.Columns.{AreColumns, columns_in}
use Rattle.model_conf.specs.Effects.{model_effect}
use Rattle.model_conf.specs.Relations.{value_of, relations_of, first_bad_shape}
use Rattle.model_conf.specs.Sections.{Entry, entries_of, first_fault}
use Rattle.model_conf.specs.Statements.{Statement, HasStatements}
use Rattle.model_conf.specs.Uses.{uses, first_undeclared}

-- the greatest number of bytes
abbrev pub most_bytes : ℕ
most_bytes = 65536

-- what a model says: the columns of a request and of a policy, the relations by rising number, the effect, and the matcher as text and as expression
pub record ModelParts : Type 0 where
  pub request : List (List ℕ)
  pub policy : List (List ℕ)
  pub relations : List RoleShape
  pub effect : Effect
  pub matcher_text : List ℕ
  pub matcher : Expression

-- of these parts
abbrev pub parts_of : List (List ℕ) → List (List ℕ) → List RoleShape → Effect → List ℕ → Expression → ModelParts
parts_of request policy relations effect matcher_text matcher =
    record { request = request; policy = policy; relations = relations; effect = effect; matcher_text = matcher_text; matcher = matcher }

-- the values of the four keys that each model has
pub record Values : Type 0 where
  pub request : List ℕ
  pub policy : List ℕ
  pub effect : List ℕ
  pub matcher : List ℕ

-- the bytes are few, are UTF-8 and have these statements
pub record IsText (bytes : List ℕ) (statements : List Statement) : Type 0 where
  pub few : length bytes ≤ most_bytes
  pub utf8 : IsUtf8 bytes
  pub said : HasStatements bytes statements

-- the four keys have these values
pub record HasValues (entries : List Entry) (values : Values) : Type 0 where
  pub request : value_of entries (codes "r") ≡ Some values.request
  pub policy : value_of entries (codes "p") ≡ Some values.policy
  pub effect : value_of entries (codes "e") ≡ Some values.effect
  pub matcher : value_of entries (codes "m") ≡ Some values.matcher

-- the four values, of which the columns are in order
pub record HasColumns (entries : List Entry) (values : Values) : Type 0 where
  pub has : HasValues entries values
  pub request : AreColumns (columns_in values.request)
  pub policy : AreColumns (columns_in values.policy)

-- all values but the matcher are in order, and this is the effect
pub record HasEffect (entries : List Entry) (values : Values) (effect : Effect) : Type 0 where
  pub has : HasColumns entries values
  pub shapes : first_bad_shape entries ≡ None
  pub effect_is : model_effect (relations_of entries) (columns_in values.policy) values.effect ≡ Some effect

-- the entries say this model
pub record SayModel (entries : List Entry) (model : ModelParts) : Type 0 where
  pub values : Values
  pub has : HasEffect entries values model.effect
  pub request : model.request ≡ columns_in values.request
  pub policy : model.policy ≡ columns_in values.policy
  pub relations : model.relations ≡ relations_of entries
  pub matcher_text : model.matcher_text ≡ values.matcher
  pub matcher : IsMatcher values.matcher model.matcher
  pub declared : first_undeclared model.request model.policy model.relations (uses model.matcher) ≡ None

-- the text says this model: each line is a header or a key line of its section, no key comes twice, and the entries say it
pub record IsModel (bytes : List ℕ) (model : ModelParts) : Type 0 where
  pub statements : List Statement
  pub text : IsText bytes statements
  pub lines : first_fault [] statements ≡ None
  pub says : SayModel (entries_of statements) model
