-- What each model keeps.
use Rattle.std.specs.Prelude.{◌≡◌, ℕ, false, List, All, map, IsTrue, IsUtf8, None}
use Rattle.std.specs.List.Sorted.{IsStrictlyIncreasing}
use Rattle.matcher_read.specs.Matcher.{IsMatcher}
use Rattle.text_parts.specs.Lines.{has_byte}
use Rattle.perm_base.specs.RoleShapes.{IsNumbered}
use Rattle.perm_base.specs.declared.shapes.Fit.TheVariants.{Exact}
use Rattle.perm_base.specs.declared.shapes.RoleShape.{RoleShape}
use Rattle.text_parts.specs.Blanks.{trimmed}
use Rattle.model_conf.specs.Columns.{AreColumns}
use Rattle.model_conf.specs.Effects.{may_have}
use Rattle.model_conf.specs.ModelText.{ModelParts}
use Rattle.model_conf.specs.Uses.{uses, first_undeclared}

-- a relation numbered 1 to 8, whose texts are compared byte by byte
pub record IsRelation (shape : RoleShape) : Type 0 where
  pub numbered : IsNumbered shape
  pub names : shape.names ≡ Exact
  pub domains : shape.domains ≡ Exact

-- relations by rising number
pub record AreRelations (relations : List RoleShape) : Type 0 where
  pub each : All IsRelation relations
  pub rising : IsStrictlyIncreasing (map (λ (shape : RoleShape). shape.number) relations)

-- a part of one line, without blanks at its ends
pub record IsPartOfLine (text : List ℕ) : Type 0 where
  pub whole_line : has_byte 10 text ≡ false
  pub trimmed_is : trimmed text ≡ text

-- columns and relations are in order, and a model may have the effect with them; the text is UTF-8 and says the matcher, and what the matcher names is declared so
pub record IsKept (model : ModelParts) : Type 0 where
  pub request : AreColumns model.request
  pub policy : AreColumns model.policy
  pub relations : AreRelations model.relations
  pub effect : IsTrue (may_have model.relations model.policy model.effect)
  pub part : IsPartOfLine model.matcher_text
  pub utf8 : IsUtf8 model.matcher_text
  pub matcher : IsMatcher model.matcher_text model.matcher
  pub declared : first_undeclared model.request model.policy model.relations (uses model.matcher) ≡ None
