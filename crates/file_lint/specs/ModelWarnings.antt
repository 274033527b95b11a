-- The warnings of a model: what loads and then surprises, by the nodes of its matcher and by its columns.
use Rattle.std.specs.Prelude.{ℕ, ◌-◌, ◌==◌, ◌&&◌, ◌||◌, Bool, true, false, is_some, not, List, [], ◌∷◌, ◌++◌, codes, flat_map, Option, Some, None, if◌then◌else◌}
use Rattle.std.specs.Option.{option_map_or}
use Rattle.matcher_read.specs.Expression.{Expression, text, binary, call, function, Expressions}
use Rattle.matcher_read.specs.declared.tree.Function.{Function}
use Rattle.matcher_read.specs.declared.tree.Function.TheVariants.{KeyMatch2, RegexMatch}
use Rattle.matcher_read.specs.declared.tree.Operator.{Operator}
use Rattle.matcher_read.specs.declared.tree.Operator.TheVariants.{Plus}
use Rattle.model_conf.specs.ModelText.{ModelParts}
use Rattle.model_conf.specs.Shapes.{is_ranked}
use Rattle.perm_base.specs.FieldLine.{begins_with}
use Rattle.text_parts.specs.Lines.{has_byte}
use Rattle.file_lint.specs.Findings.{finding}
use Rattle.file_lint.specs.Nodes.{nodes_of, column_place, second_of}
use Rattle.file_lint.specs.Places.{place_of_value}
use Rattle.file_lint.specs.declared.finding.Finding.{Finding}
use Rattle.file_lint.specs.declared.finding.Level.TheVariants.{Warning}
use Rattle.file_lint.specs.declared.places.Place.{Place}

-- the node is a text
abbrev pub is_text : Expression → Bool
is_text (text at bytes) = true
is_text _ = false

-- `w`, `d` or `b`
abbrev pub is_lower_class : ℕ → Bool
is_lower_class byte = byte == 119 || byte == 100 || byte == 98

-- one of them in upper case
abbrev pub is_upper_class : ℕ → Bool
is_upper_class byte = byte == 87 || byte == 68 || byte == 66

abbrev pub is_class : ℕ → Bool
is_class byte = is_lower_class byte || is_upper_class byte

-- `\`, and one of them behind it
abbrev pub is_class_here : ℕ → List ℕ → Bool
is_class_here byte behind = byte == 92 && begins_with is_class behind

-- one of them stands behind a `\` in the text
abbrev pub has_class : List ℕ → Bool
has_class [] = false
has_class (byte ∷ bytes) = is_class_here byte bytes || has_class bytes

-- the node is a text that holds one
abbrev pub has_class_in : Expression → Bool
has_class_in (text at bytes) = has_class bytes
has_class_in _ = false

-- the node is a text that holds `{`
abbrev pub has_brace_in : Expression → Bool
has_brace_in (text at bytes) = has_byte 123 bytes
has_brace_in _ = false

-- the second argument of a call passes the test
abbrev pub second_is : (Expression → Bool) → Expressions → Bool
second_is test es = option_map_or test (second_of es) false

abbrev pub warning_at : Place → List ℕ → Finding
warning_at at words = finding at.line at.column Warning words

abbrev pub plus_words : List ℕ
plus_words = codes "`+` adds whole numbers: of a text it fails, and does not join"

abbrev pub class_words : List ℕ
class_words = codes "`\\w`, `\\d` and `\\b` are those of Unicode here, and those of ASCII in Casbin for Go"

abbrev pub brace_words : List ℕ
brace_words = codes "`{` is no sign of keyMatch2: write `:name`, or ask keyMatch3"

abbrev pub priority_words : List ℕ
priority_words = codes "the column priority ranks no rules: it does where it is the first, and the effect is `priority(p.eft) || deny`"

-- where a node surprises, and how
abbrev pub told_if : Bool → ℕ → List ℕ → Option (ℕ × List ℕ)
told_if is at words = if is then Some (at, words) else None

abbrev pub told_of_operator : ℕ → Operator → Bool → Option (ℕ × List ℕ)
told_of_operator at Plus texts = told_if texts at plus_words
told_of_operator at _ texts = None

abbrev pub told_of_call : ℕ → Function → Expressions → Option (ℕ × List ℕ)
told_of_call at RegexMatch es = told_if (second_is has_class_in es) at class_words
told_of_call at KeyMatch2 es = told_if (second_is has_brace_in es) at brace_words
told_of_call at _ es = None

abbrev pub told_of : Expression → Option (ℕ × List ℕ)
told_of (binary at op left right) = told_of_operator at op (is_text left || is_text right)
told_of (call at (function called) es) = told_of_call at called es
told_of _ = None

-- the warning of these words at a byte of the matcher, or none
abbrev pub warnings_by : List ℕ → Option (ℕ × List ℕ) → List Finding
warnings_by bytes None = []
warnings_by bytes (Some told) = warning_at (place_of_value (codes "m") (told.0 - 1) bytes) told.1 ∷ []

-- the warnings of a node, at its place in the matcher
abbrev pub node_warnings : List ℕ → Expression → List Finding
node_warnings bytes e = warnings_by bytes (told_of e)

-- a column of p is named `priority`, and p is not ranked
abbrev pub is_unranked : ModelParts → Bool
is_unranked model = is_some (column_place model.policy (codes "priority")) && not (is_ranked model.effect model.policy)

abbrev pub column_warnings : List ℕ → ModelParts → List Finding
column_warnings bytes model = if is_unranked model then warning_at (place_of_value (codes "p") 0 bytes) priority_words ∷ [] else []

-- all of them
unfoldable pub model_warnings : List ℕ → ModelParts → List Finding
model_warnings bytes model = column_warnings bytes model ++ flat_map (node_warnings bytes) (nodes_of model.matcher)
