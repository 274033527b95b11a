-- The first fault of a text that is no model. Each case of a fault says besides that no earlier one comes.
use Rattle.std.specs.Prelude.{◌≡◌, ℕ, ◌<◌, ◌≤◌, List, [], ◌∷◌, length, codes, Option, Some, None, IsUtf8, find, is_none}
use Rattle.effect_fold.specs.declared.effect.Effect.{Effect}
use Rattle.matcher_read.specs.Expression.{Expression}
use Rattle.matcher_read.specs.Faults.{IsFault}
use Rattle.matcher_read.specs.Matcher.{IsMatcher}
use Rattle.matcher_read.specs.declared.fault.MatcherFault.{MatcherFault}
use Rattle.model_conf.specs.Columns.{AreColumns, columns_in}
use Rattle.model_conf.specs.Effects.{model_effect}
use Rattle.model_conf.specs.ModelText.{most_bytes, Values, IsText, HasValues, HasColumns, HasEffect}
use Rattle.model_conf.specs.Relations.{value_of, relations_of, first_bad_shape}
use Rattle.model_conf.specs.Sections.{Entry, entries_of, first_fault}
use Rattle.model_conf.specs.Statements.{Statement}
use Rattle.model_conf.specs.Uses.{Use, of_request, of_policy, of_relation, uses, first_undeclared}
use Rattle.model_conf.specs.declared.fault.ModelFault.{ModelFault}
use Rattle.model_conf.specs.declared.fault.ModelFault.TheVariants as fault
use Rattle.model_conf.specs.declared.key.Key.{Key}
use Rattle.model_conf.specs.declared.key.Key.TheVariants as k

-- how a key is written
abbrev pub key_text : Key → List ℕ
key_text k.R = codes "r"
key_text k.P = codes "p"
key_text k.E = codes "e"
key_text k.M = codes "m"

-- the first of the keys that no entry has
unfoldable pub first_missing : List Entry → Option Key
first_missing entries = find (λ (key : Key). is_none (value_of entries (key_text key))) (k.R ∷ k.P ∷ k.E ∷ k.M ∷ [])

-- the fault of a use that is not declared
abbrev pub fault_of : Use → ModelFault
fault_of (of_request at column) = fault.UnknownColumn at
fault_of (of_policy at column) = fault.UnknownColumn at
fault_of (of_relation at number names) = fault.RoleUse at

-- the first fault of entries
pub data IsEntryFault (entries : List Entry) : ModelFault → Type 0 where
  missing : {key : Key} → first_missing entries ≡ Some key → IsEntryFault entries (fault.Missing key)
  request_columns : (values : Values) → HasValues entries values → ¬ (AreColumns (columns_in values.request)) → IsEntryFault entries (fault.Columns k.R)
  policy_columns : (values : Values) → HasValues entries values → AreColumns (columns_in values.request) → ¬ (AreColumns (columns_in values.policy)) → IsEntryFault entries (fault.Columns k.P)
  role_shape : (values : Values) {number : ℕ} → HasColumns entries values → first_bad_shape entries ≡ Some number → IsEntryFault entries (fault.RoleShape number)
  unknown_effect : (values : Values) → HasColumns entries values → first_bad_shape entries ≡ None
      → model_effect (relations_of entries) (columns_in values.policy) values.effect ≡ None → IsEntryFault entries fault.UnknownEffect
  matcher : (values : Values) (effect : Effect) {inner : MatcherFault} → HasEffect entries values effect → IsFault values.matcher inner → IsEntryFault entries (fault.Matcher inner)
  undeclared : (values : Values) (effect : Effect) (e : Expression) (first : Use) {at : ModelFault} → HasEffect entries values effect → IsMatcher values.matcher e
      → first_undeclared (columns_in values.request) (columns_in values.policy) (relations_of entries) (uses e) ≡ Some first → at ≡ fault_of first → IsEntryFault entries at

-- the first fault of a text
pub data IsModelFault (bytes : List ℕ) : ModelFault → Type 0 where
  too_long : most_bytes < length bytes → IsModelFault bytes fault.TooLong
  not_utf8 : length bytes ≤ most_bytes → ¬ (IsUtf8 bytes) → IsModelFault bytes fault.NotUtf8
  at_line : (statements : List Statement) {first : ModelFault} → IsText bytes statements → first_fault [] statements ≡ Some first → IsModelFault bytes first
  behind_lines : (statements : List Statement) {first : ModelFault} → IsText bytes statements → first_fault [] statements ≡ None → IsEntryFault (entries_of statements) first → IsModelFault bytes first
