-- The first key that no entry has.
use Rattle.std.proofs.Common.{◌≡◌, ℕ, List, codes, Some, None, refl, sym, ◌∙◌}
use Rattle.effect_fold.specs.declared.effect.Effect.{Effect}
use Rattle.model_conf.specs.Columns.{AreColumns, columns_in}
use Rattle.model_conf.specs.Effects.{model_effect}
use Rattle.model_conf.specs.Faults.{first_missing, IsEntryFault, request_columns, policy_columns, role_shape, unknown_effect}
use Rattle.model_conf.specs.ModelText.{Values, HasValues, HasColumns, HasEffect}
use Rattle.model_conf.specs.Relations.{value_of, relations_of, first_bad_shape}
use Rattle.model_conf.specs.declared.fault.ModelFault.TheVariants as fault
use Rattle.model_conf.specs.Sections.{Entry}
use Rattle.model_conf.specs.declared.key.Key.TheVariants as k

pub missing_r : (entries : List Entry) → value_of entries (codes "r") ≡ None → first_missing entries ≡ Some k.R
unfolding first_missing
missing_r entries e = rw e refl

pub missing_p : (entries : List Entry) (r : List ℕ) → value_of entries (codes "r") ≡ Some r → value_of entries (codes "p") ≡ None → first_missing entries ≡ Some k.P
unfolding first_missing
missing_p entries r er e = rw (er, e) refl

pub missing_e : (entries : List Entry) (r p : List ℕ) → value_of entries (codes "r") ≡ Some r → value_of entries (codes "p") ≡ Some p → value_of entries (codes "e") ≡ None → first_missing entries ≡ Some k.E
unfolding first_missing
missing_e entries r p er ep e = rw (er, ep, e) refl

pub missing_m : (entries : List Entry) (r p f : List ℕ) → value_of entries (codes "r") ≡ Some r → value_of entries (codes "p") ≡ Some p → value_of entries (codes "e") ≡ Some f → value_of entries (codes "m") ≡ None → first_missing entries ≡ Some k.M
unfolding first_missing
missing_m entries r p f er ep ef e = rw (er, ep, ef, e) refl

pub none_missing : (entries : List Entry) (r p f m : List ℕ) → value_of entries (codes "r") ≡ Some r → value_of entries (codes "p") ≡ Some p → value_of entries (codes "e") ≡ Some f → value_of entries (codes "m") ≡ Some m → first_missing entries ≡ None
unfolding first_missing
none_missing entries r p f m er ep ef em = rw (er, ep, ef, em) refl

-- ---- what keeps entries from being in order

some_is_none : (number : ℕ) → Some number ≡ None → ⊥
some_is_none number e = absurd cc

none_is_some : (effect : Effect) → None ≡ Some effect → ⊥
none_is_some effect e = absurd cc

pub no_columns : (entries : List Entry) (values : Values) → HasValues entries values → ¬ (AreColumns (columns_in values.request)) → IsEntryFault entries (fault.Columns k.R) × ((effect : Effect) → ¬ (HasEffect entries values effect))
no_columns entries values has none = (request_columns values has none, λ effect is. none is.has.request)

pub no_policy : (entries : List Entry) (values : Values) → HasValues entries values → AreColumns (columns_in values.request) → ¬ (AreColumns (columns_in values.policy)) → IsEntryFault entries (fault.Columns k.P) × ((effect : Effect) → ¬ (HasEffect entries values effect))
no_policy entries values has are none = (policy_columns values has are none, λ effect is. none is.has.policy)

-- both columns are in order
pub columns_are : (entries : List Entry) (values : Values) → HasValues entries values → AreColumns (columns_in values.request) → AreColumns (columns_in values.policy) → HasColumns entries values
columns_are entries values has request policy = record { has = has; request = request; policy = policy }

pub no_shape : (entries : List Entry) (values : Values) (number : ℕ) → HasColumns entries values → Some number ≡ first_bad_shape entries → IsEntryFault entries (fault.RoleShape number) × ((effect : Effect) → ¬ (HasEffect entries values effect))
no_shape entries values number has bad = (role_shape values has (sym bad), λ effect is. some_is_none number (bad ∙ is.shapes))

pub no_effect : (entries : List Entry) (values : Values) → HasColumns entries values → None ≡ first_bad_shape entries → None ≡ model_effect (relations_of entries) (columns_in values.policy) values.effect → IsEntryFault entries fault.UnknownEffect × ((effect : Effect) → ¬ (HasEffect entries values effect))
no_effect entries values has shapes none = (unknown_effect values has (sym shapes) (sym none), λ effect is. none_is_some effect (none ∙ is.effect_is))
