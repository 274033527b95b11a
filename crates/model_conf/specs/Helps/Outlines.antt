-- What the steps give that read the values of entries; only private functions cite this.
use Rattle.std.specs.Prelude.{◌≡◌, ◌≢◌, ℕ, List, Some, codes, Result, Ok, Err}
use Rattle.effect_fold.specs.declared.effect.Effect.{Effect}
use Rattle.matcher_read.specs.Expression.{Expression}
use Rattle.matcher_read.specs.Faults.{IsFault}
use Rattle.matcher_read.specs.Matcher.{IsMatcher}
use Rattle.matcher_read.specs.declared.fault.MatcherFault.{MatcherFault}
use Rattle.model_conf.specs.Columns.{columns_in}
use Rattle.model_conf.specs.Faults.{IsEntryFault, first_missing}
use Rattle.model_conf.specs.Kept.{IsPartOfLine}
use Rattle.model_conf.specs.ModelText.{Values, HasEffect}
use Rattle.model_conf.specs.Relations.{value_of, relations_of}
use Rattle.model_conf.specs.Sections.{Entry}
use Rattle.model_conf.specs.declared.fault.ModelFault.{ModelFault}
use Rattle.model_conf.specs.declared.fault.ModelFault.TheVariants as fault
use Rattle.model_conf.specs.declared.key.Key.{Key}
use Rattle.model_conf.specs.declared.outline.Outline.{Outline}
use Rattle.model_conf.specs.declared.outline.Values.{Values as Kept}

abbrev pub values_seen : Kept → Values
values_seen kept = record { request = kept.request.now; policy = kept.policy.now; effect = kept.effect.now; matcher = kept.matcher.now }

-- the fault of the first key that no entry has
abbrev pub IsMissingIn : List Entry → ModelFault → Type 0
IsMissingIn entries stop = (key : Key) × (first_missing entries ≡ Some key) × (stop ≡ fault.Missing key)

-- what was read of all values but the matcher
pub record IsOutline (entries : List Entry) (values : Values) (outline : Outline) : Type 0 where
  pub has : HasEffect entries values outline.effect
  pub request : outline.request ≡ columns_in values.request
  pub policy : outline.policy ≡ columns_in values.policy
  pub relations : outline.relations.items ≡ relations_of entries

-- what comes of reading them; a fault says that they are not in order
abbrev pub OutlinesOf : List Entry → Values → Result Outline ModelFault → Type 0
OutlinesOf entries values (Ok outline) = IsOutline entries values outline
OutlinesOf entries values (Err stop) = stop ≢ fault.NoMemory → IsEntryFault entries stop × ((effect : Effect) → ¬ (HasEffect entries values effect))

-- the value of the matcher's key can be a matcher's text
abbrev pub HasTextOfMatcher : List Entry → Type 0
HasTextOfMatcher entries = (text : List ℕ) → value_of entries (codes "m") ≡ Some text → IsPartOfLine text

-- a text says one matcher, or has one fault, and not both
pub record IsSettled (text : List ℕ) : Type 0 where
  pub once : (e f : Expression) → IsMatcher text e → IsMatcher text f → e ≡ f
  pub one_fault : (f g : MatcherFault) → IsFault text f → IsFault text g → f ≡ g
  pub apart : (f : MatcherFault) (e : Expression) → IsFault text f → ¬ (IsMatcher text e)
