-- Rules that are kept as code; only private clauses cite this.
use Rattle.std.specs.Prelude.{◌≡◌, ◌⊎◌, ⊤, ℕ, ◌≤◌, List, All}
use Rattle.std.specs.Global.{Vec}
use Rattle.effect_fold.specs.declared.fault.Cause.TheVariants.{RuleText}
use Rattle.lru.specs.LruCache.{LruCache}
use Rattle.matcher_read.specs.Expression.{Expression}
use Rattle.model_conf.specs.ModelText.{ModelParts}
use Rattle.model_conf.specs.RuleText.{IsRuleText, IsNoRuleText}
use Rattle.matcher_meaning.specs.Answers.{Evaluation, fails}
use Rattle.matcher_meaning.specs.Cases.{Case}
use Rattle.matcher_meaning.specs.Comes.{RuleComesTo, all_at}
use Rattle.matcher_code.specs.Compiled.{code_of}
use Rattle.matcher_code.specs.declared.frame.Frame.{Frame}
use Rattle.matcher_code.specs.declared.no_truth.NoTruth.{NoTruth}
use Rattle.matcher_code.specs.declared.no_truth.NoTruth.TheVariants as stop
use Rattle.matcher_code.specs.declared.rule_code.RuleCode.{RuleCode}

-- how many texts are kept
abbrev pub most_texts : ℕ
most_texts = 256

-- the model has these columns and these relations
pub record IsFrameOf (frame : Frame) (model : ModelParts) : Type 0 where
  pub request : model.request ≡ frame.request
  pub policy : model.policy ≡ frame.policy
  pub relations : model.relations ≡ frame.relations.items

-- the text says a rule of the model, and this is its code, with each instruction at the place of the `eval`
pub record IsCodeOf (model : ModelParts) (text : List ℕ) (code : RuleCode) : Type 0 where
  pub rule : Expression
  pub says : IsRuleText model text rule
  pub ops : code.code.ops ≡ code_of model (all_at code.at rule)
  pub height : code.code.height ≤ 1024

-- each text stands beside the code of its rule, in each model of the frame, and there is no room for more texts
pub record AreKept (frame : Frame) (rules : LruCache (Vec ℕ) RuleCode) : Type 0 where
  pub under : (model : ModelParts) → IsFrameOf frame model → All (λ (entry : Vec ℕ × RuleCode). IsCodeOf model entry.0.items entry.1) rules.entries
  pub most : rules.cap ≡ most_texts

-- what an `eval` at this place comes to that reads this text
abbrev pub TextComesTo : Case → ℕ → List ℕ → Evaluation → Type 0
TextComesTo case at text r =
    (IsNoRuleText case.model text × (r ≡ fails RuleText at))
    ⊎ ((rule : Expression) × IsRuleText case.model text rule × RuleComesTo case at rule r)

-- why there is no code of a text for an `eval` at this place: it says no rule, or memory ran out
abbrev pub HasNoCode : ModelParts → List ℕ → ℕ → NoTruth → Type 0
HasNoCode model text at (stop.Fault failed) = IsNoRuleText model text × (failed ≡ record { cause = RuleText; at = at })
HasNoCode model text at stop.NoMemory = ⊤
