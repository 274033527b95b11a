-- What a decision is asked for, as a case over the tables of its policy.
use Rattle.std.specs.Prelude.{◌≡◌, ◌≤◌, ℕ, Bool, IfSome, List, Ok, Option, Some, map, option_copied, true}
use Rattle.perm_base.specs.declared.shapes.TableId.TheVariants.{P}
use Rattle.perm_value.specs.Seen.{datum}
use Rattle.policy_state.specs.States.{tables}
use Rattle.policy_table.specs.Tables.{Fields, rows}
use Rattle.matcher_meaning.specs.Cases.{Case, at_row, where_refused}
use Rattle.matcher_meaning.specs.Comes.{TruthIs}
use Rattle.matcher_meaning.specs.Verdicts.{case_of}
use Rattle.decision.specs.Helps.KeptPlans.{IsPlan, serves}
use Rattle.decision.specs.Helps.Parts.{IsProgram}
use Rattle.decision.specs.Helps.PlainParts.{IsToldBy}
use Rattle.decision.specs.Helps.ReachedNames.{KnowsLinks}
use Rattle.decision.specs.declared.asking.Asking.{Asking}
use Rattle.decision.specs.declared.plain_parts.PlainParts.{PlainParts}
use Rattle.decision.specs.declared.plan.KeptPlan.{KeptPlan}

-- the request over the tables of the policy, without a row, and with nothing refused
abbrev pub case_in : Asking → Case
case_in asking = case_of asking.model.now asking.state.now.shapes (tables asking.state.now) (map datum asking.request.now)

-- the rows of p
abbrev pub rows_of : Asking → List Fields
rows_of asking = rows (tables asking.state.now) P

-- what it knows beside the model is that of a program
abbrev pub IsAsked : Asking → Type 0
IsAsked asking = IsProgram asking.model.now asking.code.now asking.by_row asking.effect_place asking.domain_place (option_copied asking.plan)

-- it is the plan of the model, and it serves for the request
pub record ServesFor (asking : Asking) (plan : KeptPlan) : Type 0 where
  pub kept : IsPlan asking.model.now plan
  pub able : serves asking.model.now asking.state.now.shapes asking.request.now plan ≡ true

-- what is known of the name that the rows ask about is so
abbrev pub KnowsName : Asking → Type 0
KnowsName asking = IfSome (option_copied asking.asked_name) (KnowsLinks asking.state.now)

-- what a row says to these parts is whether the matcher holds for it, whatever search is refused
abbrev pub DecideAlone : Asking → PlainParts → Type 0
DecideAlone asking parts =
    (fields : Fields) (refused : Option (ℕ × List ℕ)) (truth : Bool) → IsToldBy (case_in asking) fields parts truth
    → TruthIs (where_refused (at_row (case_in asking) (Some fields)) refused) asking.model.now.matcher (Ok truth)

-- the parts that are known to decide alone do
abbrev pub KnowsParts : Asking → Type 0
KnowsParts asking = IfSome asking.parts (DecideAlone asking)

-- all of this, and a stack of so many places has room for the code
pub record CanRun (asking : Asking) (places : ℕ) : Type 0 where
  pub program : IsAsked asking
  pub knows : KnowsName asking
  pub parts : KnowsParts asking
  pub room : asking.code.now.height ≤ places
