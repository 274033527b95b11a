-- Tables while lines fill them: p is ranked behind the last line.
use Rattle.std.specs.Prelude.{◌≡◌, ℕ, Bool, false, List, length, if◌then◌else◌}
use Rattle.perm_base.specs.declared.shapes.Shapes.{Shapes}
use Rattle.policy_csv.specs.Policy.{SaysRule, with_entry}
use Rattle.policy_csv.specs.declared.entry.Entry.{Entry}
use Rattle.policy_table.specs.Changes.{ranked_policy}
use Rattle.policy_table.specs.Limits.{AreSound}
use Rattle.policy_table.specs.Tables.{Policy, most_tables}

-- the tables with p ranked, where it is to be
abbrev pub ranked_if : Bool → Policy → Policy
ranked_if ranked policy = if ranked then ranked_policy policy else policy

-- tables whose p is not ranked yet; once it is where the shapes say so, they are tables of the shapes within the limits
pub record IsFilled (shapes : Shapes) (policy : Policy) : Type 0 where
  pub nine : length policy.lists ≡ most_tables
  pub unranked : policy.ranked ≡ false
  pub sound : AreSound shapes (ranked_if shapes.ranked policy)

-- the text says a rule, with which the tables are these, and they are filled
pub record TookLine (shapes : Shapes) (text : List ℕ) (before after : Policy) : Type 0 where
  pub entry : Entry
  pub says : SaysRule shapes text entry
  pub tables : ranked_if shapes.ranked after ≡ with_entry entry (ranked_if shapes.ranked before)
  pub filled : IsFilled shapes after
