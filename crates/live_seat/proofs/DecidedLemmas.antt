-- What is judged over a state that stands for the edits of publishes, is judged over the tables behind them.
use Rattle.std.proofs.Common.{◌≡◌, ℕ, List, [], ◌∷◌, ◌++◌, Option, refl, sym, subst, ◌∙◌}
use Rattle.answer_lines.specs.Printed.{PrintedAnswer, printed_answer}
use Rattle.answer_lines.specs.declared.answer.Answer.TheVariants.{Decided}
use Rattle.decision.specs.Decisions.{IsJudgedWith, RefusedIn}
use Rattle.effect_fold.specs.declared.verdict.Verdict.{Verdict}
use Rattle.live_pair.specs.Seats.{IsEntered, SeatSeen, version_of}
use Rattle.live_pair.specs.Story.{edits_in}
use Rattle.live_seat.specs.Decided.{IsDecidedAt, IsExplainedAt, IsPrintedAt, tables_behind}
use Rattle.matcher_meaning.specs.Verdicts.{IsJudged}
use Rattle.model_conf.specs.ModelText.{ModelParts}
use Rattle.perm_base.specs.declared.shapes.Shapes.{Shapes}
use Rattle.perm_value.specs.Datum.{Datum}
use Rattle.policy_state.specs.States.{State, StandsFor, tables}
use Rattle.policy_table.specs.Tables.{Fields, Policy}
use Rattle.policy_table.specs.declared.change.Change.{Change}
use Rattle.regex_gate.specs.Refusals.{IsRefused, Refusals}
use Rattle.session_meaning.specs.Replies.{rule_of}

-- what holds of a state's shapes and tables holds of the pair's shapes and the tables behind the front that it stands for
pub at_front : (shapes : Shapes) (opening : Policy) (front : List (List (List Change))) (state : State) → state.shapes ≡ shapes → StandsFor state opening (edits_in front) → (Holds : Shapes → Policy → Type 0) → Holds state.shapes (tables state)
    → Holds shapes (tables_behind opening front)
at_front shapes opening front state shapes-is stands Holds is =
    subst (λ (s : Shapes). Holds s (tables_behind opening front)) shapes-is (subst (Holds state.shapes) stands.tables is)

module _ (model : ModelParts) (shapes : Shapes) (opening : Policy) (values : List Datum) (before now : Refusals) (old inside new : SeatSeen) (state : State) (entered : IsEntered old inside) (left : new ≡ inside)
    (shapes-is : state.shapes ≡ shapes) (stands : StandsFor state opening (edits_in inside.front)) where
  -- a verdict over that state
  pub decided_at : (version : ℕ) (verdict : Verdict) → version ≡ version_of inside.front → IsJudged model state.shapes (tables state) values (IsRefused before now) verdict
      → IsJudgedWith model state.shapes (tables state) values (RefusedIn model.effect before now) verdict
      → IsDecidedAt model shapes opening values before now old new (record { version = version; verdict = verdict })
  decided_at version verdict version-is judged refused = subst (λ (seat : SeatSeen). IsDecidedAt model shapes opening values before now old seat (record { version = version; verdict = verdict })) (sym left) (record {
    entered = entered;
    version_is = version-is ∙ sym entered.last_is;
    judged = at_front shapes opening inside.front state shapes-is stands (λ (s : Shapes) (policy : Policy). IsJudged model s policy values (IsRefused before now) verdict) judged;
    refused = at_front shapes opening inside.front state shapes-is stands (λ (s : Shapes) (policy : Policy). IsJudgedWith model s policy values (RefusedIn model.effect before now) verdict) refused;
  })

  -- with its rule
  pub explained_at : (version : ℕ) (verdict : Verdict) (rule : Option Fields) → version ≡ version_of inside.front → IsJudged model state.shapes (tables state) values (IsRefused before now) verdict
      → IsJudgedWith model state.shapes (tables state) values (RefusedIn model.effect before now) verdict → rule ≡ rule_of (tables state) verdict
      → IsExplainedAt model shapes opening values before now old new (record { version = version; verdict = verdict }, rule)
  explained_at version verdict rule version-is judged refused rule-is = record {
    decided = decided_at version verdict version-is judged refused;
    rule_is = subst (λ (seat : SeatSeen). rule ≡ rule_of (tables_behind opening seat.front) verdict) (sym left)
        (at_front shapes opening inside.front state shapes-is stands (λ (s : Shapes) (policy : Policy). rule ≡ rule_of policy verdict) rule-is);
  }

  -- as it is printed behind replies
  pub printed_at : (version : ℕ) (verdict : Verdict) (replies all : List PrintedAnswer) → version ≡ version_of inside.front → IsJudged model state.shapes (tables state) values (IsRefused before now) verdict
      → IsJudgedWith model state.shapes (tables state) values (RefusedIn model.effect before now) verdict → all ≡ replies ++ printed_answer (Decided version verdict (rule_of (tables state) verdict)) ∷ []
      → IsPrintedAt model shapes opening values before now old new replies all
  printed_at version verdict replies all version-is judged refused added-is = record {
    told = (record { version = version; verdict = verdict }, rule_of (tables state) verdict);
    explained = explained_at version verdict (rule_of (tables state) verdict) version-is judged refused refl;
    added = added-is;
  }
