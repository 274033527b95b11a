use Rattle.std.proofs.Common.{◌≡◌, ◌∙◌, ◌<◌, ℕ, All, List, ap, length, sym, subst}
use Rattle.perm_base.specs.declared.shapes.TableId.TheVariants.{P}
use Rattle.policy_table.specs.Tables.{Fields, Policy, rows}
use Rattle.matcher_meaning.specs.Order.{in_order_of, numbered_from}
use Rattle.decision.specs.Helps.Asked.{case_in, rows_of}
use Rattle.decision.specs.Helps.Covers.{Covers}
use Rattle.decision.specs.Helps.LeftOut.{LeavesOut}
use Rattle.decision.proofs.CoverLemmas.{covers_all, covers_none, covers_places, places_within}
use Rattle.decision.proofs.candidates.Candidates.of.Goals as goal
use Rattle.decision.proofs.candidates.Candidates.of.Goals.{After-rows-rows}

-- the rows are those that are asked of
same : (c : After-rows-rows) → rows c.tables-tables.result.now.policy P ≡ rows_of c.args.asking.now
same c = ap (λ (p : Policy). rows p P) c.tables-tables.ensures.policy

pub invariant_of-result : goal.invariant_of-result
invariant_of-result c = (
  c.rows-rows.ensures.few,
  subst (λ (table : List Fields). All (λ (at : ℕ). at < length table) c.in-At.places.now) (sym (same (goal.at.invariant_of-result c).After-rows-rows))
      (places_within (case_in c.args.asking.now) (rows_of c.args.asking.now) c.in-At.places.now (subst (LeavesOut (case_in c.args.asking.now) (rows_of c.args.asking.now)) c.in-At.is c.requires)),
)

pub returns-in-All : goal.returns-in-All
returns-in-All c =
    subst (λ (table : List Fields). Covers (case_in c.args.asking.now) (numbered_from 1 (rows_of c.args.asking.now)) (numbered_from 1 table)) (sym (c.rows-rows.ensures.value ∙ same (goal.at.returns-in-All c).After-rows-rows))
    (covers_all (case_in c.args.asking.now) (numbered_from 1 (rows_of c.args.asking.now)))

pub returns-in-Nothing : goal.returns-in-Nothing
returns-in-Nothing c = covers_none (case_in c.args.asking.now) (rows_of c.args.asking.now) (subst (LeavesOut (case_in c.args.asking.now) (rows_of c.args.asking.now)) c.in-Nothing.is c.requires)

pub returns-in-At : goal.returns-in-At
returns-in-At c =
    subst (λ (table : List Fields). Covers (case_in c.args.asking.now) (numbered_from 1 (rows_of c.args.asking.now)) (in_order_of c.in-At.places.now (numbered_from 1 table))) (sym (same (goal.at.returns-in-At c).After-rows-rows))
    (covers_places (case_in c.args.asking.now) (rows_of c.args.asking.now) c.in-At.places.now (subst (LeavesOut (case_in c.args.asking.now) (rows_of c.args.asking.now)) c.in-At.is c.requires))
