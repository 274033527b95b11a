use Rattle.std.proofs.Common.{◌≡◌, List, subst, take, ◌∙◌, rules}
use Rattle.log_ship.proofs.AppendLemmas.{EndsAt, admitted_count, admitted_is, appended_state, ends_at}
use Rattle.log_ship.specs.Followers.{IsSameState}
use Rattle.log_ship.specs.Taken.{with_edits}
use Rattle.policy_state.specs.States.{tables}
use Rattle.policy_table.specs.declared.change.Change.{Change}
use Rattle.log_ship.proofs.appended.append_front.Goals as goal

pub returns-clause-count : goal.returns-clause-count
returns-clause-count c =
    admitted_count c.args.state.now.shapes (tables c.args.state.now) c.args.edits.now c.in_ok-count.count
    (ends_at c.args.state.now.shapes c.shapes.result.now (tables c.args.state.now) _ c.args.edits.now c.in_ok-count.count c.shapes.ensures.shapes (search rules) c.in_ok-count.ensures.few c.in_ok-count.ensures.front c.in_ok-count.ensures.next)

pub returns-clause-appended : goal.returns-clause-appended
returns-clause-appended c =
    let ends : EndsAt c.args.state.now.shapes (tables c.args.state.now) c.args.edits.now c.in_ok-count.count
    = ends_at c.args.state.now.shapes c.shapes.result.now (tables c.args.state.now) _ c.args.edits.now c.in_ok-count.count c.shapes.ensures.shapes (search rules) c.in_ok-count.ensures.few c.in_ok-count.ensures.front c.in_ok-count.ensures.next in
    let ready : IsSameState c.args.state.now c.prepare.new.self = record {
      shapes = c.prepare.ensures.shapes;
      key = c.prepare.ensures.key;
      start = c.prepare.ensures.log_start;
      tail = c.prepare.ensures.tail;
      tables_are = c.prepare.ensures.tables;
    } in
    let edits : c.in_ok-prepared.prepared.edits ≡ take c.in_ok-count.count c.args.edits.now = c.in_ok-prepared.ensures.edits in
    subst (λ (l : List (List Change)). IsSameState (with_edits l c.args.state.now) c.commit.new.self) (edits ∙ admitted_is c.args.state.now.shapes (tables c.args.state.now) c.args.edits.now c.in_ok-count.count ends)
    (appended_state c.args.state.now c.prepare.new.self c.commit.new.self c.in_ok-prepared.prepared.edits c.in_ok-prepared.prepared.start ready c.commit.ensures.shapes c.commit.ensures.key
    (c.in_ok-prepared.ensures.start ∙ c.start-start.ensures.start) c.commit.ensures.start c.commit.ensures.tail c.commit.ensures.tables)
