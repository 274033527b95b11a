use Rattle.std.proofs.Common.{◌+◌, ◌++◌, ◌-◌, ◌∙◌, ap, drop, length, subst, sym}
use Rattle.policy_state.specs.Ready.{IsPreparedFor, Ready}
use Rattle.policy_state.specs.States.{StandsFor, tables}
use Rattle.policy_table.specs.Changes.{replay}
use Rattle.version_log.specs.Log.{versions}
use Rattle.policy_state.proofs.state.PolicyState.commit.Goals as goal

pub commit_parts-requires : goal.commit_parts-requires
commit_parts-requires c = record { ready = subst (IsPreparedFor c.args.self.now) (sym c.prepared.view_is) c.requires.ready }

pub returns-clause-start : goal.returns-clause-start
returns-clause-start c = c.commit_parts.ensures.start ∙ ap (λ (r : Ready). r.start) c.prepared.view_is

pub returns-clause-tail : goal.returns-clause-tail
returns-clause-tail c = c.commit_parts.ensures.tail ∙ ap (λ (r : Ready). drop (r.start - c.args.self.now.log.start) c.args.self.now.log.tail ++ r.edits) c.prepared.view_is

pub returns-clause-stands : goal.returns-clause-stands
returns-clause-stands c = λ opening history stands.
    subst (λ (r : Ready). StandsFor c.commit_parts.new.self opening (history ++ r.edits)) c.prepared.view_is (c.commit_parts.ensures.stands opening history stands)

pub returns-clause-tables : goal.returns-clause-tables
returns-clause-tables c = c.commit_parts.ensures.tables ∙ ap (λ (r : Ready). replay r.edits (tables c.args.self.now)) c.prepared.view_is

pub returns-clause-versions : goal.returns-clause-versions
returns-clause-versions c = c.commit_parts.ensures.versions ∙ ap (λ (r : Ready). versions c.args.self.now.log + length r.edits) c.prepared.view_is
