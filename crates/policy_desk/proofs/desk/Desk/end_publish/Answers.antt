use Rattle.std.proofs.Common.{List, subst, sym}
use Rattle.policy_desk.specs.Desks.{Work}
use Rattle.policy_desk.specs.Ready.{IsPreparedFor}
use Rattle.policy_state.specs.Ready.{AreReady}
use Rattle.policy_table.specs.declared.change.Change.{Change}
use Rattle.policy_desk.proofs.DeskLemmas.{kept_after, made_from}
use Rattle.policy_desk.proofs.desk.Desk.end_publish.Goals as goal

pub commit_parts-requires : goal.commit_parts-requires
commit_parts-requires c = record {
  ready = subst (λ (edits : List (List Change)). AreReady c.self.inside.state edits c.args.prepared) (sym c.take_all-pending.ensures.taken) (subst (λ (d : Work). IsPreparedFor d c.args.prepared) (sym c.self.view_is) c.requires.ready).state;
}

pub invariant_of-self : goal.invariant_of-self
invariant_of-self c =
    kept_after c.args.self.now _ c.args.prepared _ c.commit_parts.new.self _ c.self.view_is c.take_all-pending.ensures.taken c.take_all-pending.ensures.none c.self.invariant c.requires.ready c.commit_parts.ensures.shapes
    c.commit_parts.ensures.start c.commit_parts.ensures.tables c.commit_parts.ensures.versions

pub returns-clause-published : goal.returns-clause-published
returns-clause-published c =
    made_from c.args.self.now _ c.args.prepared _ c.commit_parts.new.self _ c.self.view_is c.take_all-pending.ensures.taken c.take_all-pending.ensures.none c.self.invariant c.requires.ready c.commit_parts.ensures.shapes
    c.commit_parts.ensures.key c.commit_parts.ensures.start c.commit_parts.ensures.stands c.commit_parts.ensures.tables c.commit_parts.ensures.versions
