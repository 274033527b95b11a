use Rattle.std.proofs.Common.{◌≡◌, ◌∷◌, List, rules, subst}
use Rattle.policy_table.specs.declared.change.Change.{Change}
use Rattle.policy_state.proofs.LogLemmas.{Pushes, pushes_more}
use Rattle.policy_state.proofs.edits.push_all.Goals as goal

pub loop-edit-preserved : goal.loop-edit-preserved
loop-edit-preserved c =
    let rest : c.loop-edit.edit-iterator.rest.items ≡ c.in-Some.edit ∷ c.next.new.self.rest.items = search rules in
    pushes_more c.args.edits.items c.args.log.now c.in-Some.edit c.next.new.self.rest.items c.loop-edit.log c.push.new.self
    (subst (λ (l : List (List Change)). Pushes c.args.edits.items c.args.log.now l c.loop-edit.log) rest c.loop-edit.invariant)
    c.push.ensures.start c.push.ensures.tail c.push.ensures.spare c.push.ensures.stands
