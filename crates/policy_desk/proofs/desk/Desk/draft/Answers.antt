use Rattle.std.proofs.Common.{◌≡◌, ◌<◌, true, sym, subst, rules}
use Rattle.edit_calls.specs.Admitted.{admits}
use Rattle.policy_desk.proofs.DeskLemmas.{drafted, drafted_is, one_few}
use Rattle.policy_desk.specs.Desks.{Work, edits_of}
use Rattle.policy_table.specs.Changes.{edited}
use Rattle.version_log.specs.Log.{most_versions}
use Rattle.policy_desk.proofs.desk.Desk.draft.Goals as goal

pub make-requires-clause-possible : goal.make-requires-clause-possible
make-requires-clause-possible c =
    c.admitted_edits_keep_sound.ensures.applies c.self.inside.state.shapes c.self.inside.drafts c.args.edit (subst (λ (d : Work). admits d.state.shapes d.drafts c.args.edit ≡ true) (sym c.self.view_is) c.requires.admitted)

pub make-requires-clause-few : goal.make-requires-clause-few
make-requires-clause-few c =
    let admitted : admits c.self.inside.state.shapes c.self.inside.drafts c.args.edit ≡ true = subst (λ (d : Work). admits d.state.shapes d.drafts c.args.edit ≡ true) (sym c.self.view_is) c.requires.admitted in
    one_few c.self.inside.state.shapes c.self.inside.drafts c.args.edit c.kept.ensures (c.admitted_edits_keep_sound.ensures.sound c.self.inside.state.shapes c.self.inside.drafts c.args.edit c.self.invariant.sound admitted)

pub invariant_of-self-2 : goal.invariant_of-self-2
invariant_of-self-2 c =
    let admitted : admits c.self.inside.state.shapes c.self.inside.drafts c.args.edit ≡ true = subst (λ (d : Work). admits d.state.shapes d.drafts c.args.edit ≡ true) (sym c.self.view_is) c.requires.admitted in
    let few : edits_of (record c.args.self.now { state = c.self.inside.state; pending = c.self.inside.pending.items }) < most_versions = subst (λ (d : Work). edits_of d < most_versions) (sym c.self.view_is) c.requires.few in
    let made : c.make.new.self ≡ edited c.args.edit c.self.inside.drafts = search rules in
    drafted _ c.args.edit c.push_reserved.new.self.items c.make.new.self c.self.invariant admitted
    (c.admitted_edits_keep_sound.ensures.sound c.self.inside.state.shapes c.self.inside.drafts c.args.edit c.self.invariant.sound admitted) few (search rules) made

pub returns-clause-done : goal.returns-clause-done
returns-clause-done c =
    let made : c.make.new.self ≡ edited c.args.edit c.self.inside.drafts = search rules in
    drafted_is c.args.self.now _ c.args.edit c.push_reserved.new.self.items c.make.new.self c.self.view_is (search rules) made
