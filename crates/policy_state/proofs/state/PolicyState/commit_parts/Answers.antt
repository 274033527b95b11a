use Rattle.std.proofs.Common.{◌++◌, List, ap, subst, sym, ◌∙◌}
use Rattle.policy_state.specs.Helps.Kept.{key_of, parts_of}
use Rattle.policy_state.specs.States.{StandsFor, State}
use Rattle.policy_state.proofs.LogLemmas.{stands_after}
use Rattle.policy_state.proofs.StateLemmas.{ready_inside, state_after, tables_made}
use Rattle.policy_table.specs.Changes.{replay}
use Rattle.policy_table.specs.declared.change.Change.{Change}
use Rattle.policy_state.proofs.state.PolicyState.commit_parts.Goals as goal

pub invariant_of-self : goal.invariant_of-self
invariant_of-self c =
    let parts = parts_of c.self.inside.tables c.self.inside.index c.self.inside.sections in
    let there : State = record { shapes = c.self.inside.shapes; key = key_of c.self.inside.index; log = c.self.inside.log; parts = parts } in
    let are = ready_inside c.args.self.now there c.args.edits.items c.args.parts _ c.self.view_is c.parts.view_is c.requires.ready in
    state_after c.self.inside.shapes (c.admitted_edits_keep_sound.ensures.sound c.self.inside.shapes) (key_of c.self.inside.index) c.self.inside.log c.push_all.new.log parts
    c.make_all.new.tables c.make_all.new.index c.commit.new.self c.args.edits.items _ c.self.invariant are
    (c.push_all.ensures.tail ∙ ap (λ (l : List (List Change)). l ++ c.args.edits.items) c.move_start.ensures.tail)
    c.make_all.ensures.policy c.make_all.ensures.key c.make_all.ensures.index c.commit.ensures.kept c.commit.ensures.each

pub returns-clause-tables : goal.returns-clause-tables
returns-clause-tables c =
    let parts = parts_of c.self.inside.tables c.self.inside.index c.self.inside.sections in
    let there : State = record { shapes = c.self.inside.shapes; key = key_of c.self.inside.index; log = c.self.inside.log; parts = parts } in
    let are = ready_inside c.args.self.now there c.args.edits.items c.args.parts _ c.self.view_is c.parts.view_is c.requires.ready in
    tables_made c.self.inside.tables.policy c.make_all.new.tables.policy c.parts.inside.tables c.args.edits.items are.changes c.make_all.ensures.policy
    ∙ ap (λ (s : State). replay c.args.edits.items s.parts.held.policy) c.self.view_is

pub returns-clause-stands : goal.returns-clause-stands
returns-clause-stands c = λ opening history stands.
    let parts = parts_of c.self.inside.tables c.self.inside.index c.self.inside.sections in
    let there : State = record { shapes = c.self.inside.shapes; key = key_of c.self.inside.index; log = c.self.inside.log; parts = parts } in
    let after : State = record { shapes = c.self.inside.shapes; key = key_of c.make_all.new.index; log = c.push_all.new.log; parts = parts_of c.make_all.new.tables c.make_all.new.index c.commit.new.self } in
    let are = ready_inside c.args.self.now there c.args.edits.items c.args.parts _ c.self.view_is c.parts.view_is c.requires.ready in
    let before : StandsFor there opening history = subst (λ (s : State). StandsFor s opening history) (sym c.self.view_is) stands in
    stands_after there after opening history c.args.edits.items (c.push_all.ensures.stands history (c.move_start.ensures.stands history before.log))
    (tables_made c.self.inside.tables.policy c.make_all.new.tables.policy c.parts.inside.tables c.args.edits.items are.changes c.make_all.ensures.policy) before
