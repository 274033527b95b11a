use Rattle.std.proofs.Common.{◌≡◌, ◌+◌, ◌≤◌, ◌++◌, ◌∷◌, [], List, length, sym, ap, subst, ◌∙◌}
use Rattle.live_pair.proofs.SideLemmas.{CanMake, can_make, up_to_kept, up_to_staged}
use Rattle.live_pair.proofs.StartLemmas.{is_staged}
use Rattle.live_pair.proofs.StoryLemmas.{next_staged}
use Rattle.live_pair.specs.declared.edits.HistoryEvent.TheVariants.{Staged}
use Rattle.edit_calls.specs.Admitted.{AreAdmitted}
use Rattle.policy_state.specs.States.{tables}
use Rattle.policy_table.specs.declared.change.Change.{Change}
use Rattle.version_log.specs.Log.{most_versions, versions}
use Rattle.live_pair.proofs.side.Side.take.Goals as goal

pub make-requires-clause-admitted : goal.make-requires-clause-admitted
make-requires-clause-admitted g c =
    let i = c.self.inside in
    let op = c.args.operation.now in
    let one = c.if-not-is_one_short_of.ensures in
    let next : op.told ≡ i.told ++ Staged op.edits ∷ [] = next_staged i.told op.told op.edits one.0 one.1 op.last in
    let can : CanMake i.state op.edits c.version-start.result = can_make g.J.Naming.shapes g.J.Naming.opening g.J.Naming.first i.told op.told op.edits i.state c.version-start.result next c.kept.ensures.given c.self.invariant.0 c.version-start.ensures in
    subst (AreAdmitted i.state.shapes (tables i.state)) (sym c.as_slice-edits.ensures) can.admitted

pub make-requires-clause-few : goal.make-requires-clause-few
make-requires-clause-few g c =
    let i = c.self.inside in
    let op = c.args.operation.now in
    let one = c.if-not-is_one_short_of.ensures in
    let next : op.told ≡ i.told ++ Staged op.edits ∷ [] = next_staged i.told op.told op.edits one.0 one.1 op.last in
    let can : CanMake i.state op.edits c.version-start.result = can_make g.J.Naming.shapes g.J.Naming.opening g.J.Naming.first i.told op.told op.edits i.state c.version-start.result next c.kept.ensures.given c.self.invariant.0 c.version-start.ensures in
    subst (λ (l : List (List Change)). versions i.state.log + length l ≤ most_versions) (sym c.as_slice-edits.ensures) can.few

pub make-requires-clause-from : goal.make-requires-clause-from
make-requires-clause-from g c =
    let i = c.self.inside in
    let op = c.args.operation.now in
    let one = c.if-not-is_one_short_of.ensures in
    let next : op.told ≡ i.told ++ Staged op.edits ∷ [] = next_staged i.told op.told op.edits one.0 one.1 op.last in
    let can : CanMake i.state op.edits c.version-start.result = can_make g.J.Naming.shapes g.J.Naming.opening g.J.Naming.first i.told op.told op.edits i.state c.version-start.result next c.kept.ensures.given c.self.invariant.0 c.version-start.ensures in
    can.from

pub make-requires-clause-until : goal.make-requires-clause-until
make-requires-clause-until g c =
    let i = c.self.inside in
    let op = c.args.operation.now in
    let one = c.if-not-is_one_short_of.ensures in
    let next : op.told ≡ i.told ++ Staged op.edits ∷ [] = next_staged i.told op.told op.edits one.0 one.1 op.last in
    let can : CanMake i.state op.edits c.version-start.result = can_make g.J.Naming.shapes g.J.Naming.opening g.J.Naming.first i.told op.told op.edits i.state c.version-start.result next c.kept.ensures.given c.self.invariant.0 c.version-start.ensures in
    can.until

pub invariant_of-self : goal.invariant_of-self
invariant_of-self g c = (
  up_to_kept g.J.Naming.shapes g.J.Naming.opening g.J.Naming.first c.self.inside.told c.self.inside.state c.make.new.state c.in_default.ensures.shapes c.in_default.ensures.refused c.in_default.ensures.start_kept c.self.invariant.0,
  c.self.invariant.1,
)

pub invariant_of-self-2 : goal.invariant_of-self-2
invariant_of-self-2 g c =
    let i = c.self.inside in
    let op = c.args.operation.now in
    let one = c.if-not-is_one_short_of.ensures in
    let next : c.again.result ≡ i.told ++ Staged c.as_slice-edits.result.now ∷ [] = c.again.ensures ∙ next_staged i.told op.told op.edits one.0 one.1 op.last ∙ ap (λ (l : List (List Change)). i.told ++ Staged l ∷ []) (sym c.as_slice-edits.ensures) in (
      up_to_staged g.J.Naming.shapes g.J.Naming.opening g.J.Naming.first i.told c.again.result c.as_slice-edits.result.now i.state c.make.new.state next c.in-Ok.ensures.shapes c.in-Ok.ensures.stands (c.in-Ok.ensures.start ∙ c.version-start.ensures) c.self.invariant.0,
      is_staged i.told c.again.result c.as_slice-edits.result.now next,
    )
