use Rattle.std.proofs.Common.{subst, sym}
use Rattle.edit_calls.specs.Found.{AreKnown}
use Rattle.policy_desk.specs.Desks.{Work}
use Rattle.policy_desk.proofs.desk.Desk.call.Goals as goal

pub edit_by-requires : goal.edit_by-requires
edit_by-requires c = record {
  known = subst (λ (d : Work). AreKnown d.state.shapes d.drafts c.known-known.result c.args.call.now) (sym c.known-known.ensures.same) c.known-known.ensures.known;
}
