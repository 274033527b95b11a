use Rattle.std.proofs.Common.{subst, sym}
use Rattle.enforce_core.specs.Seen.{IsSnapshotOf}
use Rattle.casbin_c.proofs.enforcers.snapshot_box.Goals as goal

pub returns : goal.returns
returns c = subst (IsSnapshotOf c.args.enforcer.now) (sym c.in_ok-made.ensures) c.in_ok-snapshot.ensures
