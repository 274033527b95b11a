use Rattle.std.proofs.Common.{inl, inr, refl, subst}
use Rattle.enforce_core.specs.Seen.{Enforcing, IsSnapshotOf}
use Rattle.casbin_c.proofs.enforcers.casbin_snapshot.Goals as goal

pub returns-in_default : goal.returns-in_default
returns-in_default c = inl (c.in_default.ensures.taken, c.take.ensures.closed, (refl, refl))

pub returns-in-Ok : goal.returns-in-Ok
returns-in-Ok c = inr (record {
  before = c.in-Some.enforcer.value;
  behind = c.in-Some.enforcer.value;
  had = c.in-Some.ensures.taken;
  has = c.give.ensures;
  holds = (
    refl,
    inl (
      refl,
      record {
        behind = c.in-Ok.snapshot.value;
        has = c.put.ensures;
        holds = subst (λ (owner : Enforcing). IsSnapshotOf owner c.in-Ok.snapshot.value) c.deref.ensures c.in-Ok.ensures;
      },
    ),
  );
})

pub returns-in-Err : goal.returns-in-Err
returns-in-Err c = inr (record {
  before = c.in-Some.enforcer.value;
  behind = c.in-Some.enforcer.value;
  had = c.in-Some.ensures.taken;
  has = c.give.ensures;
  holds = (refl, inr (refl, refl));
})
