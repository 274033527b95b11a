use Rattle.std.proofs.Common.{ap, inl, inr, refl, ◌∙◌}
use Rattle.enforce_core.specs.Places.{state_at}
use Rattle.enforce_core.specs.Seen.{Enforcing}
use Rattle.version_log.specs.Log.{versions}
use Rattle.casbin_c.proofs.calls.casbin_version.Goals as goal

pub returns-in_default : goal.returns-in_default
returns-in_default c = inl (c.in_default.ensures.taken, c.take.ensures.closed, (refl, refl))

pub returns : goal.returns
returns c = inr (record {
  before = c.in-Some.enforcer.value;
  behind = c.in-Some.enforcer.value;
  had = c.in-Some.ensures.taken;
  has = c.give.ensures;
  holds = (refl, refl, c.version-number.ensures ∙ ap (λ (e : Enforcing). versions (state_at e.place).log) c.deref.ensures);
})
