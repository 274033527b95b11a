use Rattle.std.proofs.Common.{◌≡◌, inl, inr, refl, subst}
use Rattle.std.specs.Prelude.{IfOk}
use Rattle.enforce_core.specs.Places.{state_at}
use Rattle.enforce_core.specs.Seen.{Enforcing}
use Rattle.policy_csv.specs.Printed.{printed}
use Rattle.policy_state.specs.States.{tables}
use Rattle.casbin_c.proofs.shown.casbin_policy.Goals as goal

pub returns-in_default : goal.returns-in_default
returns-in_default c = inl (c.in_default.ensures.taken, c.take.ensures.closed, (refl, refl, refl))

pub returns : goal.returns
returns c = inr (record {
  before = c.in-Some.enforcer.value;
  behind = c.in-Some.enforcer.value;
  had = c.in-Some.ensures.taken;
  has = c.give.ensures;
  holds = (
    refl,
    record {
      shown = c.policy_text-shown.result;
      is = subst (λ (e : Enforcing). IfOk c.policy_text-shown.result (λ found. found ≡ printed (tables (state_at e.place)))) c.deref.ensures c.policy_text-shown.ensures;
      written = c.tell_policy.ensures;
    },
  );
})
