use Rattle.std.proofs.Common.{Some, ap, inl, inr, refl, sym, ◌∙◌}
use Rattle.casbin_c.proofs.calls.casbin_call.Goals as goal

pub returns-in_default : goal.returns-in_default
returns-in_default c = inl (c.in_default.ensures.taken, c.take.ensures.closed, (refl, refl, refl))

pub returns : goal.returns
returns c = inr (record {
  before = c.deref_mut.result.now;
  behind = c.call-called.new.self;
  had = c.in-Some.ensures.taken ∙ ap Some (sym c.deref_mut.ensures.value);
  has = c.give.ensures;
  holds = (c.call-called.ensures.others, record { called = c.call-called.result; calls = c.call-called.ensures.ends; code_is = c.tell_call.ensures.code; written = c.tell_call.ensures.written });
})
