use Rattle.std.proofs.Common.{Some, ap, inl, inr, refl, sym, ◌∙◌}
use Rattle.casbin_c.proofs.requests.casbin_enforce.Goals as goal

pub returns-in_default : goal.returns-in_default
returns-in_default c = inl (c.in_default.ensures.taken, c.take.ensures.closed, (refl, refl))

pub returns : goal.returns
returns c = inr (record {
  before = c.deref_mut.result.now;
  behind = c.enforce-answered.new.self;
  had = c.in-Some.ensures.taken ∙ ap Some (sym c.deref_mut.ensures.value);
  has = c.give.ensures;
  holds = (c.enforce-answered.ensures.only, record { answered = c.enforce-answered.result; answers = c.enforce-answered.ensures.asks; code_is = c.tell.ensures.code; decision_is = c.tell.ensures.told });
})
