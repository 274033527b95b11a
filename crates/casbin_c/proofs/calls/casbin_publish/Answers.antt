use Rattle.std.proofs.Common.{Some, ap, inl, inr, refl, sym, ◌∙◌}
use Rattle.casbin_c.proofs.calls.casbin_publish.Goals as goal

pub returns-in_default : goal.returns-in_default
returns-in_default c = inl (c.in_default.ensures.taken, c.take.ensures.closed, (refl, refl))

pub returns : goal.returns
returns c = inr (record {
  before = c.deref_mut.result.now;
  behind = c.publish-published.new.self;
  had = c.in-Some.ensures.taken ∙ ap Some (sym c.deref_mut.ensures.value);
  has = c.give.ensures;
  holds = (c.publish-published.ensures.others, record { published = c.publish-published.result; publishes = c.publish-published.ensures.ends; code_is = c.tell_version.ensures.code; version_is = c.tell_version.ensures.told });
})
