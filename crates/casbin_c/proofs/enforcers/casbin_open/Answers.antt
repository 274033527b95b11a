use Rattle.std.proofs.Common.{◌≡◌, ap, inl, inr, refl, rules, ◌∙◌}
use Rattle.run_status.specs.Statuses.{code_of}
use Rattle.casbin_c.proofs.enforcers.casbin_open.Goals as goal

pub returns-in-Ok : goal.returns-in-Ok
returns-in-Ok c = inl (record {
  code_is = refl;
  opens = record { behind = c.in-Ok.enforcer.value; has = c.put.ensures; holds = c.in-Ok.ensures.opened };
  line = (refl, refl);
})

pub returns-in-Err : goal.returns-in-Err
returns-in-Err c =
    let same : c.from.result ≡ c.code.result = search rules in
    inr (record { stop = c.in-Err.stop; stops = c.in-Err.ensures.stopped; code_is = same ∙ c.code.ensures ∙ ap code_of c.status.ensures; handle = refl; line = c.write_stop.ensures })
