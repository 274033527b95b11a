use Rattle.casbin_c.proofs.calls.tell_done.Goals as goal

pub returns-clause-written : goal.returns-clause-written
returns-clause-written c = (c.write_text-code.result, c.write_text-code.ensures)
