use Rattle.casbin_c.proofs.decisions.judged.Goals as goal

pub returns : goal.returns
returns c = λ j. record { kind = c.args.kind; version = c.args.version; row = c.unwrap_or.ensures j; cause = 0; at = 0 }
