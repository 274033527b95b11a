use Rattle.casbin_c.proofs.decisions.failed.Goals as goal

pub returns : goal.returns
returns c = λ j. record { kind = 2; version = c.args.version; row = c.unwrap_or.ensures j; cause = c.cause_number.ensures j; at = c.args.fault.at }
