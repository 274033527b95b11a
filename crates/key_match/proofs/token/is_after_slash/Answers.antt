use Rattle.std.proofs.Common.{nat_eq, ap, sym, arith}
use Rattle.key_match.proofs.Readings.{last_byte-one}
use Rattle.key_match.proofs.token.is_after_slash.Goals as goal

pub returns-else-at-eq0 : goal.returns-else-at-eq0
returns-else-at-eq0 c = ap (λ byte. nat_eq byte 47) (sym (last_byte-one _ c.args.at c.args.pattern.now (omega arith) c.requires))
