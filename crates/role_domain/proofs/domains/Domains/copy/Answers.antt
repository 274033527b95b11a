use Rattle.std.proofs.Common.{arith}
use Rattle.role_domain.proofs.CopyLemmas.{domain_next, domains_all}
use Rattle.role_domain.proofs.domains.Domains.copy.Goals as goal

pub loop-at-preserved : goal.loop-at-preserved
loop-at-preserved c =
    domain_next c.args.self.now.entries c.loop-at.entries.entries c.insert.new.self.entries c.loop-at.at c.in_ok-copy.field-0 c.entry.result.0.now c.entry.result.1.now c.in_ok-copy-2.field-0
    c.len-len.ensures.once (omega (arith, c.loop-at-test.true, c.len-len.ensures.count)) c.entry.ensures c.in_ok-copy.ensures c.in_ok-copy-2.ensures c.loop-at.invariant c.in_ok-_none.ensures.entries

pub returns : goal.returns
returns c = domains_all c.args.self.now.entries c.loop-at.entries.entries c.loop-at.at (omega (arith, c.loop-at-test.false, c.len-len.ensures.count)) c.loop-at.invariant
