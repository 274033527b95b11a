use Rattle.std.proofs.Common.{refl, sym, ◌∙◌}
use Rattle.policy_csv.proofs.TakeLemmas.{full_line, took_line}
use Rattle.policy_csv.proofs.policy.take_line.Goals as goal

pub returns-in-None-clause-taken : goal.returns-in-None-clause-taken
returns-in-None-clause-taken c =
    took_line c.args.shapes.now c.args.line.now c.in_ok-entry.entry c.args.tables.now.policy c.put.new.tables.policy c.in_ok-entry.ensures.found c.requires.filled c.in_ok-put.ensures.tables (sym c.in_ok-put.ensures.limit ∙ c.in-None.is)

pub returns-in-Some-clause-fault : goal.returns-in-Some-clause-fault
returns-in-Some-clause-fault c = (
  refl,
  record {
    entry = c.in_ok-entry.entry;
    says = c.in_ok-entry.ensures.found;
    full = full_line c.args.shapes.now c.in_ok-entry.entry c.args.tables.now.policy c.put.new.tables.policy c.in_ok-put.field-0 c.requires.filled c.in_ok-put.ensures.tables c.in_ok-put.ensures.limit ∙ c.in-Some.is;
  },
)
