use Rattle.std.proofs.Common.{◌≢◌, length, refl, sym, ap, arith}
use Rattle.policy_csv.specs.Faults.NamesNoTable.{unknown_name}
use Rattle.policy_csv.specs.Faults.HasOtherColumns.{other_number}
use Rattle.policy_csv.proofs.entry.entry_of.Goals as goal

pub returns-in_default-clause-fault : goal.returns-in_default-clause-fault
returns-in_default-clause-fault c = λ text is. (refl, unknown_name c.args.name.now c.args.fields.items is (sym c.in_default.ensures.known))

pub returns-then-len-columns-clause-fault : goal.returns-then-len-columns-clause-fault
returns-then-len-columns-clause-fault c = λ text is.
    let differ : c.in-Some.columns ≢ length c.args.fields.items = omega (arith, ap length c.from_vec-rule.ensures) in
    (refl, other_number c.args.name.now c.args.fields.items c.in-Some.columns is (sym c.in-Some.ensures.known) differ)
