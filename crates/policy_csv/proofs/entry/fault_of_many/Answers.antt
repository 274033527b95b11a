use Rattle.std.proofs.Common.{refl, sym, ap, ◌∙◌}
use Rattle.policy_csv.specs.Faults.{columns_named}
use Rattle.policy_csv.specs.Faults.HasOtherColumns.{many_fields}
use Rattle.policy_csv.specs.Faults.NamesNoTable.{unknown_front}
use Rattle.policy_csv.proofs.NameLemmas.{comma_names_none}
use Rattle.policy_csv.proofs.entry.fault_of_many.Goals as goal

pub returns-in-Some : goal.returns-in-Some
returns-in-Some c =
    let begins = rw c.in-Ok-Some.field-0-is at c.in-Ok-Some.ensures.found in
    (refl, many_fields c.in-Ok-Some.name c.in-Some.field-0.1 begins (ap (columns_named c.args.shapes.now) (sym c.as_str.ensures) ∙ sym c.in-Some.ensures.known))

pub returns-in-Ok-Some : goal.returns-in-Ok-Some
returns-in-Ok-Some c =
    let begins = rw c.in-Ok-Some.field-0-is at c.in-Ok-Some.ensures.found in
    (refl, unknown_front c.in-Ok-Some.name begins (ap (columns_named c.args.shapes.now) (sym c.as_str.ensures) ∙ sym c.in-None.ensures.known))

pub returns-in-Ok-None : goal.returns-in-Ok-None
returns-in-Ok-None c =
    let begins = rw c.in-Ok-None.field-0-is at c.in-Ok-None.ensures.comma in
    (refl, unknown_front begins.0 begins.1 (comma_names_none c.args.shapes.now begins.0 begins.2))
