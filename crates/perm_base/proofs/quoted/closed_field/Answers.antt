use Rattle.std.proofs.Common.{◌≡◌, ◌<◌, length, Err, arith}
use Rattle.std.proofs.lemmas.Bool.Decides.{nat_tests}
use Rattle.perm_base.specs.declared.quoted.FieldFault.TheVariants.{Quote}
use Rattle.perm_base.specs.FieldSteps.{closed_field, column_of}
use Rattle.perm_base.proofs.QuotedLemmas.{closed_end, closed_comma, closed_other}
use Rattle.perm_base.proofs.quoted.closed_field.Goals as goal

pub returns-then-is_empty : goal.returns-then-is_empty
returns-then-is_empty c =
    let none : length c.args.after.now ≡ 0 = grind (arith, nat_tests) in
    closed_end c.args.size c.args.field c.args.after.now none

pub returns-in-Some : goal.returns-in-Some
returns-in-Some c = closed_comma c.args.size c.args.field c.args.after.now c.in-Some.rest.now c.in-Some.ensures

pub returns : goal.returns
returns c =
    let some : 0 < length c.args.after.now = grind (arith, nat_tests) in
    let fault : closed_field c.args.size c.args.field c.args.after.now ≡ Err (Quote (column_of c.args.size (length c.args.after.now))) = closed_other c.args.size c.args.field c.args.after.now some c.in-None.ensures in
    cc
