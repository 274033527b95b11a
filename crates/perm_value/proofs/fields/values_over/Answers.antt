use Rattle.std.proofs.Common.{◌∙◌, ◌+◌, length, map, ap, refl, take, arith, rules}
use Rattle.std.proofs.lemmas.Result.{err_from_is_err_and}
use Rattle.perm_base.specs.FieldSteps.{fields_of, first_field}
use Rattle.perm_base.proofs.CallerLemmas.{fault_passes}
use Rattle.perm_value.specs.Helps.Texts.{as_texts}
use Rattle.perm_value.specs.Seen.{datum}
use Rattle.perm_value.proofs.FieldLemmas.{cut_fault, cut_full, cut_last, cut_more, cut_none}
use Rattle.perm_value.proofs.fields.values_over.Goals as goal

pub loop-at-init : goal.loop-at-init
loop-at-init c = record { cut = cut_none c.args.line.now (map datum (take 0 c.args.others.items)) refl; within = omega arith; utf8 = c.utf8.line }

pub returns-in_err-field-clause-exact : goal.returns-in_err-field-clause-exact
returns-in_err-field-clause-exact c =
    let p = err_from_is_err_and c.from_residual.result c.from_residual.ensures.1 in
    rw (p.1, p.2) (fault_passes c.in_err-field.field-0.0 (first_field (length c.args.line.now) c.loop-at.rest.now) (as_texts (fields_of c.args.line.now)) c.in_err-field.ensures
    (λ met e. cut_fault c.args.line.now c.loop-at.rest.now c.loop-at.at (map datum (take c.loop-at.at c.loop-at.values.items)) met (omega arith) c.loop-at.invariant.cut e))

pub returns-in_default-clause-exact : goal.returns-in_default-clause-exact
returns-in_default-clause-exact c =
    let read = rw c.in_default.is at c.in_ok-field.ensures in
    cut_last c.args.line.now c.loop-at.rest.now c.in_ok-field.field c.loop-at.at (map datum (take c.loop-at.at c.loop-at.values.items)) (map datum c.truncate.new.self.items) (omega arith) c.loop-at.invariant.cut (ap (map datum) c.truncate.ensures.items ∙ c.in_ok-put_field.ensures.put) read

pub loop-at-preserved : goal.loop-at-preserved
loop-at-preserved c =
    let read = rw c.in-Some.is at c.in_ok-field.ensures in
    record {
      cut = cut_more c.args.line.now c.loop-at.rest.now c.in-Some.next.now c.in_ok-field.field c.loop-at.at (map datum (take c.loop-at.at c.loop-at.values.items)) (map datum (take (c.loop-at.at + 1) c.put_field.new.values.items)) (omega arith) c.loop-at.invariant.cut c.in_ok-put_field.ensures.put read;
      within = omega (arith, c.in_ok-put_field.ensures.within);
      utf8 = search rules;
    }

pub returns-clause-exact : goal.returns-clause-exact
returns-clause-exact c = cut_full c.args.line.now c.loop-at.rest.now c.loop-at.at (map datum (take c.loop-at.at c.loop-at.values.items)) (omega arith) c.loop-at.invariant.cut
