use Rattle.std.proofs.Common.{◌≡◌, ℕ, List, [], ◌∷◌, ◌++◌, length, subst, arith, rules}
use Rattle.std.proofs.lemmas.Grind.{common_steps}
use Rattle.std.proofs.lemmas.Result.{err_from_is_err_and}
use Rattle.perm_base.specs.FieldSteps.{fields_of, first_field}
use Rattle.perm_base.proofs.QuotedLemmas.{begin_fields, field_fault, field_last, field_more, fault_passes, no_room}
use Rattle.perm_base.proofs.quoted.fields_of.Goals as goal

pub loop-at-init : goal.loop-at-init
loop-at-init c = record { same = rw c.new-fields.ensures.items (begin_fields c.args.line.now); utf8 = c.utf8.line }

pub returns-in_err-field : goal.returns-in_err-field
returns-in_err-field c =
    let p = err_from_is_err_and c.from_residual.result c.from_residual.ensures.1 in
    record { exact = rw (p.1, p.2) (fault_passes c.in_err-field.field-0.0 (first_field (length c.args.line.now) c.loop-at.rest.now) (fields_of c.args.line.now) c.in_err-field.ensures (λ met e. field_fault c.loop-at.at (length c.args.line.now) c.loop-at.rest.now c.loop-at.fields.items met (fields_of c.args.line.now) (omega arith) c.loop-at.invariant.same e)) }

pub returns-in_default : goal.returns-in_default
returns-in_default c =
    let items : c.push.new.self.items ≡ c.loop-at.fields.items ++ c.in_ok-field.field ∷ [] = subst (λ (text : List ℕ). c.push.new.self.items ≡ c.loop-at.fields.items ++ text ∷ []) c.in_ok-text.ensures (grind (arith, common_steps)) in
    let read = rw c.in_default.is at c.in_ok-field.ensures in
    record { exact = rw items (field_last c.loop-at.at (length c.args.line.now) c.loop-at.rest.now c.in_ok-field.field c.loop-at.fields.items (fields_of c.args.line.now) (omega arith) c.loop-at.invariant.same read) }

pub loop-at-preserved : goal.loop-at-preserved
loop-at-preserved c =
    let items : c.push.new.self.items ≡ c.loop-at.fields.items ++ c.in_ok-field.field ∷ [] = subst (λ (text : List ℕ). c.push.new.self.items ≡ c.loop-at.fields.items ++ text ∷ []) c.in_ok-text.ensures (grind (arith, common_steps)) in
    let read = rw c.in-Some.is at c.in_ok-field.ensures in
    record {
      same = rw items (field_more c.loop-at.at (length c.args.line.now) c.loop-at.rest.now c.in_ok-field.field c.in-Some.next.now c.loop-at.fields.items (fields_of c.args.line.now) (omega arith) c.loop-at.invariant.same read);
      utf8 = search rules;
    }

pub returns : goal.returns
returns c = record { exact = no_room c.loop-at.at (length c.args.line.now) c.loop-at.rest.now c.loop-at.fields.items (fields_of c.args.line.now) (omega arith) c.loop-at.invariant.same }
