use Rattle.std.proofs.Common.{◌≡◌, ◌<◌, ◌∷◌, ◌++◌, [], length, sym, subst, ◌∙◌, arith, rules, eqb-true}
use Rattle.std.proofs.lemmas.Bool.{eqb-false}
use Rattle.std.proofs.lemmas.List.{nil_from_length}
use Rattle.text_parts.specs.Lines.{with_ends}
use Rattle.version_log.proofs.ReadLemmas.{cut_between, cut_line, edit_read, stray_last}
use Rattle.version_log.specs.EditText.{AreFront, IsEditText}
use Rattle.version_log.specs.Helps.Items.{HasRead}
use Rattle.version_log.proofs.edit_read.end.Goals as goal

pub returns-in-Ended-clause-found : goal.returns-in-Ended-clause-found
returns-in-Ended-clause-found c = λ front read.
    let none : c.args.rest.now ≡ [] = nil_from_length c.args.rest.now (eqb-true (length c.args.rest.now) 0 (sym c.is_empty.ensures ∙ c.if-is_empty.true)) in
    subst (IsEditText (with_ends front ++ c.args.rest.now)) (sym c.from_vec.ensures)
    (edit_read front c.args.reading.changes.items c.args.rest.now (subst (HasRead front c.args.reading.changes.items) c.in-Ended.is read) none)

pub returns-in_default : goal.returns-in_default
returns-in_default c =
    let none : c.args.rest.now ≡ [] = nil_from_length c.args.rest.now (eqb-true (length c.args.rest.now) 0 (sym c.is_empty.ensures ∙ c.if-is_empty.true)) in
    record {
      found = λ front read. tt;
      fault = λ front read numbered some. cut_between front c.args.reading.changes.items c.args.reading.place c.args.rest.now c.args.number read (λ e. c.in_default.not-Ended e) none numbered;
    }

pub returns-in_default-2-clause-fault : goal.returns-in_default-2-clause-fault
returns-in_default-2-clause-fault c = λ front read numbered some.
    let none : ¬ (AreFront (front ++ c.args.rest.now ∷ [])) = search rules in
    let long : 0 < length c.args.rest.now = omega (arith, eqb-false (length c.args.rest.now) 0 (sym c.is_empty.ensures ∙ c.if-is_empty.false)) in
    stray_last front c.args.reading.changes.items c.args.reading.place c.args.rest.now c.args.number read none long c.requires numbered

pub returns-clause-fault : goal.returns-clause-fault
returns-clause-fault c = λ front read numbered some.
    let taken : HasRead (front ++ c.args.rest.now ∷ []) c.in-Some._reading.changes.items c.in-Some._reading.place = search rules in
    let long : 0 < length c.args.rest.now = omega (arith, eqb-false (length c.args.rest.now) 0 (sym c.is_empty.ensures ∙ c.if-is_empty.false)) in
    cut_line front c.args.reading.changes.items c.in-Some._reading.changes.items c.args.reading.place c.in-Some._reading.place c.args.rest.now c.saturating_add.result read taken long c.requires (omega (arith, numbered, c.saturating_add.ensures))
