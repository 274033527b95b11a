use Rattle.std.proofs.Common.{◌≡◌, ◌+◌, ◌≤◌, false, List, ℕ, Err, ap, subst, sym, ◌∙◌, arith}
use Rattle.log_ship.proofs.TakeLemmas.{look_malformed, look_misfit}
use Rattle.log_ship.specs.Followers.{Following, version_of}
use Rattle.log_ship.specs.Taken.{is_repeated, may_come, most_ahead}
use Rattle.log_ship.specs.declared.taken.TakeRefused.TheVariants.{Malformed}
use Rattle.perm_base.specs.declared.shapes.Shapes.{Shapes}
use Rattle.version_log.specs.EditText.{IsEditFault, IsEditText}
use Rattle.version_log.specs.declared.edit_fault.EditFault.{EditFault}
use Rattle.version_log.specs.declared.edit_fault.EditFault.TheVariants as fault
use Rattle.log_ship.proofs.follower.Follower.look.Goals as goal

pub returns-in-Err-Malformed : goal.returns-in-Err-Malformed
returns-in-Err-Malformed c = λ reading reads.
    let fresh : is_repeated c.args.self.now c.args.packet.now.number ≡ false = sym c.has.ensures ∙ c.if-has.false in
    let near : c.args.packet.now.number ≤ version_of c.args.self.now + most_ahead = omega (arith, c.if-version-packet.false, c.version-version.ensures.value, ap (λ (f : Following). version_of f) c.self.view_is) in
    let told : IsEditFault c.bytes.result.now c.in-Err-Malformed.field-0 = c.in-Err-Malformed.ensures.fault (λ e. let both : fault.Malformed c.in-Err-Malformed.line ≡ fault.NoMemory = sym c.in-Err-Malformed.field-0-is ∙ e in absurd cc) in
    let is : IsEditFault c.args.packet.now.text (fault.Malformed c.in-Err-Malformed.line)
    = subst (λ (f : EditFault). IsEditFault c.args.packet.now.text f) c.in-Err-Malformed.field-0-is (subst (λ (t : List ℕ). IsEditFault t c.in-Err-Malformed.field-0) c.bytes.ensures.value told) in
    look_malformed c.args.self.now c.args.packet.now c.in-Err-Malformed.line fresh near is reading reads ∙ ap (λ (n : ℕ). Err (Malformed n)) (sym c.in-Err-Malformed.line-is)

pub returns-then-not-may_come : goal.returns-then-not-may_come
returns-then-not-may_come c =
    let fresh : is_repeated c.args.self.now c.args.packet.now.number ≡ false = sym c.has.ensures ∙ c.if-has.false in
    let near : c.args.packet.now.number ≤ version_of c.args.self.now + most_ahead = omega (arith, c.if-version-packet.false, c.version-version.ensures.value, ap (λ (f : Following). version_of f) c.self.view_is) in
    let text : IsEditText c.args.packet.now.text c.in-Ok.edit = subst (λ (t : List ℕ). IsEditText t c.in-Ok.edit) c.bytes.ensures.value c.in-Ok.ensures.found in
    let none : may_come c.args.self.now.state.shapes c.args.packet.now.number c.in-Ok.edit ≡ false
    = ap (λ (s : Shapes). may_come s c.args.packet.now.number c.in-Ok.edit) (sym (c.shapes.ensures.shapes ∙ ap (λ (f : Following). f.state.shapes) c.self.view_is)) ∙ sym c.may_come.ensures ∙ c.if-not-may_come.true in
    look_misfit c.args.self.now c.args.packet.now c.in-Ok.edit fresh near text none
