use Rattle.std.proofs.Common.{◌≡◌, ℕ, Err, List, refl, subst, rules}
use Rattle.outside.specs.Faults.{Rose}
use Rattle.script_read.specs.Script.{IsScript}
use Rattle.casbin_run.proofs.WorkLemmas.{served_stops}
use Rattle.casbin_run.proofs.input.read_checked.Goals as goal

pub returns-in_err-script-clause-read_to_end : goal.returns-in_err-script-clause-read_to_end
returns-in_err-script-clause-read_to_end g c =
    let stop : c.from_residual.result ≡ Err c.in_err-script.field-0.0 = search rules in
    rw stop (λ past. c.in_err-script.ensures.read_to_end past)

pub returns-in_err-script-clause-ended : goal.returns-in_err-script-clause-ended
returns-in_err-script-clause-ended g c =
    let stop : c.from_residual.result ≡ Err c.in_err-script.field-0.0 = search rules in
    rw stop (λ past. c.in_err-script.ensures.ended past)

pub returns-in_err-script-clause-stopped : goal.returns-in_err-script-clause-stopped
returns-in_err-script-clause-stopped g c =
    let stop : c.from_residual.result ≡ Err c.in_err-script.field-0.0 = search rules in
    rw stop (served_stops c.args.json (g.S.Source.left c.args.input.now) (Rose (g.S.Source.faults c.args.input.now) (g.S.Source.faults c.read_text.new.input)) c.in_err-script.field-0.0 c.in_err-script.ensures.stopped)

-- a text that is no script
pub returns-in_err-check_script-clause-read_to_end : goal.returns-in_err-check_script-clause-read_to_end
returns-in_err-check_script-clause-read_to_end g c = λ past. c.in_ok-script.ensures.read_to_end refl

pub returns-in_err-check_script-clause-ended : goal.returns-in_err-check_script-clause-ended
returns-in_err-check_script-clause-ended g c = λ past. c.in_ok-script.ensures.ended refl

-- what was checked is the text
pub returns-clause-checked : goal.returns-clause-checked
returns-clause-checked g c =
    let found = c.in_ok-check_script.ensures.found in
    (found.0, subst (λ (bytes : List ℕ). IsScript c.args.json bytes found.0) c.as_str.ensures.value found.1)

pub returns-clause-read_to_end : goal.returns-clause-read_to_end
returns-clause-read_to_end g c = λ past. c.in_ok-script.ensures.read_to_end refl

pub returns-clause-ended : goal.returns-clause-ended
returns-clause-ended g c = λ past. c.in_ok-script.ensures.ended refl
