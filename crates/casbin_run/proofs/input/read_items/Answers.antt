use Rattle.std.proofs.Common.{◌≡◌, Err, sym, ◌∙◌, true≢false, rules}
use Rattle.outside.specs.Faults.{Rose}
use Rattle.casbin_run.proofs.EarlyLemmas.{bytes_early}
use Rattle.casbin_run.proofs.input.read_items.Goals as goal

pub returns-in_err-bytes-clause-read_to_end : goal.returns-in_err-bytes-clause-read_to_end
returns-in_err-bytes-clause-read_to_end g c =
    let stop : c.from_residual.result ≡ Err c.in_err-bytes.field-0.0 = search rules in
    rw stop (λ past. absurd (true≢false (sym past ∙ bytes_early (g.S.Source.left c.args.input.now) (Rose (g.S.Source.faults c.args.input.now) (g.S.Source.faults c.read_bytes.new.input)) c.in_err-bytes.field-0.0 c.in_err-bytes.ensures.stopped)))

pub returns-in_err-bytes-clause-ended : goal.returns-in_err-bytes-clause-ended
returns-in_err-bytes-clause-ended g c =
    let stop : c.from_residual.result ≡ Err c.in_err-bytes.field-0.0 = search rules in
    rw stop (λ past. absurd (true≢false (sym past ∙ bytes_early (g.S.Source.left c.args.input.now) (Rose (g.S.Source.faults c.args.input.now) (g.S.Source.faults c.read_bytes.new.input)) c.in_err-bytes.field-0.0 c.in_err-bytes.ensures.stopped)))
