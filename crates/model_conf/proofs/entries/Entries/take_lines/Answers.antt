use Rattle.std.proofs.Common.{◌+◌}
use Rattle.std.proofs.lemmas.Result.{err_from_is_err_and}
use Rattle.text_parts.specs.Numbered.{numbered, text_lines}
use Rattle.model_conf.specs.Logical.{ended}
use Rattle.model_conf.proofs.entries.Entries.take_lines.Goals as goal

pub returns-in_err-take-clause-taken : goal.returns-in_err-take-clause-taken
returns-in_err-take-clause-taken c =
    let p = err_from_is_err_and c.from_residual.result c.from_residual.ensures.1 in
    let t = c.in_err-take.ensures in
    rw (p.1, p.2) (λ other. (c.args.line.now, numbered (c.args.number + 1) (text_lines c.args.after.now), t.0, ended c.in_default.ensures, t.1, t.2 other))

pub returns-in_default-clause-taken : goal.returns-in_default-clause-taken
returns-in_default-clause-taken c =
    let t = c.in_ok-take.ensures in
    (c.args.line.now, t.0, ended c.in_default.ensures, t.1, t.2.0, t.2.1)
