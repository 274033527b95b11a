use Rattle.std.proofs.Common.{Option, ap, subst}
use Rattle.std.specs.Prelude.{IfSome, option_copied}
use Rattle.decision.specs.Helps.Asked.{DecideAlone}
use Rattle.decision.specs.declared.plain_parts.PlainParts.{PlainParts}
use Rattle.decision.proofs.PlainLemmas.{decides_row}
use Rattle.decision.proofs.outcome.told.Goals as goal

pub returns : goal.returns
returns c =
    decides_row c.args.asking.now c.in-Some.parts c.in-Some-row.row.now (option_copied c.args.row) c.told_by.result (ap option_copied c.in-Some-row.is)
    (subst (λ (o : Option PlainParts). IfSome o (DecideAlone c.args.asking.now)) c.in-Some.is c.requires.parts) c.told_by.ensures
