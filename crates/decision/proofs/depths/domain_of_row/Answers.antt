use Rattle.std.proofs.Common.{◌∙◌, sym}
use Rattle.std.proofs.lemmas.Bool.{not-false}
use Rattle.decision.specs.Helps.Asked.{case_in}
use Rattle.decision.proofs.DepthLemmas.{domain_in_column}
use Rattle.decision.proofs.depths.domain_of_row.Goals as goal

pub returns-in-Some : goal.returns-in-Some
returns-in-Some c =
    domain_in_column (case_in c.args.asking.now) c.args.shape c.args.row.now c.in-Some.at c.field_or_empty.result.now (sym c.requires.domain ∙ c.in-Some.is) (not-false c.args.shape.with_domain c.if-not-shape.false) c.field_or_empty.ensures
