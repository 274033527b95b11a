use Rattle.std.proofs.Common.{IfSome, Option, Some}
use Rattle.std.proofs.lemmas.List.Elements.{All-set}
use Rattle.decision.specs.Helps.Asked.{case_in}
use Rattle.decision.specs.Helps.Firsts.{IsKnownIn}
use Rattle.decision.specs.declared.depths.Known.{Known}
use Rattle.decision.proofs.depths.depth_of.Goals as goal

pub returns-clause-known : goal.returns-clause-known
returns-clause-known c =
    let known : Known = record { subject = c.field_or_empty-subject.result; domain = c.domain_of_row-domain.result; depth = c.depth_in-depth.result } in
    All-set (λ (one : Option Known). IfSome one (IsKnownIn (case_in c.args.asking.now))) c.args.depths.now c.place_of-at.result (Some known) c.depth_in-depth.ensures c.requires.known
