use Rattle.std.proofs.Common.{◌≡◌, Bool, List, Option, Some, true, false, map, refl, sym}
use Rattle.perm_value.specs.Seen.{datum}
use Rattle.decision.specs.Helps.Asked.{case_in}
use Rattle.decision.specs.Helps.KeptPlans.{asked_seen}
use Rattle.decision.specs.Helps.PlainParts.{IsAnswered}
use Rattle.decision.proofs.GatherLemmas.{text_there}
use Rattle.decision.proofs.PlainLemmas.{answered}
use Rattle.decision.proofs.plain_parts.is_linked.Goals as goal

pub returns : goal.returns
returns c =
    answered (case_in c.args.asking.now) c.args.row.now (asked_seen c.args.question) c.in-Some.name.now _ (text_there (map datum c.args.asking.now.request.now) c.args.question.request c.in-Some.name.now (sym c.in-Some.ensures)) c.in-Some-domain_at.ensures c.field_at-role.result.now c.field_at-role.ensures
    c.linked.result c.linked.ensures
