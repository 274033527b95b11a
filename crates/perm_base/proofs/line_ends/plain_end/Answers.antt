use Rattle.std.proofs.Common.{Some, None}
use Rattle.perm_base.proofs.PlainLemmas.{found_behind}
use Rattle.perm_base.proofs.line_ends.plain_end.Goals as goal

pub returns-in-Some : goal.returns-in-Some
returns-in-Some c = found_behind c.args.text.now c.as_bytes-bytes.result.now c.plain_front-front.result (Some c.in-Some.at) c.as_bytes-bytes.ensures.value c.plain_front-front.ensures.within c.plain_front-front.ensures.none c.in-Some.ensures

pub returns-in-None : goal.returns-in-None
returns-in-None c = found_behind c.args.text.now c.as_bytes-bytes.result.now c.plain_front-front.result None c.as_bytes-bytes.ensures.value c.plain_front-front.ensures.within c.plain_front-front.ensures.none c.in-None.ensures
