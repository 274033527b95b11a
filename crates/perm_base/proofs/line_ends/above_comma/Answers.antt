use Rattle.std.proofs.Common.{ltb, refl, arith}
use Rattle.perm_base.proofs.MarkLemmas.{group_front}
use Rattle.perm_base.proofs.PlainLemmas.{group_above}
use Rattle.perm_base.proofs.line_ends.above_comma.Goals as goal

pub returns : goal.returns
returns c =
    let both = group_above c.args.at 8 c.args.bytes.now _ c.requires (group_front ltb 45 c.args.at 8 c.args.bytes.now _ _ (omega arith) c.requires refl c.if-low-eq0.false refl) in
    record { few = both.0; none = both.1 }
