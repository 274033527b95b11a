use Rattle.key_match.specs.Helps.Tokens.{piece_of, pieces_at}
use Rattle.key_match.specs.Helps.Parts.{order_of}
use Rattle.key_match.proofs.Parts.{HasPart-from, IsChosen-last, IsChosen-first}
use Rattle.key_match.proofs.part.part_end.Goals as goal

pub part_ends-ends-requires : goal.part_ends-ends-requires
part_ends-ends-requires c =
    HasPart-from (piece_of c.args.reading.token) (pieces_at c.args.dialect c.args.pattern.now c.args.reading.next) c.args.key.now c.args.from c.requires.within c.requires.fitting

pub returns-then-is_shortest : goal.returns-then-is_shortest
returns-then-is_shortest c =
    IsChosen-first (order_of c.args.segments) (piece_of c.args.reading.token) (pieces_at c.args.dialect c.args.pattern.now c.args.reading.next) c.args.key.now c.args.from c.first_fit.result c.part_ends-ends.result
    c.if-is_shortest.ensures c.requires.within c.requires.fitting c.part_ends-ends.ensures c.first_fit.ensures.first c.first_fit.ensures.fitting

pub returns-else-is_shortest : goal.returns-else-is_shortest
returns-else-is_shortest c =
    IsChosen-last (order_of c.args.segments) (piece_of c.args.reading.token) (pieces_at c.args.dialect c.args.pattern.now c.args.reading.next) c.args.key.now c.args.from c.last_fit.result c.part_ends-ends.result
    c.if-is_shortest.ensures c.requires.within c.requires.fitting c.part_ends-ends.ensures c.last_fit.ensures.last c.last_fit.ensures.fitting
