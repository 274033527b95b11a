use Rattle.std.proofs.Common.{◌≡◌, ◌<◌, rules, true, length, arith}
use Rattle.key_match.specs.Fronts.{plain_bytes}
use Rattle.key_match.specs.Helps.Fronts.{is_itself}
use Rattle.key_match.specs.Helps.Tokens.{piece_of, pieces_at, pieces_of}
use Rattle.key_match.proofs.FrontLemmas.{front_start, front_more}
use Rattle.key_match.proofs.fronts.plain_front.Goals as goal

pub loop-reading-init : goal.loop-reading-init
loop-reading-init c = (omega arith, front_start c.args.dialect c.args.pattern.now)

pub loop-reading-preserved : goal.loop-reading-preserved
loop-reading-preserved c =
    let at = c.loop-reading.at in
    let dialect = c.args.dialect in
    let pattern = c.args.pattern.now in
    let read = c.in-Some.ensures.found in
    let within : at < length pattern = let after = read.after in let end = read.within in omega arith in
    let itself : is_itself (piece_of c.in-Some.reading.token) ≡ true = search rules in (
      omega arith,
      front_more dialect pattern at (piece_of c.in-Some.reading.token) (pieces_at dialect pattern c.in-Some.reading.next) (plain_bytes (pieces_of dialect pattern)) within read.pieces itself c.loop-reading.invariant.1,
    )
