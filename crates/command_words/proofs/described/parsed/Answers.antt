use Rattle.std.proofs.lemmas.Bool.{iff_false}
use Rattle.command_words.specs.Items.{texts}
use Rattle.command_words.proofs.AppLemmas.{parse_fails, parse_matches}
use Rattle.command_words.proofs.described.parsed.Goals as goal

pub returns-in-Ok : goal.returns-in-Ok
returns-in-Ok c = parse_matches c.args.kind _ (texts c.args.words.now) c.in_ok-command.ensures c.in-Ok.matches c.in-Ok.ensures.kinds c.in-Ok.ensures.matches

pub returns-else-is_of_memory : goal.returns-else-is_of_memory
returns-else-is_of_memory c =
    parse_fails c.args.kind _ (texts c.args.words.now) c.in_ok-command.ensures c.in-Err.error c.in-Err.ensures.kinds (iff_false c.is_of_memory.ensures c.if-is_of_memory.false)
