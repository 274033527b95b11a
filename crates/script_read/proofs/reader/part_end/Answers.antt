use Rattle.std.proofs.Common.{◌≡◌, true, sym, ◌∙◌}
use Rattle.script_read.specs.Lines.{begins_block}
use Rattle.script_read.proofs.EndLemmas.{behind_all}
use Rattle.script_read.proofs.reader.part_end.Goals as goal

pub returns-in-None-clause-behind : goal.returns-in-None-clause-behind
returns-in-None-clause-behind c =
    let begins : begins_block c.args.line.now ≡ true = sym c.begins_block.ensures ∙ c.if-not-begins_block.false in
    behind_all c.args.line.now c.args.number c.args.after.now begins c.in-None.ensures.none
