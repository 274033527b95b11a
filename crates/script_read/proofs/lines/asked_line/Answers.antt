use Rattle.script_read.proofs.AskLemmas.{cut_first, line_begins}
use Rattle.text_parts.specs.Numbered.{text_lines}
use Rattle.script_read.proofs.lines.asked_line.Goals as goal

pub returns : goal.returns
returns c =
    let first = cut_first c.args.text.now c.in_ok-line.line.now c.without_cr.result.now c.in_ok-line.after.now c.in_ok-line.ensures.first c.without_cr.ensures in
    record {
      lines = first;
      begins = line_begins c.args.text.now c.without_cr.result.now (text_lines c.in_ok-line.after.now) (c.begins_ask.ensures c.if-not-begins_ask.false) first;
      shorter = c.in_ok-line.ensures.shorter;
    }
