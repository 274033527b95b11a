use Rattle.std.proofs.Common.{ap, ◌∙◌}
use Rattle.text_parts.specs.Blanks.{trimmed}
use Rattle.script_read.proofs.AskLemmas.{asked_behind, asked_boundary}
use Rattle.script_read.proofs.word.behind_ask.Goals as goal

pub range_from-requires : goal.range_from-requires
range_from-requires c = λ some. asked_boundary c.args.line.now c.requires

pub returns : goal.returns
returns c = c.trimmed.ensures ∙ ap trimmed (c.range_from.ensures.value ∙ asked_behind c.args.line.now c.requires)
