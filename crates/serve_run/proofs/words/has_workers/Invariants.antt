use Rattle.std.proofs.Common.{◌≡◌, drop}
use Rattle.command_words.specs.Items.{texts}
use Rattle.serve_run.specs.Words.{has_workers}
use Rattle.serve_run.proofs.words.has_workers.Given as goal

abbrev pub invariant-loop-word : goal.invariant-loop-word
invariant-loop-word l = has_workers (texts l.words) ≡ has_workers (texts (drop l.word-index l.words))
