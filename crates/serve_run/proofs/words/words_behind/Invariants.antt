use Rattle.std.proofs.Common.{◌≡◌, ◌∷◌, take}
use Rattle.command_words.specs.Items.{texts}
use Rattle.serve_run.specs.Helps.WordTexts.{all_texts}
use Rattle.serve_run.proofs.words.words_behind.Given as goal

abbrev pub invariant-loop-word : goal.invariant-loop-word
invariant-loop-word l = all_texts l.words ≡ l.first ∷ texts (take l.word-index l.others)
