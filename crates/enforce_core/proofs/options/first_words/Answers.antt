use Rattle.std.proofs.Common.{ap, codes}
use Rattle.command_words.specs.Items.{texts}
use Rattle.enforce_core.specs.Helps.Words.{all_texts}
use Rattle.enforce_core.proofs.OptionLemmas.{three_words}
use Rattle.enforce_core.proofs.options.first_words.Goals as goal

pub returns : goal.returns
returns c =
    three_words (all_texts c.new-words.result) (all_texts c.push_word.new.words) (all_texts c.push_word-2.new.words) (all_texts c.push_word-3.new.words) (codes "report") (codes "model") (codes "policy")
    (ap texts c.new-words.ensures.items) c.in_ok-push_word.ensures c.in_ok-push_word-2.ensures c.in_ok-push_word-3.ensures
