use Rattle.serve_run.specs.Helps.WordTexts.{all_texts}
use Rattle.serve_run.proofs.WordLemmas.{texts_all, texts_more}
use Rattle.serve_run.proofs.words.words_behind.Goals as goal

pub loop-word-preserved : goal.loop-word-preserved
loop-word-preserved c =
    texts_more c.args.first.now (all_texts c.loop-word.words) (all_texts c.push_word.new.words) c.args.others.now c.loop-word.word-index c.word-item.result c.as_str.result.now c.loop-word-test.true c.word-item.is c.as_str.ensures.value c.loop-word.invariant c.in_ok-push_word.ensures

pub returns : goal.returns
returns c = texts_all c.args.first.now (all_texts c.loop-word.words) c.args.others.now c.loop-word.word-index c.loop-word-test.false c.loop-word.invariant
