use Rattle.std.proofs.Common.{sym, ap, ◌∙◌}
use Rattle.command_words.specs.Items.{is_dashes, texts}
use Rattle.serve_run.specs.Words.{has_workers, is_workers}
use Rattle.serve_run.proofs.WordLemmas.{workers_end, workers_found, workers_none, workers_on}
use Rattle.serve_run.proofs.words.has_workers.Goals as goal

pub returns-then-is_dashes : goal.returns-then-is_dashes
returns-then-is_dashes c =
    workers_end c.args.words.now c.loop-word.word-index c.word-item.result (has_workers (texts c.args.words.now)) c.loop-word.invariant c.loop-word-test.true c.word-item.is (ap is_dashes (sym c.as_str.ensures.value) ∙ sym c.is_dashes.ensures ∙ c.if-is_dashes.true)

pub returns-then-is_workers : goal.returns-then-is_workers
returns-then-is_workers c =
    workers_found c.args.words.now c.loop-word.word-index c.word-item.result (has_workers (texts c.args.words.now)) c.loop-word.invariant c.loop-word-test.true c.word-item.is (ap is_dashes (sym c.as_str.ensures.value) ∙ sym c.is_dashes.ensures ∙ c.if-is_dashes.false) (ap is_workers (sym c.as_str-in-loop-word.ensures.value) ∙ sym c.is_workers.ensures ∙ c.if-is_workers.true)

pub loop-word-preserved : goal.loop-word-preserved
loop-word-preserved c =
    workers_on c.args.words.now c.loop-word.word-index c.word-item.result (has_workers (texts c.args.words.now)) c.loop-word.invariant c.loop-word-test.true c.word-item.is (ap is_dashes (sym c.as_str.ensures.value) ∙ sym c.is_dashes.ensures ∙ c.if-is_dashes.false) (ap is_workers (sym c.as_str-in-loop-word.ensures.value) ∙ sym c.is_workers.ensures ∙ c.if-is_workers.false)

pub returns : goal.returns
returns c = workers_none c.args.words.now c.loop-word.word-index (has_workers (texts c.args.words.now)) c.loop-word.invariant c.loop-word-test.false
