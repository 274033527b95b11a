use Rattle.std.proofs.Common.{◌++◌, List, ℕ, ap, arith, rules}
use Rattle.text_parts.specs.Numbered.{text_lines}
use Rattle.enforce_core.specs.Helps.Words.{all_texts}
use Rattle.enforce_core.proofs.OptionLemmas.{no_more, one_more}
use Rattle.enforce_core.proofs.options.words_of.Goals as goal

pub loop-line-init : goal.loop-line-init
loop-line-init c = record { same = ap (λ (words : List (List ℕ)). words ++ text_lines c.args.text.now) c.in_ok-words.ensures; within = omega arith; utf8 = search rules }

pub loop-line-preserved : goal.loop-line-preserved
loop-line-preserved c = record {
  same = one_more c.args.text.now c.loop-line.rest.now c.in-Some.after.now (all_texts c.loop-line.words) (all_texts c.push_word.new.words) c.in-Some.line.now c.loop-line.invariant.same c.in-Some.ensures.first c.in_ok-push_word.ensures;
  within = omega (arith, c.in-Some.ensures.shorter);
  utf8 = search rules;
}

pub returns : goal.returns
returns c = no_more c.args.text.now c.loop-line.rest.now (all_texts c.loop-line.words) c.loop-line.invariant.same c.in_default.ensures.none
