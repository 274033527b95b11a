use Rattle.std.proofs.Common.{◌∙◌, length-set, arith}
use Rattle.role_graph.proofs.MarkLemmas.{word_cleared}
use Rattle.role_graph.proofs.marks.Marks.clear.Goals as goal

pub loop-word-init : goal.loop-word-init
loop-word-init c = record { long = c.self.told; none = λ at low. absurd (omega (arith, low)) }

pub loop-word-preserved : goal.loop-word-preserved
loop-word-preserved c = record {
  long = length-set c.loop-word.self-inside.words c.loop-word.word 0 ∙ c.loop-word.invariant.long;
  none = λ at low one.
      word_cleared c.loop-word.self-inside.words c.loop-word.word at (omega (arith, c.loop-word.invariant.long, c.loop-word-test.true, c.requires)) low c.loop-word.invariant.none one;
}

pub returns : goal.returns
returns c = λ at low one. c.loop-word.invariant.none at (omega (arith, low, c.loop-word-test.false)) one
