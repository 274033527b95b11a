use Rattle.std.proofs.Common.{◌≤◌, length}
use Rattle.std.specs.Str.{IsUtf8}
use Rattle.enforce_core.specs.Helps.Words.{all_texts}
use Rattle.enforce_core.proofs.OptionLemmas.{AreUnderWay}
use Rattle.enforce_core.proofs.options.words_of.Given as goal

abbrev pub invariant-loop-line : goal.invariant-loop-line
invariant-loop-line l = record { same : AreUnderWay l.text (all_texts l.words) l.rest; within : length l.rest ≤ length l.text; utf8 : IsUtf8 l.rest }

abbrev pub decreases-loop-line : goal.decreases-loop-line
decreases-loop-line l = length l.rest
