use Rattle.policy_state.proofs.CopyLemmas.{AreCopied}
use Rattle.policy_state.proofs.sections.Sections.copy.Given as goal

abbrev pub invariant-loop-section : goal.invariant-loop-section
invariant-loop-section l = AreCopied l.section-items l.section-index l.sections.items
