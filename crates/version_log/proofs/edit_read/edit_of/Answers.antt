use Rattle.std.proofs.Common.{◌∷◌, ◌++◌, [], rules}
use Rattle.version_log.proofs.ReadLemmas.{line_stray}
use Rattle.version_log.specs.EditText.{AreFront}
use Rattle.version_log.proofs.edit_read.edit_of.Goals as goal

pub returns-in_default-2-clause-fault : goal.returns-in_default-2-clause-fault
returns-in_default-2-clause-fault c = λ some.
    let none : ¬ (AreFront (c.loop-line.invariant.front ++ c.in-Some.line.now ∷ [])) = search rules in
    line_stray c.args.text.now c.loop-line.rest.now c.in-Some.line.now c.in-Some.after.now c.loop-line.reading.changes.items c.loop-line.reading.place c.loop-line.number c.loop-line.invariant c.in-Some.ensures.parts c.in-Some.ensures.first none
