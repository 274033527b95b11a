use Rattle.session_meaning.proofs.LineLemmas.{line_stays}
use Rattle.session_meaning.proofs.laws.lines_stay.Goals as goal

pub returns : goal.returns
returns c model shapes opening before item few many line more = line_stays model shapes opening few many
    (λ policy values v. c.judged_is_the_verdict.ensures.more_bad model shapes policy values few many v more) before item line
