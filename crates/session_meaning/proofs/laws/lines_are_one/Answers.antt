use Rattle.std.proofs.Common.{None}
use Rattle.session_meaning.proofs.LineLemmas.{plain_one}
use Rattle.session_meaning.proofs.laws.lines_are_one.Goals as goal

pub returns : goal.returns
returns c model shapes opening items refused others first second = plain_one model shapes opening
    (λ few many unread no_other policy values v w p q. c.case_verdict_is_unique.ensures model shapes policy values None v w
    (c.unreadable_patterns_are_refused_without_effect.ensures.judged model shapes policy values few v unread p) (c.unreadable_patterns_are_refused_without_effect.ensures.judged model shapes policy values many w no_other q)) items refused others first second
