use Rattle.live_rounds.proofs.RoundLemmas.{lines_for}
use Rattle.live_rounds.proofs.laws.replies_are_the_lines_of_a_round.Goals as goal

pub returns : goal.returns
returns c model shapes opening before round others low parts lists refused asked replies are each rise answered all told =
    let lines = lines_for model shapes opening before round others parts lists refused asked replies low are each rise answered all told in
    (lines.of_items, lines.lines, lines.lines_are, lines.told, lines.refused_are)
