-- The lines of a round, out of the replies to its requests and of those to its other items.
use Rattle.std.specs.Prelude.{ℕ, suc, List, [], ◌∷◌}
use Rattle.answer_lines.specs.Printed.{PrintedAnswer, PrintedLine}
use Rattle.script_read.specs.Said.{Said}
use Rattle.script_read.specs.Said as said
use Rattle.session_meaning.specs.Plain.{number_behind}

-- the line of an item behind so many others
abbrev pub line_behind : ℕ → PrintedAnswer → PrintedLine
line_behind count reply = record { number = number_behind count; answer = reply }

-- the lines of items behind so many others, as far as there are replies
abbrev pub merged : ℕ → List Said → (asked others : List PrintedAnswer) → List PrintedLine
merged count [] asked others = []
merged count (said.asks reading ∷ items) [] others = []
merged count (said.asks reading ∷ items) (reply ∷ asked) others = line_behind count reply ∷ merged (suc count) items asked others
merged count (item ∷ items) asked [] = []
merged count (item ∷ items) asked (reply ∷ others) = line_behind count reply ∷ merged (suc count) items asked others
