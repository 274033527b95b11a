-- Lines of a round that are put together in runs.
use Rattle.std.specs.Prelude.{◌≡◌, ◌+◌, ◌<◌, ◌≤◌, ◌^◌, ℕ, suc, Bool, true, false, List, [], ◌∷◌, ◌++◌, length}
use Rattle.std.specs.Bool.{beq}
use Rattle.std.specs.List.{prefix_len}
use Rattle.answer_lines.specs.Printed.{AddsLines, ArePrinted, AreTakenOut, PrintedAnswer, PrintedLine}
use Rattle.answer_lines.specs.declared.printed_lines.PrintedLines.{PrintedLines}
use Rattle.live_rounds.specs.Merged.{line_behind}
use Rattle.live_rounds.specs.Shares.{in_turn}

-- the lines of items behind so many others, of which it is known whether they are requests, as far as there are replies
abbrev pub merged_kinds : ℕ → (kinds : List Bool) → (asked others : List PrintedAnswer) → List PrintedLine
merged_kinds count [] asked others = []
merged_kinds count (true ∷ kinds) [] others = []
merged_kinds count (true ∷ kinds) (reply ∷ asked) others = line_behind count reply ∷ merged_kinds (suc count) kinds asked others
merged_kinds count (false ∷ kinds) asked [] = []
merged_kinds count (false ∷ kinds) asked (reply ∷ others) = line_behind count reply ∷ merged_kinds (suc count) kinds asked others

-- so many of the first kinds are this one, and there is one
pub record BeginsWith (asks : Bool) (count : ℕ) (kinds : List Bool) : Type 0 where
  pub alike : count ≤ prefix_len (λ kind. beq kind asks) kinds
  pub some : 0 < count

-- so many of the first replies are taken out, unless none is left, and their lines stand behind others
pub record TakesReplies (count most number : ℕ) (old new : List PrintedAnswer) (before after : PrintedLines) : Type 0 where
  pub taken : AreTakenOut count number old new before after
  pub long : count ≤ most
  pub ends : count ≡ 0 → old ≡ []
  pub numbers : number + count ≤ 2 ^ 32

-- the next replies to requests, or those to other items, are taken out as lines
abbrev pub IsRunPrinted : (count most : ℕ) (asks : Bool) (number : ℕ) (asked left_asked others left_others : List PrintedAnswer) → (before after : PrintedLines) → Type 0
IsRunPrinted count most true number asked left_asked others left_others before after = TakesReplies count most number asked left_asked before after × (left_others ≡ others)
IsRunPrinted count most false number asked left_asked others left_others before after = TakesReplies count most number others left_others before after × (left_asked ≡ asked)

-- some of the first lines are taken, and printed behind others
pub record AreSomePrinted (some : Bool) (old new : List PrintedLine) (before after : PrintedLines) : Type 0 where
  pub lines : List PrintedLine
  pub parts : old ≡ lines ++ new
  pub added : AddsLines lines before after
  pub some_are : some ≡ true → 0 < length lines
  pub ends : some ≡ false → old ≡ []

-- some of the first lines are taken and printed, unless none is left
pub record FillsWith (old new : List PrintedLine) (printed : PrintedLines) : Type 0 where
  pub lines : List PrintedLine
  pub parts : old ≡ lines ++ new
  pub are : ArePrinted lines printed
  pub ends : lines ≡ [] → old ≡ []

-- lists of replies are passed that have none, up to one that has some
pub record GoesOn (some : Bool) (old new : List PrintedAnswer) (olds news : List (List PrintedAnswer)) : Type 0 where
  pub same : old ++ in_turn olds ≡ new ++ in_turn news
  pub left : some ≡ true → 0 < length new
  pub none : some ≡ false → old ++ in_turn olds ≡ []

-- some of the first lines are taken, and printed alone
pub record TakesSome (some : Bool) (old new : List PrintedLine) (printed : PrintedLines) : Type 0 where
  pub lines : List PrintedLine
  pub parts : old ≡ lines ++ new
  pub are : ArePrinted lines printed
  pub some_are : some ≡ true → 0 < length lines
  pub ends : some ≡ false → old ≡ []
