-- The lines of a round, run after run.
use Rattle.std.proofs.Common.{◌≡◌, ℕ, zero, suc, ◌+◌, ◌<◌, ◌≤◌, ◌^◌, min, Bool, true, false, List, [], ◌∷◌, ◌++◌, append_assoc, append-nil, drop, length, length-append, map, refl, sym, ap, ◌∙◌, arith}
use Rattle.std.specs.Bool.{beq}
use Rattle.std.specs.List.{prefix_len}
use Rattle.std.proofs.lemmas.Grind.{flat_map-append}
use Rattle.std.proofs.lemmas.List.{map-append}
use Rattle.std.proofs.lemmas.List.Sums.{prefix_len-le-length}
use Rattle.answer_lines.specs.LineText.{numbered}
use Rattle.answer_lines.specs.Printed.{ArePrinted, AreTakenOut, PrintedAnswer, PrintedLine, lines_from, shown_of, text_of}
use Rattle.answer_lines.specs.declared.printed.Shown.{Shown}
use Rattle.answer_lines.specs.declared.printed_lines.PrintedLines.{PrintedLines}
use Rattle.live_rounds.specs.Helps.MergedItems.{AreSomePrinted, BeginsWith, FillsWith, GoesOn, IsRunPrinted, TakesReplies, TakesSome, merged_kinds}
use Rattle.live_rounds.specs.Merged.{line_behind, merged}
use Rattle.live_rounds.specs.Shares.{in_turn}
use Rattle.desk_session.specs.Steps.{is_request}
use Rattle.script_read.specs.Said.{Said}
use Rattle.script_read.specs.Said as said
use Rattle.session_meaning.specs.Plain.{most_number}
use Rattle.std.specs.Prelude.{IfOk, Ok, Err, Result}

-- ---- items by their kinds

pub merged_by_kinds : (count : ℕ) (items : List Said) (asked others : List PrintedAnswer) → merged count items asked others ≡ merged_kinds count (map is_request items) asked others
merged_by_kinds count [] asked others = refl
merged_by_kinds count (said.asks reading ∷ items) [] others = refl
merged_by_kinds count (said.asks reading ∷ items) (reply ∷ asked) others = ap (λ (l : List PrintedLine). line_behind count reply ∷ l) (merged_by_kinds (suc count) items asked others)
merged_by_kinds count (item ∷ items) asked [] = refl
merged_by_kinds count (item ∷ items) asked (reply ∷ others) = ap (λ (l : List PrintedLine). line_behind count reply ∷ l) (merged_by_kinds (suc count) items asked others)

pub merged_from_kinds : (count : ℕ) (items : List Said) (kinds : List Bool) (asked others : List PrintedAnswer) (printed : List PrintedLine) → kinds ≡ map is_request items → printed ≡ merged_kinds count kinds asked others → printed ≡ merged count items asked others
merged_from_kinds count items kinds asked others printed kinds-are is =
    is ∙ ap (λ (l : List Bool). merged_kinds count l asked others) kinds-are ∙ sym (merged_by_kinds count items asked others)

-- ---- runs

-- where numbers go no further, all lines have the last one
kinds_alike : (a b : ℕ) (kinds : List Bool) (asked others : List PrintedAnswer) → min a most_number ≡ min b most_number → merged_kinds a kinds asked others ≡ merged_kinds b kinds asked others
kinds_alike a b [] asked others same = refl
kinds_alike a b (true ∷ kinds) [] others same = refl
kinds_alike a b (true ∷ kinds) (reply ∷ asked) others same =
    let number : min (a + 1) most_number ≡ min (b + 1) most_number = omega (arith, same) in
    let rest = kinds_alike (suc a) (suc b) kinds asked others (omega (arith, same)) in
    λ j. record { number = number j; answer = reply } ∷ rest j
kinds_alike a b (false ∷ kinds) asked [] same = refl
kinds_alike a b (false ∷ kinds) asked (reply ∷ others) same =
    let number : min (a + 1) most_number ≡ min (b + 1) most_number = omega (arith, same) in
    let rest = kinds_alike (suc a) (suc b) kinds asked others (omega (arith, same)) in
    λ j. record { number = number j; answer = reply } ∷ rest j

-- the first lines are those of replies to requests
asked_run : (count number next : ℕ) (kinds : List Bool) (replies left others : List PrintedAnswer) → length replies ≡ count → count ≤ prefix_len (λ (kind : Bool). beq kind true) kinds → (0 < count → next ≡ min (number + 1) most_number) → next + count ≤ suc most_number
    → merged_kinds number kinds (replies ++ left) others ≡ lines_from next replies ++ merged_kinds (number + count) (drop count kinds) left others
asked_run zero number next kinds [] left others long few is fits = let same : number ≡ number + 0 = omega arith in ap (λ (n : ℕ). merged_kinds n kinds left others) same
asked_run zero number next kinds (reply ∷ replies) left others long few is fits = absurd (omega (arith, long))
asked_run (suc count) number next [] replies left others long few is fits = let none : suc count ≤ 0 = few in absurd (omega (arith, none))
asked_run (suc count) number next (false ∷ kinds) replies left others long few is fits = let none : suc count ≤ 0 = few in absurd (omega (arith, none))
asked_run (suc count) number next (true ∷ kinds) [] left others long few is fits = absurd (omega (arith, long))
asked_run (suc count) number next (true ∷ kinds) (reply ∷ replies) left others long few is fits =
    let here : next ≡ min (number + 1) most_number = is (omega arith) in
    let line : line_behind number reply ≡ record { number = next; answer = reply } = ap (λ (k : ℕ). record { number = k; answer = reply }) (sym here) in
    let more : suc count ≤ 1 + prefix_len (λ (kind : Bool). beq kind true) kinds = few in
    let rest = asked_run count (suc number) (suc next) kinds replies left others (omega (arith, long)) (omega (arith, more)) (λ some. omega (arith, here, fits, some)) (omega (arith, fits)) in
    let end : suc number + count ≡ number + suc count = omega arith in
    λ j. line j ∷ (rest ∙ ap (λ (n : ℕ). lines_from (suc next) replies ++ merged_kinds n (drop count kinds) left others) end) j

-- the same of replies to other items
others_run : (count number next : ℕ) (kinds : List Bool) (asked replies left : List PrintedAnswer) → length replies ≡ count → count ≤ prefix_len (λ (kind : Bool). beq kind false) kinds → (0 < count → next ≡ min (number + 1) most_number) → next + count ≤ suc most_number
    → merged_kinds number kinds asked (replies ++ left) ≡ lines_from next replies ++ merged_kinds (number + count) (drop count kinds) asked left
others_run zero number next kinds asked [] left long few is fits = let same : number ≡ number + 0 = omega arith in ap (λ (n : ℕ). merged_kinds n kinds asked left) same
others_run zero number next kinds asked (reply ∷ replies) left long few is fits = absurd (omega (arith, long))
others_run (suc count) number next [] asked replies left long few is fits = let none : suc count ≤ 0 = few in absurd (omega (arith, none))
others_run (suc count) number next (true ∷ kinds) asked replies left long few is fits = let none : suc count ≤ 0 = few in absurd (omega (arith, none))
others_run (suc count) number next (false ∷ kinds) asked [] left long few is fits = absurd (omega (arith, long))
others_run (suc count) number next (false ∷ kinds) asked (reply ∷ replies) left long few is fits =
    let here : next ≡ min (number + 1) most_number = is (omega arith) in
    let line : line_behind number reply ≡ record { number = next; answer = reply } = ap (λ (k : ℕ). record { number = k; answer = reply }) (sym here) in
    let more : suc count ≤ 1 + prefix_len (λ (kind : Bool). beq kind false) kinds = few in
    let rest = others_run count (suc number) (suc next) kinds asked replies left (omega (arith, long)) (omega (arith, more)) (λ some. omega (arith, here, fits, some)) (omega (arith, fits)) in
    let end : suc number + count ≡ number + suc count = omega arith in
    λ j. line j ∷ (rest ∙ ap (λ (n : ℕ). lines_from (suc next) replies ++ merged_kinds n (drop count kinds) asked left) end) j

-- there are none where no reply is left
none_asked : (most number : ℕ) (kinds : List Bool) (others : List PrintedAnswer) → BeginsWith true most kinds → merged_kinds number kinds [] others ≡ []
none_asked most number [] others begins = refl
none_asked most number (true ∷ kinds) others begins = refl
none_asked most number (false ∷ kinds) others begins = let none : most ≤ 0 = begins.alike in absurd (omega (arith, none, begins.some))

none_other : (most number : ℕ) (kinds : List Bool) (asked : List PrintedAnswer) → BeginsWith false most kinds → merged_kinds number kinds asked [] ≡ []
none_other most number [] asked begins = refl
none_other most number (false ∷ kinds) asked begins = refl
none_other most number (true ∷ kinds) asked begins = let none : most ≤ 0 = begins.alike in absurd (omega (arith, none, begins.some))

lines_long : (number : ℕ) (replies : List PrintedAnswer) → length (lines_from number replies) ≡ length replies
lines_long number [] = refl
lines_long number (reply ∷ replies) = ap (λ (n : ℕ). suc n) (lines_long (suc number) replies)

module _ (number next later count most : ℕ) (kinds left : List Bool) (next-is : next ≡ min (number + 1) most_number) (later-is : later ≡ min (number + count) most_number) (left-is : left ≡ drop count kinds) (some : Bool) (is_some : some ≡ true → 0 < count) (is_none : some ≡ false → count ≡ 0) where
  -- the lines of a run, and those behind them
  pub run_on : (asks : Bool) (asked left_asked others left_others : List PrintedAnswer) (before after : PrintedLines) → BeginsWith asks most kinds → IsRunPrinted count most asks next asked left_asked others left_others before after
      → AreSomePrinted some (merged_kinds number kinds asked others) (merged_kinds later left left_asked left_others) before after
  run_on true asked left_asked others left_others before after begins printed =
      let taken = printed.0.taken in
      let run = asked_run count number next kinds taken.answers left_asked others taken.long (omega (arith, printed.0.long, begins.alike)) (λ there. next-is) (omega (arith, printed.0.numbers)) in
      let rest = ap (λ (l : List Bool). merged_kinds (number + count) l left_asked others) (sym left-is) ∙ kinds_alike (number + count) later left left_asked others (omega (arith, later-is)) in
      record {
        lines = lines_from next taken.answers;
        parts = ap (λ (l : List PrintedAnswer). merged_kinds number kinds l others) taken.parts ∙ run
            ∙ ap (λ (l : List PrintedLine). lines_from next taken.answers ++ l) (rest ∙ ap (λ (l : List PrintedAnswer). merged_kinds later left left_asked l) (sym printed.1));
        added = taken.lines;
        some_are = λ is. let there = is_some is in omega (arith, there, taken.long, lines_long next taken.answers);
        ends = λ is. ap (λ (l : List PrintedAnswer). merged_kinds number kinds l others) (printed.0.ends (is_none is)) ∙ none_asked most number kinds others begins;
      }
  run_on false asked left_asked others left_others before after begins printed =
      let taken = printed.0.taken in
      let run = others_run count number next kinds asked taken.answers left_others taken.long (omega (arith, printed.0.long, begins.alike)) (λ there. next-is) (omega (arith, printed.0.numbers)) in
      let rest = ap (λ (l : List Bool). merged_kinds (number + count) l asked left_others) (sym left-is) ∙ kinds_alike (number + count) later left asked left_others (omega (arith, later-is)) in
      record {
        lines = lines_from next taken.answers;
        parts = ap (λ (l : List PrintedAnswer). merged_kinds number kinds asked l) taken.parts ∙ run
            ∙ ap (λ (l : List PrintedLine). lines_from next taken.answers ++ l) (rest ∙ ap (λ (l : List PrintedAnswer). merged_kinds later left l left_others) (sym printed.1));
        added = taken.lines;
        some_are = λ is. let there = is_some is in omega (arith, there, taken.long, lines_long next taken.answers);
        ends = λ is. ap (λ (l : List PrintedAnswer). merged_kinds number kinds asked l) (printed.0.ends (is_none is)) ∙ none_other most number kinds asked begins;
      }

-- how many they are
pub run_within : (asks : Bool) (count most number : ℕ) (kinds : List Bool) (asked left_asked others left_others : List PrintedAnswer) (before after : PrintedLines) → BeginsWith asks most kinds → IsRunPrinted count most asks number asked left_asked others left_others before after → count ≤ length kinds
run_within true count most number kinds asked left_asked others left_others before after begins printed = omega (arith, printed.0.long, begins.alike, prefix_len-le-length (λ (kind : Bool). beq kind true) kinds)
run_within false count most number kinds asked left_asked others left_others before after begins printed = omega (arith, printed.0.long, begins.alike, prefix_len-le-length (λ (kind : Bool). beq kind false) kinds)

pub run_fits : (asks : Bool) (count most number : ℕ) (asked left_asked others left_others : List PrintedAnswer) (before after : PrintedLines) → IsRunPrinted count most asks number asked left_asked others left_others before after → 0 < number → count < 2 ^ 32
run_fits true count most number asked left_asked others left_others before after printed some = omega (arith, printed.0.numbers, some)
run_fits false count most number asked left_asked others left_others before after printed some = omega (arith, printed.0.numbers, some)

-- no item is left
pub run_end : (number : ℕ) (kinds : List Bool) (asked others : List PrintedAnswer) (printed : PrintedLines) → kinds ≡ [] → AreSomePrinted false (merged_kinds number kinds asked others) (merged_kinds number kinds asked others) printed printed
run_end number kinds asked others printed none = record {
  lines = [];
  parts = refl;
  added = record { text = sym (append-nil printed.text.items); shown = sym (append-nil printed.shown.items) };
  some_are = λ is. absurd cc;
  ends = λ is. ap (λ (l : List Bool). merged_kinds number l asked others) none;
}

-- ---- replies that are taken out

none_left : (old : List PrintedAnswer) (count : ℕ) → (0 < length old → 0 < count) → count ≡ 0 → old ≡ []
none_left [] count some none = refl
none_left (reply ∷ old) count some none = let there = some (omega arith) in absurd (omega (arith, there, none))

pub replies_out : {E : Type 0} (r : Result ℕ E) (most number : ℕ) (old new : List PrintedAnswer) (before after : PrintedLines) → 0 < most → IfOk r (λ (count : ℕ). AreTakenOut count number old new before after) → IfOk r (λ (count : ℕ). count ≤ most)
    → IfOk r (λ (count : ℕ). 0 < most → 0 < length old → 0 < count) → IfOk r (λ (count : ℕ). number + count ≤ 2 ^ 32) → IfOk r (λ (count : ℕ). TakesReplies count most number old new before after)
replies_out (Ok count) most number old new before after there taken long some numbers = record { taken = taken; long = long; ends = none_left old count (some there); numbers = numbers }
replies_out (Err fault) most number old new before after there taken long some numbers = tt

module _ (old now : List PrintedAnswer) (olds lists : List (List PrintedAnswer)) where
  -- those of lists behind them are left
  pub replies_on : {E : Type 0} (r : Result ℕ E) (most number : ℕ) (new : List PrintedAnswer) (before after : PrintedLines) → GoesOn true old now olds lists → IfOk r (λ (count : ℕ). TakesReplies count most number now new before after)
      → IfOk r (λ (count : ℕ). TakesReplies count most number (old ++ in_turn olds) (new ++ in_turn lists) before after)
  replies_on (Err fault) most number new before after on takes = tt
  replies_on (Ok count) most number new before after on takes = record {
    taken = record {
      answers = takes.taken.answers;
      parts = on.same ∙ ap (λ (l : List PrintedAnswer). l ++ in_turn lists) takes.taken.parts ∙ append_assoc takes.taken.answers new (in_turn lists);
      long = takes.taken.long;
      lines = takes.taken.lines;
    };
    long = takes.long;
    ends = λ none. let there = on.left refl in absurd (omega (arith, there, ap (λ (l : List PrintedAnswer). length l) (takes.ends none)));
    numbers = takes.numbers;
  }

  -- no list has one
  pub replies_none : (most number : ℕ) (printed : PrintedLines) → GoesOn false old now olds lists → number ≤ 2 ^ 32 → TakesReplies 0 most number (old ++ in_turn olds) (now ++ in_turn lists) printed printed
  replies_none most number printed on fits = record {
    taken = record {
      answers = [];
      parts = on.same;
      long = refl;
      lines = record { text = sym (append-nil printed.text.items); shown = sym (append-nil printed.shown.items) };
    };
    long = omega arith;
    ends = λ none. on.none refl;
    numbers = omega (arith, fits);
  }

module _ {E : Type 0} where
  pub run_asked : (r : Result ℕ E) (asks : Bool) (most number : ℕ) (asked left others : List PrintedAnswer) (before after : PrintedLines) → asks ≡ true → IfOk r (λ (count : ℕ). TakesReplies count most number asked left before after)
      → IfOk r (λ (count : ℕ). IsRunPrinted count most asks number asked left others others before after)
  run_asked (Ok count) true most number asked left others before after is takes = (takes, refl)
  run_asked (Ok count) false most number asked left others before after is takes = absurd cc
  run_asked (Err fault) asks most number asked left others before after is takes = tt

  pub run_other : (r : Result ℕ E) (asks : Bool) (most number : ℕ) (others left asked : List PrintedAnswer) (before after : PrintedLines) → asks ≡ false → IfOk r (λ (count : ℕ). TakesReplies count most number others left before after)
      → IfOk r (λ (count : ℕ). IsRunPrinted count most asks number asked asked others left before after)
  run_other (Ok count) false most number others left asked before after is takes = (takes, refl)
  run_other (Ok count) true most number others left asked before after is takes = absurd cc
  run_other (Err fault) asks most number others left asked before after is takes = tt

-- ---- lines that are taken one run after the other

-- some of the first lines are printed alone
pub record IsFilled (old now : List PrintedLine) (printed : PrintedLines) : Type 0 where
  pub lines : List PrintedLine
  pub parts : old ≡ lines ++ now
  pub are : ArePrinted lines printed

pub filled_none : (old : List PrintedLine) (printed : PrintedLines) → ArePrinted [] printed → IsFilled old old printed
filled_none old printed none = record { lines = []; parts = refl; are = none }

front_none : (lines more : List PrintedLine) → lines ++ more ≡ [] → lines ≡ []
front_none [] more none = refl
front_none (line ∷ lines) more none = let clash : suc (length (lines ++ more)) ≡ 0 = ap (λ (l : List PrintedLine). length l) none in absurd (omega (arith, clash))

shown_long : (lines : List PrintedLine) → length (shown_of lines) ≡ length lines
shown_long [] = refl
shown_long (line ∷ lines) = ap (λ (n : ℕ). suc n) (shown_long lines)

module _ (old now later : List PrintedLine) (before after : PrintedLines) (so : IsFilled old now before) where
  pub filled_more : (some : Bool) → AreSomePrinted some now later before after → IsFilled old later after
  filled_more some run = record {
    lines = so.lines ++ run.lines;
    parts = so.parts ∙ ap (λ (l : List PrintedLine). so.lines ++ l) run.parts ∙ sym (append_assoc so.lines run.lines later);
    are = record {
      text = run.added.text ∙ ap (λ (t : List ℕ). t ++ text_of run.lines) so.are.text ∙ sym (flat_map-append (λ (l : PrintedLine). numbered l.number l.answer.text) so.lines run.lines);
      shown = run.added.shown ∙ ap (λ (l : List Shown). l ++ shown_of run.lines) so.are.shown ∙ sym (map-append (λ (l : PrintedLine). l.answer.shown) so.lines run.lines);
    };
  }

  -- none is left behind those that were printed
  pub filled_out : AreSomePrinted false now later before after → FillsWith old later after
  unfolding filled_more
  filled_out run =
      let all = filled_more false run in
      record {
        lines = all.lines;
        parts = all.parts;
        are = all.are;
        ends = λ none. so.parts ∙ (λ j. front_none so.lines run.lines none j ++ run.ends refl j);
      }

-- there are more of them
pub shown_more : (old new : List PrintedLine) (before after : PrintedLines) → AreSomePrinted true old new before after → length before.shown.items < length after.shown.items
shown_more old new before after run =
    let there = run.some_are refl in
    omega (arith, there, shown_long run.lines, ap (λ (l : List Shown). length l) run.added.shown, length-append before.shown.items (shown_of run.lines))

-- there are some
pub filled_all : (old now : List PrintedLine) (printed : PrintedLines) → IsFilled old now printed → 0 < length printed.shown.items → FillsWith old now printed
filled_all old now printed so some = record {
  lines = so.lines;
  parts = so.parts;
  are = so.are;
  ends = λ none. absurd (omega (arith, some, shown_long so.lines, ap (λ (l : List Shown). length l) so.are.shown, ap (λ (l : List PrintedLine). length l) none));
}

-- by what the lines show
none_shown : (lines : List PrintedLine) → length lines ≡ 0 → lines ≡ []
none_shown [] none = refl
none_shown (line ∷ lines) none = absurd (omega (arith, none))

pub takes_some : (old new : List PrintedLine) (printed : PrintedLines) (count : ℕ) (some : Bool) → FillsWith old new printed → count ≡ length printed.shown.items → (some ≡ true → 0 < count) → (some ≡ false → count ≡ 0) → TakesSome some old new printed
takes_some old new printed count some so count-is is_some is_none = record {
  lines = so.lines;
  parts = so.parts;
  are = so.are;
  some_are = λ is. let there = is_some is in omega (arith, there, count-is, shown_long so.lines, ap (λ (l : List Shown). length l) so.are.shown);
  ends = λ is. let none = is_none is in so.ends (none_shown so.lines (omega (arith, none, count-is, shown_long so.lines, ap (λ (l : List Shown). length l) so.are.shown)));
}
