-- Answers that are put in behind others, and taken out.
use Rattle.std.proofs.Common.{◌≡◌, ℕ, zero, suc, ◌+◌, ◌-◌, ◌<◌, ◌≤◌, List, [], ◌∷◌, ◌++◌, append_assoc, append-nil, codes, decimal, drop, length, length-append, map, slice_get, Option, Some, take, refl, sym, ap, subst, ◌∙◌, arith}
use Rattle.std.proofs.Math.Seq.{drop-append-add, take-add, take-append_seam}
use Rattle.std.proofs.lemmas.List.{drop-append-le, drop-drop, length-drop, length-take-le, take-append-le}
use Rattle.answer_lines.specs.Helps.Marked.{AreLines, AreMarked, IsRun, TellsLine, answer_of, marked, shown_by_mark, size_of, told_in}
use Rattle.answer_lines.specs.LineText.{numbered}
use Rattle.answer_lines.specs.Printed.{AddsLine, AddsLines, AreTakenOut, PrintedAnswer, PrintedLine, lines_from, shown_of, text_of}
use Rattle.answer_lines.specs.declared.kept.Mark.{Mark}
use Rattle.answer_lines.specs.declared.printed.Shown.{Shown}
use Rattle.answer_lines.specs.declared.printed_lines.PrintedLines.{PrintedLines}

-- ---- one line

regroup : (a b c d : List ℕ) → ((a ++ b) ++ c) ++ d ≡ a ++ (b ++ (c ++ d))
regroup a b c d = simp append_assoc

pub told_numbered : (number : ℕ) (told : List ℕ) → told_in number (numbered number told) ≡ told
told_numbered number told =
    let behind : List ℕ = codes " " ++ (told ++ codes "\n") in
    let whole : numbered number told ≡ decimal number ++ behind = regroup (decimal number) (codes " ") told (codes "\n") in
    let front : length (decimal number ++ behind) ≡ length (decimal number) + length behind = length-append (decimal number) behind in
    let blank : length behind ≡ suc (length (told ++ codes "\n")) = refl in
    let end : length (told ++ codes "\n") ≡ length told + 1 = length-append told (codes "\n") in
    let long : length (decimal number ++ behind) - (length (decimal number) + 2) ≡ length told = omega (arith, front, blank, end) in
    ap (told_in number) whole ∙ (λ j. take (long j) (drop-append-add (decimal number) behind 1 j)) ∙ take-append_seam told (codes "\n")

pub tells_line : (number : ℕ) (told line : List ℕ) → line ≡ numbered number told → TellsLine number line
tells_line number told line is = is ∙ ap (numbered number) (sym (ap (told_in number) is ∙ told_numbered number told))

pub told_line : (number : ℕ) (told line : List ℕ) → line ≡ numbered number told → told_in number line ≡ told
told_line number told line is = ap (told_in number) is ∙ told_numbered number told

-- ---- one more

lines_more : (marks : List Mark) (mark : Mark) (text line : List ℕ) → AreLines marks text → mark.size ≡ length line → TellsLine mark.number line → AreLines (marks ++ mark ∷ []) (text ++ line)
lines_more [] mark text line none is tells =
    let whole : text ++ line ≡ line = ap (λ (t : List ℕ). t ++ line) none in
    let all : take mark.size (text ++ line) ≡ line = (λ j. take (is j) (whole j)) ∙ take_all line in
    let nothing : drop mark.size (text ++ line) ≡ [] = (λ j. drop (is j) (whole j)) ∙ drop_all line in
    (omega (arith, is, ap (λ (t : List ℕ). length t) whole), subst (TellsLine mark.number) (sym all) tells, nothing)
  where
    take_all : (l : List ℕ) → take (length l) l ≡ l
    take_all l = ap (take (length l)) (sym (append-nil l)) ∙ take-append_seam l []

    drop_all : (l : List ℕ) → drop (length l) l ≡ []
    drop_all l =
        let none : length l + 0 ≡ length l = omega arith in
        (λ j. drop (sym none j) (sym (append-nil l) j)) ∙ drop-append-add l [] 0
lines_more (first ∷ marks) mark text line are is tells = (
  omega (arith, are.0, length-append text line),
  subst (TellsLine first.number) (sym (take-append-le first.size text line are.0)) are.1,
  subst (AreLines (marks ++ mark ∷ [])) (sym (drop-append-le first.size text line are.0)) (lines_more marks mark (drop first.size text) line are.2 is tells),
)

marked_more : (marks : List Mark) (mark : Mark) (text line : List ℕ) → AreLines marks text → mark.size ≡ length line → marked (marks ++ mark ∷ []) (text ++ line) ≡ marked marks text ++ answer_of (told_in mark.number line) mark.shown ∷ []
marked_more [] mark text line none is =
    let all : take mark.size (text ++ line) ≡ line = (λ j. take (is j) (none j ++ line)) ∙ ap (take (length line)) (sym (append-nil line)) ∙ take-append_seam line [] in
    ap (λ (t : List ℕ). answer_of (told_in mark.number t) mark.shown ∷ []) all
marked_more (first ∷ marks) mark text line are is =
    let rest = marked_more marks mark (drop first.size text) line are.2 is in
    (λ j. answer_of (told_in first.number (take-append-le first.size text line are.0 j)) first.shown ∷ marked (marks ++ mark ∷ []) (drop-append-le first.size text line are.0 j))
    ∙ ap (λ (l : List PrintedAnswer). answer_of (told_in first.number (take first.size text)) first.shown ∷ l) rest

module _ (from taken : ℕ) (texts line new_texts : List ℕ) (marks new_marks : List Mark) (mark : Mark) (are : AreMarked from taken texts marks) (texts-are : new_texts ≡ texts ++ line) (marks-are : new_marks ≡ marks ++ mark ∷ []) (is : mark.size ≡ length line) where
  left_texts : drop from new_texts ≡ drop from texts ++ line
  left_texts = ap (drop from) texts-are ∙ drop-append-le from texts line are.within

  left_marks : drop taken new_marks ≡ drop taken marks ++ mark ∷ []
  left_marks = ap (drop taken) marks-are ∙ drop-append-le taken marks (mark ∷ []) are.few

  pub pushed_marked : TellsLine mark.number line → AreMarked from taken new_texts new_marks
  pushed_marked tells = record {
    few = omega (arith, are.few, ap (λ (l : List Mark). length l) marks-are, length-append marks (mark ∷ []));
    within = omega (arith, are.within, ap (λ (l : List ℕ). length l) texts-are, length-append texts line);
    lines = subst (λ (l : List Mark). AreLines l (drop from new_texts)) (sym left_marks) (subst (AreLines (drop taken marks ++ mark ∷ [])) (sym left_texts) (lines_more (drop taken marks) mark (drop from texts) line are.lines is tells));
  }

  pub pushed_answer : (number : ℕ) (shown : Shown) → mark.number ≡ number → mark.shown ≡ shown → marked (drop taken new_marks) (drop from new_texts) ≡ marked (drop taken marks) (drop from texts) ++ answer_of (told_in number line) shown ∷ []
  pushed_answer number shown number-is shown-is =
      (λ j. marked (left_marks j) (left_texts j)) ∙ marked_more (drop taken marks) mark (drop from texts) line are.lines is
      ∙ (λ j. marked (drop taken marks) (drop from texts) ++ answer_of (told_in (number-is j) line) (shown-is j) ∷ [])

  -- the answer of the line
  pub answer_more : (number : ℕ) (answer : PrintedAnswer) (old : List PrintedAnswer) → line ≡ numbered number answer.text → mark.number ≡ number → mark.shown ≡ answer.shown → marked (drop taken marks) (drop from texts) ≡ old → marked (drop taken new_marks) (drop from new_texts) ≡ old ++ answer ∷ []
  answer_more number answer old line-is number-is shown-is view-is = pushed_answer number answer.shown number-is shown-is ∙ (λ j. view-is j ++ answer_of (told_line number answer.text line line-is j) answer.shown ∷ [])

-- ---- how many there are

pub length_marked : (marks : List Mark) (text : List ℕ) → length (marked marks text) ≡ length marks
length_marked [] text = refl
length_marked (mark ∷ marks) text = ap (λ (k : ℕ). suc k) (length_marked marks (drop mark.size text))

pub size_lines : (marks : List Mark) (text : List ℕ) → AreLines marks text → size_of marks ≡ length text
size_lines [] text none = ap (λ (t : List ℕ). length t) (sym none)
size_lines (mark ∷ marks) text are = let rest = size_lines marks (drop mark.size text) are.2 in omega (arith, rest, are.0, length-drop mark.size text)

-- ---- a run of lines

pub run_more : (number count : ℕ) (marks : List Mark) (mark : Mark) → IsRun number count marks → slice_get marks count ≡ Some mark → mark.number ≡ number + count → IsRun number (count + 1) marks
run_more number count marks mark run here is =
    let one : suc count ≡ count + 1 = omega arith in
    subst (λ (k : ℕ). IsRun number k marks) one (more number count marks run here is)
  where
    more : (number count : ℕ) (marks : List Mark) → IsRun number count marks → slice_get marks count ≡ Some mark → mark.number ≡ number + count → IsRun number (suc count) marks
    more number zero [] run here is = absurd cc
    more number zero (first ∷ marks) run here is =
        let same : first ≡ mark = cc in
        let none : number + 0 ≡ number = omega arith in
        (ap (λ (m : Mark). m.number) same ∙ is ∙ none, tt)
    more number (suc count) [] run here is = absurd run
    more number (suc count) (first ∷ marks) run here is =
        let next : mark.number ≡ suc number + count = omega (arith, is) in
        (run.0, more (suc number) count marks run.1 here next)

pub size_more : (count : ℕ) (marks : List Mark) (mark : Mark) → slice_get marks count ≡ Some mark → size_of (take (count + 1) marks) ≡ size_of (take count marks) + mark.size
size_more count marks mark here =
    let one : suc count ≡ count + 1 = omega arith in
    ap (λ (k : ℕ). size_of (take k marks)) (sym one) ∙ more count marks here
  where
    more : (count : ℕ) (marks : List Mark) → slice_get marks count ≡ Some mark → size_of (take (suc count) marks) ≡ size_of (take count marks) + mark.size
    more zero [] here = absurd cc
    more zero (first ∷ marks) here =
        let same : first ≡ mark = cc in
        let size : first.size ≡ mark.size = ap (λ (m : Mark). m.size) same in
        let sum : size_of (take 1 (first ∷ marks)) ≡ first.size + 0 = refl in
        let none : size_of (take 0 (first ∷ marks)) ≡ 0 = refl in
        omega (arith, size, sum, none)
    more (suc count) [] here = absurd cc
    more (suc count) (first ∷ marks) here =
        let rest = more count marks here in
        let left : size_of (take (suc (suc count)) (first ∷ marks)) ≡ first.size + size_of (take (suc count) marks) = refl in
        let right : size_of (take (suc count) (first ∷ marks)) ≡ first.size + size_of (take count marks) = refl in
        omega (arith, rest, left, right)

pub size_within : (count : ℕ) (marks : List Mark) → size_of (take count marks) ≤ size_of marks
size_within zero marks = omega arith
size_within (suc count) [] = omega arith
size_within (suc count) (mark ∷ marks) = let rest = size_within count marks in omega (arith, rest)

-- one mark more of a run fits
pub size_fits : (size count : ℕ) (marks : List Mark) (mark : Mark) → slice_get marks count ≡ Some mark → size ≡ size_of (take count marks) → size + mark.size ≤ size_of marks
size_fits size count marks mark here is = let more = size_more count marks mark here in let within = size_within (count + 1) marks in omega (arith, is, more, within)

-- what a run of lines is, and what stands behind it
pub record IsTakenRun (number count : ℕ) (marks : List Mark) (text : List ℕ) : Type 0 where
  pub answers : List PrintedAnswer
  pub parts : marked marks text ≡ answers ++ marked (drop count marks) (drop (size_of (take count marks)) text)
  pub long : length answers ≡ count
  pub text_is : take (size_of (take count marks)) text ≡ text_of (lines_from number answers)
  pub shown_is : map shown_by_mark (take count marks) ≡ shown_of (lines_from number answers)
  pub lines : AreLines (drop count marks) (drop (size_of (take count marks)) text)
  pub within : size_of (take count marks) ≤ length text
  pub few : count ≤ length marks

pub run_taken : (number count : ℕ) (marks : List Mark) (text : List ℕ) → AreLines marks text → IsRun number count marks → IsTakenRun number count marks text
run_taken number zero marks text are run = record {
  answers = [];
  parts = refl;
  long = refl;
  text_is = refl;
  shown_is = refl;
  lines = are;
  within = omega arith;
  few = omega arith;
}
run_taken number (suc count) [] text are run = absurd run
run_taken number (suc count) (mark ∷ marks) text are run =
    let rest = run_taken (suc number) count marks (drop mark.size text) are.2 run.1 in
    let size : ℕ = size_of (take count marks) in
    let told : List ℕ = told_in mark.number (take mark.size text) in
    let behind : drop size (drop mark.size text) ≡ drop (mark.size + size) text = drop-drop size mark.size text in
    let line : take mark.size text ≡ numbered number told = are.1 ∙ ap (λ (n : ℕ). numbered n told) run.0 in
    record {
      answers = answer_of told mark.shown ∷ rest.answers;
      parts = ap (λ (l : List PrintedAnswer). answer_of told mark.shown ∷ l) (rest.parts ∙ ap (λ (t : List ℕ). rest.answers ++ marked (drop count marks) t) behind);
      long = ap (λ (k : ℕ). suc k) rest.long;
      text_is = take-add mark.size size text ∙ (λ j. line j ++ rest.text_is j);
      shown_is = ap (λ (l : List Shown). mark.shown ∷ l) rest.shown_is;
      lines = subst (AreLines (drop count marks)) behind rest.lines;
      within = omega (arith, are.0, rest.within, length-drop mark.size text);
      few = omega (arith, rest.few);
    }

-- a run that is copied behind other lines is taken out
module _ (from taken number count size : ℕ) (texts : List ℕ) (marks : List Mark) (are : AreMarked from taken texts marks) (run : IsRun number count (drop taken marks)) (size-is : size ≡ size_of (take count (drop taken marks))) where
  run_is : IsTakenRun number count (drop taken marks) (drop from texts)
  run_is = run_taken number count (drop taken marks) (drop from texts) are.lines run

  left_behind : drop (from + size) texts ≡ drop (size_of (take count (drop taken marks))) (drop from texts)
  left_behind = ap (λ (n : ℕ). drop (from + n) texts) size-is ∙ sym (drop-drop (size_of (take count (drop taken marks))) from texts)

  marks_behind : drop (taken + count) marks ≡ drop count (drop taken marks)
  marks_behind = sym (drop-drop count taken marks)

  pub run_fits : from + size ≤ length texts
  run_fits = let r = run_is in omega (arith, r.within, size-is, are.within, length-drop from texts)

  pub run_few : taken + count ≤ length marks
  run_few = let r = run_is in omega (arith, r.few, are.few, length-drop taken marks)

  pub run_left : AreMarked (from + size) (taken + count) texts marks
  run_left = let r = run_is in record {
    few = run_few;
    within = run_fits;
    lines = subst (λ (l : List Mark). AreLines l (drop (from + size) texts)) (sym marks_behind) (subst (AreLines (drop count (drop taken marks))) (sym left_behind) r.lines);
  }

  pub run_out : (before after : PrintedLines) → after.text.items ≡ before.text.items ++ take size (drop from texts) → after.shown.items ≡ before.shown.items ++ map shown_by_mark (take count (drop taken marks))
      → AreTakenOut count number (marked (drop taken marks) (drop from texts)) (marked (drop (taken + count) marks) (drop (from + size) texts)) before after
  run_out before after text-is shown-is = let r = run_is in record {
    answers = r.answers;
    parts = r.parts ∙ (λ j. r.answers ++ marked (sym marks_behind j) (sym left_behind j));
    long = r.long;
    lines = record {
      text = text-is ∙ ap (λ (t : List ℕ). before.text.items ++ t) (ap (λ (n : ℕ). take n (drop from texts)) size-is ∙ r.text_is);
      shown = shown-is ∙ ap (λ (l : List Shown). before.shown.items ++ l) r.shown_is;
    };
  }

-- one line that is printed anew
pub one_out : (number : ℕ) (answer : PrintedAnswer) (old new : List PrintedAnswer) (before after : PrintedLines) → old ≡ answer ∷ new → AddsLine number answer.text answer.shown before after → AreTakenOut 1 number old new before after
one_out number answer old new before after is adds = record {
  answers = answer ∷ [];
  parts = is;
  long = refl;
  lines = record { text = adds.text ∙ ap (λ (t : List ℕ). before.text.items ++ t) (sym (append-nil (numbered number answer.text))); shown = adds.shown };
}

-- none is there
pub none_out : (number : ℕ) (old : List PrintedAnswer) (lines : PrintedLines) → AreTakenOut 0 number old old lines lines
none_out number old lines = record {
  answers = [];
  parts = refl;
  long = refl;
  lines = record { text = sym (append-nil lines.text.items); shown = sym (append-nil lines.shown.items) };
}

-- ---- the first

module _ (from taken : ℕ) (texts : List ℕ) (marks : List Mark) (mark : Mark) (are : AreMarked from taken texts marks) (here : slice_get marks taken ≡ Some mark) where
  pub first_mark : drop taken marks ≡ mark ∷ drop (taken + 1) marks
  first_mark = drop_at taken marks mark here
    where
      drop_at : (n : ℕ) (xs : List Mark) (x : Mark) → slice_get xs n ≡ Some x → drop n xs ≡ x ∷ drop (n + 1) xs
      drop_at n [] x is = absurd cc
      drop_at zero (y ∷ xs) x is = let same : y ≡ x = cc in ap (λ (a : Mark). a ∷ xs) same
      drop_at (suc n) (y ∷ xs) x is =
          let same : suc (n + 1) ≡ suc n + 1 = omega arith in
          drop_at n xs x is ∙ ap (λ (k : ℕ). x ∷ drop k (y ∷ xs)) same

  first_lines : AreLines (mark ∷ drop (taken + 1) marks) (drop from texts)
  first_lines = subst (λ (l : List Mark). AreLines l (drop from texts)) first_mark are.lines

  pub first_fits : from + mark.size ≤ length texts
  first_fits = omega (arith, first_lines.0, are.within, length-drop from texts)

  pub first_tells : (n : ℕ) (all : List ℕ) → n ≡ mark.size → all ≡ texts → TellsLine mark.number (take n (drop from all))
  first_tells n all n-is all-is =
      let line : take n (drop from all) ≡ take mark.size (drop from texts) = λ j. take (n-is j) (drop from (all-is j)) in
      subst (TellsLine mark.number) (sym line) first_lines.1

  pub first_left : AreMarked (from + mark.size) (taken + 1) texts marks
  first_left = record {
    few = omega (arith, are.few, length-drop taken marks, ap (λ (l : List Mark). length l) first_mark);
    within = first_fits;
    lines = subst (AreLines (drop (taken + 1) marks)) (drop-drop mark.size from texts) first_lines.2;
  }

  pub first_out : (number n : ℕ) (all told : List ℕ) (before after : PrintedLines) → n ≡ mark.size → all ≡ texts → told ≡ told_in mark.number (take n (drop from all)) → AddsLine number told mark.shown before after
      → AreTakenOut 1 number (marked (drop taken marks) (drop from texts)) (marked (drop (taken + 1) marks) (drop (from + mark.size) texts)) before after
  first_out number n all told before after n-is all-is told-is adds =
      let line : take n (drop from all) ≡ take mark.size (drop from texts) = λ j. take (n-is j) (drop from (all-is j)) in
      let text : told ≡ told_in mark.number (take mark.size (drop from texts)) = told-is ∙ ap (told_in mark.number) line in
      one_out number (answer_of told mark.shown) (marked (drop taken marks) (drop from texts)) (marked (drop (taken + 1) marks) (drop (from + mark.size) texts)) before after
      (ap (λ (l : List Mark). marked l (drop from texts)) first_mark
      ∙ (λ j. answer_of (sym text j) mark.shown ∷ marked (drop (taken + 1) marks) (drop-drop mark.size from texts j))) adds
