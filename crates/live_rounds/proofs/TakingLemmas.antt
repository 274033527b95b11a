-- The lines of a round that are taken, some after the other.
use Rattle.std.proofs.Common.{◌≡◌, inl, inr, List, [], ◌∷◌, ◌++◌, append_assoc, append-nil, drop, length, map, refl, sym, take, take-append-drop, ap, subst, ◌∙◌, arith}
use Rattle.answer_lines.specs.Printed.{ArePrinted, printed_line}
use Rattle.answer_lines.specs.declared.answer.Line.{Line}
use Rattle.answer_lines.specs.Printed.{PrintedLine}
use Rattle.answer_lines.specs.declared.printed_lines.PrintedLines.{PrintedLines}
use Rattle.live_rounds.proofs.RoundLemmas.{drop_front, take_front}
use Rattle.live_rounds.proofs.SharesLemmas.{map_drop, map_take}
use Rattle.live_rounds.specs.Shares.{in_turn}
use Rattle.live_rounds.specs.Taken.{AreAllTaken, AreSomeTaken, AreTaken}
use Rattle.live_rounds.specs.declared.taker.TakeStop.{TakeStop}
use Rattle.live_rounds.specs.declared.taker.TakeStop.TheVariants.{NoMemory}

-- ---- lists that are taken in turn

pub in_turn_both : {X : Type 0} (lists others : List (List X)) → in_turn (lists ++ others) ≡ in_turn lists ++ in_turn others
in_turn_both [] others = refl
in_turn_both {X = X} (xs ∷ lists) others = ap (λ (l : List X). xs ++ l) (in_turn_both lists others) ∙ sym (append_assoc xs (in_turn lists) (in_turn others))

in_turn_one : {X : Type 0} (lists : List (List X)) (more : List X) → in_turn (lists ++ more ∷ []) ≡ in_turn lists ++ more
in_turn_one {X = X} lists more = in_turn_both lists (more ∷ []) ∙ ap (λ (l : List X). in_turn lists ++ l) (append-nil more)

pub taken_both : {X : Type 0} (took : X → List Line → X → Type 0) (old mid new : X) (lists others : List (List Line)) → AreTaken took old lists mid → AreTaken took mid others new → AreTaken took old (lists ++ others) new
taken_both took old mid new [] others first last = subst (λ (x : _). AreTaken took x others new) first last
taken_both took old mid new (lines ∷ lists) others first last = (first.0, first.1, taken_both took first.0 mid new lists others first.2 last)

pub all_assoc : {X : Type 0} (a b c d e : List X) → (a ++ (b ++ (c ++ d))) ++ e ≡ (a ++ b) ++ (c ++ (d ++ e))
all_assoc a b c d e = simp append_assoc

-- ---- the lines of one round

-- lines of which the first are some, and those behind them
module _ (chunk rest : List PrintedLine) (back : List Line) (left : chunk ++ rest ≡ map printed_line back) where
  abbrev pub front : List Line
  front = take (length chunk) back

  abbrev pub behind : List Line
  behind = drop (length chunk) back

  pub front_is : chunk ≡ map printed_line front
  front_is = sym (take_front (length chunk) chunk rest refl) ∙ ap (take (length chunk)) left ∙ sym (map_take printed_line (length chunk) back)

  pub behind_is : rest ≡ map printed_line behind
  behind_is = sym (drop_front (length chunk) chunk rest refl) ∙ ap (drop (length chunk)) left ∙ sym (map_drop printed_line (length chunk) back)

  pub both_are : back ≡ front ++ behind
  both_are = sym (take-append-drop (length chunk) back)

none_printed : (back : List Line) (printed : List PrintedLine) → printed ≡ map printed_line back → printed ≡ [] → back ≡ []
none_printed [] printed is none = refl
none_printed (line ∷ back) printed is none = absurd (omega (arith, ap (λ (l : List PrintedLine). length l) is, ap (λ (l : List PrintedLine). length l) none))

-- lines that are printed, by what they tell
pub are_told : (chunk : List PrintedLine) (printed : PrintedLines) (lines : List Line) → ArePrinted chunk printed → chunk ≡ map printed_line lines → ArePrinted (map printed_line lines) printed
are_told chunk printed lines are same = subst (λ (l : List PrintedLine). ArePrinted l printed) same are

module _ {X : Type 0} (took : X → List Line → X → Type 0) (stopped : X → List Line → X → TakeStop → Type 0) (old : X) (whole : List Line) where
  -- the first of these lines were taken, and the others are left
  pub record IsTakenTo (rest : List PrintedLine) (to : X) : Type 0 where
    pub lists : List (List Line)
    pub back : List Line
    pub parts : whole ≡ in_turn lists ++ back
    pub left : rest ≡ map printed_line back
    pub taken : AreTaken took old lists to

  pub taken_none : (told rest : List PrintedLine) → told ≡ map printed_line whole → rest ≡ told → IsTakenTo rest old
  taken_none told rest same is = record { lists = []; back = whole; parts = refl; left = is ∙ same; taken = refl }

  module _ (chunk rest next : List PrintedLine) (to : X) (so : IsTakenTo rest to) (rest-is : rest ≡ chunk ++ next) where
    left_is : chunk ++ next ≡ map printed_line so.back
    left_is = sym rest-is ∙ so.left

    -- some of them are taken
    pub taken_next : (later : X) → ((lines : List Line) → chunk ≡ map printed_line lines → took to lines later) → IsTakenTo next later
    taken_next later takes =
        let first = front chunk next so.back left_is in
        let others = behind chunk next so.back left_is in
        record {
          lists = so.lists ++ first ∷ [];
          back = others;
          parts = so.parts ∙ ap (λ (l : List Line). in_turn so.lists ++ l) (both_are chunk next so.back left_is) ∙ sym (append_assoc (in_turn so.lists) first others) ∙ ap (λ (l : List Line). l ++ others) (sym (in_turn_one so.lists first));
          left = behind_is chunk next so.back left_is;
          taken = taken_both took old to later so.lists (first ∷ []) so.taken (later, takes first (front_is chunk next so.back left_is), refl);
        }

    -- they were not taken to their end
    pub taken_amid : (later : X) (stop : TakeStop) → ((lines : List Line) → chunk ≡ map printed_line lines → stopped to lines later stop) → AreSomeTaken took stopped old whole later stop
    taken_amid later stop stops = record {
      lists = so.lists;
      mid = to;
      next = front chunk next so.back left_is;
      more = behind chunk next so.back left_is;
      taken = so.taken;
      parts = so.parts ∙ ap (λ (l : List Line). in_turn so.lists ++ l) (both_are chunk next so.back left_is);
      ends = inr (stops (front chunk next so.back left_is) (front_is chunk next so.back left_is));
    }

  module _ (rest : List PrintedLine) (to : X) (so : IsTakenTo rest to) where
    -- none is left
    pub taken_all : rest ≡ [] → AreAllTaken took old whole to
    taken_all none =
        let nil : so.back ≡ [] = none_printed so.back rest so.left none in
        record { lists = so.lists; taken = so.taken; are = so.parts ∙ ap (λ (l : List Line). in_turn so.lists ++ l) nil ∙ append-nil (in_turn so.lists) }

    -- memory ran out before they were taken
    pub taken_early : AreSomeTaken took stopped old whole to NoMemory
    taken_early = record { lists = so.lists; mid = to; next = []; more = so.back; taken = so.taken; parts = so.parts; ends = inl (refl, refl) }
