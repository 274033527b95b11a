-- Rounds one after the other.
use Rattle.std.proofs.Common.{◌≡◌, inl, ℕ, zero, suc, ◌+◌, ◌<◌, ◌≤◌, Bool, true, false, List, [], ◌∷◌, ◌++◌, append_assoc, append-nil, drop, length, length-append, take, refl, sym, ap, subst, ◌∙◌, arith}
use Rattle.std.specs.Prelude.{if◌then◌else◌, sum_by}
use Rattle.std.specs.List.{AllZip}
use Rattle.std.proofs.lemmas.List.Sums.{sum_by-append}
use Rattle.answer_lines.specs.declared.answer.Line.{Line}
use Rattle.answer_lines.specs.Printed.{PrintedLine}
use Rattle.live_pair.specs.Admins.{AdminSeen}
use Rattle.live_pair.specs.Seats.{SeatSeen}
use Rattle.live_rounds.proofs.RoundLemmas.{drop_front, take_front}
use Rattle.live_rounds.proofs.ShareLemmas.{all_weighed}
use Rattle.live_rounds.proofs.TakingLemmas.{all_assoc, in_turn_both, taken_both}
use Rattle.live_rounds.proofs.AllSharesLemmas.{same_refusals}
use Rattle.live_rounds.specs.Administrators.{IsAdminBehind}
use Rattle.live_rounds.specs.Done.{AreLinesOf, HaveRefused, IsRun}
use Rattle.live_rounds.specs.Scripts.{AreAllShared, AreSharedLines, AreSomeShared, IsFirstRound, round_size}
use Rattle.live_rounds.specs.Shares.{in_turn}
use Rattle.live_rounds.specs.Taken.{AreAllTaken, AreSomeTaken}
use Rattle.live_rounds.specs.declared.taker.TakeStop.{TakeStop}
use Rattle.live_rounds.specs.declared.taker.TakeStop.TheVariants.{NoMemory}
use Rattle.model_conf.specs.ModelText.{ModelParts}
use Rattle.perm_base.specs.declared.shapes.Shapes.{Shapes}
use Rattle.policy_table.specs.Tables.{Policy}
use Rattle.regex_gate.proofs.CallerLemmas.{used_none, used_then}
use Rattle.regex_gate.specs.Refusals.{IsUsed, Refusals, after_refusals}
use Rattle.script_read.specs.Said.{Said}
use Rattle.session_meaning.specs.Plain.{all_refused, none_refused}
use Rattle.session_meaning.specs.Rounds.{AreLinesAt, AreOfRound, AreOfRounds, IsShared, is_sync, onto_first, rounds_of}

-- ---- the first round

-- a script is its first round and the others
pub first_round_is : (item : Said) (items : List Said) → rounds_of (item ∷ items) ≡ take (round_size (item ∷ items)) (item ∷ items) ∷ rounds_of (drop (round_size (item ∷ items)) (item ∷ items))
first_round_is item [] = by (is_sync item)
  where
    by : (test : Bool) → (if test then (item ∷ []) ∷ [] else (item ∷ []) ∷ []) ≡ take (if test then 1 else suc 0) (item ∷ []) ∷ rounds_of (drop (if test then 1 else suc 0) (item ∷ []))
    by true = refl
    by false = refl
first_round_is item (next ∷ items) = by (is_sync item) (first_round_is next items)
  where
    by : (test : Bool) → rounds_of (next ∷ items) ≡ take (round_size (next ∷ items)) (next ∷ items) ∷ rounds_of (drop (round_size (next ∷ items)) (next ∷ items))
        → (if test then (item ∷ []) ∷ rounds_of (next ∷ items) else onto_first item (rounds_of (next ∷ items)))
        ≡ take (if test then 1 else suc (round_size (next ∷ items))) (item ∷ next ∷ items) ∷ rounds_of (drop (if test then 1 else suc (round_size (next ∷ items))) (item ∷ next ∷ items))
    by true rest = refl
    by false rest = ap (onto_first item) rest

-- each finder was used by itself
pub used_alike : (list : List Refusals) → AllZip IsUsed list list
used_alike [] = tt
used_alike (r ∷ list) = (used_none r, used_alike list)

-- each script has lines with any number of workers
abbrev pub SharesPlain : Type 0
SharesPlain = (model : ModelParts) (shapes : Shapes) (opening : Policy) (workers : ℕ) (items : List Said) → (lines : List Line) × IsShared model shapes opening workers items (none_refused items) lines

-- ---- rounds one after the other

module _ (model : ModelParts) (shapes : Shapes) (opening : Policy) where
  refused_long : (tables : ℕ → Policy) (before items : List Said) (versions : List ℕ) (refused : List (List (List ℕ))) (lines : List Line) → AreLinesAt model shapes opening tables before items versions refused lines → length items ≡ length refused
  refused_long tables before [] [] [] [] are = refl
  refused_long tables before (item ∷ items) (version ∷ versions) (patterns ∷ refused) (line ∷ lines) are = ap (λ (n : ℕ). suc n) (refused_long tables (before ++ item ∷ []) items versions refused lines are.1)
  refused_long tables before _ _ _ _ are = absurd are

  lines_long : (tables : ℕ → Policy) (before items : List Said) (versions : List ℕ) (refused : List (List (List ℕ))) (lines : List Line) → AreLinesAt model shapes opening tables before items versions refused lines → length items ≡ length lines
  lines_long tables before [] [] [] [] are = refl
  lines_long tables before (item ∷ items) (version ∷ versions) (patterns ∷ refused) (line ∷ lines) are = ap (λ (n : ℕ). suc n) (lines_long tables (before ++ item ∷ []) items versions refused lines are.1)
  lines_long tables before _ _ _ _ are = absurd are

  -- a round in front of others
  of_rounds_first : (workers : ℕ) (before round : List Said) (rounds : List (List Said)) (refused others : List (List (List ℕ))) (lines more : List Line) → AreOfRound model shapes opening workers before round refused lines → AreOfRounds model shapes opening workers (before ++ round) rounds others more
      → AreOfRounds model shapes opening workers before (round ∷ rounds) (refused ++ others) (lines ++ more)
  of_rounds_first workers before round rounds refused others lines more first rest =
      let some = refused_long _ before round first.versions refused lines first.are in
      let told = lines_long _ before round first.versions refused lines first.are in (
        subst (λ (l : List (List (List ℕ))). AreOfRound model shapes opening workers before round l (take (length round) (lines ++ more))) (sym (take_front (length round) refused others some))
            (subst (AreOfRound model shapes opening workers before round refused) (sym (take_front (length round) lines more told)) first),
        subst (λ (l : List (List (List ℕ))). AreOfRounds model shapes opening workers (before ++ round) rounds l (drop (length round) (lines ++ more))) (sym (drop_front (length round) refused others some))
            (subst (AreOfRounds model shapes opening workers (before ++ round) rounds others) (sym (drop_front (length round) lines more told)) rest),
      )

  -- ---- what the finders refused in one round and in the next

  abbrev both_refused : List (List (List ℕ)) → List (List (List ℕ)) → List (List (List ℕ))
  both_refused [] others = []
  both_refused (some ∷ refused) [] = []
  both_refused (some ∷ refused) (more ∷ others) = (some ++ more) ∷ both_refused refused others

  have_both : (befores nows laters : List Refusals) (some others : List (List (List ℕ))) → HaveRefused befores nows some → HaveRefused nows laters others → HaveRefused befores laters (both_refused some others)
  have_both [] [] [] [] [] one other = tt
  have_both (b ∷ befores) (n ∷ nows) (l ∷ laters) (patterns ∷ some) (more ∷ others) one other =
      (other.0 ∙ ap (λ (r : Refusals). after_refusals r more) one.0 ∙ same_refusals b patterns more, have_both befores nows laters some others one.1 other.1)
  have_both [] [] (l ∷ laters) [] others one other = absurd other
  have_both [] [] [] [] (more ∷ others) one other = absurd other
  have_both (b ∷ befores) (n ∷ nows) [] (patterns ∷ some) others one other = absurd other
  have_both (b ∷ befores) (n ∷ nows) (l ∷ laters) (patterns ∷ some) [] one other = absurd other
  have_both _ _ _ _ _ one other = absurd one

  both_weighed : (weight : List ℕ → ℕ) (befores nows laters : List Refusals) (some others : List (List (List ℕ))) → HaveRefused befores nows some → HaveRefused nows laters others
      → sum_by weight (all_refused (both_refused some others)) ≡ sum_by weight (all_refused some) + sum_by weight (all_refused others)
  both_weighed weight [] [] [] [] [] one other = omega arith
  both_weighed weight (b ∷ befores) (n ∷ nows) (l ∷ laters) (patterns ∷ some) (more ∷ others) one other =
      let rest = both_weighed weight befores nows laters some others one.1 other.1 in
      omega (arith, rest, sum_by-append weight (patterns ++ more) (all_refused (both_refused some others)), sum_by-append weight patterns more, sum_by-append weight patterns (all_refused some), sum_by-append weight more (all_refused others))
  both_weighed weight [] [] (l ∷ laters) [] others one other = absurd other
  both_weighed weight [] [] [] [] (more ∷ others) one other = absurd other
  both_weighed weight (b ∷ befores) (n ∷ nows) [] (patterns ∷ some) others one other = absurd other
  both_weighed weight (b ∷ befores) (n ∷ nows) (l ∷ laters) (patterns ∷ some) [] one other = absurd other
  both_weighed weight _ _ _ _ _ one other = absurd one

  -- ---- items for which nothing is refused

  second_none : (one two : List (List ℕ)) → one ++ two ≡ [] → two ≡ []
  second_none [] two none = none
  second_none (pattern ∷ one) two none = absurd cc

  none_dropped : (n : ℕ) (refused : List (List (List ℕ))) → all_refused refused ≡ [] → all_refused (drop n refused) ≡ []
  none_dropped zero refused none = none
  none_dropped (suc n) [] none = refl
  none_dropped (suc n) (patterns ∷ refused) none = none_dropped n refused (second_none patterns (all_refused refused) none)

  nothing_refused : (items : List Said) → all_refused (none_refused items) ≡ []
  nothing_refused [] = refl
  nothing_refused (item ∷ items) = nothing_refused items

  -- ---- a script under way

  is_shared : (workers : ℕ) (items : List Said) (refused : List (List (List ℕ))) (lines : List Line) → AreOfRounds model shapes opening workers [] (rounds_of items) refused lines → IsShared model shapes opening workers items refused lines
  unfolding IsShared
  is_shared workers items refused lines are = are

  module _ (workers : ℕ) (items : List Said) (befores : List Refusals) where
    -- the items that are left have lines for which nothing is refused
    pub record HasRest (front left : List Said) : Type 0 where
      pub refused : List (List (List ℕ))
      pub lines : List Line
      pub none : all_refused refused ≡ []
      pub are : AreOfRounds model shapes opening workers front (rounds_of left) refused lines

    -- the rounds of the first items are done, and these are left
    pub record AreRoundsSoFar (front left : List Said) (nows : List Refusals) (lines : List Line) : Type 0 where
      pub refused : List (List (List ℕ))
      pub goes_on : (others : List (List (List ℕ))) (more : List Line) → AreOfRounds model shapes opening workers front (rounds_of left) others more → AreOfRounds model shapes opening workers [] (rounds_of items) (refused ++ others) (lines ++ more)
      pub more : List (List (List ℕ))
      pub used : HaveRefused befores nows more
      pub told : (weight : List ℕ → ℕ) → sum_by weight (all_refused refused) ≤ sum_by weight (all_refused more)
      pub rest : (others : List (List (List ℕ))) (lines : List Line) → all_refused others ≡ [] → AreOfRounds model shapes opening workers [] (rounds_of items) others lines → HasRest front left

    abbrev none_yet : List Refusals → List (List (List ℕ))
    none_yet [] = []
    none_yet (r ∷ list) = [] ∷ none_yet list

    none_used : (list : List Refusals) → HaveRefused list list (none_yet list)
    none_used [] = tt
    none_used (r ∷ list) = (refl, none_used list)

    pub rounds_none : (lines : List Line) → lines ≡ [] → AreRoundsSoFar [] items befores lines
    rounds_none lines none = subst (AreRoundsSoFar [] items befores) (sym none) (record {
      refused = [];
      goes_on = λ others more are. are;
      more = none_yet befores;
      used = none_used befores;
      told = λ weight. omega arith;
      rest = λ others all none are. record { refused = others; lines = all; none = none; are = are };
    })

    -- the rounds that are left are the next one and the others
    next_of : (left round behind : List Said) → left ≡ round ++ behind → round_size left ≡ length round → 0 < length round → rounds_of left ≡ round ∷ rounds_of behind
    next_of [] round behind parts size some = absurd (omega (arith, some, length-append round behind, ap (λ (l : List Said). length l) parts))
    next_of (item ∷ left) round behind parts size some =
        first_round_is item left
        ∙ ap (λ (n : ℕ). take n (item ∷ left) ∷ rounds_of (drop n (item ∷ left))) size
        ∙ ap (λ (l : List Said). take (length round) l ∷ rounds_of (drop (length round) l)) parts
        ∙ (λ j. take_front (length round) round behind refl j ∷ rounds_of (drop_front (length round) round behind refl j))

    pub rounds_next : (front left round behind : List Said) (nows laters : List Refusals) (lines told whole : List Line) → left ≡ round ++ behind → round_size left ≡ length round → 0 < length round → AreRoundsSoFar front left nows lines
        → AreLinesOf model shapes opening workers front round nows laters told → whole ≡ lines ++ told → AreRoundsSoFar (front ++ round) behind laters whole
    rounds_next front left round behind nows laters lines told whole parts size some so is whole-is = subst (AreRoundsSoFar (front ++ round) behind laters) (sym whole-is) (record {
      refused = so.refused ++ is.refused;
      goes_on = λ others more are.
          let both = of_rounds_first workers front round (rounds_of behind) is.refused others told more is.lines_are are in
          let all = so.goes_on (is.refused ++ others) (told ++ more) (subst (λ (l : List (List Said)). AreOfRounds model shapes opening workers front l (is.refused ++ others) (told ++ more)) (sym (next_of left round behind parts size some)) both) in
          subst (λ (l : List (List (List ℕ))). AreOfRounds model shapes opening workers [] (rounds_of items) l ((lines ++ told) ++ more)) (sym (append_assoc so.refused is.refused others))
          (subst (AreOfRounds model shapes opening workers [] (rounds_of items) (so.refused ++ (is.refused ++ others))) (sym (append_assoc lines told more)) all);
      more = both_refused so.more is.more;
      used = have_both befores nows laters so.more is.more so.used is.used;
      told = λ weight.
          let one = so.told weight in
          let two = is.told weight in
          omega (arith, one, two, all_weighed weight so.refused is.refused, both_weighed weight befores nows laters so.more is.more so.used is.used);
      rest = λ others all none are.
          let left_over = so.rest others all none are in
          let here = subst (λ (l : List (List Said)). AreOfRounds model shapes opening workers front l left_over.refused left_over.lines) (next_of left round behind parts size some) left_over.are in
          record { refused = drop (length round) left_over.refused; lines = drop (length round) left_over.lines; none = none_dropped (length round) left_over.refused left_over.none; are = here.1 };
    })

    -- all are done
    pub rounds_all : (front left : List Said) (nows : List Refusals) (lines : List Line) → left ≡ [] → AreRoundsSoFar front left nows lines → AreSharedLines model shapes opening workers befores nows items lines
    rounds_all front left nows lines none so =
        let ends : AreOfRounds model shapes opening workers front (rounds_of left) [] [] = subst (λ (l : List Said). AreOfRounds model shapes opening workers front (rounds_of l) [] []) (sym none) tt in
        record {
          refused = so.refused;
          shared = is_shared workers items so.refused lines (subst (λ (l : List (List (List ℕ))). AreOfRounds model shapes opening workers [] (rounds_of items) l lines) (append-nil so.refused)
              (subst (AreOfRounds model shapes opening workers [] (rounds_of items) (so.refused ++ [])) (append-nil lines) (so.goes_on [] [] ends)));
          more = so.more;
          used = so.used;
          told = so.told;
        }

    -- ---- memory ran out, or lines were not taken to their end

    used_lists : (nows laters : List Refusals) → AllZip IsUsed nows laters → (more : List (List (List ℕ))) × HaveRefused nows laters more
    used_lists [] [] used = ([], tt)
    used_lists (n ∷ nows) (l ∷ laters) used = let rest = used_lists nows laters used.1 in (used.0.more ∷ rest.0, (used.0.refused, rest.1))
    used_lists [] (l ∷ laters) used = absurd used
    used_lists (n ∷ nows) [] used = absurd used

    -- lines of all items, of which the first are these
    pub record HasMore (laters : List Refusals) (lines : List Line) : Type 0 where
      pub more : List Line
      pub are : AreSharedLines model shapes opening workers befores laters items (lines ++ more)

    pub more_lines : SharesPlain → (front left : List Said) (nows laters : List Refusals) (lines : List Line) → AreRoundsSoFar front left nows lines → AllZip IsUsed nows laters → HasMore laters lines
    unfolding IsShared
    more_lines law front left nows laters lines so used =
        let whole = law model shapes opening workers items in
        let rest = so.rest (none_refused items) whole.0 (nothing_refused items) whole.1 in
        let later = used_lists nows laters used in
        record {
          more = rest.lines;
          are = record {
            refused = so.refused ++ rest.refused;
            shared = so.goes_on rest.refused rest.lines rest.are;
            more = both_refused so.more later.0;
            used = have_both befores nows laters so.more later.0 so.used later.1;
            told = λ weight.
                let one = so.told weight in
                let none : sum_by weight (all_refused rest.refused) ≡ 0 = ap (λ (l : List (List ℕ)). sum_by weight l) rest.none in
                omega (arith, one, all_weighed weight so.refused rest.refused, none, both_weighed weight befores nows laters so.more later.0 so.used later.1);
          };
        }

    -- ---- lines that are taken round by round

    module _ {X : Type 0} (took : X → List Line → X → Type 0) (old : X) where
      -- the rounds of the first items are done at a pair and their lines taken, and these are left
      pub record AreDoneTo (left : List Said) (count : ℕ) (nows : List Refusals) (admin : AdminSeen) (to : X) : Type 0 where
        pub front : List Said
        pub lines : List Line
        pub parts : items ≡ front ++ left
        pub long : count ≡ length front
        pub rounds : AreRoundsSoFar front left nows lines
        pub behind : IsAdminBehind shapes opening front admin
        pub taken : AreAllTaken took old lines to

      pub done_none : (left : List Said) (admin : AdminSeen) → left ≡ items → IsAdminBehind shapes opening [] admin → AreDoneTo left 0 befores admin old
      done_none left admin same behind = subst (λ (l : List Said). AreDoneTo l 0 befores admin old) (sym same) (record {
        front = [];
        lines = [];
        parts = refl;
        long = refl;
        rounds = rounds_none [] refl;
        behind = behind;
        taken = record { lists = []; taken = refl; are = refl };
      })

      -- one round more
      pub done_next : (left : List Said) (count : ℕ) (nows : List Refusals) (admin : AdminSeen) (to : X) (round next : List Said) (sum : ℕ) (laters : List Refusals) (new : AdminSeen) (olds seats : List SeatSeen) (printed : List PrintedLine) (later : X)
          → (so : AreDoneTo left count nows admin to) → IsFirstRound left round next → 0 < length round → sum ≡ count + length round → (run : IsRun model shapes opening workers so.front round new olds seats nows laters printed) → AreAllTaken took to run.lines later
          → AreDoneTo next sum laters new later
      done_next left count nows admin to round next sum laters new olds seats printed later so first some sum-is run taken =
          let told = run.lines in
          record {
            front = so.front ++ round;
            lines = so.lines ++ told;
            parts = so.parts ∙ ap (λ (l : List Said). so.front ++ l) first.parts ∙ sym (append_assoc so.front round next);
            long = omega (arith, sum-is, so.long, length-append so.front round);
            rounds = rounds_next so.front left round next nows laters so.lines told (so.lines ++ told) first.parts first.size some so.rounds run.lines_are refl;
            behind = run.behind;
            taken = record {
              lists = so.taken.lists ++ taken.lists;
              taken = taken_both took old to later so.taken.lists taken.lists so.taken.taken taken.taken;
              are = (λ j. so.taken.are j ++ taken.are j) ∙ sym (in_turn_both so.taken.lists taken.lists);
            };
          }

      pub done_all : (left : List Said) (count : ℕ) (nows : List Refusals) (admin : AdminSeen) (to : X) → AreDoneTo left count nows admin to → left ≡ [] → AreAllShared took model shapes opening workers befores nows items old to
      done_all left count nows admin to so none = record { lines = so.lines; are = rounds_all so.front left nows so.lines none so.rounds; taken = so.taken }

      pub done_behind : (left : List Said) (count : ℕ) (nows : List Refusals) (admin : AdminSeen) (to : X) → AreDoneTo left count nows admin to → left ≡ [] → IsAdminBehind shapes opening items admin
      done_behind left count nows admin to so none =
          subst (λ (l : List Said). IsAdminBehind shapes opening l admin) (sym (so.parts ∙ ap (λ (l : List Said). so.front ++ l) none ∙ append-nil so.front)) so.behind

      -- memory ran out between the lines of one round and those of the next
      pub done_early : SharesPlain → (stopped : X → List Line → X → TakeStop → Type 0) (left : List Said) (count : ℕ) (nows laters : List Refusals) (admin : AdminSeen) (to : X) → AreDoneTo left count nows admin to → AllZip IsUsed nows laters
          → AreSomeShared took model shapes opening workers befores laters items stopped old to NoMemory
      done_early law stopped left count nows laters admin to so used =
          let all = more_lines law so.front left nows laters so.lines so.rounds used in
          record {
            lines = so.lines ++ all.more;
            are = all.are;
            taken = record {
              lists = so.taken.lists;
              mid = to;
              next = [];
              more = all.more;
              taken = so.taken.taken;
              parts = ap (λ (l : List Line). l ++ all.more) so.taken.are;
              ends = inl (refl, refl);
            };
          }

      -- memory ran out before the first round
      pub none_shared : SharesPlain → (stopped : X → List Line → X → TakeStop → Type 0) (laters : List Refusals) → AllZip IsUsed befores laters → AreSomeShared took model shapes opening workers befores laters items stopped old old NoMemory
      none_shared law stopped laters used =
          let all = more_lines law [] items befores laters [] (rounds_none [] refl) used in
          record { lines = all.more; are = all.are; taken = record { lists = []; mid = old; next = []; more = all.more; taken = refl; parts = refl; ends = inl (refl, refl) } }

      -- the lines of a round were not taken to their end
      pub done_some : SharesPlain → (stopped : X → List Line → X → TakeStop → Type 0) (left : List Said) (count : ℕ) (nows laters : List Refusals) (admin new : AdminSeen) (to later : X) (round next : List Said) (olds seats : List SeatSeen) (printed : List PrintedLine) (stop : TakeStop)
          → (so : AreDoneTo left count nows admin to) → IsFirstRound left round next → 0 < length round → (run : IsRun model shapes opening workers so.front round new olds seats nows laters printed) → AreSomeTaken took stopped to run.lines later stop
          → AreSomeShared took model shapes opening workers befores laters items stopped old later stop
      done_some law stopped left count nows laters admin new to later round next olds seats printed stop so first some run amid =
          let told = run.lines in
          let rounds = rounds_next so.front left round next nows laters so.lines told (so.lines ++ told) first.parts first.size some so.rounds run.lines_are refl in
          let all = more_lines law (so.front ++ round) next laters laters (so.lines ++ told) rounds (used_alike laters) in
          record {
            lines = (so.lines ++ told) ++ all.more;
            are = all.are;
            taken = record {
              lists = so.taken.lists ++ amid.lists;
              mid = amid.mid;
              next = amid.next;
              more = amid.more ++ all.more;
              taken = taken_both took old to amid.mid so.taken.lists amid.lists so.taken.taken amid.taken;
              parts =
                  (λ j. (so.taken.are j ++ amid.parts j) ++ all.more)
                  ∙ all_assoc (in_turn so.taken.lists) (in_turn amid.lists) amid.next amid.more all.more ∙ ap (λ (l : List Line). l ++ (amid.next ++ (amid.more ++ all.more))) (sym (in_turn_both so.taken.lists amid.lists));
              ends = amid.ends;
            };
          }

-- where the finders were used in one round and in the next, they were in both
pub used_both : (befores nows laters : List Refusals) → AllZip IsUsed befores nows → AllZip IsUsed nows laters → AllZip IsUsed befores laters
used_both [] [] [] one two = tt
used_both (b ∷ befores) (n ∷ nows) (l ∷ laters) one two = (used_then b n l one.0 two.0, used_both befores nows laters one.1 two.1)
used_both [] (n ∷ nows) laters one two = absurd one
used_both (b ∷ befores) [] laters one two = absurd one
used_both [] [] (l ∷ laters) one two = absurd two
used_both (b ∷ befores) (n ∷ nows) [] one two = absurd two
