-- The lines of rounds: the plain lines of a script are some of them, and those of a round without a publish are no others.
use Rattle.std.proofs.Common.{◌≡◌, ℕ, zero, suc, ◌+◌, ◌≤◌, Bool, true, false, List, [], ◌∷◌, ◌++◌, append_assoc, append-nil, length, length-append, take, drop, refl, sym, ap, subst, ◌∙◌, arith}
use Rattle.std.specs.Prelude.{All, flat_map, if◌then◌else◌}
use Rattle.std.specs.List.{AllByRecursion}
use Rattle.std.specs.List.Sorted.{IsNonDecreasing}
use Rattle.std.proofs.lemmas.List.Elements.{All-from_recursion, recursion_from_All}
use Rattle.std.proofs.lemmas.List.Sorted.{IsNonDecreasingBy-drop, IsNonDecreasingBy-take}
use Rattle.answer_lines.specs.declared.answer.Line.{Line}
use Rattle.model_conf.specs.ModelText.{ModelParts}
use Rattle.perm_base.specs.declared.shapes.Shapes.{Shapes}
use Rattle.policy_table.specs.Changes.{replay}
use Rattle.policy_table.specs.Tables.{Policy}
use Rattle.policy_table.specs.declared.change.Change.{Change}
use Rattle.script_read.specs.Said.{Said}
use Rattle.script_read.specs.Said as said
use Rattle.session_meaning.specs.Plain.{AreLines, IsLineAt, IsPlain}
use Rattle.session_meaning.specs.Rounds.{AreLinesAt, AreOfRound, AreOfRounds, AreVersions, IsCut, IsShared, at_requests, is_sync, onto_first, rounds_of, share_size, shares}
use Rattle.session_meaning.specs.Versions.{is_publish, out, published, tables_at}
use Rattle.session_meaning.proofs.GivenLemmas.{given_front}
use Rattle.session_meaning.proofs.OutLemmas.{out_among, out_publish, out_same}

-- ---- rounds are the whole script

abbrev joined : List (List Said) → List Said
joined rounds = flat_map (λ (round : List Said). round) rounds

joined_first : (item : Said) (rounds : List (List Said)) → joined (onto_first item rounds) ≡ item ∷ joined rounds
joined_first item [] = refl
joined_first item (round ∷ rounds) = refl

rounds_behind : (item : Said) (items : List Said) (rounds : List (List Said)) → joined rounds ≡ items → (ends : Bool) → joined (if ends then (item ∷ []) ∷ rounds else onto_first item rounds) ≡ item ∷ items
rounds_behind item items rounds whole true = ap (λ (l : List Said). item ∷ l) whole
rounds_behind item items rounds whole false = joined_first item rounds ∙ ap (λ (l : List Said). item ∷ l) whole

rounds_whole : (items : List Said) → joined (rounds_of items) ≡ items
rounds_whole [] = refl
rounds_whole (item ∷ items) = rounds_behind item items (rounds_of items) (rounds_whole items) (is_sync item)

-- ---- shares of versions that do not fall

shares_rise : (workers : ℕ) (versions : List ℕ) → IsNonDecreasing versions → AllByRecursion IsNonDecreasing (shares workers versions)
shares_rise zero versions rise = tt
shares_rise (suc others) versions rise =
    let size = share_size others (length versions) in
    (IsNonDecreasingBy-take (λ (v : ℕ). v) size versions rise, shares_rise others (drop size versions) (IsNonDecreasingBy-drop (λ (v : ℕ). v) size versions rise))

-- versions of which each is at most all later ones
abbrev Rise : List ℕ → Type 0
Rise [] = Unit {0}
Rise (version ∷ versions) = AllByRecursion (λ (v : ℕ). version ≤ v) versions × Rise versions

rise_is : (versions : List ℕ) → Rise versions → IsNonDecreasing versions
rise_is [] rise i j d above within = absurd (omega (arith, within))
rise_is (version ∷ versions) rise zero zero d above within = omega arith
rise_is (version ∷ versions) rise (suc i) zero d above within = absurd (omega (arith, above))
rise_is (version ∷ versions) rise zero (suc j) d above within = All-from_recursion (λ (v : ℕ). version ≤ v) versions rise.0 j d (omega (arith, within))
rise_is (version ∷ versions) rise (suc i) (suc j) d above within = rise_is versions rise.1 i j d (omega (arith, above)) (omega (arith, within))

all_above : (low high : ℕ) (versions : List ℕ) → low ≤ high → AllByRecursion (λ (v : ℕ). high ≤ v) versions → AllByRecursion (λ (v : ℕ). low ≤ v) versions
all_above low high [] below all = tt
all_above low high (version ∷ versions) below all = (omega (arith, below, all.0), all_above low high versions below all.1)

module _ (shapes : Shapes) (opening : Policy) where
  -- ---- the versions that are out

  -- before each of these items
  abbrev outs : List Said → List Said → List ℕ
  outs before [] = []
  outs before (item ∷ items) = out shapes opening before ∷ outs (before ++ item ∷ []) items

  out_rises : (before : List Said) (item : Said) → out shapes opening before ≤ out shapes opening (before ++ item ∷ [])
  out_rises before said.publishes = omega (arith, out_publish shapes opening before, out_among shapes opening before)
  out_rises before item = omega (arith, out_same shapes opening before item refl)

  requests_above : (before items : List Said) → AllByRecursion (λ (v : ℕ). out shapes opening before ≤ v) (at_requests items (outs before items))
  requests_above before [] = tt
  requests_above before (said.asks reading ∷ items) =
      (omega arith, all_above _ _ _ (out_rises before (said.asks reading)) (requests_above (before ++ said.asks reading ∷ []) items))
  requests_above before (item ∷ items) = all_above _ _ _ (out_rises before item) (requests_above (before ++ item ∷ []) items)

  requests_rise : (before items : List Said) → Rise (at_requests items (outs before items))
  requests_rise before [] = tt
  requests_rise before (said.asks reading ∷ items) =
      (all_above _ _ _ (out_rises before (said.asks reading)) (requests_above (before ++ said.asks reading ∷ []) items), requests_rise (before ++ said.asks reading ∷ []) items)
  requests_rise before (item ∷ items) = requests_rise (before ++ item ∷ []) items

  outs_cut : (before front items : List Said) → AllByRecursion (IsCut shapes opening before (front ++ items)) (outs (before ++ front) items)
  outs_cut before front [] = tt
  outs_cut before front (item ∷ items) =
      let whole : (front ++ item ∷ []) ++ items ≡ front ++ (item ∷ items) = append_assoc front (item ∷ []) items in
      let place : before ++ (front ++ item ∷ []) ≡ (before ++ front) ++ item ∷ [] = sym (append_assoc before front (item ∷ [])) in
      let rest = outs_cut before (front ++ item ∷ []) items in (
        record { front = front; back = item ∷ items; parts = refl; is_out = refl },
        subst (λ (b : List Said). AllByRecursion (IsCut shapes opening before (front ++ (item ∷ items))) (outs b items)) place
            (subst (λ (round : List Said). AllByRecursion (IsCut shapes opening before round) (outs (before ++ (front ++ item ∷ [])) items)) whole rest),
      )

  -- they may be chosen by any number of workers
  outs_chosen : (workers : ℕ) (before round : List Said) → AreVersions shapes opening workers before round (outs before round)
  outs_chosen workers before round = record {
    cuts = All-from_recursion (IsCut shapes opening before round) (outs before round)
        (subst (λ (b : List Said). AllByRecursion (IsCut shapes opening before round) (outs b round)) (append-nil before) (outs_cut before [] round));
    rise = All-from_recursion IsNonDecreasing (shares workers (at_requests round (outs before round)))
        (shares_rise workers (at_requests round (outs before round)) (rise_is (at_requests round (outs before round)) (requests_rise before round)));
  }

  -- without a publish the version that is out stays
  out_stays : (before items : List Said) → AllByRecursion (λ (item : Said). is_publish item ≡ false) items → out shapes opening (before ++ items) ≡ out shapes opening before
  out_stays before [] calm = ap (out shapes opening) (append-nil before)
  out_stays before (item ∷ items) calm =
      ap (out shapes opening) (sym (append_assoc before (item ∷ []) items)) ∙ out_stays (before ++ item ∷ []) items calm.1 ∙ out_same shapes opening before item calm.0

  calm_front : (front back : List Said) → AllByRecursion (λ (item : Said). is_publish item ≡ false) (front ++ back) → AllByRecursion (λ (item : Said). is_publish item ≡ false) front
  calm_front [] back calm = tt
  calm_front (item ∷ front) back calm = (calm.0, calm_front front back calm.1)

  -- the tables of the version that is out are those after more items too
  tables_stay : (before more : List Said) → tables_at shapes opening (before ++ more) (out shapes opening before) ≡ published shapes opening before
  tables_stay before more = ap (λ (edits : List (List Change)). replay edits opening) (given_front shapes opening before more (out shapes opening before) (out_among shapes opening before))

module _ (model : ModelParts) (shapes : Shapes) (opening : Policy) where
  -- ---- plain lines are shared lines

  -- the line of an item at the version that is out, by the tables after all items
  at_outs : (before items whole : List Said) (refused : List (List (List ℕ))) (lines : List Line) → whole ≡ before ++ items → AreLines model shapes opening before items refused lines
      → AreLinesAt model shapes opening (tables_at shapes opening whole) before items (outs shapes opening before items) refused lines
  at_outs before [] whole [] [] parts are = tt
  at_outs before (item ∷ items) whole (patterns ∷ refused) (line ∷ lines) parts are =
      let tables : tables_at shapes opening whole (out shapes opening before) ≡ published shapes opening before
      = ap (λ (w : List Said). tables_at shapes opening w (out shapes opening before)) parts ∙ tables_stay shapes opening before (item ∷ items) in (
        subst (λ (policy : Policy). IsLineAt model shapes opening (out shapes opening before) policy before item patterns line) (sym tables) are.0,
        at_outs (before ++ item ∷ []) items whole refused lines (parts ∙ sym (append_assoc before (item ∷ []) items)) are.1,
      )
  at_outs before _ whole _ _ parts are = absurd are

  of_round : (workers : ℕ) (before round : List Said) (refused : List (List (List ℕ))) (lines : List Line) → AreLines model shapes opening before round refused lines → AreOfRound model shapes opening workers before round refused lines
  of_round workers before round refused lines are = record {
    versions = outs shapes opening before round;
    chosen = outs_chosen shapes opening workers before round;
    are = at_outs before round (before ++ round) refused lines refl are;
  }

  -- the lines of a front and of what is behind it
  lines_parted : (before front back : List Said) (refused : List (List (List ℕ))) (lines : List Line) → AreLines model shapes opening before (front ++ back) refused lines
      → AreLines model shapes opening before front (take (length front) refused) (take (length front) lines) × AreLines model shapes opening (before ++ front) back (drop (length front) refused) (drop (length front) lines)
  lines_parted before [] back refused lines are = (tt, subst (λ (b : List Said). AreLines model shapes opening b back refused lines) (sym (append-nil before)) are)
  lines_parted before (item ∷ front) back (patterns ∷ refused) (line ∷ lines) are =
      let rest = lines_parted (before ++ item ∷ []) front back refused lines are.1 in
      ((are.0, rest.0), subst (λ (b : List Said). AreLines model shapes opening b back (drop (length front) refused) (drop (length front) lines)) (append_assoc before (item ∷ []) front) rest.1)
  lines_parted before (item ∷ front) back [] lines are = absurd are
  lines_parted before (item ∷ front) back (patterns ∷ refused) [] are = absurd are

  of_rounds : (workers : ℕ) (before : List Said) (rounds : List (List Said)) (refused : List (List (List ℕ))) (lines : List Line) → AreLines model shapes opening before (joined rounds) refused lines → AreOfRounds model shapes opening workers before rounds refused lines
  of_rounds workers before (round ∷ rounds) refused lines are =
      let parts = lines_parted before round (joined rounds) refused lines are in
      (of_round workers before round (take (length round) refused) (take (length round) lines) parts.0, of_rounds workers (before ++ round) rounds (drop (length round) refused) (drop (length round) lines) parts.1)
  of_rounds workers before [] [] [] are = tt
  of_rounds workers before [] _ _ are = absurd are

  pub plain_shared : (workers : ℕ) (items : List Said) (refused : List (List (List ℕ))) (lines : List Line) → IsPlain model shapes opening items refused lines → IsShared model shapes opening workers items refused lines
  unfolding IsPlain IsShared
  plain_shared workers items refused lines are =
      of_rounds workers [] (rounds_of items) refused lines (subst (λ (all : List Said). AreLines model shapes opening [] all refused lines) (sym (rounds_whole items)) are)

  -- ---- a round without a publish

  -- versions that are all out before an item choose the line of that item by what is out
  at_out : (before items whole : List Said) (version : ℕ) (versions : List ℕ) (refused : List (List (List ℕ))) (lines : List Line) → whole ≡ before ++ items → out shapes opening before ≡ version
      → AllByRecursion (λ (item : Said). is_publish item ≡ false) items → AllByRecursion (λ (v : ℕ). v ≡ version) versions
      → AreLinesAt model shapes opening (tables_at shapes opening whole) before items versions refused lines → AreLines model shapes opening before items refused lines
  at_out before [] whole version [] [] [] parts is calm all are = tt
  at_out before (item ∷ items) whole version (v ∷ versions) (patterns ∷ refused) (line ∷ lines) parts is calm all are =
      let chosen : v ≡ out shapes opening before = all.0 ∙ sym is in
      let tables : tables_at shapes opening whole v ≡ published shapes opening before
      = ap (tables_at shapes opening whole) chosen ∙ ap (λ (w : List Said). tables_at shapes opening w (out shapes opening before)) parts ∙ tables_stay shapes opening before (item ∷ items) in
      let first : IsLineAt model shapes opening (out shapes opening before) (published shapes opening before) before item patterns line
      = subst (λ (n : ℕ). IsLineAt model shapes opening n (published shapes opening before) before item patterns line) chosen (subst (λ (policy : Policy). IsLineAt model shapes opening v policy before item patterns line) tables are.0) in
      (first, at_out (before ++ item ∷ []) items whole version versions refused lines (parts ∙ sym (append_assoc before (item ∷ []) items)) (out_same shapes opening before item calm.0 ∙ is) calm.1 all.1 are.1)
  at_out before _ whole version _ _ _ parts is calm all are = absurd are

  cuts_are : (before round : List Said) (versions : List ℕ) → AllByRecursion (λ (item : Said). is_publish item ≡ false) round → AllByRecursion (IsCut shapes opening before round) versions → AllByRecursion (λ (v : ℕ). v ≡ out shapes opening before) versions
  cuts_are before round [] calm cuts = tt
  cuts_are before round (v ∷ versions) calm cuts =
      let cut = cuts.0 in
      let quiet = calm_front shapes opening cut.front cut.back (subst (AllByRecursion (λ (item : Said). is_publish item ≡ false)) cut.parts calm) in
      (cut.is_out ∙ out_stays shapes opening before cut.front quiet, cuts_are before round versions calm cuts.1)

  pub calm_round : (workers : ℕ) (before round : List Said) (refused : List (List (List ℕ))) (lines : List Line) → All (λ (item : Said). is_publish item ≡ false) round → AreOfRound model shapes opening workers before round refused lines
      → AreLines model shapes opening before round refused lines
  calm_round workers before round refused lines calm is =
      let quiet = recursion_from_All (λ (item : Said). is_publish item ≡ false) round calm in
      at_out before round (before ++ round) (out shapes opening before) is.versions refused lines refl refl quiet
      (cuts_are before round is.versions quiet (recursion_from_All (IsCut shapes opening before round) is.versions is.chosen.cuts)) is.are

  -- ---- there are as many lines as items

  at_counted : (tables : ℕ → Policy) (before items : List Said) (versions : List ℕ) (refused : List (List (List ℕ))) (lines : List Line) → AreLinesAt model shapes opening tables before items versions refused lines → length lines ≡ length items
  at_counted tables before [] [] [] [] are = refl
  at_counted tables before (item ∷ items) (v ∷ versions) (patterns ∷ refused) (line ∷ lines) are = ap (λ (n : ℕ). suc n) (at_counted tables (before ++ item ∷ []) items versions refused lines are.1)
  at_counted tables before _ _ _ _ are = absurd are

  front_short : {X : Type 0} (n : ℕ) (xs : List X) → length (take n xs) ≡ n → length xs ≡ n + length (drop n xs)
  front_short zero xs whole = omega arith
  front_short (suc n) [] whole = absurd (omega (arith, whole))
  front_short (suc n) (x ∷ xs) whole = let rest : length xs ≡ n + length (drop n xs) = front_short n xs (omega (arith, whole)) in omega (arith, rest)

  rounds_counted : (workers : ℕ) (before : List Said) (rounds : List (List Said)) (refused : List (List (List ℕ))) (lines : List Line) → AreOfRounds model shapes opening workers before rounds refused lines → length lines ≡ length (joined rounds)
  rounds_counted workers before (round ∷ rounds) refused lines are =
      let first = at_counted (tables_at shapes opening (before ++ round)) before round are.0.versions (take (length round) refused) (take (length round) lines) are.0.are in
      let rest = rounds_counted workers (before ++ round) rounds (drop (length round) refused) (drop (length round) lines) are.1 in
      omega (arith, front_short (length round) lines first, rest, length-append round (joined rounds))
  rounds_counted workers before [] [] [] are = refl
  rounds_counted workers before [] _ _ are = absurd are

  pub shared_counted : (workers : ℕ) (items : List Said) (refused : List (List (List ℕ))) (lines : List Line) → IsShared model shapes opening workers items refused lines → length lines ≡ length items
  unfolding IsShared
  shared_counted workers items refused lines are = rounds_counted workers [] (rounds_of items) refused lines are ∙ ap (λ (l : List Said). length l) (rounds_whole items)
