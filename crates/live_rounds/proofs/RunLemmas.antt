-- A whole round, out of its steps.
use Rattle.std.proofs.Common.{◌≡◌, ⊎_elim, ℕ, suc, ◌<◌, List, [], ◌∷◌, drop, get_or, length, map, slice_set, take, refl, sym, ap, subst, ◌∙◌, arith}
use Rattle.std.specs.List.{AllByRecursion, AllZip}
use mathlib.Core.List.{IsPrefix}
use Rattle.answer_lines.specs.Printed.{PrintedAnswer, printed_line}
use Rattle.answer_lines.specs.Printed.{PrintedLine}
use Rattle.answer_lines.specs.declared.answer.Line.{Line}
use Rattle.live_pair.proofs.CallerLemmas.{prefix_self, prefix_trans}
use Rattle.live_pair.specs.Admins.{AdminSeen}
use Rattle.live_pair.specs.Seats.{SeatSeen}
use Rattle.live_rounds.proofs.AllSharesLemmas.{AreAnswered, all_answered}
use Rattle.live_rounds.proofs.CutLemmas.{all_begin}
use Rattle.live_rounds.proofs.EndLemmas.{round_entered, round_lines}
use Rattle.live_rounds.proofs.ShareLemmas.{at_end}
use Rattle.live_rounds.specs.Administrators.{AreDoneBeside}
use Rattle.live_rounds.specs.Done.{AreEntered, AreLinesOf, IsRun}
use Rattle.live_rounds.specs.Helps.Asked.{AreShared}
use Rattle.live_rounds.specs.Helps.Learned.{HasLearned}
use Rattle.live_rounds.specs.Helps.Posts.{AreKept}
use Rattle.live_rounds.specs.Lists.{last_from}
use Rattle.live_rounds.specs.Merged.{merged}
use Rattle.live_rounds.specs.Requests.{AreParts, requests}
use Rattle.live_rounds.specs.Served.{IsPartKept}
use Rattle.live_rounds.specs.Shares.{AddsParts, in_turn}
use Rattle.live_rounds.specs.Stretches.{IsCounted, items_of}
use Rattle.live_rounds.specs.declared.stretch.Stretch.{Stretch}
use Rattle.live_rounds.proofs.SharesLemmas.{map_long, parts_long}
use Rattle.model_conf.specs.ModelText.{ModelParts}
use Rattle.perm_base.specs.declared.shapes.Shapes.{Shapes}
use Rattle.policy_state.specs.States.{State}
use Rattle.policy_table.specs.Tables.{Policy}
use Rattle.policy_table.specs.declared.change.Change.{Change}
use Rattle.regex_gate.proofs.CallerLemmas.{used_then}
use Rattle.regex_gate.specs.Refusals.{IsUsed, Refusals}
use Rattle.script_read.specs.Said.{Said}
use Rattle.version_log.specs.Log.{versions}

-- a seat that learned twice knows of what it knew of, and of the last front
pub all_learned : (first last : List (List (List Change))) (zeros olds news finals : List SeatSeen) → AllZip (HasLearned first) zeros olds → AllZip (λ (s t : SeatSeen). IsPrefix s.front t.front) olds news → AllZip (HasLearned last) news finals
    → AllZip (λ (s t : SeatSeen). IsPrefix s.front t.front × IsPrefix last t.front) zeros finals
all_learned first last [] [] [] [] one grown two = tt
all_learned first last (z ∷ zeros) (o ∷ olds) (n ∷ news) (f ∷ finals) one grown two = (
  (prefix_trans z.front o.front f.front one.0.this (prefix_trans o.front n.front f.front grown.0 two.0.this), two.0.that),
  all_learned first last zeros olds news finals one.1 grown.1 two.1,
)
all_learned first last [] (o ∷ olds) news finals one grown two = absurd one
all_learned first last (z ∷ zeros) [] news finals one grown two = absurd one
all_learned first last [] [] (n ∷ news) finals one grown two = absurd grown
all_learned first last (z ∷ zeros) (o ∷ olds) [] finals one grown two = absurd grown
all_learned first last [] [] [] (f ∷ finals) one grown two = absurd two
all_learned first last (z ∷ zeros) (o ∷ olds) (n ∷ news) [] one grown two = absurd two

module _ (model : ModelParts) (shapes : Shapes) (opening : Policy) (before round : List Said) (n : ℕ) (old new : AdminSeen) (others : List PrintedAnswer) (done : AreDoneBeside shapes opening before round old new others) (parts : List (List Said)) (parted : AreParts n round parts) where
  abbrev end : ℕ
  end = at_end model shapes opening before round old new others done

  module _ (firsts olds news finals : List SeatSeen) (befores nows : List Refusals) (kepts : List (List PrintedAnswer)) (first last : Refusals) (replies : List (List PrintedAnswer))
      (one : AllZip (HasLearned old.list) firsts olds) (two : AllZip (HasLearned new.list) news finals) (kept : AreKept model shapes opening end parts olds news befores nows kepts) (shared : AreShared model new.desk.state parts kepts first last replies) where
    answered : AreAnswered model shapes opening before round old new others done round parts firsts finals befores nows first last replies
    answered = all_answered model shapes opening before round old new others done n round parts firsts olds news finals befores nows kepts first last replies parted one two kept shared

    pub run_lines : (count : ℕ) → count ≡ length before → (lines : List Line) × (merged count round (in_turn replies) others ≡ map printed_line lines) × AreLinesOf model shapes opening (suc n) before round (first ∷ befores) (last ∷ nows) lines
    run_lines count count-is = round_lines model shapes opening before round old new others done n parts parted firsts finals first last befores nows replies answered count count-is

    pub run_entered : (count : ℕ) → AreEntered (suc n) round new firsts finals (merged count round (in_turn replies) others)
    run_entered count = round_entered model shapes opening before round old new others done n parts parted firsts finals first last befores nows replies answered count

-- ---- what seats know of behind the work

-- a seat at which a part was answered knows of all that it knew of
kept_begins : (model : ModelParts) (shapes : Shapes) (opening : Policy) (version : ℕ) (part : List Said) (earlier now : Refusals) (old new : SeatSeen) (kept : List PrintedAnswer) → IsPartKept model shapes opening version part earlier now old new kept → IsPrefix old.front new.front
kept_begins model shapes opening version part earlier now old new kept is =
    let front_is : new.front ≡ (last_from old is.served.seats).front = ⊎_elim (λ whole. ap (λ (s : SeatSeen). s.front) whole.0) (λ shut. shut.front_is) is.served.ends in
    subst (IsPrefix old.front) (sym front_is) (all_begin shapes opening model old is.served.seats is.served.refused is.replies (requests part) is.served.served)

same_begins : (list : List SeatSeen) → AllZip (λ (s t : SeatSeen). IsPrefix s.front t.front) list list
same_begins [] = tt
same_begins (s ∷ list) = (prefix_self s.front, same_begins list)

pub kept_grown : (model : ModelParts) (shapes : Shapes) (opening : Policy) (version : ℕ) (parts : List (List Said)) (olds news : List SeatSeen) (befores nows : List Refusals) (kepts : List (List PrintedAnswer)) → AreKept model shapes opening version parts olds news befores nows kepts
    → AllZip (λ (s t : SeatSeen). IsPrefix s.front t.front) olds news
kept_grown model shapes opening version [] olds news befores nows [] kept = subst (AllZip (λ (s t : SeatSeen). IsPrefix s.front t.front) olds) (sym kept.0) (same_begins olds)
kept_grown model shapes opening version (part ∷ parts) [] news befores nows [] kept = subst (AllZip (λ (s t : SeatSeen). IsPrefix s.front t.front) []) (sym kept.0) tt
kept_grown model shapes opening version (part ∷ parts) (o ∷ olds) (n ∷ news) (b ∷ befores) (c ∷ nows) (k ∷ kepts) kept =
    (kept_begins model shapes opening version part b c o n k kept.0, kept_grown model shapes opening version parts olds news befores nows kepts kept.1)
kept_grown model shapes opening version _ _ _ _ _ _ kept = absurd kept

-- ---- the finders of a round

module _ {P : Type 0} (refusals : P → Refusals) where
  -- the first and the others
  pub first_and_others : (finders : List P) (d : P) → 0 < length finders → map refusals finders ≡ refusals (get_or finders 0 d) ∷ drop 1 (map refusals finders)
  first_and_others [] d some = absurd (omega (arith, some))
  first_and_others (f ∷ finders) d some = refl

  pub first_written : (finders : List P) (last : P) → 0 < length finders → map refusals (slice_set finders 0 last) ≡ refusals last ∷ drop 1 (map refusals finders)
  first_written [] last some = absurd (omega (arith, some))
  first_written (f ∷ finders) last some = refl

-- the first is the same, and there is one
pub first_same : {P : Type 0} (olds news : List P) (d : P) → take 1 news ≡ take 1 olds → 0 < length olds → (get_or news 0 d ≡ get_or olds 0 d) × (0 < length news)
first_same (f ∷ olds) (g ∷ news) d same some = (cc, omega arith)
first_same (f ∷ olds) [] d same some = absurd cc
first_same [] news d same some = absurd (omega (arith, some))

pub lines_with : (model : ModelParts) (shapes : Shapes) (opening : Policy) (workers : ℕ) (before round : List Said) (befores all nows now : List Refusals) (lines : List Line) → befores ≡ all → nows ≡ now → AreLinesOf model shapes opening workers before round befores nows lines → AreLinesOf model shapes opening workers before round all now lines
lines_with model shapes opening workers before round befores all nows now lines one two is =
    subst (λ (l : List Refusals). AreLinesOf model shapes opening workers before round l now lines) one (subst (λ (l : List Refusals). AreLinesOf model shapes opening workers before round befores l lines) two is)

-- parts that were put behind none
added_parts : (n : ℕ) (items : List Said) (parts : List Stretch) → AddsParts n items [] parts → AreParts n items (map items_of parts)
added_parts n items parts added = subst (λ (l : List Stretch). AreParts n items (map items_of l)) (sym added.added) added.parts

-- ---- all of it, by what the steps say

module _ {P : Type 0} (refusals : P → Refusals) (model : ModelParts) (shapes : Shapes) (opening : Policy) (before round : List Said) (count workers n : ℕ) (count-is : count ≡ length before) (workers-is : workers ≡ suc n) (old new : AdminSeen) (others : List PrintedAnswer) (replies : List (List PrintedAnswer)) (printed : List PrintedLine)
    (stretches : List Stretch) (s0 s1 s2 s3 : List SeatSeen) (f0 f1 : List P) (d first last : P) (kepts : List (List PrintedAnswer)) (state : State) (front_old front_new : List (List (List Change))) where
  abbrev parts : List (List Said)
  parts = map items_of stretches

  pub run_all : AreDoneBeside shapes opening before round old new others → AddsParts n round [] stretches → front_old ≡ old.list → AllZip (HasLearned front_old) s0 s1 → front_new ≡ new.list → AllZip (HasLearned front_new) s2 s3
      → AreKept model shapes opening (versions new.desk.state.log) parts s1 s2 (drop 1 (map refusals f0)) (drop 1 (map refusals f1)) kepts → state ≡ new.desk.state → AreShared model state parts kepts (refusals first) (refusals last) replies
      → take 1 f1 ≡ take 1 f0 → 0 < length f0 → first ≡ get_or f1 0 d → printed ≡ merged count round (in_turn replies) others → IsRun model shapes opening workers before round new s0 s3 (map refusals f0) (map refusals (slice_set f1 0 last)) printed
  run_all done added old-is learned_old new-is learned_new kept state-is shared same some first-is lines-is =
      let parted : AreParts n round parts = added_parts n round stretches added in
      let one : AllZip (HasLearned old.list) s0 s1 = subst (λ (l : List (List (List Change))). AllZip (HasLearned l) s0 s1) old-is learned_old in
      let two : AllZip (HasLearned new.list) s2 s3 = subst (λ (l : List (List (List Change))). AllZip (HasLearned l) s2 s3) new-is learned_new in
      let shared_here : AreShared model new.desk.state parts kepts (refusals first) (refusals last) replies = subst (λ (s : State). AreShared model s parts kepts (refusals first) (refusals last) replies) state-is shared in
      let heads = first_same f0 f1 d same some in
      let first_old : refusals first ∷ drop 1 (map refusals f0) ≡ map refusals f0
      = ap (λ (f : P). refusals f ∷ drop 1 (map refusals f0)) (first-is ∙ heads.0) ∙ sym (first_and_others refusals f0 d some) in
      let last_new : refusals last ∷ drop 1 (map refusals f1) ≡ map refusals (slice_set f1 0 last) = sym (first_written refusals f1 last heads.1) in
      let told = run_lines model shapes opening before round n old new others done parts parted s0 s1 s2 s3 (drop 1 (map refusals f0)) (drop 1 (map refusals f1)) kepts (refusals first) (refusals last) replies one two kept shared_here count count-is in
      let entered = run_entered model shapes opening before round n old new others done parts parted s0 s1 s2 s3 (drop 1 (map refusals f0)) (drop 1 (map refusals f1)) kepts (refusals first) (refusals last) replies one two kept shared_here count in
      record {
        lines = told.0;
        told = lines-is ∙ told.1;
        lines_are =
            subst (λ (w : ℕ). AreLinesOf model shapes opening w before round (map refusals f0) (map refusals (slice_set f1 0 last)) told.0) (sym workers-is)
            (lines_with model shapes opening (suc n) before round _ (map refusals f0) _ (map refusals (slice_set f1 0 last)) told.0 first_old last_new told.2);
        behind = done.behind;
        entered = subst (λ (w : ℕ). AreEntered w round new s0 s3 printed) (sym workers-is) (subst (AreEntered (suc n) round new s0 s3) (sym lines-is) entered);
        learned = all_learned old.list new.list s0 s1 s2 s3 one (kept_grown model shapes opening (versions new.desk.state.log) parts s1 s2 (drop 1 (map refusals f0)) (drop 1 (map refusals f1)) kepts kept) two;
      }

-- ---- what the steps want

-- the parts that were put behind none, as they are lent
pub added_in : (n : ℕ) (round again : Stretch) (start new lent : List Stretch) → again ≡ round → start ≡ [] → lent ≡ new → AddsParts n (items_of again) start new → AddsParts n (items_of round) [] lent
added_in n round again start new lent read none same added =
    subst (λ (s : Stretch). AddsParts n (items_of s) [] lent) read (subst (AddsParts n (items_of again) []) (sym same) (subst (λ (l : List Stretch). AddsParts n (items_of again) l new) none added))

-- there is a part for each worker, and its numbers are those of its items
pub added_long : (n : ℕ) (items : List Said) (lent : List Stretch) → AddsParts n items [] lent → length lent ≡ suc n
added_long n items lent added = sym (map_long items_of lent) ∙ parts_long n items (map items_of lent) (added_parts n items lent added)

pub added_counted : (n : ℕ) (items : List Said) (lent : List Stretch) → AddsParts n items [] lent → AllByRecursion IsCounted lent
added_counted n items lent added = subst (AllByRecursion IsCounted) (sym added.added) added.counted

-- the finders behind the desk's answers
pub used_first : {P : Type 0} (refusals : P → Refusals) (olds news : List P) (d first last : P) → AllZip IsUsed (map refusals olds) (map refusals news) → first ≡ get_or news 0 d → IsUsed (refusals first) (refusals last) → AllZip IsUsed (map refusals olds) (map refusals (slice_set news 0 last))
used_first {P = P} refusals (o ∷ olds) (n ∷ news) d first last used is more = (used_then (refusals o) (refusals n) (refusals last) used.0 (subst (λ (p : P). IsUsed (refusals p) (refusals last)) is more), used.1)
used_first refusals [] [] d first last used is more = tt
used_first refusals [] (n ∷ news) d first last used is more = absurd used
used_first refusals (o ∷ olds) [] d first last used is more = absurd used
