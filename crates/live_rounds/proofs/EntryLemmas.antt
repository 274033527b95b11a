-- Entries of a seat that answers requests, and what its share shows of them.
use Rattle.std.proofs.Common.{◌≡◌, ⊎_elim, ℕ, ◌+◌, ◌≤◌, ◌==◌, min, Bool, true, false, List, [], ◌∷◌, ◌++◌, append-nil, length, length-append, Option, Some, None, Ok, Err, refl, sym, ap, ◌∙◌, arith}
use Rattle.std.specs.Prelude.{MatchBool}
use Rattle.answer_lines.specs.Printed.{PrintedAnswer, printed_answer, shown_by}
use Rattle.answer_lines.specs.declared.answer.Answer.{Answer}
use Rattle.answer_lines.specs.declared.answer.Answer.TheVariants as answer
use Rattle.effect_fold.specs.declared.verdict.Verdict.{Verdict}
use Rattle.effect_fold.specs.declared.verdict.Verdict.TheVariants as verdict
use Rattle.live_pair.specs.Seats.{IsEntered, IsShut, SeatSeen, version_of}
use Rattle.live_rounds.proofs.CutLemmas.{version_begins}
use Rattle.live_rounds.specs.Done.{HasEntered, onto_shown, version_shown, versions_shown}
use Rattle.live_rounds.specs.Helps.Learned.{HasLearned}
use Rattle.live_rounds.specs.Lists.{last_from}
use Rattle.live_rounds.specs.Requests.{requests}
use Rattle.live_rounds.specs.Served.{AreServed, IsPartKept, IsServed}
use Rattle.live_seat.specs.Decided.{tables_behind}
use Rattle.model_conf.specs.ModelText.{ModelParts}
use Rattle.outside.specs.Faults.{Rose, most_faults}
use Rattle.perm_base.specs.declared.shapes.Shapes.{Shapes}
use Rattle.policy_table.specs.Tables.{Fields, Policy}
use Rattle.policy_table.specs.declared.change.Change.{Change}
use Rattle.regex_gate.specs.Refusals.{Refusals}
use Rattle.script_read.specs.Said.{Reading, Said}
use Rattle.session_meaning.specs.Replies.{IsDecided, rule_of}

-- a last item that is the last of what follows
last_again : (one last : ℕ) (xs : List ℕ) → last_from one xs ≡ last → last_from last xs ≡ last
last_again one last [] is = refl
last_again one last (x ∷ xs) is = is

-- the version that an answer shows, as it does where it is printed
shown_by_answer : Answer → Option ℕ
shown_by_answer told = version_shown (shown_by told)

shown_of : (told : Answer) (reply : PrintedAnswer) → reply ≡ printed_answer told → version_shown reply.shown ≡ shown_by_answer told
unfolding shown_by_answer
shown_of told reply is = ap (λ (printed : PrintedAnswer). version_shown printed.shown) is

-- a verdict shows its version
shown_decided : (version : ℕ) (judged : Verdict) (rule : Option Fields) → shown_by_answer (answer.Decided version judged rule) ≡ Some version
unfolding shown_by_answer
shown_decided version (verdict.Allow row) rule = refl
shown_decided version (verdict.Deny row) rule = refl
shown_decided version (verdict.Fault row failed) rule = refl

module _ (model : ModelParts) (shapes : Shapes) (opening : Policy) where
  -- what a seat is behind one request: the version that its reply shows is that of its last entry
  record Shows (old new : SeatSeen) (reply : PrintedAnswer) : Type 0 where
    pub at_least : (count : ℕ) → min (old.entries + length (onto_shown (version_shown reply.shown) []) + count) most_faults ≤ min (new.entries + count) most_faults
    pub refused : new.refused ≡ old.refused
    pub last : last_from old.last (onto_shown (version_shown reply.shown) []) ≡ new.last

  shows_entered : (old new : SeatSeen) (reply : PrintedAnswer) → IsEntered old new → version_shown reply.shown ≡ Some (version_of new.front) → Shows old new reply
  shows_entered old new reply entered shown =
      let one : onto_shown (version_shown reply.shown) [] ≡ version_of new.front ∷ [] = ap (λ (o : Option ℕ). onto_shown o []) shown in
      let long : length (onto_shown (version_shown reply.shown) []) ≡ 1 = ap (λ (l : List ℕ). length l) one in
      record {
        at_least = λ count. omega (arith, entered.entries_are, long);
        refused = entered.refused_is;
        last = ap (last_from old.last) one ∙ sym entered.last_is;
      }

  shows_none : (old new : SeatSeen) (reply : PrintedAnswer) → new ≡ old → version_shown reply.shown ≡ None → Shows old new reply
  shows_none old new reply same shown =
      let none : onto_shown (version_shown reply.shown) [] ≡ [] = ap (λ (o : Option ℕ). onto_shown o []) shown in
      let long : length (onto_shown (version_shown reply.shown) []) ≡ 0 = ap (λ (l : List ℕ). length l) none in
      let same_entries : new.entries ≡ old.entries = ap (λ (s : SeatSeen). s.entries) same in
      record {
        at_least = λ count. omega (arith, same_entries, long);
        refused = ap (λ (s : SeatSeen). s.refused) same;
        last = ap (last_from old.last) none ∙ sym (ap (λ (s : SeatSeen). s.last) same);
      }

  shows : (reading : Reading) (refused : List (List ℕ)) (old new : SeatSeen) (reply : PrintedAnswer) → IsServed model shapes opening reading refused old new reply → Shows old new reply
  unfolding shown_by_answer
  shows (Err fault) refused old new reply is = shows_none old new reply is.seat (shown_of is.answers.answer reply is.answers.told ∙ ap shown_by_answer is.answers.holds)
  shows (Ok values) refused old new reply is = by (length values == length model.request) is.answers.holds is.seat
    where
      told : Answer
      told = is.answers.answer

      by : (fits : Bool) → MatchBool fits (IsDecided model shapes refused (version_of new.front) (tables_behind opening new.front) values told) (told ≡ answer.Arity (length values) (length model.request)) → MatchBool fits (IsEntered old new) (new ≡ old) → Shows old new reply
      by true decided entered =
          shows_entered old new reply entered (shown_of told reply is.answers.told ∙ ap shown_by_answer decided.told ∙ shown_decided (version_of new.front) decided.verdict (rule_of (tables_behind opening new.front) decided.verdict))
      by false unequal same = shows_none old new reply same (shown_of told reply is.answers.told ∙ ap shown_by_answer unequal)

  -- and behind requests one after the other
  pub record ShowAll (old new : SeatSeen) (replies : List PrintedAnswer) : Type 0 where
    pub entries : min (old.entries + length (versions_shown replies)) most_faults ≤ min new.entries most_faults
    pub refused : new.refused ≡ old.refused
    pub last : last_from old.last (versions_shown replies) ≡ new.last

  -- a version in front, and then others
  onto_both : (o : Option ℕ) (versions : List ℕ) → onto_shown o versions ≡ onto_shown o [] ++ versions
  onto_both None versions = refl
  onto_both (Some version) versions = refl

  last_both : (low : ℕ) (front back : List ℕ) → last_from low (front ++ back) ≡ last_from (last_from low front) back
  last_both low [] back = refl
  last_both low (x ∷ front) back = last_both x front back

  pub show_all : (old : SeatSeen) (seats : List SeatSeen) (refused : List (List (List ℕ))) (replies : List PrintedAnswer) (readings : List Reading) → AreServed model shapes opening old seats refused replies readings → ShowAll old (last_from old seats) replies
  show_all old [] [] [] readings are = record { entries = omega arith; refused = refl; last = refl }
  show_all old (next ∷ seats) (patterns ∷ refused) (reply ∷ replies) (reading ∷ readings) are =
      let one = shows reading patterns old next reply are.0 in
      let rest = show_all next seats refused replies readings are.1 in
      let both = onto_both (version_shown reply.shown) (versions_shown replies) in
      let long : length (onto_shown (version_shown reply.shown) (versions_shown replies)) ≡ length (onto_shown (version_shown reply.shown) []) + length (versions_shown replies)
      = ap (λ (l : List ℕ). length l) both ∙ length-append (onto_shown (version_shown reply.shown) []) (versions_shown replies) in
      record {
        entries = omega (arith, one.at_least (length (versions_shown replies)), rest.entries, long);
        refused = rest.refused ∙ one.refused;
        last = ap (last_from old.last) both ∙ last_both old.last (onto_shown (version_shown reply.shown) []) (versions_shown replies) ∙ ap (λ (l : ℕ). last_from l (versions_shown replies)) one.last ∙ rest.last;
      }
  show_all old _ _ _ _ are = absurd are

  -- ---- the share of a seat

  -- an entry that was refused rose
  shut_rose : (first old new last : SeatSeen) → old.refused ≡ first.refused → IsShut old new → last.refused ≡ new.refused → Rose first.refused last.refused
  shut_rose first old new last same shut end = omega (arith, same, shut.refused_is, end)

  nothing : {X : Type 0} (xs ys : List X) (n : ℕ) → length xs ≡ n → length (xs ++ ys) ≡ n → ys ≡ []
  nothing xs [] n whole long = refl
  nothing xs (y ∷ ys) n whole long = absurd (omega (arith, whole, long, length-append xs (y ∷ ys)))

  pub entered : (before_list after_list : List (List (List Change))) (version : ℕ) (part : List Said) (before now : Refusals) (first old new last : SeatSeen) (kept others : List PrintedAnswer) → HasLearned before_list first old
      → IsPartKept model shapes opening version part before now old new kept → HasLearned after_list new last → length (kept ++ others) ≡ length (requests part) → HasEntered version (kept ++ others) first last
  entered before_list after_list version part before now first old new last kept others learned is end all calm low =
      ⊎_elim
      (λ same. ⊎_elim
      (λ whole. done whole.0 same.1 whole.1)
      (λ shut. absurd (calm (shut_rose first (last_from old is.served.seats) new last (shown.refused ∙ learned.refused_is) shut end.refused_is)))
      is.served.ends)
      (λ above. absurd (omega (arith, above.0, low, version_begins new.front last.front end.this)))
      is.kept_is
    where
      shown : ShowAll old (last_from old is.served.seats) is.replies
      shown = show_all old is.served.seats is.served.refused is.replies (requests part) is.served.served

      done : new ≡ last_from old is.served.seats → kept ≡ is.replies → length is.replies ≡ length (requests part) → (min (first.entries + length (versions_shown (kept ++ others))) most_faults ≤ last.entries) × (last_from last.last (versions_shown (kept ++ others)) ≡ last.last)
      done same kept-is long =
          let none : others ≡ [] = nothing kept others (length (requests part)) (ap (λ (l : List PrintedAnswer). length l) kept-is ∙ long) all in
          let share : kept ++ others ≡ is.replies = ap (λ (l : List PrintedAnswer). kept ++ l) none ∙ append-nil kept ∙ kept-is in
          let count : length (versions_shown (kept ++ others)) ≡ length (versions_shown is.replies) = ap (λ (l : List PrintedAnswer). length (versions_shown l)) share in
          let lasts : last.last ≡ (last_from old is.served.seats).last = end.last_is ∙ ap (λ (s : SeatSeen). s.last) same in
          let entries : last.entries ≡ (last_from old is.served.seats).entries = end.entries_are ∙ ap (λ (s : SeatSeen). s.entries) same in (
            omega (arith, shown.entries, count, entries, learned.entries_are),
            ap (λ (l : List PrintedAnswer). last_from last.last (versions_shown l)) share ∙ last_again old.last last.last (versions_shown is.replies) (shown.last ∙ sym lasts),
          )
