-- What was served at a seat is answered at cuts of the round.
use Rattle.std.proofs.Common.{◌≡◌, ℕ, zero, suc, ◌≤◌, leb, Bool, true, false, List, [], ◌∷◌, ◌++◌, append_assoc, append-nil, length, length-append, map, take, refl, sym, ap, subst, ◌∙◌, arith}
use Rattle.std.specs.Prelude.{MatchBool}
use Rattle.std.proofs.lemmas.Bool.{leb-false, leb-true}
use mathlib.Core.List.{IsPrefix}
use Rattle.answer_lines.specs.Printed.{PrintedAnswer}
use Rattle.live_pair.proofs.CallerLemmas.{edits_both, prefix_self, prefix_shorter, prefix_trans}
use Rattle.live_pair.specs.Seats.{IsEntered, SeatSeen, version_of}
use Rattle.live_pair.specs.Story.{edits_in}
use Rattle.live_rounds.specs.Administrators.{AreAt}
use Rattle.live_rounds.specs.Answered.{AreAnsweredAt, Rise}
use Rattle.live_rounds.specs.Lists.{last_from}
use Rattle.live_rounds.specs.Printed.{IsPrinted}
use Rattle.live_rounds.specs.Served.{AreServed, IsServed}
use Rattle.live_seat.specs.Decided.{tables_behind}
use Rattle.model_conf.specs.ModelText.{ModelParts}
use Rattle.perm_base.specs.declared.shapes.Shapes.{Shapes}
use Rattle.policy_table.specs.Changes.{replay}
use Rattle.policy_table.specs.Tables.{Policy}
use Rattle.policy_table.specs.declared.change.Change.{Change}
use Rattle.script_read.specs.Said.{Reading, Said, asks}
use Rattle.session_meaning.proofs.CallerLemmas.{given_front, out_among}
use Rattle.session_meaning.specs.Given.{given}
use Rattle.session_meaning.specs.Replies.{IsAnswerTo, is_decided}
use Rattle.session_meaning.specs.Rounds.{IsCut}
use Rattle.session_meaning.specs.Versions.{out, tables_at}

pub took : {X : Type 0} (n : ℕ) (xs : List X) → n ≤ length xs → length (take n xs) ≡ n
took zero xs within = refl
took (suc n) [] within = absurd (omega (arith, within))
took (suc n) (x ∷ xs) within = ap (λ (m : ℕ). suc m) (took n xs (omega (arith, within)))

none_left : {X : Type 0} (xs : List X) → length xs ≤ 0 → xs ≡ []
none_left [] none = refl
none_left (x ∷ xs) none = absurd (omega (arith, none))

-- the version of a beginning is no greater
pub version_begins : (front whole : List (List (List Change))) → IsPrefix front whole → version_of front ≤ version_of whole
version_begins front whole p =
    omega (arith, ap (λ (l : List (List (List Change))). length (edits_in l)) p.1, ap (λ (l : List (List Change)). length l) (edits_both front p.0), length-append (edits_in front) (edits_in p.0))

-- ---- what a seat knows of behind requests

module _ (shapes : Shapes) (opening : Policy) (model : ModelParts) where
  -- a request that is answered leaves the seat with all that it knew of
  pub begins : (reading : Reading) (refused : List (List ℕ)) (old new : SeatSeen) (reply : PrintedAnswer) → IsServed model shapes opening reading refused old new reply → IsPrefix old.front new.front
  begins reading refused old new reply is = by (is_decided model (asks reading)) is.seat
    where
      by : (test : Bool) → MatchBool test (IsEntered old new) (new ≡ old) → IsPrefix old.front new.front
      by true entered = entered.begun
      by false same = subst (λ (s : SeatSeen). IsPrefix old.front s.front) (sym same) (prefix_self old.front)

  pub all_begin : (old : SeatSeen) (seats : List SeatSeen) (refused : List (List (List ℕ))) (replies : List PrintedAnswer) (readings : List Reading) → AreServed model shapes opening old seats refused replies readings → IsPrefix old.front (last_from old seats).front
  all_begin old [] refused replies readings are = prefix_self old.front
  all_begin old (next ∷ seats) (patterns ∷ refused) (reply ∷ replies) (reading ∷ readings) are =
      prefix_trans old.front next.front (last_from next seats).front (begins reading patterns old next reply are.0) (all_begin next seats refused replies readings are.1)
  all_begin old (next ∷ seats) _ _ _ are = absurd are

  -- and the versions do not fall
  pub served_rise : (old : SeatSeen) (seats : List SeatSeen) (refused : List (List (List ℕ))) (replies : List PrintedAnswer) (readings : List Reading) → AreServed model shapes opening old seats refused replies readings → Rise (version_of old.front) (map (λ (s : SeatSeen). version_of s.front) seats)
  served_rise old [] refused replies readings are = tt
  served_rise old (next ∷ seats) (patterns ∷ refused) (reply ∷ replies) (reading ∷ readings) are =
      (version_begins old.front next.front (begins reading patterns old next reply are.0), served_rise next seats refused replies readings are.1)
  served_rise old (next ∷ seats) _ _ _ are = absurd are

module _ (shapes : Shapes) (opening : Policy) (before round : List Said) where
  -- ---- publishes behind some of the first items of the round

  module _ (list : List (List (List Change))) (at : AreAt shapes opening before round list) where
    version_at : version_of list ≡ out shapes opening (before ++ at.front)
    version_at = ap (λ (l : List (List Change)). length l) at.edits ∙ took (out shapes opening (before ++ at.front)) (given shapes opening (before ++ at.front)) (out_among shapes opening (before ++ at.front))

    -- their version is a cut
    pub cut_at : IsCut shapes opening before round (version_of list)
    cut_at = record { front = at.front; back = at.back; parts = at.parts; is_out = version_at }

    -- and the tables behind them are those of that version
    pub tables_are : tables_behind opening list ≡ tables_at shapes opening (before ++ round) (version_of list)
    tables_are =
        let whole : before ++ round ≡ (before ++ at.front) ++ at.back = ap (λ (l : List Said). before ++ l) at.parts ∙ sym (append_assoc before at.front at.back) in
        let within : version_of list ≤ length (given shapes opening (before ++ at.front)) = omega (arith, version_at, out_among shapes opening (before ++ at.front)) in
        let same : take (version_of list) (given shapes opening (before ++ round)) ≡ take (version_of list) (given shapes opening (before ++ at.front))
        = ap (λ (l : List Said). take (version_of list) (given shapes opening l)) whole ∙ given_front shapes opening (before ++ at.front) at.back (version_of list) within in
        let edits : edits_in list ≡ take (version_of list) (given shapes opening (before ++ at.front))
        = at.edits ∙ ap (λ (n : ℕ). take n (given shapes opening (before ++ at.front))) (sym version_at) in
        ap (λ (l : List (List Change)). replay l opening) (edits ∙ sym same)

  -- ---- what a seat saw, where it is not above the administrator

  module _ (first last learned : List (List (List Change))) (grown : IsPrefix first last) (cuts : (list : List (List (List Change))) → IsPrefix first list → IsPrefix list last → AreAt shapes opening before round list)
      (end : IsPrefix last learned) (above : version_of learned ≤ version_of last) where
    pub seen_at : (list : List (List (List Change))) → IsPrefix first list → IsPrefix list learned → AreAt shapes opening before round list
    seen_at list from until = by (leb (length list) (length last)) refl
      where
        by : (test : Bool) → leb (length list) (length last) ≡ test → AreAt shapes opening before round list
        by true is = cuts list from (prefix_shorter list last learned until end (leb-true (length list) (length last) is))
        by false is =
            let longer = leb-false (length list) (length last) is in
            let more = prefix_shorter last list learned end until (omega (arith, longer)) in
            let both : edits_in list ≡ edits_in last ++ edits_in more.0 = ap edits_in (sym more.1) ∙ edits_both last more.0 in
            let low = version_begins list learned until in
            let none : edits_in more.0 ≡ [] = none_left (edits_in more.0) (omega (arith, low, above, ap (λ (l : List (List Change)). length l) both, length-append (edits_in last) (edits_in more.0))) in
            let same : edits_in list ≡ edits_in last = both ∙ ap (λ (l : List (List Change)). edits_in last ++ l) none ∙ append-nil (edits_in last) in
            let at = cuts last grown (prefix_self last) in
            record { front = at.front; back = at.back; parts = at.parts; edits = same ∙ at.edits }

    module _ (model : ModelParts) where
      -- all that was served is answered at cuts
      pub served_at : (old : SeatSeen) (seats : List SeatSeen) (refused : List (List (List ℕ))) (replies : List PrintedAnswer) (readings : List Reading) → IsPrefix first old.front → IsPrefix (last_from old seats).front learned
          → AreServed model shapes opening old seats refused replies readings → AreAnsweredAt model shapes opening before round (map (λ (s : SeatSeen). version_of s.front) seats) refused replies readings
      served_at old [] [] [] readings from until are = tt
      served_at old (next ∷ seats) (patterns ∷ refused) (reply ∷ replies) (reading ∷ readings) from until are =
          let onto = prefix_trans first old.front next.front from (begins shapes opening model reading patterns old next reply are.0) in
          let rest = all_begin shapes opening model next seats refused replies readings are.1 in
          let at = seen_at next.front onto (prefix_trans next.front (last_from next seats).front learned rest until) in (
            record {
              cut = cut_at next.front at;
              answers = subst (λ (policy : Policy). IsPrinted (IsAnswerTo model shapes patterns (version_of next.front) policy reading) reply) (tables_are next.front at) are.0.answers;
              unasked = are.0.unasked;
            },
            served_at next seats refused replies readings onto until are.1,
          )
      served_at old _ _ _ _ from until are = absurd are
