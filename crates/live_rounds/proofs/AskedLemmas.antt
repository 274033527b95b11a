-- Requests that are answered at the desk, behind those that were answered at a seat.
use Rattle.std.proofs.Common.{◌≡◌, ℕ, zero, suc, ◌+◌, ◌-◌, ◌<◌, ◌≤◌, false, List, [], ◌∷◌, ◌++◌, append_assoc, append-nil, drop, length, length-append, map, refl, sym, ap, subst, ◌∙◌, arith}
use Rattle.answer_lines.specs.Printed.{PrintedAnswer, printed_answer}
use Rattle.answer_lines.specs.declared.answer.Answer.{Answer}
use Rattle.desk_session.proofs.CallerLemmas.{logged_more}
use Rattle.desk_session.specs.Requests.{IsAnsweredBy, Refuses}
use Rattle.live_rounds.specs.Answered.{AreAnsweredAt}
use Rattle.live_rounds.specs.Helps.Asked.{AddsAnswered, AreAnsweredOver, IsAnsweredOver}
use Rattle.desk_session.specs.Steps.{is_request}
use Rattle.live_rounds.specs.Printed.{IsPrinted}
use Rattle.live_rounds.specs.Requests.{requests}
use Rattle.live_rounds.proofs.ItemLemmas.{none_requested, parts_all, parts_more, requests_both}
use Rattle.model_conf.specs.ModelText.{ModelParts}
use Rattle.perm_base.specs.declared.shapes.Shapes.{Shapes}
use Rattle.policy_state.specs.States.{State, tables}
use Rattle.policy_table.specs.Tables.{Policy}
use Rattle.regex_gate.proofs.CallerLemmas.{used_then}
use Rattle.regex_gate.specs.Refusals.{IsUsed, Refusals}
use Rattle.script_read.specs.Said.{Reading, Said, asks}
use Rattle.session_meaning.specs.Plain.{all_refused}
use Rattle.session_meaning.specs.Replies.{IsAnswerTo}
use Rattle.session_meaning.specs.Rounds.{IsCut}
use Rattle.session_meaning.specs.Versions.{tables_at}
use Rattle.version_log.specs.Log.{versions}

drop_past : {X : Type 0} (n : ℕ) (xs : List X) → length xs ≤ n → drop n xs ≡ []
drop_past zero [] past = refl
drop_past zero (x ∷ xs) past = absurd (omega (arith, past))
drop_past (suc n) [] past = refl
drop_past (suc n) (x ∷ xs) past = drop_past n xs (omega (arith, past))

drop_within : {X : Type 0} (n : ℕ) (xs ys : List X) → n ≤ length xs → drop n (xs ++ ys) ≡ drop n xs ++ ys
drop_within zero xs ys within = refl
drop_within (suc n) [] ys within = absurd (omega (arith, within))
drop_within (suc n) (x ∷ xs) ys within = drop_within n xs ys (omega (arith, within))

module _ (model : ModelParts) (state : State) where
  answered_more : (refused : List (List (List ℕ))) (replies : List PrintedAnswer) (readings : List Reading) → AreAnsweredOver model state.shapes (versions state.log) (tables state) refused replies readings
      → (more : List (List ℕ)) (reply : PrintedAnswer) (reading : Reading) → IsAnsweredOver model state.shapes (versions state.log) (tables state) more reply reading
      → AreAnsweredOver model state.shapes (versions state.log) (tables state) (refused ++ more ∷ []) (replies ++ reply ∷ []) (readings ++ reading ∷ [])
  answered_more [] [] [] are more reply reading is = (is, tt)
  answered_more (patterns ∷ refused) (first ∷ replies) (asked ∷ readings) are more reply reading is = (are.0, answered_more refused replies readings are.1 more reply reading is)
  answered_more _ _ _ are more reply reading is = absurd are

  -- of the requests among these items all but the first ones that are skipped are answered; so many are still to be skipped
  pub record IsAsking (before now : Refusals) (skipped left : ℕ) (done : List Said) (old new : List PrintedAnswer) : Type 0 where
    pub added : AddsAnswered model state before now (drop skipped (requests done)) old new
    pub left_are : left ≡ skipped - length (requests done)

  pub asking_none : (refusals : Refusals) (skipped : ℕ) (old : List PrintedAnswer) → IsAsking refusals refusals skipped skipped [] old old
  asking_none refusals skipped old = record {
    added = record {
      refused = [];
      replies = [];
      added = sym (append-nil old);
      logged = refl;
      answered = subst (AreAnsweredOver model state.shapes (versions state.log) (tables state) [] []) (sym (drop_past skipped [] (omega arith))) tt;
    };
    left_are = omega arith;
  }

  -- the finder was used so far, and for an item more
  pub asking_used : (before now : Refusals) (skipped left : ℕ) (done : List Said) (old new : List PrintedAnswer) → IsAsking before now skipped left done old new → IsUsed before now
  asking_used before now skipped left done old new so = record { more = all_refused so.added.refused; refused = so.added.logged }

  pub asking_used_then : (before now later : Refusals) (skipped left : ℕ) (done : List Said) (old new : List PrintedAnswer) (item : Said) → IsAsking before now skipped left done old new → Refuses model now later item → IsUsed before later
  asking_used_then before now later skipped left done old new item so more = used_then before now later (asking_used before now skipped left done old new so) (record { more = more.refused; refused = more.logged })

  -- the same requests
  asking_same : (before now : Refusals) (skipped left : ℕ) (done more : List Said) (old new : List PrintedAnswer) → requests more ≡ requests done → IsAsking before now skipped left done old new → IsAsking before now skipped left more old new
  asking_same before now skipped left done more old new same so = record {
    added = subst (λ (l : List Reading). AddsAnswered model state before now (drop skipped l) old new) (sym same) so.added;
    left_are = so.left_are ∙ ap (λ (l : List Reading). skipped - length l) (sym same);
  }

  -- an item that is no request
  pub asking_other : (before now : Refusals) (skipped left : ℕ) (done : List Said) (item : Said) (old new : List PrintedAnswer) → is_request item ≡ false → IsAsking before now skipped left done old new → IsAsking before now skipped left (done ++ item ∷ []) old new
  asking_other before now skipped left done item old new other so =
      asking_same before now skipped left done (done ++ item ∷ []) old new (requests_both done (item ∷ []) ∙ ap (λ (l : List Reading). requests done ++ l) (none_requested item other) ∙ append-nil (requests done)) so

  module _ (before now later : Refusals) (skipped left : ℕ) (done : List Said) (item : Said) (reading : Reading) (old new : List PrintedAnswer) (is : item ≡ asks reading) (so : IsAsking before now skipped left done old new) where
    one : requests (done ++ item ∷ []) ≡ requests done ++ reading ∷ []
    one = requests_both done (item ∷ []) ∙ ap (λ (i : Said). requests done ++ requests (i ∷ [])) is

    counted : length (requests (done ++ item ∷ [])) ≡ length (requests done) + 1
    counted = ap (λ (l : List Reading). length l) one ∙ length-append (requests done) (reading ∷ [])

    -- a request that is skipped
    pub asking_skipped : 0 < left → IsAsking before now skipped (left - 1) (done ++ item ∷ []) old new
    asking_skipped some =
        let past : length (requests done) < skipped = omega (arith, so.left_are, some) in
        let none : drop skipped (requests done) ≡ drop skipped (requests (done ++ item ∷ []))
        = drop_past skipped (requests done) (omega (arith, past)) ∙ sym (drop_past skipped (requests (done ++ item ∷ [])) (omega (arith, past, counted))) in
        record {
          added = subst (λ (l : List Reading). AddsAnswered model state before now l old new) none so.added;
          left_are = omega (arith, so.left_are, counted, some);
        }

    -- one that is answered
    pub asking_more : (more : List PrintedAnswer) (answer : Answer) (reply : PrintedAnswer) → left ≡ 0 → IsAnsweredBy model state now later reading answer → reply ≡ printed_answer answer → more ≡ new ++ reply ∷ [] → IsAsking before later skipped left (done ++ item ∷ []) old more
    asking_more more answer reply none answered told more-is =
        let within : skipped ≤ length (requests done) = omega (arith, so.left_are, none) in
        let all : drop skipped (requests (done ++ item ∷ [])) ≡ drop skipped (requests done) ++ reading ∷ []
        = ap (drop skipped) one ∙ drop_within skipped (requests done) (reading ∷ []) within in
        record {
          added = record {
            refused = so.added.refused ++ answered.asked.refused ∷ [];
            replies = so.added.replies ++ reply ∷ [];
            added = more-is ∙ ap (λ (l : List PrintedAnswer). l ++ reply ∷ []) so.added.added ∙ append_assoc old so.added.replies (reply ∷ []);
            logged = logged_more before now later so.added.refused answered.asked.refused so.added.logged answered.asked.logged;
            answered = subst (AreAnsweredOver model state.shapes (versions state.log) (tables state) (so.added.refused ++ answered.asked.refused ∷ []) (so.added.replies ++ reply ∷ [])) (sym all)
                (answered_more so.added.refused so.added.replies (drop skipped (requests done)) so.added.answered answered.asked.refused reply reading (record { answers = record { answer = answer; holds = answered.answers; told = told }; unasked = answered.asked.unasked }));
          };
          left_are = omega (arith, so.left_are, counted, none);
        }

-- ---- the requests among the items of a part

module _ (model : ModelParts) (state : State) (items : List Said) (before : Refusals) (skipped : ℕ) (old : List PrintedAnswer) where
  -- these are left of the items, and the others are done
  pub record IsAskingUpTo (rest : List Said) (now : Refusals) (left : ℕ) (new : List PrintedAnswer) : Type 0 where
    pub done : List Said
    pub parts : items ≡ done ++ rest
    pub asking : IsAsking model state before now skipped left done old new

  pub asking_first : (rest : List Said) → rest ≡ items → IsAskingUpTo rest before skipped old
  asking_first rest same = record { done = []; parts = sym same; asking = asking_none model state before skipped old }

  module _ (rest next : List Said) (item : Said) (now : Refusals) (left : ℕ) (new : List PrintedAnswer) (first_is : rest ≡ item ∷ next) (so : IsAskingUpTo rest now left new) where
    parts_on : items ≡ (so.done ++ item ∷ []) ++ next
    parts_on = parts_more items so.done rest next item so.parts first_is

    pub asking_past : is_request item ≡ false → IsAskingUpTo next now left new
    asking_past other = record { done = so.done ++ item ∷ []; parts = parts_on; asking = asking_other model state before now skipped left so.done item old new other so.asking }

    pub asking_skip : (reading : Reading) (fewer : ℕ) → item ≡ asks reading → 0 < left → fewer ≡ left - 1 → IsAskingUpTo next now fewer new
    asking_skip reading fewer is_asked some fewer-is = subst (λ (k : ℕ). IsAskingUpTo next now k new) (sym fewer-is) (record {
      done = so.done ++ item ∷ [];
      parts = parts_on;
      asking = asking_skipped model state before now now skipped left so.done item reading old new is_asked so.asking some;
    })

    pub asking_next : (reading : Reading) (later : Refusals) (more : List PrintedAnswer) (answer : Answer) (reply : PrintedAnswer) → item ≡ asks reading → left ≡ 0 → IsAnsweredBy model state now later reading answer → reply ≡ printed_answer answer → more ≡ new ++ reply ∷ [] → IsAskingUpTo next later left more
    asking_next reading later more answer reply is_asked none answered told more-is = record {
      done = so.done ++ item ∷ [];
      parts = parts_on;
      asking = asking_more model state before now later skipped left so.done item reading old new is_asked so.asking more answer reply none answered told more-is;
    }

  pub asking_all : (rest : List Said) (now : Refusals) (left : ℕ) (new : List PrintedAnswer) → rest ≡ [] → IsAskingUpTo rest now left new → AddsAnswered model state before now (drop skipped (requests items)) old new
  asking_all rest now left new none so = subst (λ (l : List Said). AddsAnswered model state before now (drop skipped (requests l)) old new) (parts_all items so.done rest so.parts none) so.asking.added

  -- the finder was used so far, and for an item more
  pub asking_uses : (rest : List Said) (now : Refusals) (left : ℕ) (new : List PrintedAnswer) → IsAskingUpTo rest now left new → IsUsed before now
  asking_uses rest now left new so = asking_used model state before now skipped left so.done old new so.asking

  pub asking_uses_then : (rest : List Said) (now later : Refusals) (left : ℕ) (new : List PrintedAnswer) (item : Said) → IsAskingUpTo rest now left new → Refuses model now later item → IsUsed before later
  asking_uses_then rest now later left new item so more = asking_used_then model state before now later skipped left so.done old new item so.asking more

-- ---- those of a seat, and then those of the desk

module _ (model : ModelParts) (shapes : Shapes) (opening : Policy) (before round : List Said) (version : ℕ) (policy : Policy) (cut : IsCut shapes opening before round version) (policy-is : policy ≡ tables_at shapes opening (before ++ round) version) where
  -- a version for each of these
  abbrev pub same_for : List PrintedAnswer → List ℕ
  same_for replies = map (λ (reply : PrintedAnswer). version) replies

  all_over : (refused : List (List (List ℕ))) (replies : List PrintedAnswer) (readings : List Reading) → AreAnsweredOver model shapes version policy refused replies readings → AreAnsweredAt model shapes opening before round (same_for replies) refused replies readings
  all_over [] [] [] are = tt
  all_over (patterns ∷ refused) (reply ∷ replies) (reading ∷ readings) are = (
    record { cut = cut; answers = subst (λ (p : Policy). IsPrinted (IsAnswerTo model shapes patterns version p reading) reply) policy-is are.0.answers; unasked = are.0.unasked },
    all_over refused replies readings are.1,
  )
  all_over _ _ _ are = absurd are

  over_long : (refused : List (List (List ℕ))) (replies : List PrintedAnswer) (readings : List Reading) → AreAnsweredOver model shapes version policy refused replies readings → length replies ≡ length readings
  over_long [] [] [] are = refl
  over_long (patterns ∷ refused) (reply ∷ replies) (reading ∷ readings) are = ap (λ (n : ℕ). suc n) (over_long refused replies readings are.1)
  over_long _ _ _ are = absurd are

  pub completed : (seen : List ℕ) (refused others : List (List (List ℕ))) (kept replies : List PrintedAnswer) (readings : List Reading) → AreAnsweredAt model shapes opening before round seen refused kept readings
      → AreAnsweredOver model shapes version policy others replies (drop (length kept) readings) → AreAnsweredAt model shapes opening before round (seen ++ same_for replies) (refused ++ others) (kept ++ replies) readings
  completed [] [] others [] replies readings are over = all_over others replies readings over
  completed (v ∷ seen) (patterns ∷ refused) others (reply ∷ kept) replies (reading ∷ readings) are over = (are.0, completed seen refused others kept replies readings are.1 over)
  completed _ _ others _ replies _ are over = absurd are

  pub completed_long : (seen : List ℕ) (refused others : List (List (List ℕ))) (kept replies : List PrintedAnswer) (readings : List Reading) → AreAnsweredAt model shapes opening before round seen refused kept readings
      → AreAnsweredOver model shapes version policy others replies (drop (length kept) readings) → length (kept ++ replies) ≡ length readings
  completed_long [] [] others [] replies readings are over = over_long others replies readings over
  completed_long (v ∷ seen) (patterns ∷ refused) others (reply ∷ kept) replies (reading ∷ readings) are over = ap (λ (n : ℕ). suc n) (completed_long seen refused others kept replies readings are.1 over)
  completed_long _ _ others _ replies _ are over = absurd are

-- where as many are kept as there are requests, all are
pub all_kept_are : (model : ModelParts) (state : State) (refusals : Refusals) (readings : List Reading) (kept : List PrintedAnswer) → length readings ≤ length kept → AddsAnswered model state refusals refusals (drop (length kept) readings) kept kept
all_kept_are model state refusals readings kept enough = record {
  refused = [];
  replies = [];
  added = sym (append-nil kept);
  logged = refl;
  answered = subst (AreAnsweredOver model state.shapes (versions state.log) (tables state) [] []) (sym (drop_past (length kept) readings enough)) tt;
}
