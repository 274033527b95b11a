-- What a worker answers at a seat.
use Rattle.std.proofs.Common.{◌≡◌, ℕ, ◌==◌, Bool, true, false, List, [], ◌∷◌, ◌++◌, append-nil, inl, inr, length, length-append, map, Ok, Err, Option, refl, sym, ap, subst, ◌∙◌, arith}
use Rattle.std.specs.Prelude.{MatchBool}
use Rattle.live_rounds.specs.Lists.{last_from}
use Rattle.std.proofs.lemmas.Bool.{eq-eqb, ne_eqb}
use Rattle.std.proofs.lemmas.List.{length-map}
use Rattle.answer_lines.specs.Printed.{PrintedAnswer, printed_answer}
use Rattle.answer_lines.specs.declared.answer.Answer.{Answer}
use Rattle.answer_lines.specs.declared.answer.Answer.TheVariants as answer
use Rattle.live_pair.specs.Seats.{IsEntered, IsShut, SeatSeen, version_of}
use Rattle.desk_session.proofs.CallerLemmas.{judged_in, logged_more}
use Rattle.live_rounds.proofs.ItemLemmas.{none_requested, parts_all, parts_more, requests_both}
use Rattle.desk_session.specs.Steps.{is_request}
use Rattle.live_rounds.specs.Requests.{requests}
use Rattle.live_rounds.specs.Helps.Behind.{IsServedBehind}
use Rattle.live_rounds.specs.Served.{AreServed, IsPartServed, IsServed, IsServedBy}
use Rattle.live_seat.specs.Decided.{IsExplainedAt, IsPrintedAt, tables_behind}
use Rattle.live_seat.specs.declared.answered.Answered.{Answered}
use Rattle.model_conf.specs.ModelText.{ModelParts}
use Rattle.perm_base.specs.declared.shapes.Shapes.{Shapes}
use Rattle.perm_value.specs.Seen.{datum}
use Rattle.perm_value.specs.declared.request.RequestFault.{RequestFault}
use Rattle.perm_value.specs.declared.value.Value.{Value}
use Rattle.policy_table.specs.Tables.{Fields, Policy}
use Rattle.regex_gate.specs.Refusals.{IsUsed, Refusals, after_refusals}
use Rattle.script_read.specs.Said.{Reading, Said}
use Rattle.script_read.specs.Said as said
use Rattle.session_meaning.specs.Plain.{all_refused}
use Rattle.session_meaning.specs.Replies.{IsDecided}

module _ (model : ModelParts) (shapes : Shapes) (opening : Policy) where
  -- ---- one request

  -- why a line is no request
  pub served_fault : (refusals : Refusals) (seat : SeatSeen) (fault : RequestFault) (reply : PrintedAnswer) → reply ≡ printed_answer (answer.Request fault) → IsServedBy model shapes opening (Err fault) refusals refusals seat seat reply
  served_fault refusals seat fault reply told = record {
    refused = [];
    logged = refl;
    served = record { answers = record { answer = answer.Request fault; holds = refl; told = told }; unasked = λ calm. refl; seat = refl };
  }

  -- a request with another number of values
  pub served_arity : (refusals : Refusals) (seat : SeatSeen) (values : List Value) (got want : ℕ) (reply : PrintedAnswer) → (length values ≡ length model.request → ⊥) → got ≡ length values → want ≡ length model.request
      → reply ≡ printed_answer (answer.Arity got want) → IsServedBy model shapes opening (Ok (map datum values)) refusals refusals seat seat reply
  served_arity refusals seat values got want reply others is_got is_want told = record {
    refused = [];
    logged = refl;
    served = record {
      answers = record {
        answer = answer.Arity got want;
        holds = subst (λ (b : Bool). MatchBool b (IsDecided model shapes [] (version_of seat.front) (tables_behind opening seat.front) (map datum values) (answer.Arity got want)) (answer.Arity got want ≡ answer.Arity (length (map datum values)) (length model.request))) (sym unequal) same;
        told = told;
      };
      unasked = λ calm. refl;
      seat = subst (λ (b : Bool). MatchBool b (IsEntered seat seat) (seat ≡ seat)) (sym unequal) refl;
    };
  }
    where
      size : length (map datum values) ≡ length values
      size = length-map values datum

      unequal : (length (map datum values) == length model.request) ≡ false
      unequal = ne_eqb (length (map datum values)) (length model.request) (λ equal. others (sym size ∙ equal))

      same : answer.Arity got want ≡ answer.Arity (length (map datum values)) (length model.request)
      same = ap (λ (n : ℕ). answer.Arity n want) (is_got ∙ sym size) ∙ ap (answer.Arity (length (map datum values))) is_want

  -- a verdict, with its rule
  pub served_decided : (before now : Refusals) (old new : SeatSeen) (values : List Value) (told : Answered × Option Fields) (printed : PrintedAnswer) → length values ≡ length model.request → IsUsed before now
      → IsExplainedAt model shapes opening (map datum values) before now old new told → printed ≡ printed_answer (answer.Decided told.0.version told.0.verdict told.1) → IsServedBy model shapes opening (Ok (map datum values)) before now old new printed
  served_decided before now old new values told printed equal used explained same = record {
    refused = used.more;
    logged = used.refused;
    served = record {
      answers = record {
        answer = reply;
        holds = subst (λ (b : Bool). MatchBool b (IsDecided model shapes used.more (version_of new.front) (tables_behind opening new.front) (map datum values) reply) (reply ≡ answer.Arity (length (map datum values)) (length model.request))) (sym fits) decided;
        told = same;
      };
      unasked = λ calm. let both : true ≡ false = sym fits ∙ calm in absurd cc;
      seat = subst (λ (b : Bool). MatchBool b (IsEntered old new) (new ≡ old)) (sym fits) explained.decided.entered;
    };
  }
    where
      reply : Answer
      reply = answer.Decided told.0.version told.0.verdict told.1

      fits : (length (map datum values) == length model.request) ≡ true
      fits = eq-eqb (length (map datum values)) (length model.request) (length-map values datum ∙ equal)

      version-is : told.0.version ≡ version_of new.front
      version-is = explained.decided.version_is ∙ explained.decided.entered.last_is

      decided : IsDecided model shapes used.more (version_of new.front) (tables_behind opening new.front) (map datum values) (answer.Decided told.0.version told.0.verdict told.1)
      decided = record {
        verdict = told.0.verdict;
        judged = judged_in model shapes (tables_behind opening new.front) (map datum values) before now used.more told.0.verdict used.refused explained.decided.judged;
        told = ap (λ (v : ℕ). answer.Decided v told.0.verdict told.1) version-is ∙ ap (answer.Decided (version_of new.front) told.0.verdict) explained.rule_is;
      }

  -- each of them behind other replies
  module _ (replies all : List PrintedAnswer) where
    pub behind_fault : (refusals : Refusals) (seat : SeatSeen) (fault : RequestFault) → all ≡ replies ++ printed_answer (answer.Request fault) ∷ [] → IsServedBehind model shapes opening (Err fault) refusals refusals seat seat replies all
    behind_fault refusals seat fault added = record {
      reply = printed_answer (answer.Request fault);
      served = served_fault refusals seat fault (printed_answer (answer.Request fault)) refl;
      added = added;
    }

    pub behind_arity : (refusals : Refusals) (seat : SeatSeen) (values : List Value) (got want : ℕ) → (length values ≡ length model.request → ⊥) → got ≡ length values → want ≡ length model.request → all ≡ replies ++ printed_answer (answer.Arity got want) ∷ []
        → IsServedBehind model shapes opening (Ok (map datum values)) refusals refusals seat seat replies all
    behind_arity refusals seat values got want others is_got is_want added = record {
      reply = printed_answer (answer.Arity got want);
      served = served_arity refusals seat values got want (printed_answer (answer.Arity got want)) others is_got is_want refl;
      added = added;
    }

    pub behind_printed : (before now : Refusals) (old new : SeatSeen) (values : List Value) → length values ≡ length model.request → IsUsed before now → IsPrintedAt model shapes opening (map datum values) before now old new replies all
        → IsServedBehind model shapes opening (Ok (map datum values)) before now old new replies all
    behind_printed before now old new values equal used is = record {
      reply = printed_answer (answer.Decided is.told.0.version is.told.0.verdict is.told.1);
      served = served_decided before now old new values is.told (printed_answer (answer.Decided is.told.0.version is.told.0.verdict is.told.1)) equal used is.explained refl;
      added = is.added;
    }

  -- ---- requests one after the other

  served_more : (old : SeatSeen) (seats : List SeatSeen) (refused : List (List (List ℕ))) (replies : List PrintedAnswer) (done : List Reading) → AreServed model shapes opening old seats refused replies done → length replies ≡ length done
      → (reading : Reading) (more : List (List ℕ)) (next : SeatSeen) (reply : PrintedAnswer) → IsServed model shapes opening reading more (last_from old seats) next reply
      → AreServed model shapes opening old (seats ++ next ∷ []) (refused ++ more ∷ []) (replies ++ reply ∷ []) (done ++ reading ∷ [])
  served_more old [] [] [] [] are all reading more next reply is = (is, tt)
  served_more old [] [] [] (asked ∷ done) are all reading more next reply is = absurd (omega (arith, all))
  served_more old (seat ∷ seats) (patterns ∷ refused) (first ∷ replies) (asked ∷ done) are all reading more next reply is =
      (are.0, served_more seat seats refused replies done are.1 (omega (arith, all)) reading more next reply is)
  served_more old _ _ _ _ are all reading more next reply is = absurd are

  served_front : (old : SeatSeen) (seats : List SeatSeen) (refused : List (List (List ℕ))) (replies : List PrintedAnswer) (done others : List Reading) → AreServed model shapes opening old seats refused replies done → AreServed model shapes opening old seats refused replies (done ++ others)
  served_front old [] [] [] done others are = tt
  served_front old (seat ∷ seats) (patterns ∷ refused) (first ∷ replies) (asked ∷ done) others are = (are.0, served_front seat seats refused replies done others are.1)
  served_front old _ _ _ _ others are = absurd are

  -- the requests among these items are answered, each in its turn
  pub record IsServing (done : List Said) (before now : Refusals) (old new : SeatSeen) (replies : List PrintedAnswer) : Type 0 where
    pub seats : List SeatSeen
    pub refused : List (List (List ℕ))
    pub served : AreServed model shapes opening old seats refused replies (requests done)
    pub logged : now ≡ after_refusals before (all_refused refused)
    pub seat : new ≡ last_from old seats
    pub all : length replies ≡ length (requests done)

  -- the finder was used so far
  pub serving_used : (done : List Said) (before now : Refusals) (old new : SeatSeen) (replies : List PrintedAnswer) → IsServing done before now old new replies → IsUsed before now
  serving_used done before now old new replies so = record { more = all_refused so.refused; refused = so.logged }

  pub serving_none : (refusals : Refusals) (seat : SeatSeen) → IsServing [] refusals refusals seat seat []
  serving_none refusals seat = record { seats = []; refused = []; served = tt; logged = refl; seat = refl; all = refl }

  -- an item that is no request
  pub serving_other : (done : List Said) (item : Said) (before now : Refusals) (old new : SeatSeen) (replies : List PrintedAnswer) → is_request item ≡ false → IsServing done before now old new replies → IsServing (done ++ item ∷ []) before now old new replies
  serving_other done item before now old new replies other so =
      let same : requests done ≡ requests (done ++ item ∷ [])
      = sym (requests_both done (item ∷ []) ∙ ap (λ (l : List Reading). requests done ++ l) (none_requested item other) ∙ append-nil (requests done)) in
      record {
        seats = so.seats;
        refused = so.refused;
        served = subst (AreServed model shapes opening old so.seats so.refused replies) same so.served;
        logged = so.logged;
        seat = so.seat;
        all = so.all ∙ ap (λ (l : List Reading). length l) same;
      }

  -- a request
  pub serving_more : (done : List Said) (item : Said) (reading : Reading) (before now later : Refusals) (old new next : SeatSeen) (replies more : List PrintedAnswer) (reply : PrintedAnswer) → item ≡ said.asks reading → IsServing done before now old new replies
      → IsServedBy model shapes opening reading now later new next reply → more ≡ replies ++ reply ∷ [] → IsServing (done ++ item ∷ []) before later old next more
  serving_more done item reading before now later old new next replies more reply asks so is more-is = record {
    seats = so.seats ++ next ∷ [];
    refused = so.refused ++ is.refused ∷ [];
    served = subst (λ (l : List PrintedAnswer). AreServed model shapes opening old (so.seats ++ next ∷ []) (so.refused ++ is.refused ∷ []) l (requests (done ++ item ∷ []))) (sym more-is)
        (subst (AreServed model shapes opening old (so.seats ++ next ∷ []) (so.refused ++ is.refused ∷ []) (replies ++ reply ∷ [])) (sym one)
        (served_more old so.seats so.refused replies (requests done) so.served so.all reading is.refused next reply (subst (λ (s : SeatSeen). IsServed model shapes opening reading is.refused s next reply) so.seat is.served)));
    logged = logged_more before now later so.refused is.refused so.logged is.logged;
    seat = sym (last_more old so.seats next);
    all = omega (arith, so.all, ap (λ (l : List PrintedAnswer). length l) more-is, length-append replies (reply ∷ []), ap (λ (l : List Reading). length l) one, length-append (requests done) (reading ∷ []));
  }
    where
      one : requests (done ++ item ∷ []) ≡ requests done ++ reading ∷ []
      one = requests_both done (item ∷ []) ∙ ap (λ (i : Said). requests done ++ requests (i ∷ [])) asks

      last_more : (first : SeatSeen) (seats : List SeatSeen) (last : SeatSeen) → last_from first (seats ++ last ∷ []) ≡ last
      last_more first [] last = refl
      last_more first (seat ∷ seats) last = last_more seat seats last

  -- all items are done
  pub part_served : (part done : List Said) (before now : Refusals) (old new : SeatSeen) (replies : List PrintedAnswer) → done ≡ part → IsServing done before now old new replies → IsPartServed model shapes opening part before now old new replies
  part_served part done before now old new replies same so = subst (λ (p : List Said). IsPartServed model shapes opening p before now old new replies) same (record {
    seats = so.seats;
    refused = so.refused;
    served = so.served;
    logged = so.logged;
    ends = inl (so.seat, so.all);
  })

  -- an entry was refused
  pub part_shut : (part done rest : List Said) (before now later : Refusals) (old new after : SeatSeen) (replies : List PrintedAnswer) → part ≡ done ++ rest → later ≡ now → IsShut new after → IsServing done before now old new replies
      → IsPartServed model shapes opening part before later old after replies
  part_shut part done rest before now later old new after replies parts same shut so = record {
    seats = so.seats;
    refused = so.refused;
    served = subst (AreServed model shapes opening old so.seats so.refused replies) (sym (ap requests parts ∙ requests_both done rest)) (served_front old so.seats so.refused replies (requests done) (requests rest) so.served);
    logged = same ∙ so.logged;
    ends = inr (subst (λ (s : SeatSeen). IsShut s after) so.seat shut);
  }

  -- ---- the requests among the items of a part

  module _ (part : List Said) (before : Refusals) (old : SeatSeen) where
    -- these are left of the items, and the others are done
    pub record IsServingUpTo (left : List Said) (now : Refusals) (new : SeatSeen) (replies : List PrintedAnswer) : Type 0 where
      pub done : List Said
      pub parts : part ≡ done ++ left
      pub serving : IsServing done before now old new replies

    pub serving_first : (left : List Said) (replies : List PrintedAnswer) → left ≡ part → replies ≡ [] → IsServingUpTo left before old replies
    serving_first left replies same none = record { done = []; parts = sym same; serving = subst (IsServing [] before before old old) (sym none) (serving_none before old) }

    module _ (left next : List Said) (item : Said) (now : Refusals) (new : SeatSeen) (replies : List PrintedAnswer) (first_is : left ≡ item ∷ next) (so : IsServingUpTo left now new replies) where
      pub serving_past : is_request item ≡ false → IsServingUpTo next now new replies
      serving_past other = record { done = so.done ++ item ∷ []; parts = parts_more part so.done left next item so.parts first_is; serving = serving_other so.done item before now old new replies other so.serving }

      pub serving_next : (reading : Reading) (later : Refusals) (last : SeatSeen) (more : List PrintedAnswer) (reply : PrintedAnswer) → item ≡ said.asks reading → IsServedBy model shapes opening reading now later new last reply → more ≡ replies ++ reply ∷ [] → IsServingUpTo next later last more
      serving_next reading later last more reply asks served more-is = record {
        done = so.done ++ item ∷ [];
        parts = parts_more part so.done left next item so.parts first_is;
        serving = serving_more so.done item reading before now later old new last replies more reply asks so.serving served more-is;
      }

    pub serving_all : (left : List Said) (now : Refusals) (new : SeatSeen) (replies : List PrintedAnswer) → left ≡ [] → IsServingUpTo left now new replies → IsPartServed model shapes opening part before now old new replies
    serving_all left now new replies none so = part_served part so.done before now old new replies (parts_all part so.done left so.parts none) so.serving

    pub serving_shut : (left : List Said) (now later : Refusals) (new after : SeatSeen) (replies all : List PrintedAnswer) → later ≡ now → IsShut new after → all ≡ replies → IsServingUpTo left now new replies → IsPartServed model shapes opening part before later old after all
    serving_shut left now later new after replies all same shut kept so =
        subst (IsPartServed model shapes opening part before later old after) (sym kept) (part_shut part so.done left before now later old new after replies so.parts same shut so.serving)

    -- the finder was used so far
    pub serving_uses : (left : List Said) (now : Refusals) (new : SeatSeen) (replies : List PrintedAnswer) → IsServingUpTo left now new replies → IsUsed before now
    serving_uses left now new replies so = serving_used so.done before now old new replies so.serving
