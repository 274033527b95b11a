-- What the requests of all parts are answered, and where that leaves seats and finders.
use Rattle.std.proofs.Common.{◌≡◌, ℕ, zero, suc, ◌+◌, ◌≤◌, List, [], ◌∷◌, ◌++◌, append-nil, length, length-append, refl, sym, ap, subst, ◌∙◌, arith}
use Rattle.std.specs.Prelude.{sum_by}
use Rattle.std.specs.List.{AllByRecursion, AllZip}
use Rattle.std.proofs.lemmas.List.Sums.{sum_by-append}
use Rattle.answer_lines.specs.Printed.{PrintedAnswer}
use Rattle.live_pair.specs.Admins.{AdminSeen}
use Rattle.live_pair.specs.Seats.{SeatSeen, version_of}
use Rattle.live_rounds.proofs.EntryLemmas.{entered}
use Rattle.live_rounds.proofs.ItemLemmas.{requests_both}
use Rattle.live_rounds.proofs.ShareLemmas.{IsShareDone, all_weighed, at_end, share_kept, share_left}
use Rattle.live_rounds.specs.Administrators.{AreDoneBeside}
use Rattle.live_rounds.specs.Answered.{AreAnsweredAt, Rise}
use Rattle.live_rounds.specs.Done.{EachHasEntered, HaveRefused}
use Rattle.live_rounds.specs.Helps.Asked.{AreShared}
use Rattle.live_rounds.specs.Helps.Learned.{HasLearned}
use Rattle.live_rounds.specs.Helps.Posts.{AreKept}
use Rattle.live_rounds.specs.Requests.{AreParts, requests}
use Rattle.live_rounds.specs.Shares.{HasEach, in_turn}
use Rattle.model_conf.specs.ModelText.{ModelParts}
use Rattle.perm_base.specs.declared.shapes.Shapes.{Shapes}
use Rattle.policy_table.specs.Tables.{Policy}
use Rattle.regex_gate.specs.Refusals.{Refusals, after_refusal, after_refusals}
use Rattle.script_read.specs.Said.{Reading, Said}
use Rattle.session_meaning.specs.Plain.{all_refused}

pub same_refusals : (before : Refusals) (some others : List (List ℕ)) → after_refusals (after_refusals before some) others ≡ after_refusals before (some ++ others)
same_refusals before [] others = refl
same_refusals before (pattern ∷ some) others = same_refusals (after_refusal before pattern) some others

-- the first requests are answered, and so are those behind
answered_both : (model : ModelParts) (shapes : Shapes) (opening : Policy) (before round : List Said) (some others : List ℕ) (refused more : List (List (List ℕ))) (replies rest : List PrintedAnswer) (front back : List Reading) → AreAnsweredAt model shapes opening before round some refused replies front
    → length replies ≡ length front → AreAnsweredAt model shapes opening before round others more rest back → AreAnsweredAt model shapes opening before round (some ++ others) (refused ++ more) (replies ++ rest) (front ++ back)
answered_both model shapes opening before round [] others [] more [] rest [] back are all behind = behind
answered_both model shapes opening before round [] others [] more [] rest (reading ∷ front) back are all behind = absurd (omega (arith, all))
answered_both model shapes opening before round (v ∷ some) others (patterns ∷ refused) more (reply ∷ replies) rest (reading ∷ front) back are all behind =
    (are.0, answered_both model shapes opening before round some others refused more replies rest front back are.1 (omega (arith, all)) behind)
answered_both model shapes opening before round _ others _ more _ rest _ back are all behind = absurd are

-- ---- a round that the administrator has done

module _ (model : ModelParts) (shapes : Shapes) (opening : Policy) (before round : List Said) (old new : AdminSeen) (others : List PrintedAnswer) (done : AreDoneBeside shapes opening before round old new others) where
  abbrev end : ℕ
  end = at_end model shapes opening before round old new others done

  -- the replies to the requests of a part
  abbrev pub HasReplies : List Said → List PrintedAnswer → Type 0
  HasReplies part replies = length replies ≡ length (requests part)

  -- all requests of items are answered, part by part; by workers at these seats and by these finders, and at the desk by another finder
  pub record AreAnswered (items : List Said) (parts : List (List Said)) (firsts finals : List SeatSeen) (befores nows : List Refusals) (from until : Refusals) (replies : List (List PrintedAnswer)) : Type 0 where
    pub seen : List (List ℕ)
    pub refused : List (List (List ℕ))
    pub answered : AreAnsweredAt model shapes opening before round (in_turn seen) refused (in_turn replies) (requests items)
    pub all : length (in_turn replies) ≡ length (requests items)
    pub each_reply : AllZip HasReplies parts replies
    pub each : AllZip HasEach parts seen
    pub rise : AllByRecursion (Rise (version_of old.list)) seen
    pub more : List (List (List ℕ))
    pub used : HaveRefused befores nows more
    pub patterns : List (List ℕ)
    pub logged : until ≡ after_refusals from patterns
    pub told : (weight : List ℕ → ℕ) → sum_by weight (all_refused refused) ≤ sum_by weight patterns + sum_by weight (all_refused more)
    pub entered : EachHasEntered end replies firsts finals

  -- finders that were not asked
  abbrev calm : List Refusals → List (List (List ℕ))
  calm [] = []
  calm (r ∷ list) = [] ∷ calm list

  calm_refused : (list : List Refusals) → HaveRefused list list (calm list)
  calm_refused [] = tt
  calm_refused (r ∷ list) = (refl, calm_refused list)

  none_entered : (replies : List (List PrintedAnswer)) (firsts finals : List SeatSeen) → firsts ≡ [] → EachHasEntered end replies firsts finals
  none_entered [] firsts finals none = tt
  none_entered (share ∷ replies) firsts finals none = subst (λ (l : List SeatSeen). EachHasEntered end (share ∷ replies) l finals) (sym none) tt

  -- nothing behind the last part
  none_answered : (firsts finals : List SeatSeen) (befores nows : List Refusals) (from until : Refusals) → until ≡ from → nows ≡ befores → AreAnswered [] [] firsts finals befores nows from until []
  none_answered firsts finals befores nows from until calm_desk calm_finders = record {
    seen = [];
    refused = [];
    answered = tt;
    all = refl;
    each_reply = tt;
    each = tt;
    rise = tt;
    more = calm befores;
    used = subst (λ (l : List Refusals). HaveRefused befores l (calm befores)) (sym calm_finders) (calm_refused befores);
    patterns = [];
    logged = calm_desk;
    told = λ weight. omega arith;
    entered = tt;
  }

  -- what the parts behind the first hold, and the first
  module _ (items part rest : List Said) (parts : List (List Said)) (whole : items ≡ part ++ rest) (from mid until : Refusals) (kept first : List PrintedAnswer) (replies : List (List PrintedAnswer)) (worker : List (List ℕ)) (share : IsShareDone model shapes opening before round old new others done part kept worker from mid first) where
    both : requests items ≡ requests part ++ requests rest
    both = ap requests whole ∙ requests_both part rest

    abbrev first_replies : List PrintedAnswer
    first_replies = kept ++ share.at_desk

    answered_more : (firsts finals others_firsts others_finals : List SeatSeen) (befores nows others_befores others_nows : List Refusals) (is : AreAnswered rest parts others_firsts others_finals others_befores others_nows mid until replies) (told_more : List (List (List ℕ)))
        → HaveRefused befores nows told_more → ((weight : List ℕ → ℕ) → sum_by weight (all_refused told_more) ≡ sum_by weight worker + sum_by weight (all_refused is.more)) → EachHasEntered end (first_replies ∷ replies) firsts finals
        → AreAnswered items (part ∷ parts) firsts finals befores nows from until (first ∷ replies)
    answered_more firsts finals others_firsts others_finals befores nows others_befores others_nows is told_more used weighed entered_all =
        subst (λ (l : List PrintedAnswer). AreAnswered items (part ∷ parts) firsts finals befores nows from until (l ∷ replies)) (sym share.added) (record {
          seen = share.seen ∷ is.seen;
          refused = share.refused ++ is.refused;
          answered = subst (AreAnsweredAt model shapes opening before round (share.seen ++ in_turn is.seen) (share.refused ++ is.refused) (first_replies ++ in_turn replies)) (sym both)
              (answered_both model shapes opening before round share.seen (in_turn is.seen) share.refused is.refused first_replies (in_turn replies) (requests part) (requests rest) share.answered share.all is.answered);
          all = omega (arith, length-append first_replies (in_turn replies), share.all, is.all, ap (λ (l : List Reading). length l) both, length-append (requests part) (requests rest));
          each_reply = (share.all, is.each_reply);
          each = (share.each, is.each);
          rise = (share.rise, is.rise);
          more = told_more;
          used = used;
          patterns = share.patterns ++ is.patterns;
          logged = is.logged ∙ ap (λ (r : Refusals). after_refusals r is.patterns) share.logged ∙ same_refusals from share.patterns is.patterns;
          told = λ weight.
              let one = share.told weight in
              let two = is.told weight in
              omega (arith, one, two, all_weighed weight share.refused is.refused, weighed weight, sum_by-append weight share.patterns is.patterns);
          entered = entered_all;
        })

  -- ---- one part after the other

  -- where there are no more seats
  kept_none : (parts : List (List Said)) (news : List SeatSeen) (befores nows : List Refusals) → news ≡ [] → nows ≡ befores → AreKept model shapes opening end parts [] news befores nows []
  kept_none [] news befores nows none same = (none, same)
  kept_none (part ∷ parts) news befores nows none same = (none, same)

  -- where there are no more parts
  kept_end : (olds news : List SeatSeen) (befores nows : List Refusals) (kepts : List (List PrintedAnswer)) → AreKept model shapes opening end [] olds news befores nows kepts → nows ≡ befores
  kept_end olds news befores nows [] kept = kept.1
  kept_end olds news befores nows (k ∷ kepts) kept = absurd kept

  -- what is done with the parts behind the first
  abbrev GoesOn : List Said → List (List Said) → (until : Refusals) (replies : List (List PrintedAnswer)) → Type 0
  GoesOn items parts until replies = (firsts olds news finals : List SeatSeen) (befores nows : List Refusals) (kepts : List (List PrintedAnswer)) (mid : Refusals) → AllZip (HasLearned old.list) firsts olds → AllZip (HasLearned new.list) news finals
      → AreKept model shapes opening end parts olds news befores nows kepts → AreShared model new.desk.state parts kepts mid until replies → AreAnswered items parts firsts finals befores nows mid until replies

  module _ (items part rest : List Said) (parts : List (List Said)) (whole : items ≡ part ++ rest) (from until : Refusals) (first : List PrintedAnswer) (replies : List (List PrintedAnswer)) (go : GoesOn rest parts until replies) where
    -- the first part, for which there is a seat or none
    pub one_part : (firsts olds news finals : List SeatSeen) (befores nows : List Refusals) (kepts : List (List PrintedAnswer)) → AllZip (HasLearned old.list) firsts olds → AllZip (HasLearned new.list) news finals
        → AreKept model shapes opening end (part ∷ parts) olds news befores nows kepts → AreShared model new.desk.state (part ∷ parts) kepts from until (first ∷ replies) → AreAnswered items (part ∷ parts) firsts finals befores nows from until (first ∷ replies)
    one_part [] [] news finals befores nows [] learned ended kept shared =
        let mid = shared.0 in
        let share = share_left model shapes opening before round old new others done part from mid first shared.1 in
        let rest_are = go [] [] news finals befores nows [] mid learned ended (kept_none parts news befores nows kept.0 kept.1) shared.2 in
        answered_more items part rest parts whole from mid until [] first replies [] share [] finals [] finals befores nows befores nows rest_are rest_are.more rest_are.used (λ weight. omega arith)
        (none_entered (share.at_desk ∷ replies) [] finals refl)
    one_part (f ∷ firsts) (o ∷ olds) (w ∷ news) (l ∷ finals) (b ∷ befores) (c ∷ nows) (k ∷ kepts) learned ended kept shared =
        let mid = shared.0 in
        let is = kept.0 in
        let share = share_kept model shapes opening before round old new others done part from mid first o w l b c k learned.0.that ended.0 is shared.1 in
        let rest_are = go firsts olds news finals befores nows kepts mid learned.1 ended.1 kept.1 shared.2 in
        answered_more items part rest parts whole from mid until k first replies (all_refused is.served.refused) share (f ∷ firsts) (l ∷ finals) firsts finals (b ∷ befores) (c ∷ nows) befores nows rest_are (all_refused is.served.refused ∷ rest_are.more)
        (is.served.logged, rest_are.used) (λ weight. sum_by-append weight (all_refused is.served.refused) (all_refused rest_are.more))
        (entered model shapes opening old.list new.list end part b c f o w l k share.at_desk learned.0 is ended.0 share.all, rest_are.entered)
    one_part (f ∷ firsts) [] news finals befores nows kepts learned ended kept shared = absurd learned
    one_part [] (o ∷ olds) news finals befores nows kepts learned ended kept shared = absurd learned
    one_part [] [] news finals befores nows (k ∷ kepts) learned ended kept shared = absurd kept
    one_part (f ∷ firsts) (o ∷ olds) (w ∷ news) [] befores nows kepts learned ended kept shared = absurd ended
    one_part (f ∷ firsts) (o ∷ olds) _ _ _ _ _ learned ended kept shared = absurd kept

  pub all_answered : (n : ℕ) (items : List Said) (parts : List (List Said)) (firsts olds news finals : List SeatSeen) (befores nows : List Refusals) (kepts : List (List PrintedAnswer)) (from until : Refusals) (replies : List (List PrintedAnswer)) → AreParts n items parts
      → AllZip (HasLearned old.list) firsts olds → AllZip (HasLearned new.list) news finals → AreKept model shapes opening end parts olds news befores nows kepts → AreShared model new.desk.state parts kepts from until replies → AreAnswered items parts firsts finals befores nows from until replies
  all_answered zero items (part ∷ []) firsts olds news finals befores nows kepts from until (first ∷ []) are learned ended kept shared =
      one_part items part [] [] (sym are ∙ sym (append-nil part)) from until first []
      (λ others_firsts others_olds others_news others_finals others_befores others_nows others_kepts mid learned_more ended_more kept_more shared_more.
      none_answered others_firsts others_finals others_befores others_nows mid until shared_more (kept_end others_olds others_news others_befores others_nows others_kepts kept_more))
      firsts olds news finals befores nows kepts learned ended kept shared
  all_answered (suc n) items (part ∷ parts) firsts olds news finals befores nows kepts from until (first ∷ replies) are learned ended kept shared =
      one_part items part are.0 parts are.1 from until first replies
      (λ others_firsts others_olds others_news others_finals others_befores others_nows others_kepts mid learned_more ended_more kept_more shared_more.
      all_answered n are.0 parts others_firsts others_olds others_news others_finals others_befores others_nows others_kepts mid until replies are.3 learned_more ended_more kept_more shared_more)
      firsts olds news finals befores nows kepts learned ended kept shared
  all_answered zero items (part ∷ []) firsts olds news finals befores nows kepts from until (first ∷ other ∷ replies) are learned ended kept shared = absurd shared.2
  all_answered zero items [] firsts olds news finals befores nows kepts from until replies are learned ended kept shared = absurd are
  all_answered zero items (part ∷ other ∷ parts) firsts olds news finals befores nows kepts from until replies are learned ended kept shared = absurd are
  all_answered (suc n) items [] firsts olds news finals befores nows kepts from until replies are learned ended kept shared = absurd are
  all_answered zero items (part ∷ []) firsts olds news finals befores nows kepts from until [] are learned ended kept shared = absurd shared
  all_answered (suc n) items (part ∷ parts) firsts olds news finals befores nows kepts from until [] are learned ended kept shared = absurd shared
