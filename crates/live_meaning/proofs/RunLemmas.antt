-- Events that are done one after the other.
use Rattle.std.proofs.Common.{◌≡◌, List, [], ◌∷◌, ◌++◌, append_assoc, append-nil, Result, Ok, Err, refl, sym, ap, ◌∙◌}
use Rattle.live_meaning.specs.Replies.{before_others, replies_of, reply_of}
use Rattle.live_meaning.specs.declared.events.Event.{Event}
use Rattle.live_meaning.specs.declared.events.Reply.{Reply}
use Rattle.live_meaning.specs.declared.events.StepStop.{StepStop}

-- replies behind others, or a refusal
behind : List Reply → Result (List Reply) StepStop → Result (List Reply) StepStop
behind replies (Ok more) = Ok (replies ++ more)
behind replies (Err stop) = Err stop

behind_none : (result : Result (List Reply) StepStop) → result ≡ behind [] result
unfolding behind
behind_none (Ok more) = refl
behind_none (Err stop) = refl

one_more : (reply : Reply) (replies : List Reply) (result : Result (List Reply) StepStop) → before_others (Ok reply) (behind replies result) ≡ behind (reply ∷ replies) result
unfolding behind
one_more reply replies (Ok more) = refl
one_more reply replies (Err stop) = refl

-- what a front is answered, and then the rest
answered_both : (before front rest : List Event) (replies : List Reply) → replies_of before front ≡ Ok replies → replies_of before (front ++ rest) ≡ behind replies (replies_of (before ++ front) rest)
answered_both before [] rest replies is =
    let none : [] ≡ replies = cc in
    behind_none (replies_of before rest) ∙ ap (λ (l : List Event). behind [] (replies_of l rest)) (sym (append-nil before)) ∙ ap (λ (l : List Reply). behind l (replies_of (before ++ []) rest)) none
answered_both before (event ∷ front) rest replies is =
    by (reply_of before event) (replies_of (before ++ event ∷ []) front) refl (answered_both (before ++ event ∷ []) front rest) is
  where
    by : (first : Result Reply StepStop) (others : Result (List Reply) StepStop) → reply_of before event ≡ first
        → ((more : List Reply) → others ≡ Ok more → replies_of (before ++ event ∷ []) (front ++ rest) ≡ behind more (replies_of ((before ++ event ∷ []) ++ front) rest))
        → before_others first others ≡ Ok replies
        → before_others (reply_of before event) (replies_of (before ++ event ∷ []) (front ++ rest)) ≡ behind replies (replies_of (before ++ event ∷ front) rest)
    by (Err stop) others same next e = absurd cc
    by (Ok reply) (Err stop) same next e = absurd cc
    by (Ok reply) (Ok more) same next e =
        let parts : reply ∷ more ≡ replies = cc in
        ap (λ (r : Result Reply StepStop). before_others r (replies_of (before ++ event ∷ []) (front ++ rest))) same
        ∙ ap (before_others (Ok reply)) (next more refl ∙ ap (λ (l : List Event). behind more (replies_of l rest)) (append_assoc before (event ∷ []) front))
        ∙ one_more reply more (replies_of (before ++ event ∷ front) rest)
        ∙ ap (λ (l : List Reply). behind l (replies_of (before ++ event ∷ front) rest)) parts

-- one event more is answered
pub answered_next : (old world front : List Event) (event : Event) (replies : List Reply) (reply : Reply) → world ≡ old ++ front → replies_of old front ≡ Ok replies → reply_of world event ≡ Ok reply
    → replies_of old (front ++ event ∷ []) ≡ Ok (replies ++ reply ∷ [])
unfolding behind
answered_next old world front event replies reply done answered next =
    answered_both old front (event ∷ []) replies answered
    ∙ ap (λ (l : List Event). behind replies (before_others (reply_of l event) (Ok []))) (sym done)
    ∙ ap (λ (r : Result Reply StepStop). behind replies (before_others r (Ok []))) next

-- the next event is refused
pub refused_next : (old world all front rest : List Event) (event : Event) (replies : List Reply) (stop : StepStop) → all ≡ front ++ event ∷ rest → world ≡ old ++ front → replies_of old front ≡ Ok replies → reply_of world event ≡ Err stop
    → replies_of old all ≡ Err stop
unfolding behind
refused_next old world all front rest event replies stop parts done answered next =
    ap (replies_of old) parts ∙ answered_both old front (event ∷ rest) replies answered
    ∙ ap (λ (l : List Event). behind replies (before_others (reply_of l event) (replies_of ((old ++ front) ++ event ∷ []) rest))) (sym done)
    ∙ ap (λ (r : Result Reply StepStop). behind replies (before_others r (replies_of ((old ++ front) ++ event ∷ []) rest))) next
