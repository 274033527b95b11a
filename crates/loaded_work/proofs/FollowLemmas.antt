-- Packets that are taken one after the other, and the one text that tells what became of them.
use Rattle.std.proofs.Common.{◌≡◌, ℕ, ◌+◌, ◌<◌, ◌≤◌, ◌==◌, ◌||◌, List, [], ◌∷◌, ◌++◌, append_assoc, append-nil, codes, decimal, drop, length, length-append, min, not, take, take_all, Ok, Err, refl, sym, ap, subst, ◌∙◌, arith}
use Rattle.std.specs.Prelude.{get_or, if◌then◌else◌, nat_le, nat_lt}
use Rattle.std.specs.List.{AllByRecursion}
use Rattle.std.proofs.lemmas.List.{take_more}
use Rattle.answer_lines.specs.LineText.{numbered}
use Rattle.edit_calls.specs.Admitted.{admits}
use Rattle.log_ship.proofs.CallerLemmas.{more_tables, more_versions, same_itself, same_tables, same_version}
use Rattle.log_ship.specs.Followers.{Following, Held, IsSame, version_of}
use Rattle.log_ship.specs.Taken.{IsAnswer, Reads, TakeAnswer, Takes, TakesAll, TextReading, admitted, after_answer, appended, behind_next, edit_read, left_behind, may_come, most_ahead, put, run_from, take_answer, waits}
use Rattle.log_ship.specs.declared.packet.Packet.{Packet}
use Rattle.log_ship.specs.declared.taken.TakeRefused.TheVariants.{TooFar, Malformed, Misfit, NoMemory}
use Rattle.log_ship.specs.declared.taken.Taken.TheVariants.{Repeated, Waiting, Applied}
use Rattle.perm_base.specs.declared.shapes.Shapes.{Shapes}
use Rattle.policy_csv.specs.Printed.{printed}
use Rattle.policy_state.specs.States.{State, tables}
use Rattle.policy_table.specs.Changes.{replay}
use Rattle.policy_table.specs.Tables.{Policy}
use Rattle.policy_table.specs.declared.change.Change.{Change}
use Rattle.session_meaning.specs.Plain.{most_number, number_behind}
use Rattle.version_log.specs.Log.{versions}
use Rattle.loaded_work.specs.Followed.{IsFollowed, IsKnown, Opens, policy_text, taken_lines, taken_text}
use Rattle.loaded_work.specs.Helps.FollowedPackets.{AreTaken}
use Rattle.loaded_work.specs.Helps.TaskSteps.{IsFirst}

-- ---- packets up to a place

-- these packets are taken: whatever the others come to, all come to; and their lines stand in the text
pub record AreTakenSo (before : Following) (done : List Packet) (number : ℕ) (text : List ℕ) (now : Following) : Type 0 where
  pub results : List TakeAnswer
  pub goes : (rest : List Packet) (others : List TakeAnswer) (end : Following) → TakesAll now rest others end → TakesAll before (done ++ rest) (results ++ others) end
  pub known : AllByRecursion IsKnown results
  pub text_is : text ≡ taken_lines 0 results
  pub number_is : number ≡ min (length results) most_number

pub taken_none : (follower : Following) (text : List ℕ) → text ≡ [] → AreTakenSo follower [] 0 text follower
taken_none follower text empty = record { results = []; goes = λ rest others end taken. taken; known = tt; text_is = empty; number_is = omega arith }

-- a line more
lines_more : (count : ℕ) (results : List TakeAnswer) (result : TakeAnswer) (place : ℕ) → place ≡ count + length results → taken_lines count (results ++ result ∷ []) ≡ taken_lines count results ++ numbered (number_behind place) (taken_text result)
lines_more count [] result place is =
    let same : count ≡ place = omega (arith, is) in
    append-nil (numbered (number_behind count) (taken_text result)) ∙ ap (λ (n : ℕ). numbered (number_behind n) (taken_text result)) same
lines_more count (first ∷ results) result place is =
    ap (λ (t : List ℕ). numbered (number_behind count) (taken_text first) ++ t) (lines_more (count + 1) results result place (omega (arith, is)))
    ∙ sym (append_assoc (numbered (number_behind count) (taken_text first)) (taken_lines (count + 1) results) (numbered (number_behind place) (taken_text result)))

known_more : (results : List TakeAnswer) (result : TakeAnswer) → AllByRecursion IsKnown results → IsKnown result → AllByRecursion IsKnown (results ++ result ∷ [])
known_more [] result all one = (one, tt)
known_more (first ∷ results) result all one = (all.0, known_more results result all.1 one)

-- a packet more
taken_more : (before now new : Following) (done : List Packet) (packet : Packet) (number next : ℕ) (old text : List ℕ) (result : TakeAnswer) → AreTakenSo before done number old now → next ≡ min (number + 1) most_number → Takes now packet result new → IsKnown result
    → text ≡ old ++ numbered next (taken_text result) → AreTakenSo before (done ++ packet ∷ []) next text new
taken_more before now new done packet number next old text result so next-is takes known appended_is =
    let place : next ≡ number_behind (length so.results) = omega (arith, next-is, so.number_is) in
    record {
      results = so.results ++ result ∷ [];
      goes = λ rest others end taken.
          subst (λ (ps : List Packet). TakesAll before ps ((so.results ++ result ∷ []) ++ others) end) (sym (append_assoc done (packet ∷ []) rest))
          (subst (λ (rs : List TakeAnswer). TakesAll before (done ++ packet ∷ rest) rs end) (sym (append_assoc so.results (result ∷ []) others)) (so.goes (packet ∷ rest) (result ∷ others) end (new, takes, taken)));
      known = known_more so.results result so.known known;
      text_is =
          appended_is
          ∙ ap (λ (t : List ℕ). t ++ numbered next (taken_text result)) so.text_is
          ∙ ap (λ (n : ℕ). taken_lines 0 so.results ++ numbered n (taken_text result)) place
          ∙ sym (lines_more 0 so.results result (length so.results) (omega arith));
      number_is = omega (arith, next-is, so.number_is, length-append so.results (result ∷ []));
    }

module _ (before : Following) (packets : List Packet) where
  -- the packet at a place
  pub taken_next : (n : ℕ) (packet : Packet) (now new : Following) (number next : ℕ) (old text : List ℕ) (result : TakeAnswer) → AreTakenSo before (take n packets) number old now → n < length packets → packet ≡ get_or packets n packet
      → next ≡ min (number + 1) most_number → Takes now packet result new → IsKnown result → text ≡ old ++ numbered next (taken_text result) → AreTakenSo before (take (n + 1) packets) next text new
  taken_next n packet now new number next old text result so within is next-is takes known appended_is =
      let one_more : take (n + 1) packets ≡ take n packets ++ packet ∷ [] = take_more packets n packet within ∙ ap (λ (p : Packet). take n packets ++ p ∷ []) (sym is) in
      subst (λ (done : List Packet). AreTakenSo before done next text new) (sym one_more) (taken_more before now new (take n packets) packet number next old text result so next-is takes known appended_is)

  -- all packets
  pub taken_all : (sent : List Packet) → packets ≡ sent → (n : ℕ) → length packets ≤ n → (now : Following) (number : ℕ) (text : List ℕ) → AreTakenSo before (take n packets) number text now → AreTaken before sent text now
  taken_all sent same n past now number text so =
      let whole : take n packets ++ [] ≡ sent = append-nil (take n packets) ∙ take_all n packets past ∙ same in
      record {
        results = so.results;
        takes = subst (λ (ps : List Packet). TakesAll before ps so.results now) whole
            (subst (λ (rs : List TakeAnswer). TakesAll before (take n packets ++ []) rs now) (append-nil so.results) (so.goes [] [] now (record { state = same_itself now.state; waiting = refl })));
        known = so.known;
        text_is = so.text_is;
      }

-- the policy behind the lines
pub followed_text : (shapes : Shapes) (policy : Policy) (packets : List Packet) (state : State) (opening now : Following) (lines text : List ℕ) → IsFirst shapes policy state → opening.state ≡ state → opening.waiting ≡ [] → AreTaken opening packets lines now → text ≡ lines ++ policy_text now
    → IsFollowed shapes policy packets text
followed_text shapes policy packets state opening now lines text first is none all appended_is = record {
  opening = opening;
  now = now;
  results = all.results;
  opens = record {
    shapes_are = ap (λ (s : State). s.shapes) is ∙ first.shapes_are;
    policy_is = ap (λ (s : State). tables s) is ∙ first.policy_is;
    first = ap (λ (s : State). versions s.log) is ∙ first.opening;
    none_waits = none;
  };
  takes = all.takes;
  known = all.known;
  text_is = appended_is ∙ ap (λ (t : List ℕ). t ++ policy_text now) all.text_is;
}

-- ---- followers that hold the same

record Alike (one other : Following) : Type 0 where
  shapes : one.state.shapes ≡ other.state.shapes
  policy : tables one.state ≡ tables other.state
  version : version_of one ≡ version_of other
  waiting : one.waiting ≡ other.waiting

-- they answer alike

abbrev text_by : Shapes → Policy → ℕ → List Held → ℕ → TextReading → TakeAnswer
text_by shapes policy version waiting number (Err line) = Err (Malformed line)
text_by shapes policy version waiting number (Ok edit) =
    if not (may_come shapes number edit) then Err Misfit
    else if not (number == version + 1) then Ok Waiting
    else if admits shapes policy edit then Ok (Applied (version + length (admitted shapes policy (edit ∷ run_from (version + 2) waiting))))
    else Err Misfit

abbrev answer_by : Shapes → Policy → ℕ → List Held → ℕ → TextReading → TakeAnswer
answer_by shapes policy version waiting number reading =
    if nat_le number version || waits number waiting then Ok Repeated
    else if nat_lt (version + most_ahead) number then Err (TooFar version)
    else text_by shapes policy version waiting number reading

answer_is : (follower : Following) (number : ℕ) (reading : TextReading) → take_answer follower number reading ≡ answer_by follower.state.shapes (tables follower.state) (version_of follower) follower.waiting number reading
answer_is follower number (Ok edit) = refl
answer_is follower number (Err line) = refl

same_answer : (one other : Following) → Alike one other → (number : ℕ) (reading : TextReading) → take_answer one number reading ≡ take_answer other number reading
same_answer one other alike number reading =
    answer_is one number reading
    ∙ ap (λ (s : Shapes). answer_by s (tables one.state) (version_of one) one.waiting number reading) alike.shapes
    ∙ ap (λ (p : Policy). answer_by other.state.shapes p (version_of one) one.waiting number reading) alike.policy
    ∙ ap (λ (v : ℕ). answer_by other.state.shapes (tables other.state) v one.waiting number reading) alike.version
    ∙ ap (λ (w : List Held). answer_by other.state.shapes (tables other.state) (version_of other) w number reading) alike.waiting
    ∙ sym (answer_is other number reading)

-- and are alike afterwards

appended_alike : (one other : Following) → Alike one other → (edit : List Change) → appended one edit ≡ appended other edit
appended_alike one other alike edit =
    ap (λ (s : Shapes). admitted s (tables one.state) (edit ∷ run_from (version_of one + 2) one.waiting)) alike.shapes
    ∙ ap (λ (p : Policy). admitted other.state.shapes p (edit ∷ run_from (version_of one + 2) one.waiting)) alike.policy
    ∙ ap (λ (v : ℕ). admitted other.state.shapes (tables other.state) (edit ∷ run_from (v + 2) one.waiting)) alike.version
    ∙ ap (λ (w : List Held). admitted other.state.shapes (tables other.state) (edit ∷ run_from (version_of other + 2) w)) alike.waiting

behind_alike : (one other : Following) → Alike one other → behind_next one ≡ behind_next other
behind_alike one other alike = ap (λ (v : ℕ). run_from (v + 2) one.waiting) alike.version ∙ ap (λ (w : List Held). run_from (version_of other + 2) w) alike.waiting

left_alike : (one other : Following) → Alike one other → (edit : List Change) → left_behind one edit ≡ left_behind other edit
left_alike one other alike edit =
    ap (λ (a : List (List Change)). drop (min (length a) (length (behind_next one))) one.waiting) (appended_alike one other alike edit)
    ∙ ap (λ (b : List (List Change)). drop (min (length (appended other edit)) (length b)) one.waiting) (behind_alike one other alike)
    ∙ ap (λ (w : List Held). drop (min (length (appended other edit)) (length (behind_next other))) w) alike.waiting

after_alike : (answer : TakeAnswer) (held : Held) (one other : Following) → Alike one other → Alike (after_answer answer held one) (after_answer answer held other)
after_alike (Ok Repeated) held one other alike = alike
after_alike (Ok Waiting) held one other alike = record { shapes = alike.shapes; policy = alike.policy; version = alike.version; waiting = ap (put held) alike.waiting }
after_alike (Ok (Applied version)) held one other alike =
    let more = appended_alike one other alike held.edit in
    record {
      shapes = alike.shapes;
      policy = more_tables one.state (appended one held.edit) ∙ ap (λ (p : Policy). replay (appended one held.edit) p) alike.policy ∙ ap (λ (e : List (List Change)). replay e (tables other.state)) more ∙ sym (more_tables other.state (appended other held.edit));
      version = more_versions one.state (appended one held.edit) ∙ ap (λ (v : ℕ). v + length (appended one held.edit)) alike.version ∙ ap (λ (e : List (List Change)). version_of other + length e) more ∙ sym (more_versions other.state (appended other held.edit));
      waiting = left_alike one other alike held.edit;
    }
after_alike (Err refused) held one other alike = alike

same_alike : (one one_now other other_now : Following) → IsSame one one_now → IsSame other other_now → Alike one other → Alike one_now other_now
same_alike one one_now other other_now same as_well alike = record {
  shapes = same.state.shapes ∙ alike.shapes ∙ sym as_well.state.shapes;
  policy = same_tables one.state one_now.state same.state ∙ alike.policy ∙ sym (same_tables other.state other_now.state as_well.state);
  version = same_version one.state one_now.state same.state ∙ alike.version ∙ sym (same_version other.state other_now.state as_well.state);
  waiting = same.waiting ∙ alike.waiting ∙ sym as_well.waiting;
}

-- ---- one text

-- an answer that is no want of memory is the one that is due
is_due : (due result : TakeAnswer) → IsAnswer due result → IsKnown result → result ≡ due
is_due due (Ok taken) is known = sym is
is_due due (Err (TooFar version)) is known = sym is
is_due due (Err (Malformed line)) is known = sym is
is_due due (Err Misfit) is known = sym is
is_due due (Err NoMemory) is known = absurd known

-- each text is read
abbrev pub AreRead : Type 0
AreRead = (text : List ℕ) → (reading : TextReading) × Reads text reading

module _ (law : AreRead) where
  -- the same answers, and followers that are alike
  record SameEnd (results others : List TakeAnswer) (now end : Following) : Type 0 where
    answers : results ≡ others
    alike : Alike now end

  take_once : (one other now end : Following) (packet : Packet) (result answer : TakeAnswer) → Alike one other → Takes one packet result now → Takes other packet answer end → IsKnown result → IsKnown answer → (result ≡ answer) × Alike now end
  take_once one other now end packet result answer alike takes as_well known known_too =
      let read = law packet.text in
      let held : Held = record { number = packet.number; edit = edit_read read.0 } in
      let same : result ≡ answer
      = is_due (take_answer one packet.number read.0) result (takes.answer read.0 read.1) known ∙ same_answer one other alike packet.number read.0 ∙ sym (is_due (take_answer other packet.number read.0) answer (as_well.answer read.0 read.1) known_too) in
      let here = after_alike result held one other alike in
      let there = subst (λ (a : TakeAnswer). Alike (after_answer result held one) (after_answer a held other)) same here in
      (same, same_alike (after_answer result held one) now (after_answer answer held other) end (takes.after read.0 read.1) (as_well.after read.0 read.1) there)

  all_once : (packets : List Packet) (one other now end : Following) (results others : List TakeAnswer) → Alike one other → TakesAll one packets results now → TakesAll other packets others end → AllByRecursion IsKnown results → AllByRecursion IsKnown others → SameEnd results others now end
  all_once [] one other now end [] [] alike same as_well known known_too = record { answers = refl; alike = same_alike one now other end same as_well alike }
  all_once [] one other now end (result ∷ results) others alike same as_well known known_too = absurd same
  all_once [] one other now end [] (answer ∷ others) alike same as_well known known_too = absurd as_well
  all_once (packet ∷ packets) one other now end [] others alike same as_well known known_too = absurd same
  all_once (packet ∷ packets) one other now end (result ∷ results) [] alike same as_well known known_too = absurd as_well
  all_once (packet ∷ packets) one other now end (result ∷ results) (answer ∷ others) alike (mid, takes, rest) (half, takes_too, rest_too) known known_too =
      let first = take_once one other mid half packet result answer alike takes takes_too known.0 known_too.0 in
      let behind = all_once packets mid half now end results others first.1 rest rest_too known.1 known_too.1 in
      record { answers = ap (λ (a : TakeAnswer). a ∷ results) first.0 ∙ ap (λ (l : List TakeAnswer). answer ∷ l) behind.answers; alike = behind.alike }

  opens_alike : (shapes : Shapes) (policy : Policy) (one other : Following) → Opens shapes policy one → Opens shapes policy other → Alike one other
  opens_alike shapes policy one other opens as_well = record {
    shapes = opens.shapes_are ∙ sym as_well.shapes_are;
    policy = opens.policy_is ∙ sym as_well.policy_is;
    version = opens.first ∙ sym as_well.first;
    waiting = opens.none_waits ∙ sym as_well.none_waits;
  }

  pub followed_once : (shapes : Shapes) (policy : Policy) (packets : List Packet) (first second : List ℕ) → IsFollowed shapes policy packets first → IsFollowed shapes policy packets second → first ≡ second
  followed_once shapes policy packets first second p q =
      let both = all_once packets p.opening q.opening p.now q.now p.results q.results (opens_alike shapes policy p.opening q.opening p.opens q.opens) p.takes q.takes p.known q.known in
      p.text_is
      ∙ ap (λ (r : List TakeAnswer). taken_lines 0 r ++ policy_text p.now) both.answers
      ∙ ap (λ (v : ℕ). taken_lines 0 q.results ++ (codes "policy @" ++ decimal v ++ codes "\n" ++ printed (tables p.now.state))) both.alike.version
      ∙ ap (λ (t : Policy). taken_lines 0 q.results ++ (codes "policy @" ++ decimal (version_of q.now) ++ codes "\n" ++ printed t)) both.alike.policy
      ∙ sym q.text_is
