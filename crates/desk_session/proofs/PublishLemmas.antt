-- Items that change a desk: calls, publishes, and how many edits are to be kept.
use Rattle.std.proofs.Common.{◌≡◌, ◌≢◌, ℕ, ◌+◌, ◌-◌, max, Bool, List, [], ◌∷◌, ◌++◌, length, Option, Some, None, Ok, Err, refl, sym, ap, subst, ◌∙◌}
use Rattle.std.specs.Option.{option_map_or}
use Rattle.answer_lines.specs.declared.answer.Answer.{Answer}
use Rattle.answer_lines.specs.declared.answer.Answer.TheVariants as answer
use Rattle.edit_calls.specs.Answers.{CallAnswer, answer as answer_in, while_few}
use Rattle.edit_calls.specs.Told.{IsTold}
use Rattle.edit_calls.specs.declared.call.Call.{Call}
use Rattle.edit_calls.specs.declared.refused.CallRefused.{CallRefused}
use Rattle.edit_calls.specs.declared.refused.CallRefused.TheVariants as call_refused
use Rattle.policy_desk.specs.Answers.{IsAnswered, desk_answer, pending_after}
use Rattle.policy_desk.specs.Desks.{IsDesk, Work, edits_of, floor_after}
use Rattle.policy_state.specs.States.{StandsFor, State, tables}
use Rattle.policy_table.specs.Tables.{Policy}
use Rattle.policy_table.specs.declared.change.Change.{Change}
use Rattle.script_read.specs.Said.{Said, edits, keeps, publishes}
use Rattle.session_meaning.proofs.CallerLemmas.{behind_call, behind_keep, behind_publish, desk_call, desk_edits}
use Rattle.session_meaning.specs.Desks.{IsBehind, history}
use Rattle.session_meaning.specs.Given.{call_answer, given, with_edit}
use Rattle.session_meaning.specs.Replies.{call_reply}
use Rattle.version_log.specs.Log.{most_versions, versions}
use Rattle.desk_session.specs.Desks.{HasEditsOf, StandsBehind}
use Rattle.desk_session.specs.Steps.{IsPlainStep, IsStopped}
use Rattle.desk_session.proofs.LogLemmas.{none_asked}

-- a desk with this state, these pending edits and this count has the edits that they have
edits_at : (opening : Policy) (items : List Said) (desk : Work) (state : State) (pending : List (List Change)) (count : Option ℕ) → desk.state ≡ state → desk.pending ≡ pending → desk.kept ≡ count
    → IsBehind state.shapes opening items state.log (tables state) pending count → HasEditsOf opening items desk
edits_at opening items desk state pending count state-is pending-is kept-is is =
    subst (λ (s : State). IsBehind s.shapes opening items s.log (tables s) desk.pending desk.kept) (sym state-is)
    (subst (λ (p : List (List Change)). IsBehind state.shapes opening items state.log (tables state) p desk.kept) (sym pending-is)
    (subst (λ (k : Option ℕ). IsBehind state.shapes opening items state.log (tables state) pending k) (sym kept-is) is))

-- its floor is where its log starts, where another desk's is and both have the same
floor_at : (old new : Work) → new.state ≡ old.state → new.floor ≡ old.floor → old.floor ≡ old.state.log.start → new.floor ≡ new.state.log.start
floor_at old new state-is floor-is is = floor-is ∙ is ∙ sym (ap (λ (s : State). s.log.start) state-is)

-- ---- calls

-- a refusal that is no want of memory is the answer
pub told_is : (answered : CallAnswer) (refused : CallRefused) → IsTold answered refused → refused ≢ call_refused.NoMemory → answered ≡ Err refused
told_is answered call_refused.NoMemory is known = absurd (known refl)
told_is answered (call_refused.NoTable table) is known = is
told_is answered (call_refused.Columns want got) is known = is
told_is answered call_refused.FilterPlace is known = is
told_is answered call_refused.EmptyFilter is known = is
told_is answered call_refused.FieldTooLong is known = is
told_is answered (call_refused.Full what) is known = is

same_pending : (answered : CallAnswer) (pending : List (List Change)) → pending_after answered pending ≡ with_edit pending answered
same_pending (Ok (Some edit)) pending = refl
same_pending (Ok None) pending = refl
same_pending (Err refused) pending = refl

-- the desk's answer is that of the script
answer_behind : (opening : Policy) (items : List Said) (desk : Work) → IsDesk desk → HasEditsOf opening items desk → (call : Call) → desk_answer desk call ≡ call_answer desk.state.shapes opening (given desk.state.shapes opening items) call
answer_behind opening items desk is has call =
    ap (λ (drafts : Policy). while_few most_versions (edits_of desk) (answer_in desk.state.shapes drafts call)) is.drafts
    ∙ desk_call desk.state.shapes opening items desk.state.log (tables desk.state) desk.pending desk.kept has call

module _ (called : Call) (old new : Work) (is_desk : IsDesk old) (state-is : new.state ≡ old.state) (kept-is : new.kept ≡ old.kept) (floor-is : new.floor ≡ old.floor) where
  -- a call that is answered
  call_step : (answered : CallAnswer) → desk_answer old called ≡ answered → new.pending ≡ pending_after answered old.pending → (reply : Answer) → reply ≡ call_reply answered → IsPlainStep (edits called) old new reply
  call_step answered answered-is pending-is reply is model refusals = record {
    asked = none_asked model refusals (edits called);
    replied = λ opening items stands. is ∙ ap call_reply (sym answered-is ∙ answer_behind opening items old is_desk stands.edits called);
    behind = λ opening items stands. record {
      edits = edits_at opening (items ++ edits called ∷ []) new old.state (with_edit old.pending (call_answer old.state.shapes opening (given old.state.shapes opening items) called)) old.kept state-is
          (pending-is ∙ same_pending answered old.pending ∙ ap (with_edit old.pending) (sym answered-is ∙ answer_behind opening items old is_desk stands.edits called)) kept-is
          (behind_call old.state.shapes opening items old.state.log (tables old.state) old.pending old.kept stands.edits called);
      floor = floor_at old new state-is floor-is stands.floor;
    };
  }

  -- one that is done
  pub done_step : (answered : CallAnswer) → desk_answer old called ≡ answered → new.pending ≡ pending_after answered old.pending → (changed : Bool) → IsAnswered answered changed → IsPlainStep (edits called) old new (answer.Truth changed)
  done_step (Ok edit) answered-is pending-is changed is = call_step (Ok edit) answered-is pending-is (answer.Truth changed) (ap answer.Truth is)
  done_step (Err refused) answered-is pending-is changed is = absurd is

  -- one that is refused
  pub refused_step : (refused : CallRefused) → desk_answer old called ≡ Err refused → new.pending ≡ old.pending → (reply : Answer) → reply ≡ answer.Call refused → IsPlainStep (edits called) old new reply
  refused_step refused answered-is pending-is reply is = call_step (Err refused) answered-is pending-is reply is

-- a desk that is as it was has the edits that it had
pub call_stopped : (old new : Work) → new.state ≡ old.state → new.pending ≡ old.pending → new.kept ≡ old.kept → IsStopped old new
call_stopped old new state-is pending-is kept-is opening items stands = edits_at opening items new old.state old.pending old.kept state-is pending-is kept-is stands.edits

-- ---- publishes

module _ (old new : Work) (shapes-is : new.state.shapes ≡ old.state.shapes) (kept-is : new.kept ≡ old.kept) where
  -- its state stands for the published edits
  stands_at : (opening : Policy) (items : List Said) → StandsBehind opening items old → StandsFor old.state opening (history old.state.shapes opening items)
  stands_at opening items stands = record { log = stands.edits.stands; tables = stands.edits.tables }

  -- a publish that is done
  pub publish_step : (version : ℕ) → version ≡ versions new.state.log → versions new.state.log ≡ versions old.state.log + length old.pending
      → ((opening : Policy) (made : List (List Change)) → StandsFor old.state opening made → StandsFor new.state opening (made ++ old.pending))
      → new.state.log.start ≡ new.floor → new.pending ≡ [] → new.floor ≡ floor_after old → IsPlainStep publishes old new (answer.Published version)
  publish_step version version-is more stands_for start-is none floor-is model refusals = record {
    asked = none_asked model refusals publishes;
    replied = λ opening items stands. ap answer.Published (version-is ∙ more ∙ desk_edits old.state.shapes opening items old.state.log (tables old.state) old.pending old.kept stands.edits);
    behind = λ opening items stands. record { edits = published opening items stands; floor = sym start-is };
  }
    where
      raised : old.floor ≡ old.state.log.start → new.state.log.start ≡ option_map_or (λ (count : ℕ). max old.state.log.start (versions old.state.log - count)) old.kept old.state.log.start
      raised is = start-is ∙ floor-is ∙ ap (λ (from : ℕ). option_map_or (λ (count : ℕ). max from (versions old.state.log - count)) old.kept from) is

      published : (opening : Policy) (items : List Said) → StandsBehind opening items old → HasEditsOf opening (items ++ publishes ∷ []) new
      published opening items stands =
          let now : StandsFor new.state opening (history old.state.shapes opening items ++ old.pending) = stands_for opening (history old.state.shapes opening items) (stands_at opening items stands) in
          let done : IsBehind old.state.shapes opening (items ++ publishes ∷ []) new.state.log (tables new.state) [] old.kept
          = behind_publish old.state.shapes opening items old.state.log (tables old.state) old.pending old.kept stands.edits new.state.log (tables new.state) now.log now.tables (raised stands.floor) in
          edits_at opening (items ++ publishes ∷ []) new (record new.state { shapes = old.state.shapes }) [] old.kept (λ j. record new.state { shapes = shapes-is j }) none kept-is done

  -- a publish that is not done
  pub publish_stopped : ((opening : Policy) (made : List (List Change)) → StandsFor old.state opening made → StandsFor new.state opening made) → new.state.log.start ≡ old.state.log.start → new.pending ≡ old.pending → IsStopped old new
  publish_stopped stands_for start-is pending-is opening items stands =
      let now : StandsFor new.state opening (history old.state.shapes opening items) = stands_for opening (history old.state.shapes opening items) (stands_at opening items stands) in
      let same : IsBehind old.state.shapes opening items new.state.log (tables new.state) old.pending old.kept = record {
        stands = now.log;
        tables = now.tables;
        from = start-is ∙ stands.edits.from;
        others = stands.edits.others;
        keeps = stands.edits.keeps;
      } in
      edits_at opening items new (record new.state { shapes = old.state.shapes }) old.pending old.kept (λ j. record new.state { shapes = shapes-is j }) pending-is kept-is same

-- ---- how many edits are to be kept

pub keep_step : (old new : Work) (count : ℕ) → new.kept ≡ Some count → new.state ≡ old.state → new.pending ≡ old.pending → new.floor ≡ old.floor → IsPlainStep (keeps count) old new (answer.Kept count)
keep_step old new count kept-is state-is pending-is floor-is model refusals = record {
  asked = none_asked model refusals (keeps count);
  replied = λ opening items stands. refl;
  behind = λ opening items stands. record {
    edits = edits_at opening (items ++ keeps count ∷ []) new old.state old.pending (Some count) state-is pending-is kept-is (behind_keep old.state.shapes opening items old.state.log (tables old.state) old.pending old.kept stands.edits count);
    floor = floor_at old new state-is floor-is stands.floor;
  };
}
