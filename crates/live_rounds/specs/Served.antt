-- What a worker answers at a seat.
use Rattle.std.specs.Prelude.{◌≡◌, ◌⊎◌, ◌<◌, ◌≤◌, ℕ, ⊤, false, List, [], ◌∷◌, MatchBool, length}
use Rattle.live_rounds.specs.Lists.{last_from}
use Rattle.answer_lines.specs.Printed.{PrintedAnswer}
use Rattle.live_pair.specs.Seats.{IsEntered, IsShut, SeatSeen, version_of}
use Rattle.live_rounds.specs.Printed.{IsPrinted}
use Rattle.live_rounds.specs.Requests.{requests}
use Rattle.live_seat.specs.Decided.{tables_behind}
use Rattle.model_conf.specs.ModelText.{ModelParts}
use Rattle.perm_base.specs.declared.shapes.Shapes.{Shapes}
use Rattle.policy_table.specs.Tables.{Policy}
use Rattle.regex_gate.specs.Refusals.{Refusals, after_refusals}
use Rattle.script_read.specs.Said.{Reading, Said, asks}
use Rattle.session_meaning.specs.Plain.{all_refused}
use Rattle.session_meaning.specs.Replies.{IsAnswerTo, is_decided}

module _ (model : ModelParts) (shapes : Shapes) (opening : Policy) where
  -- a request is answered over the tables behind the seat's front, where it is decided by one entry, and these patterns were
  -- refused for it
  pub record IsServed (reading : Reading) (refused : List (List ℕ)) (old new : SeatSeen) (reply : PrintedAnswer) : Type 0 where
    pub answers : IsPrinted (IsAnswerTo model shapes refused (version_of new.front) (tables_behind opening new.front) reading) reply
    pub unasked : is_decided model (asks reading) ≡ false → refused ≡ []
    pub seat : MatchBool (is_decided model (asks reading)) (IsEntered old new) (new ≡ old)

  -- the same, with what the finder refused
  pub record IsServedBy (reading : Reading) (before now : Refusals) (old new : SeatSeen) (reply : PrintedAnswer) : Type 0 where
    pub refused : List (List ℕ)
    pub logged : now ≡ after_refusals before refused
    pub served : IsServed reading refused old new reply

  -- the first of these requests are answered one after the other, as many as there are replies; the seat is so behind each
  abbrev pub AreServed : SeatSeen → List SeatSeen → List (List (List ℕ)) → List PrintedAnswer → List Reading → Type 0
  AreServed seat [] [] [] readings = ⊤
  AreServed seat (next ∷ seats) (refused ∷ others) (reply ∷ replies) (reading ∷ readings) = IsServed reading refused seat next reply × AreServed next seats others replies readings
  AreServed seat _ _ _ _ = ⊥

  -- a worker answered all requests of its part, or its first ones up to an entry that was refused
  pub record IsPartServed (part : List Said) (before now : Refusals) (old new : SeatSeen) (replies : List PrintedAnswer) : Type 0 where
    pub seats : List SeatSeen
    pub refused : List (List (List ℕ))
    pub served : AreServed old seats refused replies (requests part)
    pub logged : now ≡ after_refusals before (all_refused refused)
    pub ends : ((new ≡ last_from old seats) × (length replies ≡ length (requests part))) ⊎ IsShut (last_from old seats) new

  -- what is kept of a worker's replies: all where its seat's version is not above this one, and else none
  pub record IsPartKept (version : ℕ) (part : List Said) (before now : Refusals) (old new : SeatSeen) (kept : List PrintedAnswer) : Type 0 where
    pub replies : List PrintedAnswer
    pub served : IsPartServed part before now old new replies
    pub kept_is : ((version_of new.front ≤ version) × (kept ≡ replies)) ⊎ ((version < version_of new.front) × (kept ≡ []))
