-- What the command `follow` writes.
use Rattle.std.specs.Prelude.{◌≡◌, ⊤, ℕ, ◌+◌, List, [], ◌∷◌, ◌++◌, Ok, Err, codes, decimal}
use Rattle.std.specs.List.{AllByRecursion}
use Rattle.answer_lines.specs.LineText.{numbered}
use Rattle.log_ship.specs.Followers.{Following, version_of}
use Rattle.log_ship.specs.Taken.{TakeAnswer, TakesAll}
use Rattle.log_ship.specs.declared.packet.Packet.{Packet}
use Rattle.log_ship.specs.declared.taken.TakeRefused.{TakeRefused}
use Rattle.log_ship.specs.declared.taken.TakeRefused.TheVariants.{TooFar, Malformed, Misfit, NoMemory}
use Rattle.log_ship.specs.declared.taken.Taken.{Taken}
use Rattle.log_ship.specs.declared.taken.Taken.TheVariants.{Repeated, Waiting, Applied}
use Rattle.perm_base.specs.declared.shapes.Shapes.{Shapes}
use Rattle.policy_csv.specs.Printed.{printed}
use Rattle.policy_state.specs.States.{tables}
use Rattle.policy_table.specs.Tables.{Policy}
use Rattle.session_meaning.specs.Plain.{number_behind}
use Rattle.version_log.specs.Log.{versions}

-- what became of a packet
abbrev pub done_text : Taken → List ℕ
done_text Repeated = codes "repeated"
done_text Waiting = codes "waiting"
done_text (Applied version) = codes "applied @" ++ decimal version

-- why it was not taken; want of memory has no text
abbrev pub refused_text : TakeRefused → List ℕ
refused_text (TooFar version) = codes "refused: too far, version " ++ decimal version
refused_text (Malformed line) = codes "refused: malformed, line " ++ decimal line
refused_text Misfit = codes "refused: misfit"
refused_text NoMemory = []

-- one or the other
abbrev pub taken_text : TakeAnswer → List ℕ
taken_text (Ok taken) = done_text taken
taken_text (Err refused) = refused_text refused

-- memory did not run out
abbrev pub IsKnown : TakeAnswer → Type 0
IsKnown (Ok taken) = ⊤
IsKnown (Err (TooFar version)) = ⊤
IsKnown (Err (Malformed line)) = ⊤
IsKnown (Err Misfit) = ⊤
IsKnown (Err NoMemory) = ⊥

-- a line for each of these, behind so many others
abbrev pub taken_lines : ℕ → List TakeAnswer → List ℕ
taken_lines count [] = []
taken_lines count (result ∷ results) = numbered (number_behind count) (taken_text result) ++ taken_lines (count + 1) results

-- the version and the tables of a follower
abbrev pub policy_text : Following → List ℕ
policy_text follower = codes "policy @" ++ decimal (version_of follower) ++ codes "\n" ++ printed (tables follower.state)

-- it begins with this policy, at version 0
pub record Opens (shapes : Shapes) (policy : Policy) (follower : Following) : Type 0 where
  pub shapes_are : follower.state.shapes ≡ shapes
  pub policy_is : tables follower.state ≡ policy
  pub first : versions follower.state.log ≡ 0
  pub none_waits : follower.waiting ≡ []

-- a follower that begins with this policy takes these packets one after the other: a line for each, and then its policy
pub record IsFollowed (shapes : Shapes) (policy : Policy) (packets : List Packet) (text : List ℕ) : Type 0 where
  pub opening : Following
  pub now : Following
  pub results : List TakeAnswer
  pub opens : Opens shapes policy opening
  pub takes : TakesAll opening packets results now
  pub known : AllByRecursion IsKnown results
  pub text_is : text ≡ taken_lines 0 results ++ policy_text now
