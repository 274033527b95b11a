-- What taking packets and telling what became of them comes to.
use Rattle.std.specs.Prelude.{◌≡◌, ℕ, List, String}
use Rattle.std.specs.List.{AllByRecursion}
use Rattle.std.specs.declared.alloc.Global.{Global}
use Rattle.answer_lines.specs.LineText.{Appends, numbered}
use Rattle.log_ship.specs.Followers.{Following}
use Rattle.log_ship.specs.Taken.{TakeAnswer, Takes, TakesAll}
use Rattle.log_ship.specs.declared.packet.Packet.{Packet}
use Rattle.loaded_work.specs.Followed.{IsKnown, taken_lines, taken_text}

-- a packet is taken, and the line of this number that tells what became of it stands behind a text
pub record IsTaken (before : Following) (packet : Packet) (number : ℕ) (old new : String Global) (now : Following) : Type 0 where
  pub result : TakeAnswer
  pub takes : Takes before packet result now
  pub known : IsKnown result
  pub appended : Appends old new (numbered number (taken_text result))

-- packets are taken one after the other, and these are their lines
pub record AreTaken (before : Following) (packets : List Packet) (text : List ℕ) (now : Following) : Type 0 where
  pub results : List TakeAnswer
  pub takes : TakesAll before packets results now
  pub known : AllByRecursion IsKnown results
  pub text_is : text ≡ taken_lines 0 results
