-- One step of a follower.
use Rattle.std.proofs.Common.{◌≡◌, ℕ, Bool, true, false, List, [], ◌++◌, Ok, Err, refl, sym, ap, subst, ◌∙◌}
use Rattle.std.specs.Prelude.{◌⊎◌, MatchBool, Some, codes}
use Rattle.item_stream.specs.Lines.{begins_packet}
use Rattle.answer_lines.specs.LineText.{answer_text, numbered}
use Rattle.answer_lines.specs.declared.answer.Answer.{Answer}
use Rattle.loaded_work.specs.Followed.{IsKnown, taken_text}
use Rattle.log_ship.specs.Followers.{Following, Held}
use Rattle.log_ship.specs.Taken as packets
use Rattle.log_ship.specs.Taken.{TextReading, Reads, Takes, after_answer, edit_read}
use Rattle.log_ship.specs.declared.packet.Packet.{Packet}
use Rattle.log_ship.specs.declared.taken.Taken.TheVariants.{Repeated, Waiting, Applied}
use Rattle.model_conf.specs.ModelText.{ModelParts}
use Rattle.regex_gate.specs.Refusals.{Refusals}
use Rattle.script_read.specs.Said.{Said}
use Rattle.live_serve.specs.Followed.{IsFollowed, IsReplied, is_leaders}
use Rattle.live_serve.specs.Helps.Asked.{IsAsked}
use Rattle.live_serve.specs.Places.{IsStep, follows}
use Rattle.live_serve.specs.Sayings.{AreAtFault, AreItems, AreNotSent, AreSent, Saying, Says, item, packet, no_packet}

-- by whether only a leader does it
by_kind : (model : ModelParts) (before : Following) (number : ℕ) (it : Said) (refused : List (List ℕ)) (text : List ℕ) (leads : Bool) → is_leaders it ≡ leads → MatchBool leads ((refused ≡ []) × (text ≡ numbered number (codes "refused: follower"))) (IsReplied model before.state number it refused text)
    → IsStep model (follows before) (follows before) number (item it) refused text
by_kind model before number it refused text leads kind is = (refl, subst (λ (b : Bool). MatchBool b ((refused ≡ []) × (text ≡ numbered number (codes "refused: follower"))) (IsReplied model before.state number it refused text)) (sym kind) is)

-- what only a leader does is refused
pub leaders_step : (model : ModelParts) (before : Following) (number : ℕ) (it : Said) (text : List ℕ) → is_leaders it ≡ true → text ≡ numbered number (codes "refused: follower") → IsStep model (follows before) (follows before) number (item it) [] text
leaders_step model before number it text leads text-is = by_kind model before number it [] text true leads (refl, text-is)

-- all else is answered
pub asked_step : (model : ModelParts) (before : Following) (old now : Refusals) (number : ℕ) (it : Said) (reply : Answer) (text : List ℕ) (is : IsAsked model before.state old now it reply) → is_leaders it ≡ false → text ≡ numbered number (answer_text reply) → IsStep model (follows before) (follows before) number (item it) is.asked.refused text
asked_step model before old now number it reply text is asks text-is = by_kind model before number it is.asked.refused text false asks (record { reply = reply; replied = is.replied; unasked = is.asked.unasked; text_is = text-is })

-- a packet leaves the shapes
shapes_after : (result : packets.TakeAnswer) (held : Held) (before : Following) → (after_answer result held before).state.shapes ≡ before.state.shapes
shapes_after (Ok Repeated) held before = refl
shapes_after (Ok Waiting) held before = refl
shapes_after (Ok (Applied version)) held before = refl
shapes_after (Err refused) held before = refl

pub taken_step : (model : ModelParts) (before now : Following) (number : ℕ) (sent : Packet) (result : packets.TakeAnswer) (text : List ℕ) → Takes before sent result now → IsKnown result → (reading : TextReading) × Reads sent.text reading → text ≡ numbered number (taken_text result) → IsStep model (follows before) (follows now) number (packet sent) [] text
taken_step model before now number sent result text takes known (reading, reads) text-is = (
  refl,
  record {
    result = result;
    takes = takes;
    known = known;
    shapes_are = (takes.after reading reads).state.shapes ∙ shapes_after result (record { number = sent.number; edit = edit_read reading }) before;
    text_is = text-is;
  },
)

-- what is no packet
pub no_packet_step : (model : ModelParts) (before : Following) (number : ℕ) (text : List ℕ) → text ≡ numbered number (codes "refused: packet") → IsStep model (follows before) (follows before) number no_packet [] text
no_packet_step model before number text text-is = (refl, refl, text-is)

-- ---- what lines say

pub says_packets : (json : Bool) (text : List ℕ) (sayings : List Saying) → begins_packet text ≡ true → AreSent text sayings ⊎ AreNotSent text sayings → Says json true (Some text) sayings
says_packets json text sayings begins is = subst (λ (b : Bool). MatchBool b (AreSent text sayings ⊎ AreNotSent text sayings) (AreItems json text sayings ⊎ AreAtFault json text sayings)) (sym begins) is
