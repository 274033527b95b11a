-- What sections say, one after the other.
use Rattle.std.proofs.Common.{◌≡◌, ◌⊎◌, ℕ, ◌+◌, ◌<◌, Bool, true, false, List, [], ◌∷◌, ◌++◌, length, take, drop, refl, sym, ap, subst, ◌∙◌, append-nil, append_assoc}
use Rattle.std.specs.Prelude.{MatchBool, Option, Some, None, get_or, map}
use Rattle.std.proofs.lemmas.List.{map-append, map_push, take-append-drop, take_more}
use Rattle.item_stream.specs.Lines.{begins_packet}
use Rattle.item_stream.specs.Sections.{Section, listed}
use Rattle.script_read.specs.Said.{Said, seen}
use Rattle.script_read.specs.declared.item.Item.{Item}
use Rattle.log_ship.specs.declared.packet.Packet.{Packet}
use Rattle.live_serve.specs.Sayings.{AllSay, AreAtFault, AreItems, AreNotSent, AreSent, Saying, Says, is_sent, item, packet, said, sent}

pub say_then : (json follow : Bool) (sections more : List Section) (sayings others : List Saying) → AllSay json follow sections sayings → AllSay json follow more others → AllSay json follow (sections ++ more) (sayings ++ others)
say_then json follow [] more sayings others none rest = subst (λ (s : List Saying). AllSay json follow more (s ++ others)) (sym none) rest
say_then json follow (section ∷ sections) more sayings others (first, left, parts, says, all) rest =
    (first, left ++ others, ap (λ (s : List Saying). s ++ others) parts ∙ append_assoc first left others, says, say_then json follow sections more left others all rest)

pub say_one : (json follow : Bool) (section : Section) (sayings : List Saying) → Says json follow section sayings → AllSay json follow (section ∷ []) sayings
say_one json follow section sayings says = (sayings, [], sym (append-nil sayings), says, refl)

-- ---- lines that are read as a script

pub says_script : (json follow : Bool) (text : List ℕ) (sayings : List Saying) → is_sent follow text ≡ false → AreItems json text sayings ⊎ AreAtFault json text sayings → Says json follow (Some text) sayings
says_script json follow text sayings other is = subst (λ (b : Bool). MatchBool b (AreSent text sayings ⊎ AreNotSent text sayings) (AreItems json text sayings ⊎ AreAtFault json text sayings)) (sym other) is

-- lines without the word of packets, whoever reads them
pub not_sent : (follow : Bool) (text : List ℕ) → begins_packet text ≡ false → is_sent follow text ≡ false
not_sent true text other = other
not_sent false text other = refl

-- ---- the items of a script, up to a place

pub said_more : (items : List Item) (n : ℕ) (it : Item) → n < length items → it ≡ get_or items n it → said (map seen (take (n + 1) items)) ≡ said (map seen (take n items)) ++ item (seen it) ∷ []
said_more items n it within is =
    ap (λ (l : List Item). said (map seen l)) (take_more items n it within ∙ ap (λ (i : Item). take n items ++ i ∷ []) (sym is))
    ∙ ap said (map_push seen (take n items) it) ∙ map_push item (map seen (take n items)) (seen it)

pub said_parts : (items : List Item) (n : ℕ) → said (map seen (take n items)) ++ said (map seen (drop n items)) ≡ said (map seen items)
said_parts items n =
    sym (map-append item (map seen (take n items)) (map seen (drop n items))) ∙ ap said (sym (map-append seen (take n items) (drop n items))) ∙ ap (λ (l : List Item). said (map seen l)) (take-append-drop n items)

-- ---- packets, up to a place

pub sent_more : (packets : List Packet) (n : ℕ) (it : Packet) → n < length packets → it ≡ get_or packets n it → sent (take (n + 1) packets) ≡ sent (take n packets) ++ packet it ∷ []
sent_more packets n it within is =
    ap sent (take_more packets n it within ∙ ap (λ (p : Packet). take n packets ++ p ∷ []) (sym is)) ∙ map_push packet (take n packets) it

pub sent_parts : (packets : List Packet) (n : ℕ) → sent (take n packets) ++ sent (drop n packets) ≡ sent packets
sent_parts packets n = sym (map-append packet (take n packets) (drop n packets)) ∙ ap sent (take-append-drop n packets)
