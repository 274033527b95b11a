-- A text that is read item by item.
use Rattle.std.proofs.Common.{◌≡◌, ℕ, Bool, true, List, [], ◌∷◌, ◌++◌, Result, Ok, refl, ap, subst, ◌∙◌}
use Rattle.std.specs.Prelude.{bytes_eq, codes, if◌then◌else◌}
use Rattle.std.specs.List.{list_all}
use Rattle.std.proofs.lemmas.Bool.{and_parts}
use Rattle.std.proofs.lemmas.Slice.Eq.{bytes_eq-Decides}
use Rattle.script_read.proofs.ScriptLemmas.{behind_items, item_of, part_read, reading}
use Rattle.script_read.specs.Blocks.{at_line, block, parts, single}
use Rattle.script_read.specs.Helps.Asks.{AreBehindAsked, is_asked}
use Rattle.script_read.specs.Helps.Ends.{before_end, behind_end, behind_part, end_number, first_part}
use Rattle.script_read.specs.Helps.Given.{fields_read}
use Rattle.script_read.specs.Readings.{request_read}
use Rattle.script_read.specs.Items.{word_item}
use Rattle.script_read.specs.Lines.{arguments_of, word_of}
use Rattle.script_read.specs.Results.{mapped}
use Rattle.script_read.specs.Said.{Said, asks}
use Rattle.script_read.specs.declared.fault.ScriptFault.{ScriptFault}
use Rattle.text_parts.specs.Full.{given_number}
use Rattle.text_parts.specs.Numbered as numbered

-- ---- the line of a request says an item, whatever it is

pub asked_is : (json : Bool) (line : numbered.Line) (lines : List numbered.Line) → is_asked line ≡ true → item_of json (first_part line lines) ≡ Ok (asks (request_read json (arguments_of line.text)))
unfolding word_item
asked_is json line lines test =
    let word : word_of line.text ≡ codes "ask" = (bytes_eq-Decides (word_of line.text) (codes "ask")).0 test in
    ap (λ (w : List ℕ). item_of json (if bytes_eq w (codes "begin") then block line (before_end lines) (end_number lines) else single line)) word
    ∙ ap (λ (w : List ℕ). at_line (given_number line.number) (word_item fields_read (request_read json) w (arguments_of line.text))) word

-- and no block, so that the next line is behind it
pub asked_goes : (line : List ℕ) (lines : List numbered.Line) → bytes_eq (word_of line) (codes "ask") ≡ true → behind_part line lines ≡ lines
asked_goes line lines test =
    let word : word_of line ≡ codes "ask" = (bytes_eq-Decides (word_of line) (codes "ask")).0 test in
    ap (λ (w : List ℕ). if bytes_eq w (codes "begin") then behind_end lines else lines) word

-- ---- lines that are read behind items

-- reading the lines goes on behind some items, and comes to that
abbrev pub GoesOn : Bool → List numbered.Line → Result (List Said) ScriptFault → Type 0
GoesOn json lines all = (taken : List Said) × (mapped (behind_items taken) (reading json (parts lines)) ≡ all)

all_past : (json : Bool) (asked others : List numbered.Line) (all : Result (List Said) ScriptFault) → list_all is_asked asked ≡ true → GoesOn json (asked ++ others) all → GoesOn json others all
all_past json [] others all are so = so
all_past json (line ∷ asked) others all are so =
    let each = and_parts (is_asked line) (list_all is_asked asked) are in
    let item = asks (request_read json (arguments_of line.text)) in
    let left : List numbered.Line = asked ++ others in
    all_past json asked others all each.1
    (so.0 ++ item ∷ [], part_read json (line ∷ left) line left left refl (asked_goes line.text left each.0) so.0 all so.1 item (asked_is json line left each.0))

-- requests that stand in front are read past
pub asked_past : (json : Bool) (lines others : List numbered.Line) (all : Result (List Said) ScriptFault) → AreBehindAsked lines others → GoesOn json lines all → GoesOn json others all
asked_past json lines others all is so = all_past json is.asked others all is.are_asked (subst (λ (l : List numbered.Line). GoesOn json l all) is.parts so)
