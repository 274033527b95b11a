-- What the text of an item comes to at a desk.
use Rattle.std.proofs.Common.{◌≡◌, ℕ, Bool, true, false, List, [], ◌∷◌, length, map, refl, sym, ap, subst, ◌∙◌, arith}
use Rattle.std.specs.Prelude.{◌≢◌, ◌==◌, Result, Ok, Err}
use Rattle.std.proofs.lemmas.Bool.{eqb-false, eqb-true}
use Rattle.desk_session.specs.Steps.{is_request}
use Rattle.policy_desk.specs.Desks.{Work}
use Rattle.script_read.specs.Said.{Said, asks, reading_of, seen}
use Rattle.script_read.specs.Script.{IsScript, IsScriptFault}
use Rattle.script_read.specs.declared.fault.ScriptFault.{ScriptFault}
use Rattle.script_read.specs.declared.fault.ScriptFault.TheVariants as script
use Rattle.script_read.specs.declared.item.RequestText.{RequestText}
use Rattle.script_read.specs.declared.item.Item.{Item}
use Rattle.enforce_core.specs.Called.{CallsAt, SaysOne, are_one, call_stop_of}
use Rattle.enforce_core.specs.Helps.Items.{DoesItem}
use Rattle.enforce_core.specs.declared.stops.CallStop.{CallStop}
use Rattle.enforce_core.specs.declared.stops.CallStop.TheVariants as stop
use Rattle.enforce_core.specs.declared.stops.Called.{Called}

-- ---- one item

no_items : (others : List Item) → length others ≡ 0 → others ≡ []
no_items [] none = refl
no_items (item ∷ others) none = absurd (omega (arith, none))

pub one_is : (items others : List Item) (item : Item) (empty : Bool) → items ≡ item ∷ others → empty ≡ (length others == 0) → empty ≡ true → items ≡ item ∷ []
one_is items others item empty is told none = is ∙ ap (λ (l : List Item). item ∷ l) (no_items others (eqb-true (length others) 0 (sym told ∙ none)))

-- no item
pub not_one : (items : List Item) → length items ≡ 0 → are_one (map seen items) ≡ false
not_one [] none = refl
not_one (item ∷ items) none = absurd (omega (arith, none))

-- more than one
more_than_one : (item : Item) (others : List Item) → (length others ≡ 0 → ⊥) → are_one (map seen (item ∷ others)) ≡ false
more_than_one item [] some = absurd (some refl)
more_than_one item (other ∷ others) some = refl

pub not_alone : (items others : List Item) (item : Item) (empty : Bool) → items ≡ item ∷ others → empty ≡ (length others == 0) → empty ≡ false → are_one (map seen items) ≡ false
not_alone items others item empty is told some =
    subst (λ (l : List Item). are_one (map seen l) ≡ false) (sym is) (more_than_one item others (eqb-false (length others) 0 (sym told ∙ some)))

-- a request
pub one_asked : (items others : List Item) (item : Item) (asked : RequestText) (empty : Bool) → items ≡ item ∷ others → empty ≡ (length others == 0) → empty ≡ true → seen item ≡ asks (reading_of asked) → are_one (map seen items) ≡ false
one_asked items others item asked empty is told none request =
    ap (λ (l : List Item). are_one (map seen l)) (one_is items others item empty is told none) ∙ ap (λ (s : Said). are_one (s ∷ [])) request

-- what the text says
pub says_one : (text : List ℕ) (items : List Item) (item : Item) → IsScript false text (map seen items) → items ≡ item ∷ [] → is_request (seen item) ≡ false → SaysOne text (seen item)
says_one text items item said one other = record { says = subst (λ (is : List Item). IsScript false text (map seen is)) one said; other = other }

-- ---- ends

-- no script
pub calls_unread : (desk : Work) (text : List ℕ) (why : ScriptFault) → (why ≢ script.NoMemory → IsScriptFault false text why) → CallsAt desk desk text (Err (call_stop_of why))
calls_unread desk text script.NoMemory fault = λ opening items stands. stands.edits
calls_unread desk text script.NotUtf8 fault = (fault (λ same. cc), refl)
calls_unread desk text (script.Line line cause) fault = (fault (λ same. cc), refl)
calls_unread desk text (script.OpenBatch line) fault = (fault (λ same. cc), refl)

-- the item that it says was done, or not
pub calls_does : (old new : Work) (text : List ℕ) (item : Said) (result : Result Called CallStop) → SaysOne text item → DoesItem item old new result → CallsAt old new text result
calls_does old new text item (Ok called) says does = (item, says, does)
calls_does old new text item (Err stop.NoMemory) says does = does
calls_does old new text item (Err stop.Untold) says does = (item, says, does)
calls_does old new text item (Err stop.NoItem) says does = absurd does
calls_does old new text item (Err stop.Snapshot) says does = absurd does
calls_does old new text item (Err (stop.NoScript fault)) says does = absurd does
