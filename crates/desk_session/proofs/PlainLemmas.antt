-- A script that is under way: the lines so far, the desk behind them, and what the finder has refused.
use Rattle.std.proofs.Common.{◌≡◌, ℕ, ◌+◌, ◌<◌, ◌≤◌, min, true, List, [], ◌∷◌, ◌++◌, length, length-append, take, take_all, drop, None, refl, sym, ap, subst, ◌∙◌, arith}
use Rattle.std.specs.Prelude.{All, Option, get_or, map}
use Rattle.std.proofs.lemmas.List.{map-append, map_push, take-append-drop, take_more}
use Rattle.answer_lines.specs.Told.{is_printable}
use Rattle.answer_lines.specs.declared.answer.Answer.{Answer}
use Rattle.answer_lines.specs.declared.answer.Line.{Line}
use Rattle.model_conf.specs.ModelText.{ModelParts}
use Rattle.perm_base.specs.declared.shapes.Shapes.{Shapes}
use Rattle.policy_desk.specs.Desks.{IsDesk, Work}
use Rattle.policy_state.specs.States.{State, tables}
use Rattle.policy_table.specs.Tables.{Policy}
use Rattle.policy_table.specs.declared.change.Change.{Change}
use Rattle.regex_gate.proofs.CallerLemmas.{used_then}
use Rattle.regex_gate.specs.Refusals.{IsUsed, Refusals, after_refusals}
use Rattle.script_read.specs.Named.{is_named}
use Rattle.script_read.specs.Said.{Said, seen}
use Rattle.script_read.specs.declared.item.Item.{Item}
use Rattle.session_meaning.proofs.CallerLemmas.{RowsAreMoved, behind_none, plain_more, plain_none, plain_printable}
use Rattle.session_meaning.specs.Desks.{IsBehind}
use Rattle.session_meaning.specs.Plain.{IsLine, IsPlain, all_refused, most_number}
use Rattle.session_meaning.specs.Replies.{IsReply}
use Rattle.version_log.specs.Log.{Logged, Stands, versions}
use Rattle.desk_session.specs.Desks.{HasEditsOf, StandsAmid, StandsBehind}
use Rattle.desk_session.specs.Requests.{Refuses}
use Rattle.desk_session.specs.Scripts.{AreScriptLines}
use Rattle.desk_session.specs.Steps.{IsStep}
use Rattle.desk_session.proofs.LogLemmas.{asked_used, logged_more}

-- ---- the desk before all items

no_items : {X : Type 0} (xs : List X) → length xs ≡ 0 → xs ≡ []
no_items [] is = refl
no_items (x ∷ xs) is = absurd (omega (arith, is))

-- a log of version 0 stands for no edits
pub stands_alone : (log : Logged) → versions log ≡ 0 → Stands log []
stands_alone log none =
    let start : log.start ≡ 0 = omega (arith, none) in
    let tail : log.tail ≡ [] = no_items log.tail (omega (arith, none)) in
    record {
      within = omega (arith, none);
      tail = tail ∙ sym (λ j. drop (start j) []);
    }

-- a desk at version 0 with nothing pending stands before all items
pub stands_before : (desk : Work) → IsDesk desk → versions desk.state.log ≡ 0 → desk.pending ≡ [] → desk.kept ≡ None → StandsBehind (tables desk.state) [] desk
stands_before desk is none no_pending keeps_all = record {
  edits = subst (λ (p : List (List Change)). IsBehind desk.state.shapes (tables desk.state) [] desk.state.log (tables desk.state) p desk.kept) (sym no_pending)
      (subst (λ (k : Option ℕ). IsBehind desk.state.shapes (tables desk.state) [] desk.state.log (tables desk.state) [] k) (sym keeps_all)
      (behind_none desk.state.shapes (tables desk.state) desk.state.log (tables desk.state) (stands_alone desk.state.log none) refl));
  floor = omega (arith, none, is.from, is.until);
}

-- a policy by itself, as a desk at which nothing is pending
abbrev pub alone : State → Work
alone state = record { state = state; pending = []; drafts = tables state; kept = None; floor = state.log.start }

-- at version 0 it stands before all items
pub alone_before : (state : State) → versions state.log ≡ 0 → StandsBehind (tables state) [] (alone state)
alone_before state none = record { edits = behind_none state.shapes (tables state) state.log (tables state) (stands_alone state.log none) refl; floor = refl }

-- ---- a script under way

-- some items are done: these are their lines, the desk stands behind them, and what was refused for one after the other is all that
-- the finder refused
pub record IsUnderWay (model : ModelParts) (shapes : Shapes) (opening : Policy) (done : List Said) (desk : Work) (number : ℕ) (lines : List Line) (before now : Refusals) : Type 0 where
  pub refused : List (List (List ℕ))
  pub plain : IsPlain model shapes opening done refused lines
  pub behind : StandsBehind opening done desk
  pub shapes_are : desk.state.shapes ≡ shapes
  pub number_is : number ≡ min (length done) most_number
  pub logged : now ≡ after_refusals before (all_refused refused)

module _ (model : ModelParts) (shapes : Shapes) (opening : Policy) (before : Refusals) where
  pub under_way_none : (desk : Work) → StandsBehind opening [] desk → desk.state.shapes ≡ shapes → (lines : List Line) → lines ≡ [] → IsUnderWay model shapes opening [] desk 0 lines before before
  under_way_none desk behind shapes_are lines none = record {
    refused = [];
    plain = subst (IsPlain model shapes opening [] []) (sym none) (plain_none model shapes opening);
    behind = behind;
    shapes_are = shapes_are;
    number_is = omega arith;
    logged = refl;
  }

  -- one item more is answered and done
  pub under_way_more : (done : List Said) (item : Said) (desk new : Work) (number next : ℕ) (lines : List Line) (reply : Answer) (now later : Refusals) → IsUnderWay model shapes opening done desk number lines before now
      → next ≡ min (number + 1) most_number → IsStep model now later item desk new reply → new.state.shapes ≡ desk.state.shapes
      → IsUnderWay model shapes opening (done ++ item ∷ []) new next (lines ++ record { number = next; answer = reply } ∷ []) before later
  under_way_more done item desk new number next lines reply now later so next-is step same =
      let patterns = step.asked.refused in
      let line : Line = record { number = next; answer = reply } in
      let replied : IsReply model shapes opening patterns done item reply = subst (λ (s : Shapes). IsReply model s opening patterns done item reply) so.shapes_are (step.replied opening done so.behind) in
      let is_line : IsLine model shapes opening done item patterns line = record {
        number = omega (arith, next-is, so.number_is);
        answer = replied;
        unasked = step.asked.unasked;
      } in
      record {
        refused = so.refused ++ patterns ∷ [];
        plain = plain_more model shapes opening done so.refused lines item patterns line so.plain is_line;
        behind = step.behind opening done so.behind;
        shapes_are = same ∙ so.shapes_are;
        number_is = omega (arith, next-is, so.number_is, length-append done (item ∷ []));
        logged = logged_more before now later so.refused patterns so.logged step.asked.logged;
      }

  -- the finder was used so far, and when an item was not answered
  pub way_used : (done : List Said) (desk : Work) (number : ℕ) (lines : List Line) (now : Refusals) → IsUnderWay model shapes opening done desk number lines before now → IsUsed before now
  way_used done desk number lines now so = record { more = all_refused so.refused; refused = so.logged }

  pub stop_used : (done : List Said) (desk : Work) (number : ℕ) (lines : List Line) (now later : Refusals) (item : Said) → IsUnderWay model shapes opening done desk number lines before now → Refuses model now later item → IsUsed before later
  stop_used done desk number lines now later item so asked = used_then before now later (way_used done desk number lines now so) (asked_used model now later item asked)

-- ---- the items of a script, up to a place

one_more : (items : List Item) (n : ℕ) (item : Item) → n < length items → item ≡ get_or items n item → map seen (take (n + 1) items) ≡ map seen (take n items) ++ seen item ∷ []
one_more items n item within is = ap (map seen) (take_more items n item within ∙ ap (λ (i : Item). take n items ++ i ∷ []) (sym is)) ∙ map_push seen (take n items) item

-- a desk that has the edits of the items up to a place stands amid the script
pub amid_at : (opening : Policy) (items script : List Item) → items ≡ script → (n : ℕ) (desk : Work) → HasEditsOf opening (map seen (take n items)) desk → StandsAmid opening (map seen script) desk
amid_at opening items script same n desk has = subst (λ (all : List Item). StandsAmid opening (map seen all) desk) same (record {
  front = map seen (take n items);
  back = map seen (drop n items);
  parts = ap (map seen) (sym (take-append-drop n items)) ∙ map-append seen (take n items) (drop n items);
  edits = has;
})

-- one that stands before all items stands amid them
pub amid_first : (opening : Policy) (items : List Said) (desk : Work) → StandsBehind opening [] desk → StandsAmid opening items desk
amid_first opening items desk stands = record { front = []; back = items; parts = refl; edits = stands.edits }

module _ (model : ModelParts) (shapes : Shapes) (opening : Policy) (before : Refusals) (items : List Item) where
  -- the item at a place is answered and done
  pub under_way_next : (n : ℕ) (item : Item) (desk new : Work) (number next : ℕ) (lines more : List Line) (reply : Answer) (now later : Refusals) → IsUnderWay model shapes opening (map seen (take n items)) desk number lines before now
      → n < length items → item ≡ get_or items n item → next ≡ min (number + 1) most_number → IsStep model now later (seen item) desk new reply → new.state.shapes ≡ desk.state.shapes
      → more ≡ lines ++ record { number = next; answer = reply } ∷ [] → IsUnderWay model shapes opening (map seen (take (n + 1) items)) new next more before later
  under_way_next n item desk new number next lines more reply now later so within is next-is step same more-is =
      subst (λ (done : List Said). IsUnderWay model shapes opening done new next more before later) (sym (one_more items n item within is))
      (subst (λ (l : List Line). IsUnderWay model shapes opening (map seen (take n items) ++ seen item ∷ []) new next l before later) (sym more-is)
      (under_way_more model shapes opening before (map seen (take n items)) (seen item) desk new number next lines reply now later so next-is step same))

  -- all items are done
  pub all_answered : (script : List Item) → items ≡ script → (n : ℕ) → length items ≤ n → (desk : Work) (number : ℕ) (lines all : List Line) (now : Refusals) → IsUnderWay model shapes opening (map seen (take n items)) desk number lines before now
      → all ≡ lines → AreScriptLines model shapes opening before now (map seen script) all
  all_answered script same n past desk number lines all now so all-is = record {
    refused = so.refused;
    plain = subst (λ (l : List Line). IsPlain model shapes opening (map seen script) so.refused l) (sym all-is)
        (subst (λ (done : List Item). IsPlain model shapes opening (map seen done) so.refused lines) (take_all n items past ∙ same) so.plain);
    logged = so.logged;
  }

-- their lines can be printed
pub answered_printable : RowsAreMoved → (model : ModelParts) (shapes : Shapes) (opening : Policy) (before now : Refusals) (items : List Said) (lines : List Line) → AreScriptLines model shapes opening before now items lines
    → All (λ (item : Said). is_named item ≡ true) items → All (λ (line : Line). is_printable line.answer ≡ true) lines
answered_printable moved model shapes opening before now items lines are named = plain_printable moved model shapes opening items are.refused lines are.plain named
