-- What is shipped of a script whose edits are done.
use Rattle.std.proofs.Common.{◌≡◌, ℕ, ◌+◌, ◌<◌, ◌≤◌, true, false, List, [], ◌∷◌, ◌++◌, drop, length, take, take_all, refl, sym, ap, subst, ◌∙◌}
use Rattle.std.specs.Prelude.{None, Option, get_or, map}
use Rattle.std.proofs.lemmas.List.{map_push, take_more}
use Rattle.desk_session.proofs.CallerLemmas.{alone_before}
use Rattle.desk_session.specs.Desks.{StandsBehind}
use Rattle.desk_session.specs.Requests.{Refuses}
use Rattle.log_ship.specs.Packets.{log_packets, shipped}
use Rattle.model_conf.specs.ModelText.{ModelParts}
use Rattle.perm_base.specs.declared.shapes.Shapes.{Shapes}
use Rattle.policy_desk.specs.Desks.{Work}
use Rattle.policy_state.specs.States.{State, tables}
use Rattle.policy_table.specs.Tables.{Policy}
use Rattle.policy_table.specs.declared.change.Change.{Change}
use Rattle.regex_gate.specs.Refusals.{Refusals, after_refusals}
use Rattle.script_read.specs.Said.{Said, seen}
use Rattle.script_read.specs.Said as said
use Rattle.script_read.specs.declared.item.Item.{Item}
use Rattle.session_meaning.proofs.CallerLemmas.{behind_other, only_asks}
use Rattle.session_meaning.specs.Desks.{IsBehind, history}
use Rattle.session_meaning.specs.Replies.{is_decided}
use Rattle.session_meaning.specs.Versions.{start}
use Rattle.version_log.specs.Log.{versions}
use Rattle.loaded_work.specs.Helps.ShippedItems.{GoesBehind}
use Rattle.loaded_work.specs.Shipped.{is_done, ship_text}

-- an item that is passed over changes nothing
passed_asks : (item : Said) → is_done item ≡ false → only_asks item ≡ true
passed_asks (said.edits call) none = absurd cc
passed_asks said.publishes none = absurd cc
passed_asks (said.keeps count) none = absurd cc
passed_asks _ none = refl

pub passed_behind : (item : Said) (desk : Work) → is_done item ≡ false → GoesBehind item desk desk
passed_behind item desk none opening items stands = record {
  edits = behind_other desk.state.shapes opening items desk.state.log (tables desk.state) desk.pending desk.kept stands.edits item (passed_asks item none);
  floor = stands.floor;
}

-- an item that is done asks no finder
done_undecided : (model : ModelParts) (item : Said) → is_done item ≡ true → is_decided model item ≡ false
done_undecided model (said.edits call) done = refl
done_undecided model said.publishes done = refl
done_undecided model (said.keeps count) done = refl
done_undecided model (said.asks reading) done = absurd cc
done_undecided model _ done = refl

pub done_unasked : (model : ModelParts) (before now : Refusals) (item : Said) → is_done item ≡ true → Refuses model before now item → now ≡ before
done_unasked model before now item done asked = asked.logged ∙ ap (after_refusals before) (asked.unasked (done_undecided model item done))

-- a desk over a policy of version 0 stands before all items
pub desk_before : (desk : Work) (state : State) → versions state.log ≡ 0 → desk.state ≡ state → desk.pending ≡ [] → desk.kept ≡ None → desk.floor ≡ state.log.start → StandsBehind (tables desk.state) [] desk
desk_before desk state none same no_pending keeps_all floor =
    let there = alone_before desk.state (ap (λ (s : State). versions s.log) same ∙ none) in
    record {
      edits = subst (λ (p : List (List Change)). IsBehind desk.state.shapes (tables desk.state) [] desk.state.log (tables desk.state) p desk.kept) (sym no_pending)
          (subst (λ (k : Option ℕ). IsBehind desk.state.shapes (tables desk.state) [] desk.state.log (tables desk.state) [] k) (sym keeps_all) there.edits);
      floor = floor ∙ sym (ap (λ (s : State). s.log.start) same);
    }

-- ---- the items of a script, up to a place

-- these items are done at a desk that stood before them, and the finder was not asked
pub record AreDone (opening : Policy) (shapes : Shapes) (done : List Said) (desk : Work) (before now : Refusals) : Type 0 where
  pub behind : StandsBehind opening done desk
  pub shapes_are : desk.state.shapes ≡ shapes
  pub unasked : now ≡ before

one_more : (items : List Item) (n : ℕ) (item : Item) → n < length items → item ≡ get_or items n item → map seen (take (n + 1) items) ≡ map seen (take n items) ++ seen item ∷ []
one_more items n item within is = ap (map seen) (take_more items n item within ∙ ap (λ (i : Item). take n items ++ i ∷ []) (sym is)) ∙ map_push seen (take n items) item

pub done_none : (desk : Work) (before : Refusals) → StandsBehind (tables desk.state) [] desk → AreDone (tables desk.state) desk.state.shapes [] desk before before
done_none desk before stands = record { behind = stands; shapes_are = refl; unasked = refl }

module _ (opening : Policy) (shapes : Shapes) (items : List Item) (before : Refusals) where
  -- the item at a place is done or passed over
  pub done_next : (n : ℕ) (item : Item) (desk new : Work) (now later : Refusals) → AreDone opening shapes (map seen (take n items)) desk before now → n < length items → item ≡ get_or items n item → GoesBehind (seen item) desk new
      → new.state.shapes ≡ desk.state.shapes → later ≡ now → AreDone opening shapes (map seen (take (n + 1) items)) new before later
  done_next n item desk new now later so within is goes same still = record {
    behind = subst (λ (done : List Said). StandsBehind opening done new) (sym (one_more items n item within is)) (goes opening (map seen (take n items)) so.behind);
    shapes_are = same ∙ so.shapes_are;
    unasked = still ∙ so.unasked;
  }

  -- all are
  pub done_all : (script : List Item) → items ≡ script → (n : ℕ) → length items ≤ n → (desk : Work) (now : Refusals) → AreDone opening shapes (map seen (take n items)) desk before now → StandsBehind opening (map seen script) desk
  done_all script same n past desk now so = subst (λ (done : List Item). StandsBehind opening (map seen done) desk) (take_all n items past ∙ same) so.behind

-- ---- what is shipped

-- what the log of a desk behind items ships
pub ships : (opening : Policy) (items : List Said) (desk : Work) → StandsBehind opening items desk → log_packets desk.state.log ≡ ship_text desk.state.shapes opening items
ships opening items desk stands =
    let has = stands.edits in
    let shapes = desk.state.shapes in
    ap (shipped (desk.state.log.start + 1)) has.stands.tail
    ∙ ap (λ (from : ℕ). shipped (from + 1) (drop from (history shapes opening items))) has.from

-- over what was loaded
pub ships_over : (opening policy : Policy) (items : List Said) (desk : Work) (before shapes : Shapes) → StandsBehind opening items desk → desk.state.shapes ≡ before → before ≡ shapes → opening ≡ policy → log_packets desk.state.log ≡ ship_text shapes policy items
ships_over opening policy items desk before shapes stands kept same is =
    ships opening items desk stands ∙ ap (λ (s : Shapes). ship_text s opening items) (kept ∙ same) ∙ ap (λ (p : Policy). ship_text shapes p items) is
