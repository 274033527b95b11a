-- The summary of the demonstration's session.
use Rattle.std.proofs.Common.{◌≡◌, ◌<◌, ℕ, Bool, true, List, [], ◌∷◌, None, Option, ap, arith, drop, length, refl, slice_set, subst, sym, ◌∙◌}
use Rattle.std.specs.Prelude.{IfSome, MatchBool, false}
use Rattle.std.proofs.lemmas.Bool.{ne_eqb}
use Rattle.decision.proofs.CallerLemmas.{suits_columns}
use Rattle.decision.specs.Programs.{Suits}
use Rattle.answer_lines.specs.declared.answer.Line.{Line}
use Rattle.demo_run.specs.Demo.{AreLinesWith, IsDemo}
use Rattle.demo_run.specs.Helps.Sessions.{HasTally, IsFirstDesk, IsSession}
use Rattle.demo_run.specs.Helps.Tallies.{IsTallied}
use Rattle.demo_run.specs.Summary.{counted_behind, none_counted, tally_text}
use Rattle.demo_run.specs.declared.counts.Counts.{Counts}
use Rattle.demo_run.specs.declared.counts.Tally.{Tally}
use Rattle.demo_run.proofs.CountLemmas.{lists_tallied}
use Rattle.live_rounds.specs.Taken.{AreAllTaken}
use Rattle.demo_run.specs.DemoTexts.{model_text, policy_text, script_text}
use Rattle.model_conf.specs.ModelText.{IsModel, ModelParts}
use Rattle.model_conf.specs.Shapes.{first_absent, shapes_of}
use Rattle.perm_base.specs.declared.shapes.RoleShape.{RoleShape}
use Rattle.policy_csv.specs.Policy.{IsPolicy}
use Rattle.perm_base.specs.declared.shapes.Shapes.{Shapes}
use Rattle.policy_desk.specs.Desks.{Work}
use Rattle.policy_index.specs.Keys.{KeyParts, is_below}
use Rattle.policy_state.specs.States.{State, tables}
use Rattle.script_read.specs.Script.{IsScript}
use Rattle.version_log.specs.Log.{versions}
use Rattle.script_read.specs.Said.{Said}
use Rattle.policy_table.specs.Tables.{Policy}
use Rattle.session_meaning.specs.Plain.{IsPlain}
use Rattle.session_meaning.specs.Rounds.{IsShared}

pub demo_is : (count workers : ℕ) (program : ModelParts) (desk : Work) (script : List ℕ) (tally : Tally) (text : List ℕ) → IsSession count program desk script → HasTally workers program desk.state.shapes (tables desk.state) script tally → text ≡ tally_text count tally.items tally.counts → IsDemo count workers text
demo_is count workers program desk script tally text is has text-is = record {
  model = program;
  policy = tables desk.state;
  items = has.items;
  refused = has.refused;
  lines = has.lines;
  is_model = is.is_model;
  is_policy = is.is_policy;
  is_script = subst (λ (t : List ℕ). IsScript false t has.items) is.is_script has.says;
  are_lines = subst (λ (shapes : Shapes). AreLinesWith workers program shapes (tables desk.state) has.items has.refused has.lines) is.shapes_are has.are;
  text_is = text-is ∙ (λ j. tally_text count (has.items_are j) (has.counts_are j));
}

-- the lines of one thread, and those of workers
pub tally_plain : (model : ModelParts) (shapes : Shapes) (policy : Policy) (script : List ℕ) (items : List Said) (refused : List (List (List ℕ))) (lines : List Line) (none tally : Tally) → IsScript false script items → IsPlain model shapes policy items refused lines → none.items ≡ 0 → none.counts ≡ none_counted → IsTallied none lines tally → HasTally 0 model shapes policy script tally
tally_plain model shapes policy script items refused lines none tally says plain no-items no-counts so = record {
  items = items;
  refused = refused;
  lines = lines;
  says = says;
  are = plain;
  items_are = omega (arith, so.items, no-items);
  counts_are = so.counts ∙ ap (λ (counts : Counts). counted_behind counts lines) no-counts;
}

pub tally_shared : (workers : ℕ) (model : ModelParts) (shapes : Shapes) (policy : Policy) (script : List ℕ) (items : List Said) (refused : List (List (List ℕ))) (lines : List Line) (none tally : Tally) → 0 < workers → IsScript false script items → IsShared model shapes policy workers items refused lines → none.items ≡ 0 → none.counts ≡ none_counted
    → AreAllTaken IsTallied none lines tally → HasTally workers model shapes policy script tally
tally_shared workers model shapes policy script items refused lines none tally some says shared no-items no-counts all =
    let so = subst (λ (l : List Line). IsTallied none l tally) (sym all.are) (lists_tallied none all.lists tally all.taken) in
    record {
      items = items;
      refused = refused;
      lines = lines;
      says = says;
      are = subst (λ (none : Bool). MatchBool none (IsPlain model shapes policy items refused lines) (IsShared model shapes policy workers items refused lines)) (sym (ne_eqb workers 0 (λ none. absurd (omega (arith, none, some))))) shared;
      items_are = omega (arith, so.items, no-items);
      counts_are = so.counts ∙ ap (λ (counts : Counts). counted_behind counts lines) no-counts;
    }

-- lines of a text are those of an equal one, and those without workers are those with none
pub script_tally : (workers : ℕ) (model : ModelParts) (shapes : Shapes) (policy : Policy) (lent script : List ℕ) (tally : Tally) → lent ≡ script → HasTally workers model shapes policy lent tally → HasTally workers model shapes policy script tally
script_tally workers model shapes policy lent script tally same has = subst (λ (t : List ℕ). HasTally workers model shapes policy t tally) same has

pub none_workers : (workers : ℕ) (model : ModelParts) (shapes : Shapes) (policy : Policy) (lent script : List ℕ) (tally : Tally) → workers ≡ 0 → lent ≡ script → HasTally 0 model shapes policy lent tally → HasTally workers model shapes policy script tally
none_workers workers model shapes policy lent script tally none same has = subst (λ (n : ℕ). HasTally n model shapes policy script tally) (sym none) (script_tally 0 model shapes policy lent script tally same has)

-- ---- before the first item

none_absent : (relations : List RoleShape) → first_absent relations [] [] ≡ None
unfolding first_absent
none_absent relations = refl

-- shapes without functions suit the model
pub plain_suits : (model : ModelParts) (shapes : Shapes) → shapes ≡ shapes_of model [] [] 10 → Suits model shapes
plain_suits model shapes is = record {
  names = [];
  domains = [];
  limit = 10;
  names_once = λ i j d before within. absurd (omega (arith, within));
  domains_once = λ i j d before within. absurd (omega (arith, within));
  present = none_absent model.relations;
  some = omega arith;
  most = omega arith;
  shapes_are = is;
}

-- the columns of a program's key are those of the policy
pub key_within : (model : ModelParts) (shapes : Shapes) (key : Option KeyParts) → Suits model shapes → IfSome key (λ (key : KeyParts). is_below (length model.policy) key ≡ true) → IfSome key (λ (key : KeyParts). is_below shapes.columns key ≡ true)
key_within model shapes key suits within = subst (λ (size : ℕ). IfSome key (λ (key : KeyParts). is_below size key ≡ true)) (sym (suits_columns model shapes suits)) within

-- a desk that was just opened
pub desk_is : (count : ℕ) (shapes : Shapes) (policy : Policy) (state : State) (desk : Work) → IsPolicy shapes (policy_text count) policy → state.shapes ≡ shapes → tables state ≡ policy → state.log.start ≡ 0 → state.log.tail ≡ [] → desk.state ≡ state → desk.pending ≡ [] → desk.kept ≡ None → IsFirstDesk count shapes desk
desk_is count shapes policy state desk is_policy state-shapes state-tables start tail desk-state pending kept = record {
  shapes_are = ap (λ (s : State). s.shapes) desk-state ∙ state-shapes;
  is_policy = subst (IsPolicy shapes (policy_text count)) (sym (ap tables desk-state ∙ state-tables)) is_policy;
  opening = subst (λ (s : State). versions s.log ≡ 0) (sym desk-state) (omega (arith, start, ap (λ (l : List _). length l) tail));
  none_pending = pending;
  keeps_all = kept;
}

-- what was read is a session
pub session_is : (count : ℕ) (program : ModelParts) (shapes : Shapes) (desk : Work) (script : List ℕ) → IsModel model_text program → shapes ≡ shapes_of program [] [] 10 → IsFirstDesk count shapes desk → script ≡ script_text count → IsSession count program desk script
session_is count program shapes desk script is_model shapes-is first is_script = record {
  is_model = is_model;
  shapes_are = here;
  is_policy = subst (λ (s : Shapes). IsPolicy s (policy_text count) (tables desk.state)) shapes-is first.is_policy;
  is_script = is_script;
  suits = plain_suits program desk.state.shapes here;
  opening = first.opening;
  none_pending = first.none_pending;
  keeps_all = first.keeps_all;
}
  where
    here : desk.state.shapes ≡ shapes_of program [] [] 10
    here = first.shapes_are ∙ shapes-is

-- ---- the finders behind the first

pub others_stay : {P : Type 0} (finders : List P) (last : P) → drop 1 (slice_set finders 0 last) ≡ drop 1 finders
others_stay [] last = refl
others_stay (f ∷ finders) last = refl
