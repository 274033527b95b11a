-- How far the items of a script are done and their lines printed.
use Rattle.std.proofs.Common.{◌≡◌, ℕ, true, ◌+◌, ◌≤◌, List, [], ◌∷◌, ◌++◌, append-nil, append_assoc, refl, sym, ap, subst, ◌∙◌, arith}
use Rattle.std.specs.Prelude.{Option, String, min, string_bytes}
use Rattle.std.specs.declared.alloc.Global.{Global}
use Rattle.answer_lines.specs.declared.answer.Line.{Line}
use Rattle.effect_fold.specs.declared.effect.Effect.TheVariants.{AllowOverride}
use Rattle.desk_session.proofs.CallerLemmas.{IsUnderWay, logged_more, request_step, under_way_more, under_way_none, way_used}
use Rattle.desk_session.specs.Desks.{StandsBehind}
use Rattle.desk_session.specs.Requests.{Refuses, TellsAnswer}
use Rattle.matcher_read.specs.Expression.{truth}
use Rattle.model_conf.specs.ModelText.{ModelParts, parts_of}
use Rattle.outside.specs.Faults.{Rose}
use Rattle.outside.specs.Told.{with_back, TookFront}
use Rattle.perm_base.specs.declared.shapes.Shapes.{Shapes}
use Rattle.policy_desk.specs.Desks.{Work}
use Rattle.policy_state.specs.States.{State}
use Rattle.policy_table.specs.Tables.{Policy}
use Rattle.regex_gate.specs.Refusals.{IsUsed, Refusals, after_refusals}
use Rattle.run_status.specs.declared.stop.Stop.TheVariants.{CannotWrite, NoMemory}
use Rattle.script_read.specs.Said.{Reading, Said, asks}
use Rattle.session_meaning.specs.Plain.{IsPlain, all_refused, most_number}
use Rattle.loaded_work.specs.Finders.{HasRefused}
use Rattle.loaded_work.specs.Helps.GatheredLines.{AreGathered, Moves}
use Rattle.loaded_work.specs.Helps.Items.{PushesItem}
use Rattle.loaded_work.specs.Helps.TaskSteps.{LinesOf, PrintedAll, PrintedSome}
use Rattle.loaded_work.proofs.AskLemmas.{HasVerdicts, MoreLines, more_lines, stopped_lines}
use Rattle.loaded_work.proofs.GatheredLemmas.{all_pushed, gathered_more, gathered_moved, gathered_none, stopped_first, stopped_front}
use Rattle.loaded_work.proofs.PrintLemmas.{Seen, seen_later, seen_pushed}

module _ (model : ModelParts) (shapes : Shapes) (opening : Policy) where
  -- some items are done, and their lines were pushed or are gathered
  pub record AreServed (done : List Said) (desk : Work) (number : ℕ) (gathered : List ℕ) (between : Seen) : Type 0 where
    pub lines : List Line
    pub under : IsUnderWay model shapes opening done desk number lines between.before between.now
    pub told : AreGathered between.out between.out_now gathered lines between.faults between.faults_now

  pub served_none : (desk : Work) (gathered : List ℕ) (between : Seen) → StandsBehind opening [] desk → desk.state.shapes ≡ shapes → gathered ≡ [] → between.out_now ≡ between.out → between.faults_now ≡ between.faults → between.now ≡ between.before → AreServed [] desk 0 gathered between
  served_none desk gathered between stands same empty out faults none = record {
    lines = [];
    under = subst (λ (now : Refusals). IsUnderWay model shapes opening [] desk 0 [] between.before now) (sym none) (under_way_none model shapes opening between.before desk stands same [] refl);
    told = subst (λ (now : Option (List ℕ)). AreGathered between.out now gathered [] between.faults between.faults_now) (sym out)
        (subst (λ (now : ℕ). AreGathered between.out between.out gathered [] between.faults now) (sym faults) (gathered_none between.out gathered between.faults empty));
  }

  -- one item more is done, and its line is gathered
  pub served_more : (done : List Said) (item : Said) (desk new : Work) (number next : ℕ) (old text : String Global) (between : Seen) (later : Refusals) → AreServed done desk number (string_bytes old) between → next ≡ min (number + 1) most_number
      → PushesItem model between.now later item next desk new old text → new.state.shapes ≡ desk.state.shapes → AreServed (done ++ item ∷ []) new next (string_bytes text) (seen_later between later)
  served_more done item desk new number next old text between later so next-is pushed same = record {
    lines = so.lines ++ record { number = next; answer = pushed.reply } ∷ [];
    under = under_way_more model shapes opening between.before done item desk new number next so.lines pushed.reply between.now later so.under next-is pushed.step same;
    told = gathered_more between.out between.out_now (string_bytes old) (string_bytes text) so.lines (record { number = next; answer = pushed.reply }) between.faults between.faults_now so.told pushed.appended;
  }

  -- some of what was gathered was pushed
  pub served_moved : (done : List Said) (desk : Work) (number : ℕ) (gathered still : List ℕ) (between : Seen) (now : Option (List ℕ)) (faults : ℕ) → AreServed done desk number gathered between → Moves between.out_now now gathered still → between.faults_now ≤ faults
      → AreServed done desk number still (seen_pushed between now faults)
  served_moved done desk number gathered still between now faults so moved counted = record {
    lines = so.lines;
    under = so.under;
    told = gathered_moved between.out between.out_now now gathered still so.lines between.faults between.faults_now faults so.told moved counted;
  }

  -- the finder was used so far, and at an item that is not done
  pub served_used : (done : List Said) (desk : Work) (number : ℕ) (gathered : List ℕ) (between : Seen) → AreServed done desk number gathered between → IsUsed between.before between.now
  served_used done desk number gathered between so = way_used model shapes opening between.before done desk number so.lines between.now so.under

  pub unserved_used : (done : List Said) (item : Said) (desk : Work) (number : ℕ) (gathered : List ℕ) (between : Seen) (later : Refusals) → AreServed done desk number gathered between → Refuses model between.now later item → IsUsed between.before later
  unserved_used done item desk number gathered between later so asked = record {
    more = all_refused (so.under.refused ++ asked.refused ∷ []);
    refused = logged_more between.before between.now later so.under.refused asked.refused so.under.logged asked.logged;
  }

  -- all items are done, and their lines are pushed
  pub served_all : (IsSaid : List Said → Type 0) (done items : List Said) → IsSaid items → (desk : Work) (number : ℕ) (gathered : List ℕ) (between : Seen) (now : Option (List ℕ)) → done ≡ items → AreServed done desk number gathered between → now ≡ with_back between.out_now gathered
      → PrintedAll IsSaid model shapes opening between.before between.now between.out now
  served_all IsSaid done items says desk number gathered between now all so took = record {
    printed = record {
      items = items;
      lines = so.lines;
      refused = so.under.refused;
      says = says;
      plain = subst (λ (l : List Said). IsPlain model shapes opening l so.under.refused so.lines) all so.under.plain;
      logged = so.under.logged;
    };
    took = all_pushed between.out between.out_now now gathered so.lines between.faults between.faults_now so.told took;
  }

  -- the lines of all items, of which the first are these
  module _ (law : HasVerdicts) (IsSaid : List Said → Type 0) (done left items : List Said) (says : IsSaid items) (desk : Work) (number : ℕ) (gathered : List ℕ) (between : Seen) (parts : done ++ left ≡ items) (so : AreServed done desk number gathered between) where
    lines_with : (refused : List (List (List ℕ))) (later : Refusals) → later ≡ after_refusals between.before (all_refused refused) → (rest : MoreLines law model shapes opening (done ++ left) refused so.lines)
        → LinesOf IsSaid model shapes opening (HasRefused between.before later)
    lines_with refused later logged rest = record {
      items = items;
      lines = so.lines ++ rest.more;
      refused = rest.all;
      says = says;
      plain = subst (λ (l : List Said). IsPlain model shapes opening l rest.all (so.lines ++ rest.more)) parts rest.plain;
      logged = logged ∙ ap (after_refusals between.before) (sym rest.same);
    }

    -- the sink failed
    pub served_write : (now : Option (List ℕ)) (faults : ℕ) → TookFront between.out_now now gathered → Rose between.faults_now faults → PrintedSome IsSaid model shapes opening between.before between.now between.out now (Rose between.faults faults) CannotWrite
    unfolding lines_with
    served_write now faults front rose =
        let rest = more_lines law model shapes opening left done so.under.refused so.lines so.under.plain in
        record {
          printed = lines_with so.under.refused between.now so.under.logged rest;
          stops = (stopped_front between.out between.out_now now gathered so.lines rest.more between.faults between.faults_now so.told front, omega (arith, so.told.counted, rose));
        }

    -- memory ran out before the next item was read
    pub served_early : (rose : Type 0) → PrintedSome IsSaid model shapes opening between.before between.now between.out between.out_now rose NoMemory
    unfolding lines_with
    served_early rose =
        let rest = more_lines law model shapes opening left done so.under.refused so.lines so.under.plain in
        record { printed = lines_with so.under.refused between.now so.under.logged rest; stops = stopped_first between.out between.out_now gathered so.lines rest.more between.faults between.faults_now so.told }

    -- memory ran out at an item
    pub served_memory : (item : Said) (others : List Said) (later : Refusals) (rose : Type 0) → left ≡ item ∷ others → Refuses model between.now later item → PrintedSome IsSaid model shapes opening between.before later between.out between.out_now rose NoMemory
    unfolding lines_with
    served_memory item others later rose begins asked =
        let more = stopped_lines law model shapes opening item others done so.under.refused asked.refused so.lines asked.unasked so.under.plain in
        let rest = subst (λ (l : List Said). MoreLines law model shapes opening (done ++ l) (so.under.refused ++ asked.refused ∷ []) so.lines) (sym begins) more in
        record {
          printed = lines_with (so.under.refused ++ asked.refused ∷ []) later (logged_more between.before between.now later so.under.refused asked.refused so.under.logged asked.logged) rest;
          stops = stopped_first between.out between.out_now gathered so.lines rest.more between.faults between.faults_now so.told;
        }

  -- ---- the items of a script

  -- its first items are done, and these are left
  pub record AreServedOf (items left : List Said) (desk : Work) (number : ℕ) (gathered : List ℕ) (between : Seen) : Type 0 where
    pub done : List Said
    pub parts : done ++ left ≡ items
    pub served : AreServed done desk number gathered between

  pub served_first : (items left : List Said) (desk : Work) (number : ℕ) (gathered : List ℕ) (between : Seen) → left ≡ items → AreServed [] desk number gathered between → AreServedOf items left desk number gathered between
  served_first items left desk number gathered between same so = record { done = []; parts = same; served = so }

  -- one item more
  pub served_next : (items left rest : List Said) (item : Said) (desk new : Work) (number next : ℕ) (old text : String Global) (between : Seen) (later : Refusals)
      → AreServedOf items left desk number (string_bytes old) between → left ≡ item ∷ rest → next ≡ min (number + 1) most_number → PushesItem model between.now later item next desk new old text → new.state.shapes ≡ desk.state.shapes
      → AreServedOf items rest new next (string_bytes text) (seen_later between later)
  served_next items left rest item desk new number next old text between later so begins next-is pushed same = record {
    done = so.done ++ item ∷ [];
    parts = append_assoc so.done (item ∷ []) rest ∙ ap (λ (l : List Said). so.done ++ l) (sym begins) ∙ so.parts;
    served = served_more so.done item desk new number next old text between later so.served next-is pushed same;
  }

  pub served_on : (items left : List Said) (desk : Work) (number : ℕ) (gathered still : List ℕ) (between : Seen) (now : Option (List ℕ)) (faults : ℕ) → AreServedOf items left desk number gathered between → Moves between.out_now now gathered still → between.faults_now ≤ faults
      → AreServedOf items left desk number still (seen_pushed between now faults)
  served_on items left desk number gathered still between now faults so moved counted = record {
    done = so.done;
    parts = so.parts;
    served = served_moved so.done desk number gathered still between now faults so.served moved counted;
  }

-- no item is left
pub all_done : (done left items : List Said) → done ++ left ≡ items → left ≡ [] → done ≡ items
all_done done left items parts none = sym (append-nil done) ∙ ap (λ (l : List Said). done ++ l) (sym none) ∙ parts

-- an item that is a request is told
pub asked_pushed : (model : ModelParts) (before now : Refusals) (state : State) (reading : Reading) (item : Said) (desk : Work) (number : ℕ) (old new : String Global) → state ≡ desk.state → item ≡ asks reading → TellsAnswer model state before now reading number old new → PushesItem model before now item number desk desk old new
asked_pushed model before now state reading item desk number old new state-is is told =
    subst (λ (i : Said). PushesItem model before now i number desk desk old new) (sym is)
    (record { reply = told.reply; step = request_step model before now desk state state-is reading told.reply told.answered; appended = told.appended })

-- a model and refusals for what is so of all of them
pub any_model : ModelParts
any_model = parts_of [] [] [] AllowOverride [] (truth 0 true)

pub any_refusals : Refusals
any_refusals = record { count = 0; patterns = [] }
