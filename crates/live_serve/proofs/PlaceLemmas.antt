-- Steps from one place to another.
use Rattle.std.proofs.Common.{◌≡◌, ℕ, Bool, true, false, List, [], ◌∷◌, ◌++◌, refl, sym, ap, subst, ◌∙◌}
use Rattle.std.specs.Prelude.{codes}
use Rattle.desk_session.specs.Desks.{StandsBehind}
use Rattle.log_ship.specs.Followers.{Following}
use Rattle.model_conf.specs.ModelText.{ModelParts}
use Rattle.perm_base.specs.declared.shapes.Shapes.{Shapes}
use Rattle.policy_desk.specs.Desks.{Work}
use Rattle.policy_state.specs.States.{State, tables}
use Rattle.policy_table.specs.Tables.{Policy}
use Rattle.script_read.specs.Said.{Said}
use Rattle.script_read.specs.declared.fault.ScriptFault.{ScriptFault}
use Rattle.live_serve.specs.Followed.{IsFollowed}
use Rattle.live_serve.specs.Lines.{AreTexts, behind, cause_text, next_number, number_behind, refused_text}
use Rattle.live_serve.specs.Places.{AreSteps, IsStep, Place, StandsSomewhere, at_desk, follows, is_followers, state_at}
use Rattle.live_serve.specs.Sayings.{Saying, item, fault, packet, no_packet, too_long}
use Rattle.live_serve.specs.Streams.{AreTold, IsFirst, service}

-- ---- one step

followed_shapes : (model : ModelParts) (before : Following) (number : ℕ) (saying : Saying) (refused : List (List ℕ)) (text : List ℕ) (now : Following) → IsFollowed model before number saying refused text now → now.state.shapes ≡ before.state.shapes
followed_shapes model before number (item it) refused text now is = ap (λ (f : Following). f.state.shapes) is.0
followed_shapes model before number (packet sent) refused text now is = is.1.shapes_are
followed_shapes model before number (fault first) refused text now is = ap (λ (f : Following). f.state.shapes) is.0
followed_shapes model before number no_packet refused text now is = ap (λ (f : Following). f.state.shapes) is.0
followed_shapes model before number too_long refused text now is = ap (λ (f : Following). f.state.shapes) is.0

pub step_shapes : (model : ModelParts) (old new : Place) (number : ℕ) (saying : Saying) (refused : List (List ℕ)) (text : List ℕ) → IsStep model old new number saying refused text → (state_at new).shapes ≡ (state_at old).shapes
step_shapes model (at_desk old) (at_desk new) number saying refused text step = step.shapes_are
step_shapes model (follows old) (follows new) number saying refused text step = followed_shapes model old number saying refused text new step
step_shapes model (at_desk old) (follows new) number saying refused text step = absurd step
step_shapes model (follows old) (at_desk new) number saying refused text step = absurd step

step_kind : (model : ModelParts) (old new : Place) (number : ℕ) (saying : Saying) (refused : List (List ℕ)) (text : List ℕ) → IsStep model old new number saying refused text → is_followers new ≡ is_followers old
step_kind model (at_desk old) (at_desk new) number saying refused text step = refl
step_kind model (follows old) (follows new) number saying refused text step = refl
step_kind model (at_desk old) (follows new) number saying refused text step = absurd step
step_kind model (follows old) (at_desk new) number saying refused text step = absurd step

step_somewhere : (model : ModelParts) (old new : Place) (number : ℕ) (saying : Saying) (refused : List (List ℕ)) (text : List ℕ) → IsStep model old new number saying refused text → StandsSomewhere old → StandsSomewhere new
step_somewhere model (at_desk old) (at_desk new) number saying refused text step (opening, items, stands) = (opening, behind items saying, step.stands opening items stands)
step_somewhere model (follows old) (follows new) number saying refused text step some = tt
step_somewhere model (at_desk old) (follows new) number saying refused text step some = absurd step
step_somewhere model (follows old) (at_desk new) number saying refused text step some = absurd step

-- what is no script, wherever a clerk stands
pub fault_step : (model : ModelParts) (place : Place) (number : ℕ) (first : ScriptFault) (text : List ℕ) → text ≡ refused_text number (cause_text first) → IsStep model place place number (fault first) [] text
fault_step model (at_desk desk) number first text text-is = record { text_is = λ opening items stands. (refl, text-is); stands = λ opening items stands. stands; shapes_are = refl }
fault_step model (follows follower) number first text text-is = (refl, refl, text-is)

-- what is too long
pub long_step : (model : ModelParts) (place : Place) (number : ℕ) (text : List ℕ) → text ≡ refused_text number (codes "too long") → IsStep model place place number too_long [] text
long_step model (at_desk desk) number text text-is = record { text_is = λ opening items stands. (refl, text-is); stands = λ opening items stands. stands; shapes_are = refl }
long_step model (follows follower) number text text-is = (refl, refl, text-is)

-- ---- steps one after the other

pub steps_shapes : (model : ModelParts) (old : Place) (number : ℕ) (sayings : List Saying) (refused : List (List (List ℕ))) (texts : List (List ℕ)) (new : Place) → AreSteps model old number sayings refused texts new → (state_at new).shapes ≡ (state_at old).shapes
steps_shapes model old number [] [] [] new same = ap (λ (p : Place). (state_at p).shapes) same
steps_shapes model old number (saying ∷ sayings) (patterns ∷ refused) (text ∷ texts) new (next, step, rest) = steps_shapes model next (next_number number) sayings refused texts new rest ∙ step_shapes model old next (next_number number) saying patterns text step
steps_shapes model old number [] [] (text ∷ texts) new are = absurd are
steps_shapes model old number [] (patterns ∷ refused) texts new are = absurd are
steps_shapes model old number (saying ∷ sayings) [] texts new are = absurd are
steps_shapes model old number (saying ∷ sayings) (patterns ∷ refused) [] new are = absurd are

pub steps_kind : (model : ModelParts) (old : Place) (number : ℕ) (sayings : List Saying) (refused : List (List (List ℕ))) (texts : List (List ℕ)) (new : Place) → AreSteps model old number sayings refused texts new → is_followers new ≡ is_followers old
steps_kind model old number [] [] [] new same = ap is_followers same
steps_kind model old number (saying ∷ sayings) (patterns ∷ refused) (text ∷ texts) new (next, step, rest) = steps_kind model next (next_number number) sayings refused texts new rest ∙ step_kind model old next (next_number number) saying patterns text step
steps_kind model old number [] [] (text ∷ texts) new are = absurd are
steps_kind model old number [] (patterns ∷ refused) texts new are = absurd are
steps_kind model old number (saying ∷ sayings) [] texts new are = absurd are
steps_kind model old number (saying ∷ sayings) (patterns ∷ refused) [] new are = absurd are

pub steps_somewhere : (model : ModelParts) (old : Place) (number : ℕ) (sayings : List Saying) (refused : List (List (List ℕ))) (texts : List (List ℕ)) (new : Place) → AreSteps model old number sayings refused texts new → StandsSomewhere old → StandsSomewhere new
steps_somewhere model old number [] [] [] new same some = subst StandsSomewhere (sym same) some
steps_somewhere model old number (saying ∷ sayings) (patterns ∷ refused) (text ∷ texts) new (next, step, rest) some = steps_somewhere model next (next_number number) sayings refused texts new rest (step_somewhere model old next (next_number number) saying patterns text step some)
steps_somewhere model old number [] [] (text ∷ texts) new are some = absurd are
steps_somewhere model old number [] (patterns ∷ refused) texts new are some = absurd are
steps_somewhere model old number (saying ∷ sayings) [] texts new are some = absurd are
steps_somewhere model old number (saying ∷ sayings) (patterns ∷ refused) [] new are some = absurd are

pub steps_then : (model : ModelParts) (old : Place) (number : ℕ) (sayings more : List Saying) (refused others : List (List (List ℕ))) (texts rest : List (List ℕ)) (mid new : Place) → AreSteps model old number sayings refused texts mid
    → AreSteps model mid (number_behind number sayings) more others rest new → AreSteps model old number (sayings ++ more) (refused ++ others) (texts ++ rest) new
steps_then model old number [] more [] others [] rest mid new same next = subst (λ (p : Place). AreSteps model p number more others rest new) same next
steps_then model old number (saying ∷ sayings) more (patterns ∷ refused) others (text ∷ texts) rest mid new (place, step, steps) next = (place, step, steps_then model place (next_number number) sayings more refused others texts rest mid new steps next)
steps_then model old number [] more [] others (text ∷ texts) rest mid new are next = absurd are
steps_then model old number [] more (patterns ∷ refused) others texts rest mid new are next = absurd are
steps_then model old number (saying ∷ sayings) more [] others texts rest mid new are next = absurd are
steps_then model old number (saying ∷ sayings) more (patterns ∷ refused) others [] rest mid new are next = absurd are

-- ---- at a desk they are the texts of a session

desk_texts : (model : ModelParts) (desk : Work) (opening : Policy) (items : List Said) (number : ℕ) (sayings : List Saying) (refused : List (List (List ℕ))) (texts : List (List ℕ)) (last : Place) → StandsBehind opening items desk → AreSteps model (at_desk desk) number sayings refused texts last
    → AreTexts model desk.state.shapes opening items number sayings refused texts
desk_texts model desk opening items number [] [] [] last stands steps = tt
desk_texts model desk opening items number (saying ∷ sayings) (patterns ∷ refused) (text ∷ texts) last stands (at_desk next, step, rest) = (
  step.text_is opening items stands,
  subst (λ (s : Shapes). AreTexts model s opening (behind items saying) (next_number number) sayings refused texts) step.shapes_are (desk_texts model next opening (behind items saying) (next_number number) sayings refused texts last (step.stands opening items stands) rest),
)
desk_texts model desk opening items number (saying ∷ sayings) (patterns ∷ refused) (text ∷ texts) last stands (follows next, step, rest) = absurd step
desk_texts model desk opening items number [] [] (text ∷ texts) last stands are = absurd are
desk_texts model desk opening items number [] (patterns ∷ refused) texts last stands are = absurd are
desk_texts model desk opening items number (saying ∷ sayings) [] texts last stands are = absurd are
desk_texts model desk opening items number (saying ∷ sayings) (patterns ∷ refused) [] last stands are = absurd are

-- from the first saying on they are the texts that are told
pub told_from : (json : Bool) (model : ModelParts) (place : Place) (sayings : List Saying) (refused : List (List (List ℕ))) (texts : List (List ℕ)) (last : Place) → IsFirst place → AreSteps model place 0 sayings refused texts last → AreTold (service json model place) sayings refused texts
told_from json model (at_desk desk) sayings refused texts last first steps = desk_texts model desk (tables desk.state) [] 0 sayings refused texts last first steps
told_from json model (follows follower) sayings refused texts last first steps = record { first = follower; last = last; opens = first; steps = steps }
