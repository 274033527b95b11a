-- A stream that is served: what `out` took of what was read so far.
use Rattle.std.specs.Prelude.{◌≡◌, ℕ, ◌≤◌, Bool, MatchBool, List, [], ◌++◌, Option, length}
use Rattle.item_stream.specs.Sections.{GoesTo, Section, Stage, sections_of, whole_sections}
use Rattle.model_conf.specs.ModelText.{ModelParts}
use Rattle.outside.specs.Told.{TookFront, with_back, with_front}
use Rattle.perm_base.specs.declared.shapes.Shapes.{Shapes}
use Rattle.desk_session.specs.Desks.{StandsBehind}
use Rattle.loaded_work.specs.Followed.{Opens}
use Rattle.log_ship.specs.Followers.{Following}
use Rattle.policy_state.specs.States.{tables}
use Rattle.policy_table.specs.Tables.{Policy}
use Rattle.regex_gate.specs.Refusals.{Refusals, after_refusals}
use Rattle.run_status.specs.declared.part.Part.TheVariants.{Input}
use Rattle.run_status.specs.declared.stop.Stop.{Stop}
use Rattle.run_status.specs.declared.stop.Stop.TheVariants.{CannotRead, CannotWrite, TooLong, NoMemory}
use Rattle.session_meaning.specs.Plain.{all_refused}
use Rattle.live_serve.specs.Lines.{AreTexts, joined}
use Rattle.live_serve.specs.Sayings.{AllSay, Saying}
use Rattle.live_serve.specs.Places.{AreSteps, Place, Standing, at_desk, follows, is_followers, state_at}
use Rattle.live_serve.specs.Served.{Halts, Pushed}

-- ---- a piece of a stream

-- all sections that end in the piece were answered, and nothing else
pub record TakesPiece (json follow : Bool) (model : ModelParts) (before now : Refusals) (old new : Standing) (stage stage_now : Stage) (piece rest : List ℕ) (out out_now : Option (List ℕ)) : Type 0 where
  pub sections : List Section
  pub sayings : List Saying
  pub goes : GoesTo stage piece sections stage_now rest
  pub say : AllSay json follow sections sayings
  pub pushed : Pushed model before now old new out out_now sayings

-- it was not taken to its end: what the first sections that end in it say was not answered to its end
pub record LeavesPiece (json follow : Bool) (model : ModelParts) (old : Standing) (stage : Stage) (piece : List ℕ) (out out_now : Option (List ℕ)) (out_rose : Type 0) (stop : Stop) : Type 0 where
  pub sections : List Section
  pub others : List Section
  pub sayings : List Saying
  pub stage_now : Stage
  pub rest : List ℕ
  pub goes : GoesTo stage piece (sections ++ others) stage_now rest
  pub say : AllSay json follow sections sayings
  pub halts : Halts model old out out_now out_rose stop sayings

-- ---- a whole stream

-- over what a stream is served, and whether it is a follower's
pub record Service : Type 0 where
  pub json : Bool
  pub follow : Bool
  pub model : ModelParts
  pub shapes : Shapes
  pub opening : Policy

-- at this place, before the first item
abbrev pub service : Bool → ModelParts → Place → Service
service json model place = record { json = json; follow = is_followers place; model = model; shapes = (state_at place).shapes; opening = tables (state_at place) }

-- the desk stands before all items; the follower has no edit, and none waits
abbrev pub IsFirst : Place → Type 0
IsFirst (at_desk desk) = StandsBehind (tables desk.state) [] desk
IsFirst (follows follower) = Opens follower.state.shapes (tables follower.state) follower

-- a follower that begins with the policy at version 0 answers sayings by these texts
pub record AreFollowed (on : Service) (sayings : List Saying) (refused : List (List (List ℕ))) (texts : List (List ℕ)) : Type 0 where
  pub first : Following
  pub last : Place
  pub opens : Opens on.shapes on.opening first
  pub steps : AreSteps on.model (follows first) 0 sayings refused texts last

-- these are the texts of sayings from the first on
abbrev pub AreTold : Service → List Saying → List (List (List ℕ)) → List (List ℕ) → Type 0
AreTold on sayings refused texts = MatchBool on.follow (AreFollowed on sayings refused texts) (AreTexts on.model on.shapes on.opening [] 0 sayings refused texts)

-- these are the texts that answer what sections say, and for them, one after the other, the finder refused so
pub record AreAnswered (on : Service) (before now : Refusals) (sections : List Section) (texts : List (List ℕ)) : Type 0 where
  pub sayings : List Saying
  pub refused : List (List (List ℕ))
  pub say : AllSay on.json on.follow sections sayings
  pub texts_are : AreTold on sayings refused texts
  pub logged : now ≡ after_refusals before (all_refused refused)

-- `out` took the texts of these sections, and nothing else
pub record TookTexts (on : Service) (before now : Refusals) (sections : List Section) (out out_now : Option (List ℕ)) : Type 0 where
  pub texts : List (List ℕ)
  pub answered : AreAnswered on before now sections texts
  pub took : out_now ≡ with_back out (joined texts)

-- these are texts that answer the first of what the sections of a stream say
pub record AnswerFirst (on : Service) (read : List ℕ) (texts : List (List ℕ)) : Type 0 where
  pub sections : List Section
  pub others : List Section
  pub parts : sections_of on.follow read ≡ sections ++ others
  pub first : List Saying
  pub more : List Saying
  pub say : AllSay on.json on.follow sections (first ++ more)
  pub refused : List (List (List ℕ))
  pub texts_are : AreTold on first refused texts

pub record TookSomeTexts (on : Service) (read : List ℕ) (out out_now : Option (List ℕ)) : Type 0 where
  pub texts : List (List ℕ)
  pub first : AnswerFirst on read texts
  pub took : TookFront out out_now (joined texts)

pub record TookFirstTexts (on : Service) (read : List ℕ) (out out_now : Option (List ℕ)) : Type 0 where
  pub texts : List (List ℕ)
  pub first : AnswerFirst on read texts
  pub took : out_now ≡ with_back out (joined texts)

-- why a stream was not served to its end, by cases on the stop. Before each pull `out` has the texts of all sections whose last lines
-- were read, and nothing else: where the input fails it took exactly these
abbrev pub ServeStops : Service → (before now : Refusals) → (out out_now : Option (List ℕ)) → (input_rose out_rose : Type 0) → Stop → List ℕ → Type 0
ServeStops on before now out out_now input_rose out_rose (CannotRead Input) read = TookTexts on before now (whole_sections on.follow read) out out_now × input_rose
ServeStops on before now out out_now input_rose out_rose (TooLong Input) read = TookTexts on before now (whole_sections on.follow read) out out_now × (18446744073709551615 ≤ length read)
ServeStops on before now out out_now input_rose out_rose CannotWrite read = TookSomeTexts on read out out_now × out_rose
ServeStops on before now out out_now input_rose out_rose NoMemory read = TookFirstTexts on read out out_now
ServeStops on before now out out_now input_rose out_rose _ read = ⊥

-- what was left of a source before is these bytes and what is left now, and of them the fact holds
abbrev pub OfRead : (left left_now : Option (List ℕ)) → (List ℕ → Type 0) → Type 0
OfRead left left_now fact = (read : List ℕ) × (left ≡ with_front read left_now) × fact read
