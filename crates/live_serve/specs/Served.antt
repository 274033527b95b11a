-- Sayings that are answered.
use Rattle.std.specs.Prelude.{◌≡◌, ◌⊎◌, ℕ, Bool, List, ◌++◌, Option}
use Rattle.item_stream.specs.Sections.{Section}
use Rattle.model_conf.specs.ModelText.{ModelParts}
use Rattle.outside.specs.Told.{TookFront, with_back}
use Rattle.regex_gate.specs.Refusals.{Refusals, after_refusals}
use Rattle.run_status.specs.declared.stop.Stop.{Stop}
use Rattle.run_status.specs.declared.stop.Stop.TheVariants.{CannotWrite, NoMemory}
use Rattle.session_meaning.specs.Plain.{all_refused}
use Rattle.live_serve.specs.Lines.{joined, number_behind}
use Rattle.live_serve.specs.Places.{AreSteps, Place, Standing}
use Rattle.live_serve.specs.Sayings.{Saying, Says}

-- these are the texts of the sayings, for which the finder refused so, and they lead from one standing to the other
pub record Serves (model : ModelParts) (before now : Refusals) (old new : Standing) (sayings : List Saying) (texts : List (List ℕ)) : Type 0 where
  pub refused : List (List (List ℕ))
  pub logged : now ≡ after_refusals before (all_refused refused)
  pub steps : AreSteps model old.place old.number sayings refused texts new.place
  pub number_is : new.number ≡ number_behind old.number sayings

-- besides, the sink took these texts and nothing else
pub record Pushed (model : ModelParts) (before now : Refusals) (old new : Standing) (out out_now : Option (List ℕ)) (sayings : List Saying) : Type 0 where
  pub texts : List (List ℕ)
  pub serves : Serves model before now old new sayings texts
  pub took : out_now ≡ with_back out (joined texts)

-- the texts of the first so many of the sayings
pub record AreFirst (model : ModelParts) (old : Standing) (sayings : List Saying) (texts : List (List ℕ)) : Type 0 where
  pub first : List Saying
  pub others : List Saying
  pub parts : sayings ≡ first ++ others
  pub refused : List (List (List ℕ))
  pub last : Place
  pub steps : AreSteps model old.place old.number first refused texts last

-- the sink took a front of such texts, or took them whole
pub record TookSome (model : ModelParts) (old : Standing) (out out_now : Option (List ℕ)) (sayings : List Saying) : Type 0 where
  pub texts : List (List ℕ)
  pub first : AreFirst model old sayings texts
  pub took : TookFront out out_now (joined texts)

pub record TookFirst (model : ModelParts) (old : Standing) (out out_now : Option (List ℕ)) (sayings : List Saying) : Type 0 where
  pub texts : List (List ℕ)
  pub first : AreFirst model old sayings texts
  pub took : out_now ≡ with_back out (joined texts)

-- why sayings were not answered to their end, by cases on the stop
abbrev pub Halts : ModelParts → Standing → Option (List ℕ) → Option (List ℕ) → (out_rose : Type 0) → Stop → List Saying → Type 0
Halts model old out out_now out_rose CannotWrite sayings = TookSome model old out out_now sayings × out_rose
Halts model old out out_now out_rose NoMemory sayings = TookFirst model old out out_now sayings
Halts model old out out_now out_rose _ sayings = ⊥

-- of what the section says the fact holds
abbrev pub OfSection : (json follow : Bool) → Section → (List Saying → Type 0) → Type 0
OfSection json follow section fact = (sayings : List Saying) × Says json follow section sayings × fact sayings

-- why a section was not answered: some of what it says was, or memory ran out before
abbrev pub SectionStops : (json follow : Bool) → ModelParts → Standing → Section → Option (List ℕ) → Option (List ℕ) → (out_rose : Type 0) → Stop → Type 0
SectionStops json follow model old section out out_now out_rose stop = OfSection json follow section (Halts model old out out_now out_rose stop) ⊎ ((stop ≡ NoMemory) × (out_now ≡ out))
