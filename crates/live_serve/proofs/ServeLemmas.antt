-- Sayings that are answered one after the other.
use Rattle.std.proofs.Common.{◌≡◌, ℕ, ◌≤◌, List, [], ◌∷◌, ◌++◌, refl, sym, ap, subst, ◌∙◌, append-nil, append_assoc, arith}
use Rattle.std.specs.Prelude.{Option, Bool}
use Rattle.desk_session.specs.Requests.{Refuses}
use Rattle.model_conf.specs.ModelText.{ModelParts}
use Rattle.outside.proofs.CallerLemmas.{front_of_next, with_back-append, with_back-nothing}
use Rattle.outside.specs.Told.{TookFront, with_back}
use Rattle.regex_gate.specs.Refusals.{IsUsed, Refusals, after_refusals}
use Rattle.run_status.specs.declared.stop.Stop.{Stop}
use Rattle.run_status.specs.declared.stop.Stop.TheVariants.{CannotWrite, NoMemory}
use Rattle.script_read.specs.Said.{Said}
use Rattle.session_meaning.specs.Plain.{all_refused}
use Rattle.live_serve.specs.Helps.Untold.{TellStops}
use Rattle.live_serve.specs.Lines.{joined, next_number, number_behind}
use Rattle.live_serve.specs.Places.{AreSteps, IsStep, Place, Standing, StandsSomewhere, is_followers, state_at}
use Rattle.live_serve.specs.Sayings.{Saying}
use Rattle.live_serve.specs.Served.{AreFirst, Halts, Pushed, Serves, TookFirst, TookSome}
use Rattle.live_serve.proofs.PlaceLemmas.{steps_kind, steps_shapes, steps_somewhere, steps_then}
use Rattle.live_serve.proofs.TextLemmas.{joined_more, joined_one, logged_then, number_more}

-- ---- one saying after the other

pub serves_none : (model : ModelParts) (refusals : Refusals) (standing : Standing) → Serves model refusals refusals standing standing [] []
serves_none model refusals standing = record { refused = []; logged = refl; steps = refl; number_is = refl }

-- what follows is as if it had begun before
steps_since : (model : ModelParts) (mid : Place) (number other : ℕ) (sayings : List Saying) (refused : List (List (List ℕ))) (texts : List (List ℕ)) (last : Place) → other ≡ number → AreSteps model mid other sayings refused texts last → AreSteps model mid number sayings refused texts last
steps_since model mid number other sayings refused texts last same steps = subst (λ (n : ℕ). AreSteps model mid n sayings refused texts last) same steps

pub serves_then : (model : ModelParts) (before between now : Refusals) (old mid new : Standing) (sayings more : List Saying) (texts rest : List (List ℕ)) → Serves model before between old mid sayings texts → Serves model between now mid new more rest → Serves model before now old new (sayings ++ more) (texts ++ rest)
serves_then model before between now old mid new sayings more texts rest one two = record {
  refused = one.refused ++ two.refused;
  logged = logged_then before between now one.refused two.refused one.logged two.logged;
  steps = steps_then model old.place old.number sayings more one.refused two.refused texts rest mid.place new.place one.steps (steps_since model mid.place (number_behind old.number sayings) mid.number more two.refused rest new.place one.number_is two.steps);
  number_is = two.number_is ∙ ap (λ (n : ℕ). number_behind n more) one.number_is ∙ number_more old.number sayings more;
}

pub serves_used : (model : ModelParts) (before now : Refusals) (old new : Standing) (sayings : List Saying) (texts : List (List ℕ)) → Serves model before now old new sayings texts → IsUsed before now
serves_used model before now old new sayings texts is = record { more = all_refused is.refused; refused = is.logged }

-- ---- and what the sink took

module _ (model : ModelParts) (before now : Refusals) (old new : Standing) (out out_now : Option (List ℕ)) (sayings : List Saying) (is : Pushed model before now old new out out_now sayings) where
  pub pushed_used : IsUsed before now
  pushed_used = serves_used model before now old new sayings is.texts is.serves

  pub pushed_somewhere : StandsSomewhere old.place → StandsSomewhere new.place
  pushed_somewhere = steps_somewhere model old.place old.number sayings is.serves.refused is.texts new.place is.serves.steps

  pub pushed_shapes : (state_at new.place).shapes ≡ (state_at old.place).shapes
  pushed_shapes = steps_shapes model old.place old.number sayings is.serves.refused is.texts new.place is.serves.steps

  pub pushed_kind : is_followers new.place ≡ is_followers old.place
  pushed_kind = steps_kind model old.place old.number sayings is.serves.refused is.texts new.place is.serves.steps

pub pushed_none : (model : ModelParts) (refusals : Refusals) (standing : Standing) (out : Option (List ℕ)) → Pushed model refusals refusals standing standing out out []
pushed_none model refusals standing out = record { texts = []; serves = serves_none model refusals standing; took = with_back-nothing out }

took_then : (out mid out_now : Option (List ℕ)) (texts rest : List (List ℕ)) → mid ≡ with_back out (joined texts) → out_now ≡ with_back mid (joined rest) → out_now ≡ with_back out (joined (texts ++ rest))
took_then out mid out_now texts rest one two =
    two ∙ ap (λ (o : Option (List ℕ)). with_back o (joined rest)) one ∙ with_back-append out (joined texts) (joined rest) ∙ ap (with_back out) (sym (joined_more texts rest))

pub pushed_then : (model : ModelParts) (before between now : Refusals) (old mid new : Standing) (out out_mid out_now : Option (List ℕ)) (sayings more : List Saying) → Pushed model before between old mid out out_mid sayings → Pushed model between now mid new out_mid out_now more
    → Pushed model before now old new out out_now (sayings ++ more)
pushed_then model before between now old mid new out out_mid out_now sayings more one two = record {
  texts = one.texts ++ two.texts;
  serves = serves_then model before between now old mid new sayings more one.texts two.texts one.serves two.serves;
  took = took_then out out_mid out_now one.texts two.texts one.took two.took;
}

-- ---- stops

first_none : (model : ModelParts) (old : Standing) (sayings : List Saying) → AreFirst model old sayings []
first_none model old sayings = record { first = []; others = sayings; parts = refl; refused = []; last = old.place; steps = refl }

first_all : (model : ModelParts) (before now : Refusals) (old new : Standing) (sayings : List Saying) (texts : List (List ℕ)) → Serves model before now old new sayings texts → AreFirst model old sayings texts
first_all model before now old new sayings texts is = record { first = sayings; others = []; parts = sym (append-nil sayings); refused = is.refused; last = new.place; steps = is.steps }

first_then : (model : ModelParts) (before between : Refusals) (old mid : Standing) (sayings more : List Saying) (texts rest : List (List ℕ)) → Serves model before between old mid sayings texts → AreFirst model mid more rest → AreFirst model old (sayings ++ more) (texts ++ rest)
first_then model before between old mid sayings more texts rest one some = record {
  first = sayings ++ some.first;
  others = some.others;
  parts = ap (λ (l : List Saying). sayings ++ l) some.parts ∙ sym (append_assoc sayings some.first some.others);
  refused = one.refused ++ some.refused;
  last = some.last;
  steps = steps_then model old.place old.number sayings some.first one.refused some.refused texts rest mid.place some.last one.steps (steps_since model mid.place (number_behind old.number sayings) mid.number some.first some.refused rest some.last one.number_is some.steps);
}

first_more : (model : ModelParts) (old : Standing) (sayings more : List Saying) (texts : List (List ℕ)) → AreFirst model old sayings texts → AreFirst model old (sayings ++ more) texts
first_more model old sayings more texts some = record {
  first = some.first;
  others = some.others ++ more;
  parts = ap (λ (l : List Saying). l ++ more) some.parts ∙ append_assoc some.first some.others more;
  refused = some.refused;
  last = some.last;
  steps = some.steps;
}

-- nothing was pushed
pub took_none : (model : ModelParts) (old : Standing) (out out_now : Option (List ℕ)) (sayings : List Saying) → out_now ≡ out → TookFirst model old out out_now sayings
took_none model old out out_now sayings same = record { texts = []; first = first_none model old sayings; took = same ∙ with_back-nothing out }

-- all was
pub took_all : (model : ModelParts) (before now : Refusals) (old new : Standing) (out out_now : Option (List ℕ)) (sayings : List Saying) → Pushed model before now old new out out_now sayings → TookFirst model old out out_now sayings
took_all model before now old new out out_now sayings is = record { texts = is.texts; first = first_all model before now old new sayings is.texts is.serves; took = is.took }

pub halts_then : (model : ModelParts) (before between : Refusals) (old mid : Standing) (out out_mid out_now : Option (List ℕ)) (out_rose : Type 0) (stop : Stop) (sayings more : List Saying) → Pushed model before between old mid out out_mid sayings → Halts model mid out_mid out_now out_rose stop more
    → Halts model old out out_now out_rose stop (sayings ++ more)
halts_then model before between old mid out out_mid out_now out_rose CannotWrite sayings more one (some, rose) = (
  record {
    texts = one.texts ++ some.texts;
    first = first_then model before between old mid sayings more one.texts some.texts one.serves some.first;
    took = subst (λ (t : List ℕ). TookFront out out_now t) (sym (joined_more one.texts some.texts)) (front_of_next out out_mid out_now (joined one.texts) (joined some.texts) one.took some.took);
  },
  rose,
)
halts_then model before between old mid out out_mid out_now out_rose NoMemory sayings more one some = record {
  texts = one.texts ++ some.texts;
  first = first_then model before between old mid sayings more one.texts some.texts one.serves some.first;
  took = took_then out out_mid out_now one.texts some.texts one.took some.took;
}
halts_then model before between old mid out out_mid out_now out_rose _ sayings more one some = absurd some

pub halts_more : (model : ModelParts) (old : Standing) (out out_now : Option (List ℕ)) (out_rose : Type 0) (stop : Stop) (sayings more : List Saying) → Halts model old out out_now out_rose stop sayings → Halts model old out out_now out_rose stop (sayings ++ more)
halts_more model old out out_now out_rose CannotWrite sayings more (some, rose) = (record { texts = some.texts; first = first_more model old sayings more some.texts some.first; took = some.took }, rose)
halts_more model old out out_now out_rose NoMemory sayings more some = record { texts = some.texts; first = first_more model old sayings more some.texts some.first; took = some.took }
halts_more model old out out_now out_rose _ sayings more some = absurd some

-- ---- a saying by itself

-- what the finder refused for an item
pub asked_used : (model : ModelParts) (before now : Refusals) (it : Said) → Refuses model before now it → IsUsed before now
asked_used model before now it asked = record { more = asked.refused; refused = asked.logged }

module _ (model : ModelParts) (old : Standing) (place : Place) (saying : Saying) (refused : List (List ℕ)) (text : List ℕ) (step : IsStep model old.place place (next_number old.number) saying refused text) where
  step_one : AreSteps model old.place old.number (saying ∷ []) (refused ∷ []) (text ∷ []) place
  step_one = (place, step, refl)

  pub step_told : (before now : Refusals) (new : Standing) (out out_now : Option (List ℕ)) → now ≡ after_refusals before refused → new.place ≡ place → new.number ≡ next_number old.number → out_now ≡ with_back out text → Pushed model before now old new out out_now (saying ∷ [])
  step_told before now new out out_now logged place-is number-is took = record {
    texts = text ∷ [];
    serves = record {
      refused = refused ∷ [];
      logged = logged ∙ ap (after_refusals before) (sym (append-nil refused));
      steps = (place, step, place-is);
      number_is = number-is;
    };
    took = took ∙ ap (with_back out) (joined_one text);
  }

  pub step_pushed : (before now : Refusals) (number : ℕ) (out out_now : Option (List ℕ)) → now ≡ after_refusals before refused → number ≡ next_number old.number → out_now ≡ with_back out text → Pushed model before now old (record { place = place; number = number }) out out_now (saying ∷ [])
  step_pushed before now number out out_now logged number-is took = step_told before now (record { place = place; number = number }) out out_now logged refl number-is took

  pub step_halts : (out out_now : Option (List ℕ)) (out_rose : Type 0) (stop : Stop) → TellStops out out_now text out_rose stop → Halts model old out out_now out_rose stop (saying ∷ [])
  step_halts out out_now out_rose CannotWrite (front, rose) = (
    record {
      texts = text ∷ [];
      first = record { first = saying ∷ []; others = []; parts = refl; refused = refused ∷ []; last = place; steps = step_one };
      took = subst (λ (t : List ℕ). TookFront out out_now t) (joined_one text) front;
    },
    rose,
  )
  step_halts out out_now out_rose NoMemory same = took_none model old out out_now (saying ∷ []) same
  step_halts out out_now out_rose _ stops = absurd stops

-- ---- the sayings of a section

-- those so far are answered
pub record AreDone (model : ModelParts) (before now : Refusals) (old new : Standing) (out out_now : Option (List ℕ)) (done : List Saying) (a b : ℕ) : Type 0 where
  pub pushed : Pushed model before now old new out out_now done
  pub somewhere : StandsSomewhere new.place
  pub counted : a ≤ b

module _ (model : ModelParts) (before : Refusals) (old : Standing) (out : Option (List ℕ)) (a : ℕ) where
  pub done_none : (done : List Saying) → done ≡ [] → StandsSomewhere old.place → AreDone model before before old old out out done a a
  done_none done none somewhere = record { pushed = subst (λ (d : List Saying). Pushed model before before old old out out d) (sym none) (pushed_none model before old out); somewhere = somewhere; counted = omega arith }

  module _ (done next : List Saying) (saying : Saying) (next-is : next ≡ done ++ saying ∷ []) (between now : Refusals) (mid new : Standing) (out_mid out_now : Option (List ℕ)) (b c : ℕ) (so : AreDone model before between old mid out out_mid done a b) where
    pub done_next : Pushed model between now mid new out_mid out_now (saying ∷ []) → b ≤ c → AreDone model before now old new out out_now next a c
    done_next pushed counted = record {
      pushed = subst (λ (d : List Saying). Pushed model before now old new out out_now d) (sym next-is) (pushed_then model before between now old mid new out out_mid out_now done (saying ∷ []) so.pushed pushed);
      somewhere = pushed_somewhere model between now mid new out_mid out_now (saying ∷ []) pushed so.somewhere;
      counted = omega (arith, so.counted, counted);
    }

    pub done_halts : (whole rest : List Saying) → next ++ rest ≡ whole → (out_rose : Type 0) (stop : Stop) → Halts model mid out_mid out_now out_rose stop (saying ∷ []) → Halts model old out out_now out_rose stop whole
    done_halts whole rest parts out_rose stop halts =
        subst (λ (sayings : List Saying). Halts model old out out_now out_rose stop sayings) parts
        (halts_more model old out out_now out_rose stop next rest
        (subst (λ (sayings : List Saying). Halts model old out out_now out_rose stop sayings) (sym next-is) (halts_then model before between old mid out out_mid out_now out_rose stop done (saying ∷ []) so.pushed halts)))

-- the stop is told from an earlier moment
pub halts_since : (model : ModelParts) (old : Standing) (out out_now : Option (List ℕ)) (one other : Type 0) (stop : Stop) (sayings : List Saying) → (one → other) → Halts model old out out_now one stop sayings → Halts model old out out_now other stop sayings
halts_since model old out out_now one other CannotWrite sayings since (some, rose) = (some, since rose)
halts_since model old out out_now one other NoMemory sayings since some = some
halts_since model old out out_now one other _ sayings since some = absurd some
