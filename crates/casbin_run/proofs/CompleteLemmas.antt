-- Where no count rose, the status is the one that what is given has.
use Rattle.std.proofs.Common.{◌≡◌, ℕ, Bool, false, List, inl, inr, ⊎_elim, refl, ap, subst, ◌∙◌}
use Rattle.std.specs.Prelude.{◌⊎◌, IsSome}
use Rattle.outside.specs.Told.{with_back}
use Rattle.run_status.specs.Statuses.{status_of}
use Rattle.run_status.specs.declared.part.Part.TheVariants.{Model, Policy, Input}
use Rattle.run_status.specs.declared.status.Status.{Status}
use Rattle.run_status.specs.declared.status.Status.TheVariants as statuses
use Rattle.run_status.specs.declared.stop.Stop.{Stop}
use Rattle.run_status.specs.declared.stop.Stop.TheVariants.{CannotRead, CannotWrite, NoMemory}
use Rattle.session_meaning.specs.Plain.{all_refused}
use Rattle.casbin_run.specs.Answered.{IsCalmlyAnswered}
use Rattle.casbin_run.specs.Causes.{Cause, FailsAt}
use Rattle.casbin_run.specs.Ends.{Ends, HasStopped}
use Rattle.casbin_run.specs.Given.{Given, IsInOrder}
use Rattle.casbin_run.specs.Reached.{Reached, at_words, at_model, at_options, at_policy, at_task}
use Rattle.casbin_run.specs.Worlds.{InputRose, OutRose, ShelfRose, World}
use Rattle.loaded_work.specs.Sinks.{Taken}
use Rattle.casbin_run.specs.Finders.{FirstHasRefused, HaveRefusedUnreadable, Logs}
use Rattle.casbin_run.specs.Jobs.{ask_for_workers}
use Rattle.casbin_run.proofs.OneEnd.{has_none}

-- what is given has one end
pub record HasOneEnd : Type 0 where
  pub one_cause : (g : Given) (first second : Stop) → IsSome g.files → IsSome g.input → Cause g first → Cause g second → first ≡ second
  pub no_cause : (g : Given) (stop : Stop) → IsSome g.files → IsSome g.input → IsInOrder g → ¬ (Cause g stop)
  pub one_text : (g : Given) (first second : List ℕ) → IsSome g.files → IsSome g.input → ask_for_workers g.words ≡ false → IsCalmlyAnswered g first → IsCalmlyAnswered g second → first ≡ second

-- the shelf or the input failed
abbrev pub ReadRose : World → World → Type 0
ReadRose before now = ShelfRose before now ⊎ InputRose before now

-- the status is that of the cause, or memory ran out, or something could not be read
abbrev pub IsOf : World → World → Status → Stop → Type 0
IsOf before now status stop = (status ≡ status_of stop) ⊎ ((status ≡ statuses.NoMemory) ⊎ ((status ≡ statuses.ReadFault) × ReadRose before now))

module _ (law : HasOneEnd) (g : Given) (files : IsSome g.files) (input : IsSome g.input) (before now : World) where
  -- beside a cause the only faults are those of reading
  read_or_memory : (stopped : Stop) (reached : Reached) (stop : Stop) → FailsAt g before now reached stopped → Cause g stop → (status_of stopped ≡ statuses.NoMemory) ⊎ ((status_of stopped ≡ statuses.ReadFault) × ReadRose before now)
  read_or_memory (CannotRead Model) (at_model job) stop rose cause = inr (refl, inl rose)
  read_or_memory (CannotRead Policy) (at_policy job model) stop rose cause = inr (refl, inl rose)
  read_or_memory (CannotRead Input) (at_task job model policy) stop fails cause = inr (refl, inr fails.1)
  read_or_memory CannotWrite (at_task job model policy) stop fails cause = absurd (law.no_cause g stop files input fails.0.answers.answered.in_order cause)
  read_or_memory NoMemory reached stop fails cause = inl refl
  read_or_memory _ at_words stop fails cause = absurd fails
  read_or_memory _ (at_model job) stop fails cause = absurd fails
  read_or_memory _ (at_options job model) stop fails cause = absurd fails
  read_or_memory _ (at_policy job model) stop fails cause = absurd fails
  read_or_memory _ (at_task job model policy) stop fails cause = absurd fails

  -- without faults of the outside only want of memory is left
  only_memory : (stopped : Stop) (reached : Reached) → ¬ (ShelfRose before now) → ¬ (InputRose before now) → ¬ (OutRose before now) → FailsAt g before now reached stopped → status_of stopped ≡ statuses.NoMemory
  only_memory (CannotRead Model) (at_model job) shelf source out rose = absurd (shelf rose)
  only_memory (CannotRead Policy) (at_policy job model) shelf source out rose = absurd (shelf rose)
  only_memory (CannotRead Input) (at_task job model policy) shelf source out fails = absurd (source fails.1)
  only_memory CannotWrite (at_task job model policy) shelf source out fails = absurd (out fails.1)
  only_memory NoMemory reached shelf source out fails = refl
  only_memory _ at_words shelf source out fails = absurd fails
  only_memory _ (at_model job) shelf source out fails = absurd fails
  only_memory _ (at_options job model) shelf source out fails = absurd fails
  only_memory _ (at_policy job model) shelf source out fails = absurd fails
  only_memory _ (at_task job model policy) shelf source out fails = absurd fails

  module _ (err err_now : Taken) where
    exact_stopped : (status : Status) (stop : Stop) → HasStopped g before now err err_now status → Cause g stop → IsOf before now status stop
    exact_stopped status stop is cause =
        let by = is.cause in
        ⊎_elim (λ own. inl (is.status_is ∙ ap status_of (law.one_cause g is.stop stop files input (by.reached, by.is_reached, own.0) cause)))
        (λ fault. ⊎_elim (λ memory. inr (inl (is.status_is ∙ memory))) (λ read. inr (inr (is.status_is ∙ read.0, read.1))) (read_or_memory is.stop by.reached stop fault.0 cause)) by.why

    pub exact : (status : Status) (stop : Stop) → Ends g before now err err_now status → Cause g stop → IsOf before now status stop
    exact statuses.Done stop ends cause = absurd (law.no_cause g stop files input ends.done.all.answers.answered.in_order cause)
    exact other stop ends cause = exact_stopped other stop ends cause

    complete_stopped : (status : Status) → HasStopped g before now err err_now status → IsInOrder g → ¬ (ShelfRose before now) → ¬ (InputRose before now) → ¬ (OutRose before now) → status ≡ statuses.NoMemory
    complete_stopped status is order shelf source out =
        let by = is.cause in
        ⊎_elim (λ own. absurd (law.no_cause g is.stop files input order (by.reached, by.is_reached, own.0))) (λ fault. is.status_is ∙ only_memory is.stop by.reached shelf source out fault.0) by.why

    pub complete : (status : Status) → Ends g before now err err_now status → IsInOrder g → ¬ (ShelfRose before now) → ¬ (InputRose before now) → ¬ (OutRose before now) → (status ≡ statuses.Done) ⊎ (status ≡ statuses.NoMemory)
    complete statuses.Done ends order shelf source out = inl refl
    complete other ends order shelf source out = inr (complete_stopped other ends order shelf source out)

    -- where the finders refused nothing but patterns that cannot be read, the text is the one that answers
    pub text_is : (text : List ℕ) → Ends g before now err err_now statuses.Done → ask_for_workers g.words ≡ false → HaveRefusedUnreadable before.finders now.finders → IsCalmlyAnswered g text → now.out.bytes ≡ with_back before.out.bytes text
    text_is text ends alone still is =
        let done = ends.done in
        let answers = done.all.answers in
        let order = answers.answered.in_order in
        let first : FirstHasRefused before.finders now.finders (all_refused answers.refused) = subst (λ (shared : Bool). Logs shared before.finders now.finders (all_refused answers.refused)) (has_none g.words order.job order.asked alone) answers.logged in
        let calm : IsCalmlyAnswered g answers.text = record { refused = answers.refused; answered = answers.answered; unread = still (all_refused answers.refused) first } in
        done.all.took ∙ ap (with_back before.out.bytes) (law.one_text g answers.text text files input alone calm is)
