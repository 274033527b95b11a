-- A run that stops at its words or its files has asked nothing of the input.
use Rattle.std.proofs.Common.{◌≡◌, true, false, refl, ⊎_elim, sym, ap, ◌∙◌}
use Rattle.log_ship.specs.declared.packet_fault.PacketFault.TheVariants as packet
use Rattle.run_status.specs.Statuses.{status_of}
use Rattle.run_status.specs.declared.part.Part.TheVariants.{Input, Report}
use Rattle.run_status.specs.declared.status.Status.{Status}
use Rattle.run_status.specs.declared.status.Status.TheVariants as statuses
use Rattle.run_status.specs.declared.stop.Stop.{Stop}
use Rattle.run_status.specs.declared.stop.Stop.TheVariants.{NoScript, NoPackets, CannotRead, CannotWrite, TooLong, NoMemory}
use Rattle.script_read.specs.declared.fault.ScriptFault.TheVariants as script
use Rattle.casbin_run.specs.Causes.{FailsAt, StopsAt}
use Rattle.casbin_run.specs.Ends.{Ends, HasStopped, is_of_files}
use Rattle.casbin_run.specs.Given.{Given}
use Rattle.casbin_run.specs.Reached.{Reached, at_words, at_model, at_options, at_policy, at_task, reads_at}
use Rattle.loaded_work.specs.Sinks.{Taken}
use Rattle.casbin_run.specs.Worlds.{World}

module _ (g : Given) (before now : World) where
  given_before : (stop : Stop) (reached : Reached) → is_of_files (status_of stop) ≡ true → StopsAt g reached stop → reads_at reached ≡ false
  given_before stop at_words of stops = refl
  given_before stop (at_model job) of stops = refl
  given_before stop (at_options job model) of stops = refl
  given_before stop (at_policy job model) of stops = refl
  given_before (TooLong Input) (at_task job model policy) of stops = absurd cc
  given_before (TooLong Report) (at_task job model policy) of stops = absurd cc
  given_before (NoScript script.NoMemory) (at_task job model policy) of stops = absurd cc
  given_before (NoScript fault) (at_task job model policy) of stops = absurd cc
  given_before (NoPackets packet.NoMemory) (at_task job model policy) of stops = absurd cc
  given_before (NoPackets fault) (at_task job model policy) of stops = absurd cc
  given_before _ (at_task job model policy) of stops = absurd stops

  outside_before : (stop : Stop) (reached : Reached) → is_of_files (status_of stop) ≡ true → FailsAt g before now reached stop → reads_at reached ≡ false
  outside_before stop at_words of fails = refl
  outside_before stop (at_model job) of fails = refl
  outside_before stop (at_options job model) of fails = refl
  outside_before stop (at_policy job model) of fails = refl
  outside_before (CannotRead Input) (at_task job model policy) of fails = absurd cc
  outside_before CannotWrite (at_task job model policy) of fails = absurd cc
  outside_before NoMemory (at_task job model policy) of fails = absurd cc
  outside_before _ (at_task job model policy) of fails = absurd fails

  module _ (err err_now : Taken) where
    unread_stopped : (status : Status) → HasStopped g before now err err_now status → is_of_files status ≡ true → now.input ≡ before.input
    unread_stopped status is of =
        let by = is.cause in
        let of_stop : is_of_files (status_of is.stop) ≡ true = ap is_of_files (sym is.status_is) ∙ of in
        ⊎_elim (λ own. own.1.unread (given_before is.stop by.reached of_stop own.0)) (λ fault. fault.1.unread (outside_before is.stop by.reached of_stop fault.0)) by.why

    pub unread_before : (status : Status) → Ends g before now err err_now status → is_of_files status ≡ true → now.input ≡ before.input
    unread_before statuses.Done ends of = absurd cc
    unread_before other ends of = unread_stopped other ends of
