-- A packet that is taken, and told.
use Rattle.std.proofs.Common.{◌≡◌, ◌⊎◌, ℕ, List, [], ◌∷◌, inl, inr, Ok, Err, refl, sym, subst}
use Rattle.std.specs.Prelude.{IfErr, MatchResult, OnOk, Option, Result}
use Rattle.answer_lines.specs.LineText.{numbered}
use Rattle.loaded_work.specs.Followed.{IsKnown, taken_text}
use Rattle.log_ship.specs.Followers.{Following}
use Rattle.log_ship.specs.Taken as packets
use Rattle.log_ship.specs.Taken.{TextReading, Reads, Takes}
use Rattle.log_ship.specs.declared.packet.Packet.{Packet}
use Rattle.model_conf.specs.ModelText.{ModelParts}
use Rattle.outside.specs.Told.{with_back}
use Rattle.regex_gate.specs.Refusals.{Refusals}
use Rattle.run_status.specs.declared.stop.Stop.{Stop}
use Rattle.run_status.specs.declared.stop.Stop.TheVariants.{CannotWrite, NoMemory}
use Rattle.live_serve.specs.Helps.Untold.{TellStops}
use Rattle.live_serve.specs.Lines.{next_number}
use Rattle.live_serve.specs.Places.{IsStep, Place, Standing, follows}
use Rattle.live_serve.specs.Sayings.{packet}
use Rattle.live_serve.specs.Served.{Halts, Pushed}
use Rattle.live_serve.proofs.FollowLemmas.{taken_step}
use Rattle.live_serve.proofs.ServeLemmas.{step_halts, step_pushed, took_none}

module _ (old : Standing) (before now : Following) (place-is : old.place ≡ follows before) (sent : Packet) (result : packets.TakeAnswer) (takes : Takes before sent result now) (reads : (reading : TextReading) × Reads sent.text reading) where
  abbrev line : List ℕ
  line = numbered (next_number old.number) (taken_text result)

  abbrev Step : ModelParts → Type 0
  Step model = IsStep model old.place (follows now) (next_number old.number) (packet sent) [] line

  step : (model : ModelParts) → IsKnown result → Step model
  step model known = subst (λ (p : Place). IsStep model p (follows now) (next_number old.number) (packet sent) [] line) (sym place-is) (taken_step model before now (next_number old.number) sent result line takes known reads refl)

  pub packet_pushed : (number : ℕ) (out out_now : Option (List ℕ)) → number ≡ next_number old.number → (told : Result (Unit {0}) Stop) → MatchResult told (λ _. IsKnown result) (λ stop. (stop ≡ NoMemory) ⊎ IsKnown result) → OnOk told (out_now ≡ with_back out line)
      → OnOk told ((model : ModelParts) (refusals : Refusals) → Pushed model refusals refusals old (record { place = follows now; number = number }) out out_now (packet sent ∷ []))
  packet_pushed number out out_now number-is (Ok u) known took = λ model refusals. step_pushed model old (follows now) (packet sent) [] line (step model known) refusals refusals number out out_now refl number-is took
  packet_pushed number out out_now number-is (Err stop) known took = tt

  halts_by : (out out_now : Option (List ℕ)) (out_rose : Type 0) (stop : Stop) (model : ModelParts) → (stop ≡ NoMemory) ⊎ IsKnown result → TellStops out out_now line out_rose stop → Halts model old out out_now out_rose stop (packet sent ∷ [])
  halts_by out out_now out_rose stop model (inr known) stops = step_halts model old (follows now) (packet sent) [] line (step model known) out out_now out_rose stop stops
  halts_by out out_now out_rose NoMemory model (inl none) stops = took_none model old out out_now (packet sent ∷ []) stops
  halts_by out out_now out_rose CannotWrite model (inl none) stops = absurd cc
  halts_by out out_now out_rose _ model (inl none) stops = absurd stops

  pub packet_halts : (out out_now : Option (List ℕ)) (out_rose : Type 0) (told : Result (Unit {0}) Stop) → MatchResult told (λ _. IsKnown result) (λ stop. (stop ≡ NoMemory) ⊎ IsKnown result) → IfErr told (TellStops out out_now line out_rose)
      → IfErr told (λ stop. (model : ModelParts) → Halts model old out out_now out_rose stop (packet sent ∷ []))
  packet_halts out out_now out_rose (Ok u) known stops = tt
  packet_halts out out_now out_rose (Err stop) known stops = λ model. halts_by out out_now out_rose stop model known stops
