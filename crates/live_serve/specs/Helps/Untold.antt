-- Why a line was not told.
use Rattle.std.specs.Prelude.{◌≡◌, ℕ, List, Option}
use Rattle.outside.specs.Told.{TookFront}
use Rattle.run_status.specs.declared.stop.Stop.{Stop}
use Rattle.run_status.specs.declared.stop.Stop.TheVariants.{CannotWrite, NoMemory}

-- the sink took a front of it, or nothing
abbrev pub TellStops : Option (List ℕ) → Option (List ℕ) → List ℕ → (out_rose : Type 0) → Stop → Type 0
TellStops out out_now text out_rose CannotWrite = TookFront out out_now text × out_rose
TellStops out out_now text out_rose NoMemory = out_now ≡ out
TellStops out out_now text out_rose _ = ⊥
