-- What is seen of the outside at one moment.
use Rattle.std.specs.Prelude.{◌≡◌, ℕ, List, Option}
use Rattle.outside.specs.declared.fetch_log.FetchCall.{FetchCall}
use Rattle.regex_gate.specs.Refusals.{Refusals}

-- what the shelf was asked for, what is left of the input, what `out` and `err` have taken, where they tell it, how often each has
-- failed, and what the finder has refused
pub record Moment : Type 0 where
  pub calls : Option (List FetchCall)
  pub shelf_faults : ℕ
  pub left : Option (List ℕ)
  pub input_faults : ℕ
  pub out : Option (List ℕ)
  pub out_faults : ℕ
  pub err : Option (List ℕ)
  pub err_faults : ℕ
  pub refused : Refusals

abbrev pub moment : Option (List FetchCall) → ℕ → Option (List ℕ) → ℕ → Option (List ℕ) → ℕ → Option (List ℕ) → ℕ → Refusals → Moment
moment calls shelf_faults left input_faults out out_faults err err_faults refused =
    record {
      calls = calls;
      shelf_faults = shelf_faults;
      left = left;
      input_faults = input_faults;
      out = out;
      out_faults = out_faults;
      err = err;
      err_faults = err_faults;
      refused = refused;
    }

-- nothing but the shelf was asked
abbrev pub AskedShelf : Moment → Moment → Type 0
AskedShelf before now = now ≡ record before { calls = now.calls; shelf_faults = now.shelf_faults }

-- nothing but `err` was asked
abbrev pub AskedErr : Moment → Moment → Type 0
AskedErr before now = now ≡ record before { err = now.err; err_faults = now.err_faults }
