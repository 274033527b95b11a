-- How often a source has answered that it is at its end, where it tells it.
use Rattle.std.specs.Prelude.{◌≡◌, ◌⊎◌, ℕ, ◌==◌, ◌&&◌, Bool, true, false, List, Option, Some, None, Result, Ok, Err, if◌then◌else◌, length, not}
use Rattle.outside.specs.Faults.{one_more}
use Rattle.outside.specs.declared.fault.Failed.{Failed}

-- a pull into this buffer says so: nothing came, and there was room
abbrev pub is_end : List ℕ → Result ℕ Failed → Bool
is_end had (Ok count) = (count == 0) && not (length had == 0)
is_end had (Err failed) = false

-- after an answer that says so, or does not
abbrev pub ends_after : Option ℕ → Bool → Option ℕ
ends_after None said = None
ends_after (Some ends) said = Some (if said then one_more ends else ends)

-- it has said so once at most
abbrev pub IsEndedOnce : Option ℕ → Option ℕ → Type 0
IsEndedOnce ends now = (now ≡ ends) ⊎ (now ≡ ends_after ends true)
