-- The fetches of a shelf, as far as it tells them.
use Rattle.std.specs.Prelude.{◌≡◌, Bool, true, false, ◌++◌, List, Option, Some, None, Result, Err, ℕ, ⊤}
use Rattle.std.specs.Global.{Vec}
use Rattle.outside.specs.declared.fetch_log.FetchCall.{FetchCall}
use Rattle.outside.specs.declared.shelf.Fetch.{Fetch}
use Rattle.outside.specs.declared.shelf.Fetch.TheVariants.{Failed}

-- a fetch of the file of that name, which failed or did not
abbrev pub call : List ℕ → Bool → FetchCall
call name failed = record { name = name; failed = failed }

-- the shelf failed
abbrev pub has_failed : Result (Vec ℕ) Fetch → Bool
has_failed (Err Failed) = true
has_failed _ = false

-- what is told now was told before, with these calls behind it; what is no longer told says nothing
abbrev pub Adds : (before now : Option (List FetchCall)) → List FetchCall → Type 0
Adds before None calls = ⊤
Adds before (Some now) calls = (earlier : List FetchCall) × (before ≡ Some earlier) × (now ≡ earlier ++ calls)
