-- The fetches that a log holds.
use Rattle.std.specs.Prelude.{List, Option, option_map}
use Rattle.std.specs.Global.{Vec}
use Rattle.outside.specs.declared.fetch_log.FetchCall.{FetchCall}

-- the calls of a log that is not lost
abbrev pub log_of : Option (Vec FetchCall) → Option (List FetchCall)
log_of held = option_map (λ (calls : Vec FetchCall). calls.items) held
