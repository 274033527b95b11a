-- Objects in memory that fail at listed calls, the calls being numbered from 1.
use Rattle.std.specs.Prelude.{ℕ, ◌+◌, ◌-◌, ◌^◌, ◌==◌, ◌&&◌, ◌||◌, ◌++◌, [], Bool, List, Option, if◌then◌else◌, is_some, length, min, not, take}
use Rattle.std.specs.List.{list_any}
use Rattle.outside.specs.Faults.{most_faults}
use Rattle.outside.specs.Files.{file_of}
use Rattle.outside.specs.declared.fetch_log.FetchCall.{FetchCall}

-- which calls fail, how many calls there were, and how many failed
pub record Schedule : Type 0 where
  pub fails : List ℕ
  pub calls : ℕ
  pub faults : ℕ

-- before the first call
abbrev pub fresh : List ℕ → Schedule
fresh fails = record { fails = fails; calls = 0; faults = 0 }

-- the number of the next call; the counter stands still at its end
abbrev pub next_call : Schedule → ℕ
next_call schedule = min (schedule.calls + 1) (2 ^ 32 - 1)

-- the next call is a listed one
abbrev pub is_listed : Schedule → Bool
is_listed schedule = list_any (λ (call : ℕ). call == next_call schedule) schedule.fails

-- after a call
abbrev pub after_call : Schedule → Schedule
after_call schedule = record schedule { calls = next_call schedule }

-- with one fault more
abbrev pub after_fault : Schedule → Schedule
after_fault schedule = record schedule { faults = min (schedule.faults + 1) most_faults }

-- after a call that failed, or did not
abbrev pub after_call_that : Bool → Schedule → Schedule
after_call_that fails schedule = if fails then after_fault (after_call schedule) else after_call schedule

-- a source: the bytes that are left, and how often it has answered that it is at its end
pub record ListedSource : Type 0 where
  pub left : List ℕ
  pub ends : ℕ
  pub schedule : Schedule

-- a sink: the bytes that it took, how many it takes in all, and how many at a call
pub record ListedSink : Type 0 where
  pub taken : List ℕ
  pub room : ℕ
  pub most : ℕ
  pub schedule : Schedule

-- a sink before the first call
abbrev pub empty_sink : ℕ → ℕ → List ℕ → ListedSink
empty_sink room most fails = record { taken = []; room = room; most = most; schedule = fresh fails }

-- how many bytes of a piece it takes at a call that does not fail
abbrev pub taken_of : ListedSink → List ℕ → ℕ
taken_of sink piece = min (min (length piece) sink.most) (sink.room - length sink.taken)

-- the next push fails: it is a listed call, or the sink is full and the piece is not empty
abbrev pub push_fails : ListedSink → List ℕ → Bool
push_fails sink piece = is_listed sink.schedule || ((sink.room - length sink.taken == 0) && not (length piece == 0))

-- after a push
abbrev pub after_push : ListedSink → List ℕ → ListedSink
after_push sink piece = record sink {
  taken = if push_fails sink piece then sink.taken else sink.taken ++ take (taken_of sink piece) piece;
  schedule = after_call_that (push_fails sink piece) sink.schedule;
}

-- a shelf: names and bytes, and the fetches as far as it tells them
pub record ListedShelf : Type 0 where
  pub entries : List (List ℕ × List ℕ)
  pub log : Option (List FetchCall)
  pub schedule : Schedule

-- the next fetch of the name fails: it is a listed call, and the file is there
abbrev pub fetch_fails : ListedShelf → List ℕ → Bool
fetch_fails shelf name = is_listed shelf.schedule && is_some (file_of shelf.entries name)

-- after a fetch of the name, apart from its log
abbrev pub after_fetch : ListedShelf → List ℕ → ListedShelf
after_fetch shelf name = record shelf { schedule = after_call_that (fetch_fails shelf name) shelf.schedule }
