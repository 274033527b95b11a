use Rattle.std.proofs.Common.{◌≡◌, ◌≤◌, length}
use Rattle.std.specs.Str.{IsUtf8}
use Rattle.script_read.specs.Lines.{requests_of}
use Rattle.script_read.proofs.requests.next_request.Given as goal

abbrev pub invariant-loop-line : goal.invariant-loop-line
invariant-loop-line l = record { same : requests_of l.rest ≡ requests_of l.text; within : length l.rest ≤ length l.text; utf8 : IsUtf8 l.rest }

abbrev pub decreases-loop-line : goal.decreases-loop-line
decreases-loop-line l = length l.rest
