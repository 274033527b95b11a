use denote.Shadow.{shadow}
use denote.Text.{Utf8}
use Rattle.std.proofs.Common.{◌+◌, ◌≤◌, length}
use Rattle.model_conf.specs.Helps.Seen.{standing_seen}
use Rattle.model_conf.proofs.ReadLemmas.{HasRead}
use Rattle.model_conf.proofs.entries.read_entries.Given as goal

abbrev pub invariant-loop-line : goal.invariant-loop-line
invariant-loop-line l = record {
  utf8 : shadow (Utf8 l.rest);
  read : HasRead l.text l.rest l.number (standing_seen l.entries);
  few : l.number + length l.rest ≤ length l.text + 1;
}

abbrev pub decreases-loop-line : goal.decreases-loop-line
decreases-loop-line l = length l.rest
