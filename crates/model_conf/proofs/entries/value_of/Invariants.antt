use Rattle.std.proofs.Common.{◌≡◌, drop}
use Rattle.model_conf.specs.Relations.{value_of}
use Rattle.model_conf.specs.Helps.Seen.{entries_seen}
use Rattle.model_conf.proofs.entries.value_of.Given as goal

abbrev pub invariant-loop-entry : goal.invariant-loop-entry
invariant-loop-entry l = value_of (entries_seen (drop l.entry-index l.entries)) l.key ≡ value_of (entries_seen l.entries) l.key
