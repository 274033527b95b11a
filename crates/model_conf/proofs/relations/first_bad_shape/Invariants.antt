use Rattle.std.proofs.Common.{◌≡◌, drop}
use Rattle.model_conf.specs.Relations.{first_bad_shape}
use Rattle.model_conf.specs.Helps.Seen.{entries_seen}
use Rattle.model_conf.proofs.relations.first_bad_shape.Given as goal

abbrev pub invariant-loop-entry : goal.invariant-loop-entry
invariant-loop-entry l = first_bad_shape (entries_seen (drop l.entry-index l.entries)) ≡ first_bad_shape (entries_seen l.entries)
