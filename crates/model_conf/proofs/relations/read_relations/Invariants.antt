use Rattle.std.proofs.Common.{◌≡◌, ◌-◌, ◌++◌, drop}
use Rattle.matcher_read.specs.Calls.{relation_names}
use Rattle.model_conf.specs.Relations.{relations_from, relations_of}
use Rattle.model_conf.specs.Helps.Seen.{entries_seen}
use Rattle.model_conf.proofs.relations.read_relations.Given as goal

abbrev pub invariant-loop-number : goal.invariant-loop-number
invariant-loop-number l = l.relations.items ++ relations_from (entries_seen l.entries) l.number (drop (l.number - 1) relation_names) ≡ relations_of (entries_seen l.entries)
