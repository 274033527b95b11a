use Rattle.std.proofs.Common.{◌≡◌, take}
use Rattle.role_domain.specs.Helps.Copies.{content_of, contents_of}
use Rattle.role_graph.proofs.CopyLemmas.{key_text, seen}
use Rattle.role_domain.proofs.domains.Domains.copy.Given as goal

abbrev pub invariant-loop-at : goal.invariant-loop-at
invariant-loop-at l = seen key_text content_of l.entries.entries ≡ take l.at (contents_of l.self.entries)
