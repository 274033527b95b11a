use Rattle.std.proofs.Common.{None, Some}
use Rattle.command_words.proofs.WordLemmas.{entries_cut}
use Rattle.command_words.proofs.lists.first_entry.Goals as goal

pub returns-in-Some : goal.returns-in-Some
returns-in-Some c = record { entries = entries_cut c.args.list.now (Some (c.in-Some.entry, c.in-Some.behind)) c.in-Some.ensures.cases }

pub returns-in-None : goal.returns-in-None
returns-in-None c = record { entries = entries_cut c.args.list.now None c.in-None.ensures.cases }
