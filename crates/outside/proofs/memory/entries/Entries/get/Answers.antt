use Rattle.outside.proofs.EntryLemmas.{get_none, get_some}
use Rattle.outside.proofs.memory.entries.Entries.get.Goals as goal

pub returns-in_err-at : goal.returns-in_err-at
returns-in_err-at c = rw (c.from_residual.ensures, ← c.self.view_is) (get_none c.deref.result.now c.self.inside.entries.items c.args.name.now c.deref.ensures.value c.in_err-at.ensures)

pub returns : goal.returns
returns c = rw (c.deref-2.ensures.value, ← c.self.view_is) (get_some c.deref.result.now c.self.inside.entries.items c.args.name.now c.in_ok-at.at c.index.result.now c.deref.ensures.value c.in_ok-at.ensures c.index.ensures)
