use Rattle.std.proofs.Common.{refl}
use Rattle.outside.proofs.EntryLemmas.{put_none, put_some}
use Rattle.outside.proofs.memory.entries.Entries.put.Goals as goal

pub returns-clause-ok : goal.returns-clause-ok
returns-clause-ok c = λ other. rw (← c.self.view_is) (put_some c.deref.result.now c.self.inside.entries.items c.as_str.result.now c.args.name other c.in-Some.at c.index_mut.result.now c.args.bytes c.deref.ensures.value c.as_str.ensures c.in-Some.ensures c.index_mut.ensures.value)

pub returns-in_default-clause-ok : goal.returns-in_default-clause-ok
returns-in_default-clause-ok c = λ other. rw (← c.self.view_is, c.in_ok-push.ensures.items) (put_none c.deref.result.now c.self.inside.entries.items c.as_str.result.now c.args.name other _ c.deref.ensures.value c.as_str.ensures c.in_default.ensures refl)
