use Rattle.std.proofs.Common.{◌∙◌, ap, refl, subst, sym}
use Rattle.perm_base.specs.declared.shapes.TableId.TheVariants.{P}
use Rattle.policy_table.specs.Slots.{slots, slots_after}
use Rattle.policy_table.specs.declared.change.Change.{Change}
use Rattle.policy_index.specs.Indexed.{IsIndexOf}
use Rattle.policy_index.proofs.FollowLemmas.{behind_is, behind_other, left_other, rest_insert, rest_remove, rest_replace, stands_removed, stands_replaced, when_insert, when_replace}
use Rattle.policy_index.proofs.index.Index.follow.Goals as goal

-- ---- a change of another table

pub returns-then-not-is_of_p-clause-index : goal.returns-then-not-is_of_p-clause-index
returns-then-not-is_of_p-clause-index c = subst (IsIndexOf c.args.self.now) (sym (behind_other c.args.change.now (slots c.args.tables.now P) (sym c.is_of_p.ensures ∙ c.if-not-is_of_p.true))) c.requires.index

pub returns-then-not-is_of_p-clause-ready : goal.returns-then-not-is_of_p-clause-ready
returns-then-not-is_of_p-clause-ready c = λ changes ready. left_other c.args.self.now c.args.self.now c.args.change.now changes (sym c.is_of_p.ensures ∙ c.if-not-is_of_p.true) refl ready

-- ---- a rule that is inserted

pub insert-requires-clause-few : goal.insert-requires-clause-few
insert-requires-clause-few c = (when_insert c.args.self.now c.args.change.now _ (sym c.is_of_p.ensures ∙ c.if-not-is_of_p.false) c.requires.ready.1 _ c.in-Insert.rule c.in-Insert.is).0

pub insert-requires-clause-spare : goal.insert-requires-clause-spare
insert-requires-clause-spare c = (when_insert c.args.self.now c.args.change.now _ (sym c.is_of_p.ensures ∙ c.if-not-is_of_p.false) c.requires.ready.1 _ c.in-Insert.rule c.in-Insert.is).1

pub insert-requires-clause-room : goal.insert-requires-clause-room
insert-requires-clause-room c = (when_insert c.args.self.now c.args.change.now _ (sym c.is_of_p.ensures ∙ c.if-not-is_of_p.false) c.requires.ready.1 _ c.in-Insert.rule c.in-Insert.is).2

pub insert-requires-clause-fits : goal.insert-requires-clause-fits
insert-requires-clause-fits c = (when_insert c.args.self.now c.args.change.now _ (sym c.is_of_p.ensures ∙ c.if-not-is_of_p.false) c.requires.ready.1 _ c.in-Insert.rule c.in-Insert.is).3

pub returns-in-Insert-clause-index : goal.returns-in-Insert-clause-index
returns-in-Insert-clause-index c =
    behind_is c.args.change.now (slots c.args.tables.now P) _ (sym c.is_of_p.ensures ∙ c.if-not-is_of_p.false) (ap (λ (ch : Change). slots_after ch (slots c.args.tables.now P)) c.in-Insert.is) c.insert.new.self c.insert.ensures.index

pub returns-in-Insert-clause-ready : goal.returns-in-Insert-clause-ready
returns-in-Insert-clause-ready c =
    rest_insert c.args.self.now c.insert.new.self c.args.change.now _ c.in-Insert.rule c.in-Insert.is (sym c.is_of_p.ensures ∙ c.if-not-is_of_p.false) c.insert.ensures.key c.insert.ensures.marks c.insert.ensures.spare c.insert.ensures.room

-- ---- one that is removed

pub take-requires-clause-stands : goal.take-requires-clause-stands
take-requires-clause-stands c = stands_removed c.args.change.now c.args.tables.now.policy (sym c.is_of_p.ensures ∙ c.if-not-is_of_p.false) c.requires.possible _ c.in-Remove.rule c.in-Remove.is

pub returns-in-Remove-clause-index : goal.returns-in-Remove-clause-index
returns-in-Remove-clause-index c =
    behind_is c.args.change.now (slots c.args.tables.now P) _ (sym c.is_of_p.ensures ∙ c.if-not-is_of_p.false) (ap (λ (ch : Change). slots_after ch (slots c.args.tables.now P)) c.in-Remove.is) c.take.new.self c.take.ensures.index

pub returns-in-Remove-clause-ready : goal.returns-in-Remove-clause-ready
returns-in-Remove-clause-ready c = rest_remove c.args.self.now c.take.new.self c.args.change.now _ c.in-Remove.rule c.in-Remove.is c.take.ensures.key c.take.ensures.marks c.take.ensures.spare c.take.ensures.room

-- ---- one that comes for another

pub replace-requires-clause-stands : goal.replace-requires-clause-stands
replace-requires-clause-stands c = stands_replaced c.args.change.now c.args.tables.now.policy (sym c.is_of_p.ensures ∙ c.if-not-is_of_p.false) c.requires.possible _ c.in-Replace.old c.in-Replace.new c.in-Replace.is

pub replace-requires-clause-room : goal.replace-requires-clause-room
replace-requires-clause-room c = (when_replace c.args.self.now c.args.change.now _ (sym c.is_of_p.ensures ∙ c.if-not-is_of_p.false) c.requires.ready.1 _ c.in-Replace.old c.in-Replace.new c.in-Replace.is).0

pub replace-requires-clause-fits : goal.replace-requires-clause-fits
replace-requires-clause-fits c = (when_replace c.args.self.now c.args.change.now _ (sym c.is_of_p.ensures ∙ c.if-not-is_of_p.false) c.requires.ready.1 _ c.in-Replace.old c.in-Replace.new c.in-Replace.is).1

pub returns-in-Replace-clause-index : goal.returns-in-Replace-clause-index
returns-in-Replace-clause-index c =
    behind_is c.args.change.now (slots c.args.tables.now P) _ (sym c.is_of_p.ensures ∙ c.if-not-is_of_p.false) (ap (λ (ch : Change). slots_after ch (slots c.args.tables.now P)) c.in-Replace.is) c.replace.new.self c.replace.ensures.index

pub returns-in-Replace-clause-ready : goal.returns-in-Replace-clause-ready
returns-in-Replace-clause-ready c =
    rest_replace c.args.self.now c.replace.new.self c.args.change.now _ c.in-Replace.old c.in-Replace.new c.in-Replace.is (sym c.is_of_p.ensures ∙ c.if-not-is_of_p.false) c.replace.ensures.key c.replace.ensures.marks c.replace.ensures.spare c.replace.ensures.room
