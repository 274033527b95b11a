use Rattle.std.proofs.Common.{◌≡◌, ◌∙◌, ◌++◌, ◌∷◌, [], ap, arith, length, sym, subst, true}
use Rattle.policy_index.specs.Hashes.{mark_of}
use Rattle.policy_index.specs.Indexed.{Indexed}
use Rattle.policy_index.specs.Keys.{KeyParts, is_below}
use Rattle.policy_index.specs.declared.mark.Mark.{Mark}
use Rattle.policy_index.proofs.CommitLemmas.{index_pushed}
use Rattle.policy_index.proofs.index.Index.append.Goals as goal

pub mark_of-mark-requires : goal.mark_of-mark-requires
mark_of-mark-requires c = sym c.has_columns.ensures ∙ c.if-not-has_columns.false

pub add-requires : goal.add-requires
add-requires c = record { few = omega (arith, c.has_room.ensures c.if-not-has_room.false, c.len.ensures, c.self.inside.marks.ok.0, ap (λ (i : Indexed). length i.marks) c.self.view_is) }

pub returns-clause-rows : goal.returns-clause-rows
returns-clause-rows c = λ ok by_slot is.
    index_pushed c.args.self.now c.add.new.self by_slot is c.add.ensures.key c.args.rule.now (omega (arith, c.has_room.ensures c.if-not-has_room.false, c.len.ensures, c.self.inside.marks.ok.0, ap (λ (i : Indexed). length i.marks) c.self.view_is))
    (subst (λ (k : KeyParts). is_below (length c.args.rule.now) k ≡ true) (ap (λ (i : Indexed). i.key) c.self.view_is) (sym c.has_columns.ensures ∙ c.if-not-has_columns.false))
    (c.in-Ok.ensures.marks ∙ ap (λ (m : Mark). c.args.self.now.marks ++ m ∷ []) (c.mark_of-mark.ensures ∙ ap (λ (i : Indexed). mark_of i.key c.args.rule.now) c.self.view_is))
