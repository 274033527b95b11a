use Rattle.std.proofs.Common.{◌≡◌, ◌∙◌, List, ap, subst, sym, true}
use Rattle.policy_desk.proofs.DraftLemmas.{finders_same, one_flat}
use Rattle.policy_table.specs.Changes.{applies, edited}
use Rattle.policy_table.specs.Tables.{AreLists, Policy}
use Rattle.policy_table.specs.declared.change.Change.{Change}
use Rattle.policy_desk.proofs.drafts.Drafts.make.Goals as goal

pub prepare-requires-clause-possible : goal.prepare-requires-clause-possible
prepare-requires-clause-possible c =
    subst (λ (changes : List Change). applies changes c.self.inside.tables.policy ≡ true) (sym (one_flat c.from_ref.result.now c.args.edit.now c.from_ref.ensures.value))
    (subst (λ (p : Policy). applies c.args.edit.now p ≡ true) (sym c.self.view_is) c.requires.possible)

pub prepare-requires-clause-few : goal.prepare-requires-clause-few
prepare-requires-clause-few c =
    subst (λ (changes : List Change). AreLists (edited changes c.self.inside.tables.policy).lists) (sym (one_flat c.from_ref.result.now c.args.edit.now c.from_ref.ensures.value))
    (subst (λ (p : Policy). AreLists (edited c.args.edit.now p).lists) (sym c.self.view_is) c.requires.few)

pub invariant_of-self : goal.invariant_of-self
invariant_of-self c = finders_same c.self.inside.finders c.self.inside.tables c.prepare.new.self c.prepare.ensures.slots c.self.invariant

pub make_all-requires-clause-finders : goal.make_all-requires-clause-finders
make_all-requires-clause-finders c = finders_same c.self.inside.finders c.self.inside.tables c.prepare.new.self c.prepare.ensures.slots c.self.invariant

pub returns-clause-made : goal.returns-clause-made
returns-clause-made c =
    c.make_all.ensures.policy
    ∙ ap (λ (changes : List Change). edited changes c.prepare.new.self.policy) (c.in_ok-prepared.ensures.edits ∙ one_flat c.from_ref.result.now c.args.edit.now c.from_ref.ensures.value)
    ∙ ap (edited c.args.edit.now) (c.prepare.ensures.unchanged ∙ c.self.view_is)
