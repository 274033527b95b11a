use Rattle.std.proofs.Common.{◌≡◌, rules, subst, sym, ◌∙◌}
use Rattle.policy_table.specs.Changes.{edited}
use Rattle.policy_table.specs.Limits.{AreSound}
use Rattle.edit_calls.proofs.FrontLemmas.{made_as_one, one_listed, one_sound}
use Rattle.edit_calls.proofs.front.make_admitted.Goals as goal

pub prepare-requires-clause-few : goal.prepare-requires-clause-few
prepare-requires-clause-few c =
    one_listed _ _ c.args.edit.now _ c.from_ref-edits.ensures.value c.requires (sym c.in_ok-admits.ensures ∙ search rules) c.kept.ensures

pub returns-clause-sound : goal.returns-clause-sound
returns-clause-sound c =
    let shapes = c.args.shapes.now in
    let before = c.args.tables.now.policy in
    let edit = c.args.edit.now in
    let edits = c.from_ref-edits.result.now in
    let alone = c.from_ref-edits.ensures.value in
    let made : c.commit.new.self.policy ≡ edited edit before =
    c.commit.ensures.policy ∙ (λ j. edited (c.in_ok-prepared.ensures.edits j) (c.in_ok-prepared.ensures.unchanged j)) ∙ made_as_one shapes before edit edits alone in
    subst (AreSound shapes) (sym made) (one_sound shapes before edit edits alone c.requires (sym c.in_ok-admits.ensures ∙ search rules))
