use Rattle.std.proofs.Common.{◌≡◌, ◌++◌, [], ◌∷◌, ◌∙◌, List, ap, arith, sym, take}
use Rattle.std.proofs.lemmas.List.{take_all, take_more}
use Rattle.policy_table.specs.declared.change.Change.{Change}
use Rattle.version_log.proofs.log.copy_edits.Goals as goal

pub loop-at-preserved : goal.loop-at-preserved
loop-at-preserved c =
    let edits = c.args.edits.now.items in
    let pushed : c.push_back.new.self.items ≡ c.loop-at.copy.items ++ c.in_ok-edit.edit ∷ [] = c.in_ok-push_back.ensures.items in
    pushed
    ∙ ap (λ (l : List (List Change)). l ++ c.in_ok-edit.edit ∷ []) c.loop-at.invariant
    ∙ ap (λ (e : List Change). take c.loop-at.at edits ++ e ∷ []) (c.in_ok-edit.ensures ∙ c.index.ensures)
    ∙ sym (take_more edits c.loop-at.at c.index.result.now (omega (arith, c.loop-at-test.true, c.len-at-end.ensures, c.args.edits.now.ok.0)))

pub returns : goal.returns
returns c = c.loop-at.invariant ∙ take_all c.loop-at.at c.args.edits.now.items (omega (arith, c.loop-at-test.false, c.len-at-end.ensures, c.args.edits.now.ok.0))
