use Rattle.std.proofs.Common.{◌≡◌, ◌+◌, ◌++◌, ◌∷◌, [], ◌∙◌, ap, sym, append_assoc, drop, rules}
use Rattle.std.proofs.lemmas.List.{drop_more}
use Rattle.policy_table.proofs.prepared.push_steps.Goals as goal

pub loop-change-preserved : goal.loop-change-preserved
loop-change-preserved c =
    let before = c.loop-change.steps.items in
    let change = c.change-item.result in
    let at = c.loop-change.change-index in
    let changes = c.args.changes.now in
    let pushed : c.push.new.self.items ≡ before ++ change ∷ [] = search rules in
    ap (λ l. l ++ drop (at + 1) changes) pushed ∙ append_assoc before (change ∷ []) (drop (at + 1) changes)
    ∙ ap (λ x. before ++ x ∷ drop (at + 1) changes) c.change-item.is ∙ ap (λ l. before ++ l) (sym (drop_more changes at change c.loop-change-test.true)) ∙ c.loop-change.invariant
