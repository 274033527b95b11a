use Rattle.std.proofs.Common.{◌≡◌, ◌∷◌, ◌++◌, [], ap, append_assoc, append-nil, arith, length, rules, sym, ◌∙◌}
use Rattle.std.proofs.lemmas.Grind.{common_steps}
use Rattle.live_rounds.proofs.dismissal.put_back.Goals as goal

-- none is left
pub returns-clause-back : goal.returns-clause-back
returns-clause-back g c =
    let inv = c.loop-value.invariant in
    let rest : c.loop-value.value-iterator.rest.items ≡ [] = grind (arith, common_steps) in
    sym (append-nil c.loop-value.values.items) ∙ ap (λ l. c.loop-value.values.items ++ l) (sym rest) ∙ inv.0

-- one more
pub loop-value-preserved : goal.loop-value-preserved
loop-value-preserved g c =
    let inv = c.loop-value.invariant in
    let next = c.next.new.self.rest.items in
    let rest : c.loop-value.value-iterator.rest.items ≡ c.in-Some.value ∷ next = search rules in (
      ap (λ l. l ++ next) c.push_reserved.ensures.items ∙ append_assoc c.loop-value.values.items (c.in-Some.value ∷ []) next ∙ ap (λ l. c.loop-value.values.items ++ l) (sym rest) ∙ inv.0,
      omega (arith, ap length rest, inv.1, c.push_reserved.ensures.len, c.push_reserved.ensures.capacity),
      c.push_reserved.ensures.capacity ∙ inv.2,
    )
