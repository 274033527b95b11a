use Rattle.std.proofs.Common.{◌≡◌, ℕ, List, get_or, subst, sym}
use Rattle.rbac_query.proofs.CountLemmas.{tells_next}
use Rattle.rbac_query.proofs.permissions.set_of.Goals as goal

pub loop-text-preserved : goal.loop-text-preserved
loop-text-preserved c =
    let texts = c.args.texts.now in
    let at = c.loop-text.text-index in
    let read : c.as_str.result.now ≡ get_or texts at c.as_str.result.now = subst (λ (t : List ℕ). t ≡ get_or texts at t) (sym c.as_str.ensures) c.text-item.is in
    tells_next c.loop-text.set.keys c.insert.new.self.keys c.as_str.result texts at c.loop-text-test.true read c.in_ok-_new.ensures.keys c.loop-text.invariant
