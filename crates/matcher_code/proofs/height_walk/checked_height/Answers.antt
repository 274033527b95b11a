use Rattle.std.proofs.Common.{rules, ◌≡◌, ◌≢◌, ℕ, Some, length, arith, subst}
use Rattle.matcher_code.specs.Helps.Checks.{IsWalked}
use Rattle.matcher_code.proofs.CheckLemmas.{end_verified}
use Rattle.matcher_code.proofs.height_walk.checked_height.Goals as goal

pub returns-clause-verified : goal.returns-clause-verified
returns-clause-verified c =
    let end : c.loop-at.at ≡ length c.args.ops.now = search rules in
    let so = subst (λ (at : ℕ). IsWalked c.args.ops.now c.args.columns c.args.policy_columns at c.loop-at.walk) end c.loop-at.invariant in
    let free : c.loop-at.walk.clash ≢ Some (length c.args.ops.now) = search rules in
    end_verified c.args.ops.now c.args.columns c.args.policy_columns c.loop-at.walk so free (omega (arith, c.if-walk-ne-VALUES_AT_END.false))
