use Rattle.std.proofs.Common.{rules, ◌≡◌, ◌≢◌, ◌+◌, ℕ, true, max, Option, Some, None, length, arith, subst, sym, ap, ◌∙◌}
use Rattle.std.proofs.lemmas.Option.{slice_get_within}
use Rattle.matcher_code.specs.Rules.{height_landing, jump, names_rightly}
use Rattle.matcher_code.specs.Helps.Checks.{IsWalked, clash_with}
use Rattle.matcher_code.proofs.CheckLemmas.{walked_jump, walked_plain}
use Rattle.matcher_code.proofs.HeightLemmas.{height_bound}
use Rattle.matcher_code.proofs.height_walk.walked_past.Goals as goal

pub height_behind-requires : goal.height_behind-requires
height_behind-requires c =
    let within = slice_get_within c.args.ops.now c.args.at c.args.op.now c.requires.there in
    omega (arith, c.requires.few, within, height_bound c.args.ops.now c.args.at c.args.walk.height (omega (arith, within)) c.requires.walked.height)

pub returns-in_default-jump-clause-next : goal.returns-in_default-jump-clause-next
returns-in_default-jump-clause-next c =
    let free : c.args.walk.clash ≢ Some c.args.at = search rules in
    let names : names_rightly c.args.columns c.args.policy_columns c.args.at (length c.args.ops.now) c.args.op.now.instruction ≡ true = search rules in
    let stays : jump c.args.op.now.instruction ≡ None = search rules in
    let so = walked_plain c.args.ops.now c.args.columns c.args.policy_columns c.args.at c.args.walk c.args.op.now c.in-Some.height c.requires.walked c.requires.there free names (sym c.height_behind.ensures ∙ c.in-Some.is) stays in
    subst (λ (n : ℕ). IsWalked c.args.ops.now c.args.columns c.args.policy_columns (c.args.at + 1) (record { height = c.in-Some.height; greatest = n; clash = c.args.walk.clash; known = c.args.walk.known })) (sym c.max-greatest.ensures) so

pub returns-clause-next : goal.returns-clause-next
returns-clause-next c =
    let free : c.args.walk.clash ≢ Some c.args.at = search rules in
    let names : names_rightly c.args.columns c.args.policy_columns c.args.at (length c.args.ops.now) c.args.op.now.instruction ≡ true = search rules in
    let jumps : jump c.args.op.now.instruction ≡ Some c.in-Some-jump.to = search rules in
    let so = walked_jump c.args.ops.now c.args.columns c.args.policy_columns c.args.at c.args.walk c.args.op.now c.in-Some.height c.in-Some-jump.to c.known_at-known.result c.requires.walked c.requires.there free names (sym c.height_behind.ensures ∙ c.in-Some.is) jumps c.known_at-known.ensures.place c.known_at-known.ensures.known in
    let clash : clash_with c.args.walk.clash c.known_at-known.result.place c.known_at-known.result.height (height_landing c.args.op.now.instruction c.args.walk.height) ≡ c.clash_with.result = ap (clash_with c.args.walk.clash c.known_at-known.result.place c.known_at-known.result.height) (sym c.height_landing-landing.ensures) ∙ sym c.clash_with.ensures in
    subst (λ (n : ℕ). IsWalked c.args.ops.now c.args.columns c.args.policy_columns (c.args.at + 1) (record { height = c.in-Some.height; greatest = n; clash = c.clash_with.result; known = c.known_at-known.result })) (sym c.max-greatest.ensures)
    (subst (λ (o : Option ℕ). IsWalked c.args.ops.now c.args.columns c.args.policy_columns (c.args.at + 1) (record { height = c.in-Some.height; greatest = max c.args.walk.greatest c.in-Some.height; clash = o; known = c.known_at-known.result })) clash so)
