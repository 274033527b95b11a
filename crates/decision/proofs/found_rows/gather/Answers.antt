use Rattle.std.proofs.Common.{IfOk, List, ℕ, [], map, subst, sym}
use Rattle.std.proofs.lemmas.Result.{IfOk-weaker}
use Rattle.perm_value.specs.Seen.{datum}
use Rattle.decision.specs.Helps.FoundRows.{FindsBy, IsSoughtBy, IsSoughtByRoles}
use Rattle.decision.specs.Helps.KeptPlans.{asked_seen, pair_seen}
use Rattle.decision.specs.declared.plan.By.{By}
use Rattle.decision.specs.declared.plan.EqualColumns.{EqualColumns}
use Rattle.decision.proofs.GatherLemmas.{sought_fitting, text_there}
use Rattle.decision.proofs.found_rows.gather.Goals as goal

pub returns-in-Texts : goal.returns-in-Texts
returns-in-Texts c =
    let values = map datum c.args.asking.now.request.now in
    let pairs = map pair_seen c.args.plan.now.pairs.items in
    subst (λ (b : By). IfOk c.gather_texts.result (FindsBy values c.args.asking.now.state.now pairs b c.args.index.now [] c.gather_texts.new.found.items)) (sym c.in-Texts.is)
    (subst (λ (ps : List EqualColumns). IfOk c.gather_texts.result (IsSoughtBy values (map pair_seen ps) [] c.args.index.now [] c.gather_texts.new.found.items)) c.as_slice.ensures.value
    (subst (λ (old : List ℕ). IfOk c.gather_texts.result (IsSoughtBy values (map pair_seen c.as_slice.result.now) [] c.args.index.now old c.gather_texts.new.found.items)) c.requires.empty c.gather_texts.ensures))

pub returns-in-Some : goal.returns-in-Some
returns-in-Some c =
    let values = map datum c.args.asking.now.request.now in
    let pairs = map pair_seen c.args.plan.now.pairs.items in
    let found = c.gather_texts-in-Pattern.new.found.items in
    let value = text_there values c.in-Pattern.fitting.request c.in-Some.asked.now (sym c.in-Some.ensures) in
    subst (λ (b : By). IfOk c.gather_texts-in-Pattern.result (FindsBy values c.args.asking.now.state.now pairs b c.args.index.now [] found)) (sym c.in-Pattern.is)
    (IfOk-weaker c.gather_texts-in-Pattern.result _ _
    (λ g finds. sought_fitting values c.args.asking.now.state.now pairs c.in-Pattern.fitting c.in-Some.asked.now c.args.index.now [] found g value
    (subst (λ (ps : List EqualColumns). IsSoughtBy values (map pair_seen ps) c.in-Some.asked.now c.args.index.now [] found g) c.as_slice-in-Pattern.ensures.value
    (subst (λ (old : List ℕ). IsSoughtBy values (map pair_seen c.as_slice-in-Pattern.result.now) c.in-Some.asked.now c.args.index.now old found g) c.requires.empty finds))) c.gather_texts-in-Pattern.ensures)

pub returns-in-Roles : goal.returns-in-Roles
returns-in-Roles c =
    let values = map datum c.args.asking.now.request.now in
    subst (λ (b : By). IfOk c.gather_roles.result (FindsBy values c.args.asking.now.state.now (map pair_seen c.args.plan.now.pairs.items) b c.args.index.now [] c.gather_roles.new.found.items)) (sym c.in-Roles.is)
    (subst (λ (old : List ℕ). IfOk c.gather_roles.result (IsSoughtByRoles values c.args.asking.now.state.now (asked_seen c.in-Roles.question) c.args.index.now old c.gather_roles.new.found.items)) c.requires.empty c.gather_roles.ensures)
