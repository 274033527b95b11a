use Rattle.std.proofs.Common.{◌∙◌, ◌++◌, ◌∷◌, [], List, ℕ, ap, arith, subst, sym, take}
use Rattle.std.proofs.lemmas.List.{take_all, take_more}
use Rattle.policy_index.specs.Found.{AddsSlots}
use Rattle.policy_index.specs.Keys.{agrees}
use Rattle.decision.specs.Helps.FoundRows.{GathersNames}
use Rattle.decision.proofs.GatherLemmas.{names_more, names_none}
use Rattle.decision.proofs.found_rows.gather_names.Goals as goal

pub loop-name-init : goal.loop-name-init
loop-name-init c = names_none c.args.index.now c.args.found.now.items

pub loop-name-preserved : goal.loop-name-preserved
loop-name-preserved c =
    subst (λ (names : List (List ℕ)). GathersNames names c.args.index.now c.args.found.now.items c.gather.new.slots.items)
    (sym (take_more c.fields-name-items.result.now c.loop-name.name-index c.name-item.result c.loop-name-test.true ∙ ap (λ (n : List ℕ). take c.loop-name.name-index c.fields-name-items.result.now ++ n ∷ []) (sym c.name-item.is)))
    (names_more c.args.index.now (take c.loop-name.name-index c.fields-name-items.result.now) c.name-item.result c.args.found.now.items c.loop-name.found.items c.gather.new.slots.items c.loop-name.invariant
    (λ by_slot is. subst (λ (n : List ℕ). AddsSlots (agrees c.args.index.now.key (n ∷ []) []) by_slot c.loop-name.found.items c.gather.new.slots.items) c.bytes.ensures.value (c.in_ok-gather.ensures by_slot (c.bytes.result.now ∷ []) is (c.hash_with.ensures.more [] c.start_hash.ensures.none))))

pub returns : goal.returns
returns c =
    subst (λ (names : List (List ℕ)). GathersNames names c.args.index.now c.args.found.now.items c.loop-name.found.items)
    (take_all c.loop-name.name-index c.fields-name-items.result.now (omega (arith, c.loop-name-test.false)) ∙ c.fields-name-items.ensures.value) c.loop-name.invariant
