use Rattle.std.proofs.Common.{List, ℕ, arith, subst, take}
use Rattle.std.proofs.lemmas.List.{take_all}
use Rattle.policy_index.specs.Hashes.{IsKeyOf}
use Rattle.policy_index.specs.Helps.Filters.{texts_of}
use Rattle.policy_index.proofs.FilterLemmas.{texts_more}
use Rattle.policy_index.proofs.filters.values_hash.Goals as goal

pub loop-place-init : goal.loop-place-init
loop-place-init c = c.start_hash-hash.ensures.none

pub loop-place-preserved : goal.loop-place-preserved
loop-place-preserved c =
    texts_more c.args.values.now c.loop-place.place c.hash_value-hash.result c.value_at.result.now c.loop-place-test.true c.value_at.ensures
    (c.hash_value-hash.ensures (texts_of (take c.loop-place.place c.args.values.now)) c.loop-place.invariant)

pub returns : goal.returns
returns c = subst (λ (l : List (List ℕ)). IsKeyOf c.loop-place.hash (texts_of l)) (take_all c.loop-place.place c.args.values.now (omega (arith, c.loop-place-test.false))) c.loop-place.invariant
