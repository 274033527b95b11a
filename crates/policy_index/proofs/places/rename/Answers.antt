use Rattle.std.proofs.Common.{◌+◌, ◌==◌, ◌&&◌, ◌∙◌, ℕ, ap, arith, sym, true≢false}
use Rattle.std.specs.Prelude.{nat_eq}
use Rattle.std.specs.List.{count_by}
use Rattle.std.proofs.lemmas.Bool.{eq-eqb, ne_eqb}
use Rattle.std.proofs.lemmas.Option.{slice_get_within}
use Rattle.policy_index.specs.Helps.Kept.{one_if}
use Rattle.policy_index.specs.Lists.{slots_at}
use Rattle.policy_index.proofs.PlaceLemmas.{renamed_counts, renamed_places, renamed_there}
use Rattle.policy_index.proofs.places.rename.Goals as goal

pub returns-then-from-to-clause-slots : goal.returns-then-from-to-clause-slots
returns-then-from-to-clause-slots c = λ other at. ap (λ (n : ℕ). count_by (nat_eq at) (slots_at c.args.slots.now other) + one_if (c.args.hash == other && n == at)) c.if-from-to.true

pub returns-then-from-to-clause-there : goal.returns-then-from-to-clause-there
returns-then-from-to-clause-there c = λ differs. absurd (true≢false (sym (eq-eqb c.args.from c.args.to c.if-from-to.true) ∙ differs))

pub set-requires : goal.set-requires
set-requires c = slice_get_within (slots_at c.args.slots.now c.args.hash) c.args.place c.args.from (c.requires (ne_eqb c.args.from c.args.to c.if-from-to.false))

pub returns-clause-slots : goal.returns-clause-slots
returns-clause-slots c =
    renamed_counts c.args.slots.now c.set.new.self c.args.hash c.args.from c.args.to c.args.place (c.requires (ne_eqb c.args.from c.args.to c.if-from-to.false)) c.set.ensures.slots

pub returns-clause-room : goal.returns-clause-room
returns-clause-room c = λ other. omega (arith, c.set.ensures.room other)

pub returns-clause-placed : goal.returns-clause-placed
returns-clause-placed c =
    renamed_places c.args.slots.now c.set.new.self c.args.hash c.args.from c.args.to c.args.place (c.requires (ne_eqb c.args.from c.args.to c.if-from-to.false)) c.set.ensures.slots

pub returns-clause-there : goal.returns-clause-there
returns-clause-there c = λ differs. renamed_there c.args.slots.now c.set.new.self c.args.hash c.args.from c.args.to c.args.place (c.requires differs) c.set.ensures.slots
