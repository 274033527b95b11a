use Rattle.std.specs.Prelude.{nat_eq}
use Rattle.std.proofs.lemmas.List.Filters.{dedup_is}
use Rattle.policy_query.proofs.FoundLemmas.{ordered_keeps, ordered_rising, ordered_within}
use Rattle.policy_query.proofs.named.put_in_order.Goals as goal

pub returns-clause-rising : goal.returns-clause-rising
returns-clause-rising c =
    ordered_rising c.sort_unstable.new.self.items c.dedup.new.self.items c.sort_unstable.ensures.sorted (dedup_is nat_eq c.sort_unstable.new.self.items c.dedup.new.self.items c.dedup.ensures.filtered)

pub returns-clause-within : goal.returns-clause-within
returns-clause-within c = λ bound all.
    ordered_within bound c.args.places.now.items c.sort_unstable.new.self.items c.dedup.new.self.items c.sort_unstable.ensures.permutation (dedup_is nat_eq c.sort_unstable.new.self.items c.dedup.new.self.items c.dedup.ensures.filtered) all

pub returns-clause-keeps : goal.returns-clause-keeps
returns-clause-keeps c = λ at stands.
    ordered_keeps c.args.places.now.items c.sort_unstable.new.self.items c.dedup.new.self.items at c.sort_unstable.ensures.permutation (dedup_is nat_eq c.sort_unstable.new.self.items c.dedup.new.self.items c.dedup.ensures.filtered) stands
