use Rattle.std.specs.List.{Contains}
use Rattle.near_miss.proofs.OneLemmas.{misses_one}
use Rattle.near_miss.proofs.laws.near_misses_are_one.Goals as goal

pub returns : goal.returns
returns c shapes policy request parts most refused others first second unread no_other =
    misses_one shapes policy request (Contains refused) (Contains others)
    (record { one = c.case_answer_is_unique.ensures.truth; same = c.unreadable_patterns_are_refused_without_effect.ensures.truth; unread = unread; unread_too = no_other }) parts most first second
