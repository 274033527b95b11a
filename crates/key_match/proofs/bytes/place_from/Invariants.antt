use Rattle.std.proofs.Common.{◌≡◌, ◌+◌, ◌==◌, drop}
use Rattle.std.specs.List.{position_or_len}
use Rattle.key_match.proofs.bytes.place_from.Given as goal

abbrev pub invariant-loop-at : goal.invariant-loop-at
invariant-loop-at l =
    l.from + position_or_len (λ byte. byte == l.wanted) (drop l.from l.text) ≡ l.at + position_or_len (λ byte. byte == l.wanted) (drop l.at l.text)
