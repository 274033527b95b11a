use Rattle.std.proofs.Common.{◌≡◌, ℕ, [], List, drop, ap, sym, ◌∙◌, arith}
use Rattle.std.specs.List.{list_any}
use Rattle.std.proofs.lemmas.List.{drop_all}
use Rattle.key_match.specs.Pieces.{in_range}
use Rattle.key_match.specs.Patterns.{ranges_of}
use Rattle.key_match.proofs.token.is_among.Goals as goal

pub returns : goal.returns
unfolding ranges_of
returns c =
    let ended : drop c.loop-at.at c.args.items.now ≡ [] = drop_all c.loop-at.at c.args.items.now (omega arith) in
    sym (ap (λ (items : List ℕ). list_any (in_range c.args.byte) (ranges_of items)) ended) ∙ c.loop-at.invariant
