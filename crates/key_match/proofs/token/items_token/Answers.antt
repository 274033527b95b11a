use Rattle.std.proofs.Common.{ℕ, ◌≡◌, ◌+◌, ◌-◌, drop, take, refl, ap, sym, ◌∙◌, arith, length-drop}
use Rattle.std.specs.List.{prefix_len}
use Rattle.key_match.specs.Pieces.{One, Class}
use Rattle.key_match.specs.Patterns.{FirstPiece, in_class, ranges_of}
use Rattle.key_match.proofs.Readings.{items_or_literal-class}
use Rattle.key_match.proofs.token.items_token.Goals as goal

pub returns-then-end-pattern-clause-first : goal.returns-then-end-pattern-clause-first
returns-then-end-pattern-clause-first c =
    let pattern = c.args.pattern.now in
    let start = c.args.start in
    let body = drop start pattern in
    let n = prefix_len in_class body in
    let end : c.place_from-end.result ≡ start + n = c.place_from-end.ensures.place in
    let whole = items_or_literal-class c.args.negated (start - (c.args.at + 1)) n body refl (omega arith) (omega (arith, length-drop {A = ℕ})) in
    record {
      piece =
          let e : c.place_from-end.result - start ≡ n = omega arith in
          ap (λ k. One (Class c.args.negated (ranges_of (take k body)))) e ∙ sym (ap (λ (first : FirstPiece). first.piece) whole);
      next = let e = ap (λ (first : FirstPiece). first.further) whole in omega arith;
    }
