use Rattle.std.proofs.Common.{ℕ, ◌≡◌, ◌+◌, ◌-◌, drop, take, get_or, refl, ap, sym, ◌∙◌, arith, length-drop}
use Rattle.std.specs.List.{prefix_len}
use Rattle.std.proofs.lemmas.List.{get_or-drop}
use Rattle.key_match.specs.Pieces.{Segment}
use Rattle.key_match.specs.Patterns.{FirstPiece, in_braces}
use Rattle.key_match.specs.Helps.Tokens.{byte_before}
use Rattle.key_match.proofs.Readings.{brace_piece-segment}
use Rattle.key_match.proofs.token.brace_token.Goals as goal

pub returns-then-pattern-end-eq125-clause-first : goal.returns-then-pattern-end-eq125-clause-first
returns-then-pattern-end-eq125-clause-first c =
    let pattern = c.args.pattern.now in
    let at = c.args.at in
    let after = drop (at + 1) pattern in
    let n = prefix_len in_braces after in
    let end : c.name_end-end.result ≡ at + 1 + n = c.name_end-end.ensures.end in
    let closes : get_or after n 0 ≡ 125 =
    get_or-drop (at + 1) pattern n 0 ∙ ap (λ k. get_or pattern k 0) (sym end) ∙ c.if-pattern-end-eq125.true in
    let whole = brace_piece-segment (byte_before pattern at) (get_or pattern at 0) n after refl c.if-pattern-at-ne123.false (omega arith) (omega (arith, length-drop {A = ℕ})) closes in
    record {
      piece =
          let e : c.name_end-end.result - (at + 1) ≡ n = omega arith in
          ap (λ k. Segment (take k after)) e ∙ sym (ap (λ (first : FirstPiece). first.piece) whole);
      next = let e = ap (λ (first : FirstPiece). first.further) whole in omega arith;
    }
