use Rattle.std.proofs.Common.{◌≡◌, ℕ, ◌-◌, take, ap, ◌∙◌, arith}
use Rattle.std.proofs.lemmas.Str.{IsCharBoundary-after_ascii}
use Rattle.text_parts.specs.Lines.{has_byte}
use Rattle.text_parts.proofs.CallerLemmas.{front_lacks, held_there, nowhere_lacks}
use Rattle.text_parts.proofs.cuts.cut_at.Goals as goal

pub range_from-requires : goal.range_from-requires
range_from-requires c = λ some.
    let there = held_there c.args.byte c.args.text.now c.as_bytes.result.now c.in-Some.at c.in-Some.ensures.0 c.in-Some.ensures.1 c.as_bytes.ensures.value in
    IsCharBoundary-after_ascii c.args.text.now c.in-Some.at c.utf8.text there.0 (omega (arith, there.1, c.requires))

pub returns-in-Some-clause-first : goal.returns-in-Some-clause-first
returns-in-Some-clause-first c =
    let size : c.in-Some.at - 0 ≡ c.in-Some.at = omega arith in
    ap (has_byte c.args.byte) (c.range.ensures.value ∙ ap (λ (n : ℕ). take n c.args.text.now) size) ∙ front_lacks c.args.byte c.args.text.now c.as_bytes.result.now c.in-Some.at c.in-Some.ensures.0 c.as_bytes.ensures.value

pub returns-in-None-clause-none : goal.returns-in-None-clause-none
returns-in-None-clause-none c = nowhere_lacks c.args.byte c.args.text.now c.as_bytes.result.now c.in-None.ensures c.as_bytes.ensures.value
