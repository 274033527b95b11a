use Rattle.std.proofs.Common.{ℕ, take, sym, subst}
use Rattle.std.specs.Str.{IsUtf8}
use Rattle.file_lint.proofs.CutLemmas.{word_utf8}
use Rattle.file_lint.proofs.mended.word_front.Goals as goal

pub unreachable-requires : goal.unreachable-requires
unreachable-requires c = c.in_default.ensures.cases.0 (subst (λ (n : ℕ). IsUtf8 (take n c.args.text.now)) (sym c.word_length-end.ensures.value) (word_utf8 c.args.text.now))
