use Rattle.std.proofs.Common.{◌≡◌, ◌≤◌, ◌++◌, length, take, subst, sym, ◌∙◌, List, ℕ, arith}
use Rattle.std.proofs.lemmas.Grind.{common_steps}
use Rattle.item_stream.proofs.KeepLemmas.{kept_more, kept_within}
use Rattle.item_stream.specs.Lines.{kept}
use Rattle.item_stream.proofs.line_bytes.keep.Goals as goal

pub returns-clause-kept : goal.returns-clause-kept
returns-clause-kept c =
    let all : c.extend_from_slice.new.self.items ≡ c.args.line.now.items ++ take c.min-count.result c.args.more.now = grind (arith, common_steps) in
    all ∙ kept_more c.min-count.result c.args.line.now.items c.args.more.now (omega (arith, c.requires, c.args.line.now.ok.0)) (omega (arith, c.min-count.ensures))

pub returns-clause-short : goal.returns-clause-short
returns-clause-short c =
    let all : c.extend_from_slice.new.self.items ≡ c.args.line.now.items ++ take c.min-count.result c.args.more.now = grind (arith, common_steps) in
    let is : c.extend_from_slice.new.self.items ≡ kept (c.args.line.now.items ++ c.args.more.now) = all ∙ kept_more c.min-count.result c.args.line.now.items c.args.more.now (omega (arith, c.requires, c.args.line.now.ok.0)) (omega (arith, c.min-count.ensures)) in
    let within : length c.extend_from_slice.new.self.items ≤ 65537 = subst (λ (l : List ℕ). length l ≤ 65537) (sym is) (kept_within (c.args.line.now.items ++ c.args.more.now)) in
    omega (arith, within, c.extend_from_slice.new.self.ok.0)
