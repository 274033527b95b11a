use Rattle.std.proofs.Common.{rules, ◌≡◌, ◌≤◌, sym, subst, ℕ}
use Rattle.std.proofs.lemmas.Bool.{false≢true}
use Rattle.matcher_read.specs.Expression.{expression, nodes}
use Rattle.matcher_code.specs.Compiled.{code_of}
use Rattle.matcher_code.specs.Helps.NodePlaces.{placed}
use Rattle.matcher_code.specs.Rules.{IsVerified}
use Rattle.matcher_code.proofs.BuildCode.{code_keeps}
use Rattle.matcher_code.proofs.builder.code_from.Goals as goal

pub unreachable-requires : goal.unreachable-requires
unreachable-requires c =
    let made : c.push.new.ops.items ≡ code_of c.args.model.now (placed c.args.place (expression c.args.tree.now)) = search rules in
    let keeps = code_keeps c.args.model.now c.args.place (expression c.args.tree.now) c.push.new.ops.items c.requires.kept c.requires.sound c.requires.declared made in
    let verified : IsVerified c.push.new.ops.items c.len-columns.result c.len.result = search (rules, keeps.0) in
    absurd (false≢true (c.in-Err.ensures.only verified))

pub returns-clause-height : goal.returns-clause-height
returns-clause-height c =
    let made : c.push.new.ops.items ≡ code_of c.args.model.now (placed c.args.place (expression c.args.tree.now)) = search rules in
    let keeps = code_keeps c.args.model.now c.args.place (expression c.args.tree.now) c.push.new.ops.items c.requires.kept c.requires.sound c.requires.declared made in
    subst (λ (n : ℕ). n ≤ nodes (expression c.args.tree.now)) (sym c.in-Ok.ensures.height) keeps.1
