use Rattle.std.proofs.Common.{rules, ◌≡◌, ◌++◌, ◌∷◌, [], length, Some}
use Rattle.matcher_code.specs.Compiled.{joins, op_at, skip}
use Rattle.matcher_code.proofs.BuildOps.{skip_is}
use Rattle.matcher_code.proofs.build_ops.push_join.Goals as goal

pub returns-in-Some-clause-code : goal.returns-in-Some-clause-code
returns-in-Some-clause-code c = λ front right at old.
    let found : skip c.args.operator c.len.result ≡ Some c.in-Some.instruction = search rules in
    let pushed : c.push.new.ops.items ≡ c.args.ops.now.items ++ op_at c.args.at (joins c.args.operator) ∷ [] = search rules in
    let last : c.len.result ≡ length c.push.new.ops.items = search rules in
    skip_is c.args.at c.args.operator c.in-Some.instruction c.len.result c.args.skipping front right c.args.ops.now.items c.push.new.ops.items found at old pushed last
