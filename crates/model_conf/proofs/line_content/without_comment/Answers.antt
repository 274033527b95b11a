use Rattle.std.proofs.Common.{◌≡◌, ◌<◌, None, length, get_or, take, subst, sym, ◌∙◌, arith, rules}
use Rattle.std.proofs.lemmas.Grind.{common_steps}
use Rattle.model_conf.specs.Comments.{IsUncommented}
use Rattle.model_conf.proofs.CommentLemmas.{at_last, at_sharp, uncommented_is}
use Rattle.model_conf.proofs.line_content.without_comment.Goals as goal

pub returns-then-byte-eq35 : goal.returns-then-byte-eq35
returns-then-byte-eq35 c =
    let outside : c.loop-at.quote ≡ None = search rules in
    let within : c.loop-at.at < length c.args.text.now = omega arith in
    let sharp : get_or c.args.text.now c.loop-at.at 0 ≡ 35 = search rules in
    let left : c.range.result.now ≡ take c.loop-at.at c.args.text.now = grind (arith, common_steps) in
    subst (IsUncommented c.args.text.now) (at_sharp c.args.text.now c.loop-at.at within sharp (rw outside at c.loop-at.invariant) ∙ sym left) (uncommented_is c.args.text.now)

pub returns : goal.returns
returns c = subst (IsUncommented c.args.text.now) (at_last c.args.text.now c.loop-at.quote c.loop-at.at (omega arith) c.loop-at.invariant) (uncommented_is c.args.text.now)
