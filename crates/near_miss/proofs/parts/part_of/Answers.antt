use Rattle.std.proofs.Common.{rules, ◌≡◌, List, ℕ, true, ap, ◌∙◌, subst}
use Rattle.std.proofs.lemmas.Result.{IfOk-weaker}
use Rattle.matcher_read.specs.Expression.{Expression, expression}
use Rattle.model_conf.specs.ModelText.{IsModel}
use Rattle.model_conf.specs.Printed.{printed}
use Rattle.near_miss.specs.Parts.{part_text, with_matcher}
use Rattle.near_miss.specs.Written.{written}
use Rattle.near_miss.specs.Helps.MadeParts.{IsUnread}
use Rattle.near_miss.proofs.PartLemmas.{not_said, other_tree, unread_gives}
use Rattle.near_miss.proofs.parts.part_of.Goals as goal

pub returns-in-Err : goal.returns-in-Err
returns-in-Err c =
    let bytes_are : c.deref.result.now ≡ printed (with_matcher c.args.model.now (part_text (expression c.args.tree.now))) = search rules in
    IfOk-weaker c.unread.result (IsUnread c.in-Err.fault) _
    (λ found is. unread_gives c.faulty_text_is_no_model.ensures c.args.model.now (expression c.args.tree.now) c.deref.result.now c.in-Err.fault bytes_are c.in-Err.ensures.fault found is) c.unread.ensures

pub returns-then-not-branch : goal.returns-then-not-branch
returns-then-not-branch c =
    let part = expression c.args.tree.now in
    let bytes_are : c.deref.result.now ≡ printed (with_matcher c.args.model.now (part_text part)) = search rules in
    let said : IsModel (printed (with_matcher c.args.model.now (part_text part))) c.in-Ok.own = subst (λ (l : List ℕ). IsModel l c.in-Ok.own) bytes_are c.in-Ok.ensures.found in
    other_tree c.text_says_one_model.ensures c.args.model.now c.in-Ok.own part said
    (λ same. not_said c.in_ok-is_same.field-0 (written true (expression c.matcher.result.now) ≡ written true part) c.in_ok-is_same.ensures c.if-not-branch.true
    (ap (λ (e : Expression). written true e) c.matcher.ensures.value ∙ same))
