use Rattle.std.proofs.Common.{◌≡◌, ◌∷◌, [], map, sym, ap, ◌∙◌, arith}
use Rattle.std.proofs.lemmas.List.{length-map}
use Rattle.matcher_read.specs.Expression.{Expression, expression, count, expressions_of}
use Rattle.model_conf.specs.Helps.Misuses.{column_misuse, earlier, role_misuse}
use Rattle.model_conf.specs.Uses.{uses, of_relation}
use Rattle.model_conf.proofs.TreeLemmas.{literal_uses, policy_uses, expression-Request, expression-Binary, expression-Among, expression-Role}
use Rattle.model_conf.proofs.UseLemmas.{count-expressions_of, misuse_begin, misuse_end, misuse_in, misuse_in-append, misuse_in-none, misuse_in-request, misuse_in-role, misuse_step, policy_misuse}
use Rattle.model_conf.proofs.uses.Declared.+first_misuse.Goals as goal

pub returns-in-Text : goal.returns-in-Text
returns-in-Text t c =
    let d = c.args.self.now in
    sym (ap (misuse_in d.request.now d.policy.now d.relations.now) (literal_uses c.args.tree.now c.in-Text.is) ∙ misuse_in-none d.request.now d.policy.now d.relations.now)

pub returns-in-Text-2 : goal.returns-in-Text-2
returns-in-Text-2 t c =
    let d = c.args.self.now in
    sym (ap (misuse_in d.request.now d.policy.now d.relations.now) (literal_uses c.args.tree.now c.in-Text.is) ∙ misuse_in-none d.request.now d.policy.now d.relations.now)

pub returns-in-Text-3 : goal.returns-in-Text-3
returns-in-Text-3 t c =
    let d = c.args.self.now in
    sym (ap (misuse_in d.request.now d.policy.now d.relations.now) (literal_uses c.args.tree.now c.in-Text.is) ∙ misuse_in-none d.request.now d.policy.now d.relations.now)

pub returns-in-Request : goal.returns-in-Request
returns-in-Request t c =
    let d = c.args.self.now in
    let is = ap expression c.in-Request.is ∙ expression-Request c.in-Request.at c.in-Request.column c.in-Request.path in
    c.column_misuse.ensures ∙ ap (column_misuse d.request.now c.in-Request.at) c.as_str.ensures ∙ sym (misuse_in-request d.request.now d.policy.now d.relations.now c.in-Request.at c.in-Request.column)
    ∙ ap (λ (e : Expression). misuse_in d.request.now d.policy.now d.relations.now (uses e)) (sym is)

pub returns-in-Policy : goal.returns-in-Policy
returns-in-Policy t c = policy_misuse c.args.self.now.request.now c.args.self.now.policy.now c.args.self.now.relations.now c.args.tree.now c.in-Policy.at c.in-Policy.column _ _ (policy_uses c.args.tree.now c.in-Policy.at c.in-Policy.column c.in-Policy.is) c.as_str-in-Policy.ensures c.column_misuse-in-Policy.ensures

pub returns-in-Binary : goal.returns-in-Binary
returns-in-Binary t c =
    let d = c.args.self.now in
    let is = ap expression c.in-Binary.is ∙ expression-Binary c.in-Binary.at c.in-Binary.operator c.in-Binary.left c.in-Binary.right in
    let left = c.first_misuse.ensures ∙ ap (λ tree. misuse_in d.request.now d.policy.now d.relations.now (uses (expression tree))) c.deref.ensures in
    let right = c.first_misuse-in-Binary.ensures ∙ ap (λ tree. misuse_in d.request.now d.policy.now d.relations.now (uses (expression tree))) c.deref-in-Binary.ensures in
    c.earlier.ensures ∙ ap (λ m. earlier m c.first_misuse-in-Binary.result) left ∙ ap (earlier (misuse_in d.request.now d.policy.now d.relations.now (uses (expression c.in-Binary.left.value)))) right
    ∙ sym (misuse_in-append d.request.now d.policy.now d.relations.now (uses (expression c.in-Binary.left.value)) (uses (expression c.in-Binary.right.value)))
    ∙ ap (λ (e : Expression). misuse_in d.request.now d.policy.now d.relations.now (uses e)) (sym is)

pub loop-member-init : goal.loop-member-init
loop-member-init t c =
    let d = c.args.self.now in
    let is = ap expression c.in-Among.is ∙ expression-Among c.in-Among.at c.in-Among.value c.in-Among.members in
    let first = c.first_misuse-first.ensures ∙ ap (λ tree. misuse_in d.request.now d.policy.now d.relations.now (uses (expression tree))) c.deref-in-Among.ensures in
    misuse_begin d.request.now d.policy.now d.relations.now c.first_misuse-first.result (uses (expression c.in-Among.value.value)) (uses (expression c.args.tree.now)) c.in-Among.members.items c.deref-member-items.result.now first c.deref-member-items.ensures.value (ap uses is)

pub loop-member-preserved : goal.loop-member-preserved
loop-member-preserved t c =
    let d = c.args.self.now in
    let found = c.first_misuse-in-loop-member.ensures ∙ ap (λ tree. misuse_in d.request.now d.policy.now d.relations.now (uses (expression tree))) c.member-item.is in
    misuse_step d.request.now d.policy.now d.relations.now c.deref-member-items.result.now c.member-item.result c.loop-member.member-index c.loop-member.first c.first_misuse-in-loop-member.result _ _ c.loop-member-test.true found c.earlier-first.ensures c.loop-member.invariant

pub returns-after-loop-member : goal.returns-after-loop-member
returns-after-loop-member t c =
    let d = c.args.self.now in
    misuse_end d.request.now d.policy.now d.relations.now c.loop-member.first _ c.deref-member-items.result.now c.loop-member.member-index c.loop-member-test.false c.loop-member.invariant

pub loop-argument-preserved : goal.loop-argument-preserved
loop-argument-preserved t c =
    let d = c.args.self.now in
    let found = c.first_misuse-in-loop-argument.ensures ∙ ap (λ tree. misuse_in d.request.now d.policy.now d.relations.now (uses (expression tree))) c.argument-item.is in
    misuse_step d.request.now d.policy.now d.relations.now c.deref-argument-items.result.now c.argument-item.result c.loop-argument.argument-index c.loop-argument.first c.first_misuse-in-loop-argument.result _ _ c.loop-argument-test.true found c.earlier-first-in-loop-argument.ensures c.loop-argument.invariant

pub returns-after-loop-argument : goal.returns-after-loop-argument
returns-after-loop-argument t c =
    let d = c.args.self.now in
    misuse_end d.request.now d.policy.now d.relations.now c.loop-argument.first _ c.deref-argument-items.result.now c.loop-argument.argument-index c.loop-argument-test.false c.loop-argument.invariant

pub loop-argument-2-init : goal.loop-argument-2-init
loop-argument-2-init t c =
    let d = c.args.self.now in
    let is = ap expression c.in-Role.is ∙ expression-Role c.in-Role.at c.in-Role.relation c.in-Role.arguments in
    let given : c.len.result ≡ count (expressions_of (map expression c.in-Role.arguments.items)) = omega (arith, c.len.ensures, count-expressions_of (map expression c.in-Role.arguments.items), length-map c.in-Role.arguments.items expression) in
    let first = c.role_misuse-first.ensures ∙ ap (role_misuse d.relations.now c.in-Role.at c.in-Role.relation) given ∙ sym (misuse_in-role d.request.now d.policy.now d.relations.now c.in-Role.at c.in-Role.relation (count (expressions_of (map expression c.in-Role.arguments.items)))) in
    misuse_begin d.request.now d.policy.now d.relations.now c.role_misuse-first.result (of_relation c.in-Role.at c.in-Role.relation (count (expressions_of (map expression c.in-Role.arguments.items))) ∷ []) (uses (expression c.args.tree.now)) c.in-Role.arguments.items c.deref-argument-items-in-Role.result.now first c.deref-argument-items-in-Role.ensures.value (ap uses is)

pub loop-argument-2-preserved : goal.loop-argument-2-preserved
loop-argument-2-preserved t c =
    let d = c.args.self.now in
    let found = c.first_misuse-in-loop-argument-2.ensures ∙ ap (λ tree. misuse_in d.request.now d.policy.now d.relations.now (uses (expression tree))) c.argument-item-in-loop-argument-2.is in
    misuse_step d.request.now d.policy.now d.relations.now c.deref-argument-items-in-Role.result.now c.argument-item-in-loop-argument-2.result c.loop-argument-2.argument-index c.loop-argument-2.first c.first_misuse-in-loop-argument-2.result _ _ c.loop-argument-2-test.true found c.earlier-first-in-loop-argument-2.ensures c.loop-argument-2.invariant

pub returns-after-loop-argument-2 : goal.returns-after-loop-argument-2
returns-after-loop-argument-2 t c =
    let d = c.args.self.now in
    misuse_end d.request.now d.policy.now d.relations.now c.loop-argument-2.first _ c.deref-argument-items-in-Role.result.now c.loop-argument-2.argument-index c.loop-argument-2-test.false c.loop-argument-2.invariant
