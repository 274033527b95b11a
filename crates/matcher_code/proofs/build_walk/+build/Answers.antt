use Rattle.std.proofs.Common.{rules, ◌≡◌, ◌<◌, ◌++◌, ◌∷◌, [], List, length, map, get_or, ℕ, ap, sym, ◌∙◌}
use Rattle.std.specs.Prelude.{unwrap_or}
use Rattle.matcher_read.specs.Expression.{expression, expressions_of, place}
use Rattle.matcher_code.specs.Compiled.{arguments, attributes, column_number, compiled, joins, members, names_asked, op_at, op_or_none, right_begins, skip}
use Rattle.matcher_code.specs.Helps.NodePlaces.{each_placed, placed}
use Rattle.matcher_code.specs.Helps.Targets.{landed}
use Rattle.matcher_code.specs.declared.op.Op.{Op}
use Rattle.matcher_code.specs.declared.op.Instruction.TheVariants as i
use Rattle.matcher_code.proofs.BuildTrees.{among_pushed, arguments_more, binary_pushed, found_pushed, function_pushed, grown, if_ok, members_more, negation_pushed, opposite_pushed, relation_pushed, request_pushed, right_pushed}
use Rattle.matcher_code.proofs.build_walk.+build.Goals as goal

pub push_arguments-loop-tree-preserved : goal.push_arguments-loop-tree-preserved
push_arguments-loop-tree-preserved t c =
    let within : c.loop-tree.tree-index < length c.args.trees.now = search rules in
    let read : c.tree-item.result ≡ get_or c.args.trees.now c.loop-tree.tree-index c.tree-item.result = search rules in
    record {
      code = arguments_more c.args.source.model.now c.args.source.place c.args.trees.now c.loop-tree.tree-index c.tree-item.result c.loop-tree.ops.items c.push_tree.new.ops.items _ within read c.in_ok-push_tree.ensures.code c.loop-tree.invariant.code;
      few = c.in_ok-push_tree.ensures.few;
    }

pub push_members-loop-tree-preserved : goal.push_members-loop-tree-preserved
push_members-loop-tree-preserved t c =
    let within : c.loop-tree.tree-index < length c.args.trees.now = search rules in
    let read : c.tree-item.result ≡ get_or c.args.trees.now c.loop-tree.tree-index c.tree-item.result = search rules in
    record {
      code = members_more c.args.source.model.now c.args.source.place c.args.trees.now c.args.at c.loop-tree.tree-index c.tree-item.result c.loop-tree.ops.items c.push_tree.new.ops.items c.push.new.ops.items _ within read c.in_ok-push_tree.ensures.code c.in_ok-push.ensures.code c.loop-tree.invariant.code;
      few = c.in_ok-push.ensures.few;
    }

pub push_tree-returns-in-Request-clause-code : goal.push_tree-returns-in-Request-clause-code
push_tree-returns-in-Request-clause-code t c =
    let at : c.unwrap_or-at.result ≡ unwrap_or c.args.source.place (place (expression c.args.tree.now)) = search rules in
    let new = c.push_request.new.ops.items in
    let first = op_at c.unwrap_or-at.result (i.Request (column_number c.args.source.model.now.request c.in-Request.column)) in
    if_ok c.push_request.result (new ≡ c.args.ops.now.items ++ (first ∷ attributes c.unwrap_or-at.result c.deref.result.now)) _ c.push_request.ensures.code
    (λ done. request_pushed c.args.source.model.now c.args.source.place c.args.tree.now c.unwrap_or-at.result c.in-Request.at c.args.ops.now.items at c.in-Request.column c.in-Request.path new c.in-Request.is
    (done ∙ ap (λ (path : List (List ℕ)). c.args.ops.now.items ++ (first ∷ attributes c.unwrap_or-at.result path)) c.deref.ensures.value))

pub push_tree-returns-in-Not-clause-code : goal.push_tree-returns-in-Not-clause-code
push_tree-returns-in-Not-clause-code t c =
    let at : c.unwrap_or-at.result ≡ unwrap_or c.args.source.place (place (expression c.args.tree.now)) = search rules in
    let new = c.push_signed.new.ops.items in
    let operand = placed c.args.source.place (expression c.deref-in-Not.result.now) in
    if_ok c.push_signed.result (new ≡ c.args.ops.now.items ++ (compiled c.args.source.model.now (length c.args.ops.now.items) operand ++ op_at c.unwrap_or-at.result i.Not ∷ [])) _ c.push_signed.ensures.code
    (λ done. negation_pushed c.args.source.model.now c.args.source.place c.args.tree.now c.unwrap_or-at.result c.in-Not.at c.args.ops.now.items at c.deref-in-Not.result.now c.in-Not.operand new c.in-Not.is c.deref-in-Not.ensures done)

pub push_tree-returns-in-Negate-clause-code : goal.push_tree-returns-in-Negate-clause-code
push_tree-returns-in-Negate-clause-code t c =
    let at : c.unwrap_or-at.result ≡ unwrap_or c.args.source.place (place (expression c.args.tree.now)) = search rules in
    let new = c.push_signed-in-Negate.new.ops.items in
    let operand = placed c.args.source.place (expression c.deref-in-Negate.result.now) in
    if_ok c.push_signed-in-Negate.result (new ≡ c.args.ops.now.items ++ (compiled c.args.source.model.now (length c.args.ops.now.items) operand ++ op_at c.unwrap_or-at.result i.Negate ∷ [])) _ c.push_signed-in-Negate.ensures.code
    (λ done. opposite_pushed c.args.source.model.now c.args.source.place c.args.tree.now c.unwrap_or-at.result c.in-Negate.at c.args.ops.now.items at c.deref-in-Negate.result.now c.in-Negate.operand new c.in-Negate.is c.deref-in-Negate.ensures done)

pub push_tree-returns-in_ok-push_tree-in-Binary-clause-code : goal.push_tree-returns-in_ok-push_tree-in-Binary-clause-code
push_tree-returns-in_ok-push_tree-in-Binary-clause-code t c =
    let at : c.unwrap_or-at.result ≡ unwrap_or c.args.source.place (place (expression c.args.tree.now)) = search rules in
    let one = c.push_tree.new.ops.items in
    let new = c.push_right.new.ops.items in
    let right = placed c.args.source.place (expression c.deref-in-Binary-2.result.now) in
    if_ok c.push_right.result
    (new ≡ one ++ (op_or_none c.unwrap_or-at.result (skip c.in-Binary.operator (length new)) ++ (compiled c.args.source.model.now (right_begins c.in-Binary.operator (length one)) right ++ op_at c.unwrap_or-at.result (joins c.in-Binary.operator) ∷ []))) _ c.push_right.ensures.code
    (λ done. binary_pushed c.args.source.model.now c.args.source.place c.args.tree.now c.unwrap_or-at.result c.in-Binary.at c.args.ops.now.items at c.in-Binary.operator c.deref-in-Binary.result.now c.deref-in-Binary-2.result.now c.in-Binary.left c.in-Binary.right one new
    c.in-Binary.is c.deref-in-Binary.ensures c.deref-in-Binary-2.ensures c.in_ok-push_tree-in-Binary.ensures.code done)

pub push_tree-returns-in_ok-push_tree-in-Among-clause-code : goal.push_tree-returns-in_ok-push_tree-in-Among-clause-code
push_tree-returns-in_ok-push_tree-in-Among-clause-code t c =
    let at : c.unwrap_or-at.result ≡ unwrap_or c.args.source.place (place (expression c.args.tree.now)) = search rules in
    let one = c.push_tree-in-Among.new.ops.items in
    let new = c.push_found.new.ops.items in
    let found = each_placed c.args.source.place (expressions_of (map expression c.deref-in-Among-2.result.now)) in
    if_ok c.push_found.result (new ≡ one ++ (members c.args.source.model.now c.unwrap_or-at.result (length new) (length one) found ++ op_at c.unwrap_or-at.result i.Miss ∷ [])) _ c.push_found.ensures.code
    (λ done. among_pushed c.args.source.model.now c.args.source.place c.args.tree.now c.unwrap_or-at.result c.in-Among.at c.args.ops.now.items at c.deref-in-Among.result.now c.deref-in-Among-2.result.now c.in-Among.value c.in-Among.members one new
    c.in-Among.is c.deref-in-Among.ensures c.deref-in-Among-2.ensures.value c.in_ok-push_tree-in-Among.ensures.code done)

pub push_tree-returns-in-Call-clause-code : goal.push_tree-returns-in-Call-clause-code
push_tree-returns-in-Call-clause-code t c =
    let at : c.unwrap_or-at.result ≡ unwrap_or c.args.source.place (place (expression c.args.tree.now)) = search rules in
    let new = c.push_call.new.ops.items in
    let given = each_placed c.args.source.place (expressions_of (map expression c.deref-in-Call.result.now)) in
    if_ok c.push_call.result (new ≡ c.args.ops.now.items ++ (arguments c.args.source.model.now (length c.args.ops.now.items) given ++ op_at c.unwrap_or-at.result (i.Function c.in-Call.function) ∷ [])) _ c.push_call.ensures.code
    (λ done. function_pushed c.args.source.model.now c.args.source.place c.args.tree.now c.unwrap_or-at.result c.in-Call.at c.args.ops.now.items at c.in-Call.function c.deref-in-Call.result.now c.in-Call.arguments new c.in-Call.is c.deref-in-Call.ensures.value done)

pub push_tree-returns-in-Role-clause-code : goal.push_tree-returns-in-Role-clause-code
push_tree-returns-in-Role-clause-code t c =
    let at : c.unwrap_or-at.result ≡ unwrap_or c.args.source.place (place (expression c.args.tree.now)) = search rules in
    let new = c.push_role.new.ops.items in
    let given = each_placed c.args.source.place (expressions_of (map expression c.deref-in-Role.result.now)) in
    if_ok c.push_role.result
    (new ≡ c.args.ops.now.items ++ (arguments c.args.source.model.now (length c.args.ops.now.items) given ++ op_at c.unwrap_or-at.result (i.Role c.in-Role.relation (names_asked (length c.deref-in-Role.result.now))) ∷ [])) _ c.push_role.ensures.code
    (λ done. relation_pushed c.args.source.model.now c.args.source.place c.args.tree.now c.unwrap_or-at.result c.in-Role.at c.args.ops.now.items at c.in-Role.relation c.deref-in-Role.result.now c.in-Role.arguments new c.in-Role.is c.deref-in-Role.ensures.value done)

pub push_signed-returns-clause-code : goal.push_signed-returns-clause-code
push_signed-returns-clause-code t c =
    let pushed = c.push_tree.new.ops.items in
    if_ok c.push.result (c.push.new.ops.items ≡ pushed ++ op_at c.args.at c.args.sign ∷ []) _ c.push.ensures.code
    (λ done. grown c.args.ops.now.items (compiled c.args.source.model.now (length c.args.ops.now.items) (placed c.args.source.place (expression c.args.operand.now))) (op_at c.args.at c.args.sign ∷ []) pushed c.push.new.ops.items c.in_ok-push_tree.ensures.code done)

pub push_right-returns-clause-code : goal.push_right-returns-clause-code
push_right-returns-clause-code t c =
    let skipping : c.len-skipping.result ≡ length c.args.ops.now.items = search rules in
    let two = c.push_skip.new.ops.items in
    let three = c.push_tree.new.ops.items in
    let new = c.push_join.new.ops.items in
    if_ok c.push_join.result
    ((front right : List Op) → length front ≡ c.len-skipping.result → three ≡ front ++ (op_or_none c.args.at (skip c.args.operator 0) ++ right)
    → new ≡ front ++ (op_or_none c.args.at (skip c.args.operator (length new)) ++ (right ++ op_at c.args.at (joins c.args.operator) ∷ []))) _ c.push_join.ensures.code
    (λ done. right_pushed c.args.source.model.now c.args.at c.args.operator (placed c.args.source.place (expression c.args.right.now)) c.args.ops.now.items two three new c.in_ok-push_skip.ensures.code c.in_ok-push_tree.ensures.code
    (λ front rest long. done front rest (long ∙ sym skipping)))

pub push_found-returns-clause-code : goal.push_found-returns-clause-code
push_found-returns-clause-code t c =
    let first : c.len-first.result ≡ length c.args.ops.now.items = search rules in
    let two = c.push_members.new.ops.items in
    let new = c.push_miss.new.ops.items in
    if_ok c.push_miss.result
    ((front found : List Op) → length front ≡ c.len-first.result → two ≡ front ++ found → new ≡ front ++ (map (landed (length new)) found ++ op_at c.args.at i.Miss ∷ [])) _ c.push_miss.ensures.code
    (λ done. found_pushed c.args.source.model.now c.args.at (each_placed c.args.source.place (expressions_of (map expression c.args.trees.now))) c.args.ops.now.items two new c.in_ok-push_members.ensures.code (λ front found long. done front found (long ∙ sym first)))

pub push_call-returns-clause-code : goal.push_call-returns-clause-code
push_call-returns-clause-code t c =
    let pushed = c.push_arguments.new.ops.items in
    let given = each_placed c.args.source.place (expressions_of (map expression c.args.trees.now)) in
    if_ok c.push.result (c.push.new.ops.items ≡ pushed ++ op_at c.args.at (i.Function c.args.function) ∷ []) _ c.push.ensures.code
    (λ done. grown c.args.ops.now.items (arguments c.args.source.model.now (length c.args.ops.now.items) given) (op_at c.args.at (i.Function c.args.function) ∷ []) pushed c.push.new.ops.items c.in_ok-push_arguments.ensures.code done)

pub push_role-returns-clause-code : goal.push_role-returns-clause-code
push_role-returns-clause-code t c =
    let pushed = c.push_arguments.new.ops.items in
    let given = each_placed c.args.source.place (expressions_of (map expression c.args.trees.now)) in
    let names : c.names_of-names.result ≡ names_asked (length c.args.trees.now) = search rules in
    if_ok c.push.result (c.push.new.ops.items ≡ pushed ++ op_at c.args.at (i.Role c.args.relation c.names_of-names.result) ∷ []) _ c.push.ensures.code
    (λ done. grown c.args.ops.now.items (arguments c.args.source.model.now (length c.args.ops.now.items) given) (op_at c.args.at (i.Role c.args.relation (names_asked (length c.args.trees.now))) ∷ []) pushed c.push.new.ops.items c.in_ok-push_arguments.ensures.code
    (done ∙ ap (λ (n : ℕ). pushed ++ op_at c.args.at (i.Role c.args.relation n) ∷ []) names))
