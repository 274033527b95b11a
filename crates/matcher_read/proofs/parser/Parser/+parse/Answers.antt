use Rattle.std.proofs.Common.{ap, ◌∙◌, subst, arith, Ok}
use Rattle.std.proofs.lemmas.Grind.{common_steps}
use Rattle.matcher_read.specs.Grammar.{cmp_rule, unary_rule, prim_rule, sum_cmp}
use Rattle.matcher_read.specs.Helps.TakenTokens.{head_is, is_opening, rule_of, TakesOpener, TakesSign}
use Rattle.matcher_read.proofs.ReadLevels.{enclosed, read_members, opening_fails_list, list_fails_enclosed, closing_fails_enclosed, fails_members, fails_call}
use Rattle.matcher_read.proofs.ReadLists.{list_fails, list_fails_behind, list_end}
use Rattle.matcher_read.proofs.ReadOperands.{read_parentheses, fails_at_parenthesis, fails_in_parentheses, fails_behind_parentheses, read_signed, fails_signed, fails_at_sign, fails_at_call}
use Rattle.matcher_read.proofs.Ranks.{joins_is, part_is}
use Rattle.matcher_read.proofs.ReadParts.{read_part, fails_part, read_joined, fails_joined, read_compared, fails_compared, read_sum}
use Rattle.matcher_read.proofs.ReadResults.{call_reads, chain_end, fails_same, fails_up, known_is, list_fails_up, literal_reads, primary_reads, read_as, read_same, trees_first, trees_more}
use Rattle.matcher_read.proofs.parser.Parser.+parse.Goals as goal

-- ---- chains

pub chain-returns-in_err-left : goal.chain-returns-in_err-left
chain-returns-in_err-left t c =
    fails_up c.args.levels (rule_of c.args.chain) c.args.self.now.tokens c.part.new.self.tokens c.from_residual.result c.in_err-left.field-0.0 c.from_residual.ensures.1 (λ some. fails_part (part_is c.args.chain) (c.in_err-left.ensures some))

pub chain-loop-at-init : goal.chain-loop-at-init
chain-loop-at-init t c = read_part (part_is c.args.chain) c.in_ok-left.ensures

pub chain-returns-in_err-right : goal.chain-returns-in_err-right
chain-returns-in_err-right t c =
    fails_up c.args.levels (rule_of c.args.chain) c.args.self.now.tokens c.part-in-Some.new.self.tokens c.from_residual-in_err-right.result c.in_err-right.field-0.0 c.from_residual-in_err-right.ensures.1
    (λ some. fails_joined (joins_is c.args.chain c.in-Some.operator c.in-Some.ensures.1) (part_is c.args.chain) c.loop-at.invariant c.in-Some.ensures.0 (c.in_err-right.ensures some))

pub chain-loop-at-preserved : goal.chain-loop-at-preserved
chain-loop-at-preserved t c =
    read_as c.in_ok-left-2.ensures (read_joined (joins_is c.args.chain c.in-Some.operator c.in-Some.ensures.1) (part_is c.args.chain) c.loop-at.invariant c.in-Some.ensures.0 c.in_ok-right.ensures)

pub chain-returns : goal.chain-returns
chain-returns t c = chain_end c.args.chain c.loop-at.invariant c.in_default.ensures

-- ---- comparisons

pub comparison-returns-in_err-left : goal.comparison-returns-in_err-left
comparison-returns-in_err-left t c =
    fails_up c.args.levels cmp_rule c.args.self.now.tokens c.chain.new.self.tokens c.from_residual.result c.in_err-left.field-0.0 c.from_residual.ensures.1 (λ some. fails_part sum_cmp (c.in_err-left.ensures some))

pub comparison-returns-in_err-right-in-By : goal.comparison-returns-in_err-right-in-By
comparison-returns-in_err-right-in-By t c =
    fails_up c.args.levels cmp_rule c.args.self.now.tokens c.chain-in-By.new.self.tokens c.from_residual-in_err-right-in-By.result c.in_err-right-in-By.field-0.0 c.from_residual-in_err-right-in-By.ensures.1
    (λ some. fails_compared c.in-By.ensures.1 c.in_ok-left.ensures c.in-By.ensures.0 (c.in_err-right-in-By.ensures some))

pub comparison-returns-in_err-inside-in-In : goal.comparison-returns-in_err-inside-in-In
comparison-returns-in_err-inside-in-In t c =
    fails_up c.args.levels cmp_rule c.args.self.now.tokens c.take_opening.new.self.tokens c.from_residual-in_err-inside-in-In.result c.in_err-inside-in-In.field-0.0 c.from_residual-in_err-inside-in-In.ensures.1
    (λ some. fails_members c.in_ok-left.ensures c.in-In.ensures (opening_fails_list c.in_err-inside-in-In.ensures))

pub comparison-returns-in_err-members-in-In : goal.comparison-returns-in_err-members-in-In
comparison-returns-in_err-members-in-In t c =
    let o = c.in_ok-inside-in-In.ensures in
    fails_up c.args.levels cmp_rule c.args.self.now.tokens c.list.new.self.tokens c.from_residual-in_err-members-in-In.result c.in_err-members-in-In.field-0.0 c.from_residual-in_err-members-in-In.ensures.1
    (λ some. fails_members c.in_ok-left.ensures c.in-In.ensures (list_fails_enclosed o.2 o.1 (c.in_err-members-in-In.ensures some)))

pub comparison-returns-in_err-take_closing-in-In : goal.comparison-returns-in_err-take_closing-in-In
comparison-returns-in_err-take_closing-in-In t c =
    let o = c.in_ok-inside-in-In.ensures in
    fails_up c.args.levels cmp_rule c.args.self.now.tokens c.take_closing.new.self.tokens c.from_residual-in_err-take_closing-in-In.result c.in_err-take_closing-in-In.field-0.0 c.from_residual-in_err-take_closing-in-In.ensures.1
    (λ some. fails_members c.in_ok-left.ensures c.in-In.ensures (closing_fails_enclosed o.2 o.1 c.in_ok-members-in-In.ensures c.in_err-take_closing-in-In.ensures))

pub comparison-returns-in_ok-binary-in-By : goal.comparison-returns-in_ok-binary-in-By
comparison-returns-in_ok-binary-in-By t c = read_as c.in_ok-binary-in-By.ensures (read_compared c.in-By.ensures.1 c.in_ok-left.ensures c.in-By.ensures.0 c.in_ok-right-in-By.ensures)

pub comparison-returns-in_ok-among-in-In : goal.comparison-returns-in_ok-among-in-In
comparison-returns-in_ok-among-in-In t c =
    let o = c.in_ok-inside-in-In.ensures in
    read_as c.in_ok-among-in-In.ensures (read_members c.in_ok-left.ensures c.in-In.ensures (enclosed o.2 o.1 c.in_ok-members-in-In.ensures c.in_ok-take_closing-in-In.ensures.1))

pub comparison-returns-in-Nothing : goal.comparison-returns-in-Nothing
comparison-returns-in-Nothing t c = read_sum c.in_ok-left.ensures c.in-Nothing.ensures

-- ---- lists

pub list-returns-in_err-chain : goal.list-returns-in_err-chain
list-returns-in_err-chain t c =
    list_fails_up c.args.levels c.args.self.now.tokens c.chain.new.self.tokens c.from_residual.result c.in_err-chain.field-0.0 c.from_residual.ensures.1 (λ some. list_fails (c.in_err-chain.ensures some))

pub list-loop-list-init : goal.list-loop-list-init
list-loop-list-init t c = trees_first c.push.new.self.items c.in_ok-chain.field-0 (grind (arith, common_steps)) c.in_ok-chain.ensures

pub list-returns-in_err-chain-2 : goal.list-returns-in_err-chain-2
list-returns-in_err-chain-2 t c =
    list_fails_up c.args.levels c.args.self.now.tokens c.chain-in-loop-list.new.self.tokens c.from_residual-in_err-chain-2.result c.in_err-chain-2.field-0.0 c.from_residual-in_err-chain-2.ensures.1
    (λ some. list_fails_behind c.loop-list.invariant c.loop-list-test.ensures.1 (c.in_err-chain-2.ensures some))

pub list-loop-list-preserved : goal.list-loop-list-preserved
list-loop-list-preserved t c =
    trees_more c.loop-list.list.items c.push-in-loop-list.new.self.items c.in_ok-chain-2.field-0 (grind (arith, common_steps)) c.loop-list.invariant c.loop-list-test.ensures.1 c.in_ok-chain-2.ensures

pub list-returns : goal.list-returns
list-returns t c = list_end c.loop-list.invariant c.loop-list-test.ensures

-- ---- operands

pub primary-returns-in_err-take_opener : goal.primary-returns-in_err-take_opener
primary-returns-in_err-take_opener t c =
    fails_up c.args.levels prim_rule c.args.self.now.tokens c.take_opener.new.self.tokens c.from_residual.result c.in_err-take_opener.field-0.0 c.from_residual.ensures.1 (λ some. fails_at_call c.in_err-take_opener.ensures)

pub primary-returns-in_err-inside-in-Parenthesis : goal.primary-returns-in_err-inside-in-Parenthesis
primary-returns-in_err-inside-in-Parenthesis t c =
    let seen = subst (TakesOpener c.args.self.now.tokens c.take_opener.new.self.tokens) c.in-Parenthesis.is c.in_ok-take_opener.ensures in
    fails_up c.args.levels prim_rule c.args.self.now.tokens c.take_opening.new.self.tokens c.from_residual-in_err-inside-in-Parenthesis.result c.in_err-inside-in-Parenthesis.field-0.0 c.from_residual-in_err-inside-in-Parenthesis.ensures.1
    (λ some. fails_same seen.0 (fails_at_parenthesis (ap (λ list. head_is is_opening list.tokens) seen.0 ∙ seen.1) c.in_err-inside-in-Parenthesis.ensures))

pub primary-returns-in_err-tree-in-Parenthesis : goal.primary-returns-in_err-tree-in-Parenthesis
primary-returns-in_err-tree-in-Parenthesis t c =
    let seen = subst (TakesOpener c.args.self.now.tokens c.take_opener.new.self.tokens) c.in-Parenthesis.is c.in_ok-take_opener.ensures in
    let o = c.in_ok-inside-in-Parenthesis.ensures in
    fails_up c.args.levels prim_rule c.args.self.now.tokens c.chain.new.self.tokens c.from_residual-in_err-tree-in-Parenthesis.result c.in_err-tree-in-Parenthesis.field-0.0 c.from_residual-in_err-tree-in-Parenthesis.ensures.1
    (λ some. fails_same seen.0 (fails_in_parentheses o.2 o.1 (c.in_err-tree-in-Parenthesis.ensures some)))

pub primary-returns-in_err-take_closing-in-Parenthesis : goal.primary-returns-in_err-take_closing-in-Parenthesis
primary-returns-in_err-take_closing-in-Parenthesis t c =
    let seen = subst (TakesOpener c.args.self.now.tokens c.take_opener.new.self.tokens) c.in-Parenthesis.is c.in_ok-take_opener.ensures in
    let o = c.in_ok-inside-in-Parenthesis.ensures in
    fails_up c.args.levels prim_rule c.args.self.now.tokens c.take_closing.new.self.tokens c.from_residual-in_err-take_closing-in-Parenthesis.result c.in_err-take_closing-in-Parenthesis.field-0.0 c.from_residual-in_err-take_closing-in-Parenthesis.ensures.1
    (λ some. fails_same seen.0 (fails_behind_parentheses o.2 o.1 c.in_ok-tree-in-Parenthesis.ensures c.in_err-take_closing-in-Parenthesis.ensures))

pub primary-returns-in_err-inside-in-Call : goal.primary-returns-in_err-inside-in-Call
primary-returns-in_err-inside-in-Call t c =
    let seen = subst (TakesOpener c.args.self.now.tokens c.take_opener.new.self.tokens) c.in-Call.is c.in_ok-take_opener.ensures in
    fails_up c.args.levels prim_rule c.args.self.now.tokens c.take_opening-in-Call.new.self.tokens c.from_residual-in_err-inside-in-Call.result c.in_err-inside-in-Call.field-0.0 c.from_residual-in_err-inside-in-Call.ensures.1
    (λ some. fails_call seen.1 (known_is seen.0 c.in-Call.called seen.2) (opening_fails_list c.in_err-inside-in-Call.ensures))

pub primary-returns-in_err-arguments-in-Call : goal.primary-returns-in_err-arguments-in-Call
primary-returns-in_err-arguments-in-Call t c =
    let seen = subst (TakesOpener c.args.self.now.tokens c.take_opener.new.self.tokens) c.in-Call.is c.in_ok-take_opener.ensures in
    let o = c.in_ok-inside-in-Call.ensures in
    fails_up c.args.levels prim_rule c.args.self.now.tokens c.list.new.self.tokens c.from_residual-in_err-arguments-in-Call.result c.in_err-arguments-in-Call.field-0.0 c.from_residual-in_err-arguments-in-Call.ensures.1
    (λ some. fails_call seen.1 (known_is seen.0 c.in-Call.called seen.2) (list_fails_enclosed o.2 o.1 (c.in_err-arguments-in-Call.ensures some)))

pub primary-returns-in_err-take_closing-in-Call : goal.primary-returns-in_err-take_closing-in-Call
primary-returns-in_err-take_closing-in-Call t c =
    let seen = subst (TakesOpener c.args.self.now.tokens c.take_opener.new.self.tokens) c.in-Call.is c.in_ok-take_opener.ensures in
    let o = c.in_ok-inside-in-Call.ensures in
    fails_up c.args.levels prim_rule c.args.self.now.tokens c.take_closing-in-Call.new.self.tokens c.from_residual-in_err-take_closing-in-Call.result c.in_err-take_closing-in-Call.field-0.0 c.from_residual-in_err-take_closing-in-Call.ensures.1
    (λ some. fails_call seen.1 (known_is seen.0 c.in-Call.called seen.2) (closing_fails_enclosed o.2 o.1 c.in_ok-arguments-in-Call.ensures c.in_err-take_closing-in-Call.ensures))

pub primary-returns-in_ok-take_closing-in-Parenthesis : goal.primary-returns-in_ok-take_closing-in-Parenthesis
primary-returns-in_ok-take_closing-in-Parenthesis t c =
    let seen = subst (TakesOpener c.args.self.now.tokens c.take_opener.new.self.tokens) c.in-Parenthesis.is c.in_ok-take_opener.ensures in
    let o = c.in_ok-inside-in-Parenthesis.ensures in
    read_same seen.0 (read_parentheses o.2 o.1 c.in_ok-tree-in-Parenthesis.ensures c.in_ok-take_closing-in-Parenthesis.ensures.1)

pub primary-returns-in_ok-take_closing-in-Call : goal.primary-returns-in_ok-take_closing-in-Call
primary-returns-in_ok-take_closing-in-Call t c =
    let seen = subst (TakesOpener c.args.self.now.tokens c.take_opener.new.self.tokens) c.in-Call.is c.in_ok-take_opener.ensures in
    let o = c.in_ok-inside-in-Call.ensures in
    call_reads c.args.levels c.in-Call.called c.call.result seen.1 seen.2 (enclosed o.2 o.1 c.in_ok-arguments-in-Call.ensures c.in_ok-take_closing-in-Call.ensures.1) c.call.ensures

pub primary-returns-in-Nothing : goal.primary-returns-in-Nothing
primary-returns-in-Nothing t c =
    let seen = subst (TakesOpener c.args.self.now.tokens c.take_opener.new.self.tokens) c.in-Nothing.is c.in_ok-take_opener.ensures in
    literal_reads c.args.levels c.args.self.now.tokens c.take_opener.new.self.tokens c.literal.new.self.tokens c.literal.result c.requires seen.0 seen.1 c.literal.ensures

-- ---- signs

pub unary-returns-in_err-sign : goal.unary-returns-in_err-sign
unary-returns-in_err-sign t c =
    fails_up c.args.levels unary_rule c.args.self.now.tokens c.take_sign.new.self.tokens c.from_residual.result c.in_err-sign.field-0.0 c.from_residual.ensures.1 (λ some. fails_at_sign c.in_err-sign.ensures.0 c.in_err-sign.ensures.1)

pub unary-returns-in_err-operand-in-Some : goal.unary-returns-in_err-operand-in-Some
unary-returns-in_err-operand-in-Some t c =
    let seen = subst (λ o. TakesSign c.args.levels c.args.self.now.tokens c.take_sign.new.self.tokens (Ok o)) c.in-Some.is c.in_ok-sign.ensures in
    fails_up c.args.levels unary_rule c.args.self.now.tokens c.unary.new.self.tokens c.from_residual-in_err-operand-in-Some.result c.in_err-operand-in-Some.field-0.0 c.from_residual-in_err-operand-in-Some.ensures.1
    (λ some. fails_signed c.in-Some.sign (omega (arith, seen.1)) seen.0 (c.in_err-operand-in-Some.ensures some))

pub unary-returns-in_ok-signed-in-Some : goal.unary-returns-in_ok-signed-in-Some
unary-returns-in_ok-signed-in-Some t c =
    let seen = subst (λ o. TakesSign c.args.levels c.args.self.now.tokens c.take_sign.new.self.tokens (Ok o)) c.in-Some.is c.in_ok-sign.ensures in
    read_as c.in_ok-signed-in-Some.ensures (read_signed c.in-Some.sign (omega (arith, seen.1)) seen.0 c.in_ok-operand-in-Some.ensures)

pub unary-returns-in-None : goal.unary-returns-in-None
unary-returns-in-None t c =
    let seen = subst (λ o. TakesSign c.args.levels c.args.self.now.tokens c.take_sign.new.self.tokens (Ok o)) c.in-None.is c.in_ok-sign.ensures in
    primary_reads c.args.levels c.args.self.now.tokens c.take_sign.new.self.tokens c.primary.new.self.tokens c.primary.result seen c.primary.ensures
