use Rattle.std.proofs.Common.{sym, ◌∙◌, arith}
use Rattle.policy_table.proofs.CallerLemmas.{number_told}
use Rattle.file_lint.proofs.numbers.integer_of.Goals as goal

pub returns : goal.returns
returns c =
    let told = c.starts_with.ensures.byte (omega arith) (omega arith) (λ w o finds. finds) in
    c.ok.ensures.value ∙ number_told c.args.text.now c.parse.result c.parse.ensures.value.0 (sym told ∙ c.if-starts_with.false)
