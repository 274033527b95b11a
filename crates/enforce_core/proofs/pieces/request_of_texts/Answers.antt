use Rattle.std.proofs.Common.{List, Ok, arith, map, subst, sym}
use Rattle.perm_value.specs.Seen.{datum}
use Rattle.perm_value.specs.declared.value.Value.{Value}
use Rattle.enforce_core.specs.Asked.{ReadsTexts}
use Rattle.enforce_core.proofs.pieces.request_of_texts.Goals as goal

pub returns-then-ends-gt-MOST_TEXTS-clause-stopped : goal.returns-then-ends-gt-MOST_TEXTS-clause-stopped
returns-then-ends-gt-MOST_TEXTS-clause-stopped c = omega arith

pub returns-clause-found : goal.returns-clause-found
returns-clause-found c = subst (λ (values : List Value). ReadsTexts c.args.bytes.now c.args.ends.now (Ok (map datum values))) (sym c.from_vec.ensures) c.in_ok-values.ensures.found
