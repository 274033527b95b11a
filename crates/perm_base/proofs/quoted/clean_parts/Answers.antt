use Rattle.std.proofs.Common.{◌≡◌, ℕ, List, false, eqb, get_or, take, sym, ap, ◌∙◌, arith}
use Rattle.std.proofs.lemmas.Bool.Decides.{nat_tests}
use Rattle.std.proofs.lemmas.Grind.{common_steps}
use Rattle.perm_base.proofs.PlainLemmas.{plain_bad, plain_behind, plain_comma, plain_whole}
use Rattle.perm_base.proofs.quoted.clean_parts.Goals as goal

pub returns-in_default-clause-clean : goal.returns-in_default-clause-clean
returns-in_default-clause-clean c = (plain_whole c.args.text.now (sym c.in_default.ensures)).1.1

pub returns-in_default-clause-before : goal.returns-in_default-clause-before
returns-in_default-clause-before c = sym (plain_whole c.args.text.now (sym c.in_default.ensures)).0

pub returns-in_default-clause-behind : goal.returns-in_default-clause-behind
returns-in_default-clause-behind c = sym (plain_whole c.args.text.now (sym c.in_default.ensures)).1.0

pub returns-then-as_bytes-at-ne44-clause-none : goal.returns-then-as_bytes-at-ne44-clause-none
returns-then-as_bytes-at-ne44-clause-none c =
    let other : eqb (get_or c.as_bytes.result.now c.in-Some.at 0) 44 ≡ false = grind (arith, nat_tests) in
    plain_bad c.args.text.now c.in-Some.at (sym c.in-Some.ensures) (ap (λ (t : List ℕ). eqb (get_or t c.in-Some.at 0) 44) (sym c.as_bytes.ensures.value) ∙ other)

pub range_from-requires : goal.range_from-requires
range_from-requires c = λ some. plain_behind c.args.text.now c.in-Some.at c.utf8.text (sym c.in-Some.ensures)

pub returns-clause-clean : goal.returns-clause-clean
returns-clause-clean c =
    let front : c.range.result.now ≡ take c.in-Some.at c.args.text.now = grind (arith, common_steps) in
    let comma : get_or c.as_bytes.result.now c.in-Some.at 0 ≡ 44 = grind (arith, nat_tests) in
    (plain_comma c.args.text.now c.as_bytes.result.now c.range.result.now c.range_from.result.now c.in-Some.at (sym c.in-Some.ensures) c.as_bytes.ensures.value front c.range_from.ensures.value comma).1.1

pub returns-clause-before : goal.returns-clause-before
returns-clause-before c =
    let front : c.range.result.now ≡ take c.in-Some.at c.args.text.now = grind (arith, common_steps) in
    let comma : get_or c.as_bytes.result.now c.in-Some.at 0 ≡ 44 = grind (arith, nat_tests) in
    sym (plain_comma c.args.text.now c.as_bytes.result.now c.range.result.now c.range_from.result.now c.in-Some.at (sym c.in-Some.ensures) c.as_bytes.ensures.value front c.range_from.ensures.value comma).0

pub returns-clause-behind : goal.returns-clause-behind
returns-clause-behind c =
    let front : c.range.result.now ≡ take c.in-Some.at c.args.text.now = grind (arith, common_steps) in
    let comma : get_or c.as_bytes.result.now c.in-Some.at 0 ≡ 44 = grind (arith, nat_tests) in
    sym (plain_comma c.args.text.now c.as_bytes.result.now c.range.result.now c.range_from.result.now c.in-Some.at (sym c.in-Some.ensures) c.as_bytes.ensures.value front c.range_from.ensures.value comma).1.0
