use Rattle.std.proofs.Common.{◌≡◌, ◌+◌, ℕ, true, List, arith, ap, sym, subst, ◌∙◌}
use Rattle.std.specs.Prelude.{bytes_eq, codes}
use Rattle.script_read.proofs.ItemLemmas.{built_other, none_from, rest_checked, told_request}
use Rattle.script_read.proofs.WalkLemmas.{asked_goes}
use Rattle.script_read.specs.ItemLines.{IsTakenOff, items_from}
use Rattle.script_read.specs.Lines.{word_of}
use Rattle.script_read.specs.Readings.{request_read}
use Rattle.script_read.specs.Said.{Said, asks}
use Rattle.text_parts.specs.Full.{full_lines}
use Rattle.script_read.proofs.said_lines.first_built.Goals as goal

pub returns-in_default-clause-none : goal.returns-in_default-clause-none
returns-in_default-clause-none c = none_from c.args.json c.args.number c.args.text.now c.in_default.ensures.none

-- a request
pub returns-then-eq-clause-some : goal.returns-then-eq-clause-some
returns-then-eq-clause-some c =
    let test : bytes_eq (word_of c.in-Some.line.now) (codes "ask") ≡ true = ap (λ (w : List ℕ). bytes_eq w (codes "ask")) (sym c.word_and_arguments.ensures.word) ∙ sym c.eq.ensures ∙ c.if-eq.true in
    subst (λ (l : List ℕ). IsTakenOff (λ (item : Said). item ≡ asks (request_read c.args.json l)) (items_from c.args.json c.args.number c.args.text.now) (items_from c.args.json (c.in-Some.at + 1) c.in-Some.after.now))
    (sym c.word_and_arguments.ensures.arguments)
    (told_request c.args.json c.args.number c.in-Some.at c.args.text.now c.in-Some.line.now c.in-Some.after.now (c.in-Some.at + 1) c.in-Some.after.now c.in-Some.ensures.first
    (asked_goes c.in-Some.line.now (full_lines (c.in-Some.at + 1) c.in-Some.after.now) test) test)

pub returns-then-eq-clause-rest : goal.returns-then-eq-clause-rest
returns-then-eq-clause-rest c =
    let test : bytes_eq (word_of c.in-Some.line.now) (codes "ask") ≡ true = ap (λ (w : List ℕ). bytes_eq w (codes "ask")) (sym c.word_and_arguments.ensures.word) ∙ sym c.eq.ensures ∙ c.if-eq.true in
    rest_checked c.args.json c.args.number c.in-Some.at c.args.text.now c.in-Some.line.now c.in-Some.after.now (c.in-Some.at + 1) c.in-Some.after.now c.in-Some.ensures.first
    (asked_goes c.in-Some.line.now (full_lines (c.in-Some.at + 1) c.in-Some.after.now) test) c.requires.checked c.in-Some.ensures.within

pub returns-clause-some : goal.returns-clause-some
returns-clause-some c =
    built_other c.args.json c.args.number c.in-Some.at c.args.text.now c.in-Some.line.now c.in-Some.after.now c.part_end-next.result.0 c.part_end-next.result.1.now c.in-Some.ensures.first c.part_end-next.ensures.behind
    c.in-Ok.item (ap (λ (w : List ℕ). bytes_eq w (codes "ask")) (sym c.word_and_arguments.ensures.word) ∙ sym c.eq.ensures ∙ c.if-eq.false) c.in-Ok.ensures

pub returns-clause-rest : goal.returns-clause-rest
returns-clause-rest c =
    rest_checked c.args.json c.args.number c.in-Some.at c.args.text.now c.in-Some.line.now c.in-Some.after.now c.part_end-next.result.0 c.part_end-next.result.1.now c.in-Some.ensures.first c.part_end-next.ensures.behind
    c.requires.checked (omega (arith, c.in-Some.ensures.within, c.part_end-next.ensures.within))
