use Rattle.std.proofs.Common.{◌≡◌, ◌+◌, ◌∷◌, [], ◌++◌, List, map, Ok, Err, sym, ap, ◌∙◌, arith, rules}
use Rattle.std.specs.Str.{IsUtf8}
use Rattle.std.proofs.lemmas.Grind.{common_steps}
use Rattle.std.proofs.lemmas.List.{map_push}
use Rattle.script_read.specs.Blocks.{parts}
use Rattle.text_parts.specs.Full.{full_lines}
use Rattle.text_parts.specs.Numbered.{line}
use Rattle.text_parts.proofs.ReaderLemmas.{end_is_value, no_fault, stop_is_first}
use Rattle.script_read.specs.Results.{mapped}
use Rattle.script_read.specs.Said.{Said, seen}
use Rattle.script_read.specs.declared.item.Item.{Item}
use Rattle.script_read.proofs.ScriptLemmas.{behind_items, only_memory, part_fails, part_read, parts_end, reading, stopped, text_read, whole}
use Rattle.script_read.proofs.reader.read_script.Goals as goal

pub returns-in_err-item-clause-only : goal.returns-in_err-item-clause-only
returns-in_err-item-clause-only c = λ items is.
    let stop : c.from_residual.result ≡ Err c.in_err-item.field-0.0 = search rules in
    let bad = part_fails c.args.json (full_lines c.loop-at.number c.loop-at.rest.now) (line c.in-Some.at c.in-Some.line.now) (full_lines (c.in-Some.at + 1) c.in-Some.after.now) (full_lines c.part_end-next.result.0 c.part_end-next.result.1.now) c.in-Some.ensures.first c.part_end-next.ensures.behind
    (map seen c.loop-at.items.items) (whole c.args.json c.args.bytes.now) c.loop-at.invariant.reads c.in_err-item.field-0.0 c.in_err-item.ensures in
    rw stop (only_memory c.args.json c.args.bytes.now c.in_err-item.field-0.0 items bad is)

pub returns-in_err-item-clause-fault : goal.returns-in_err-item-clause-fault
returns-in_err-item-clause-fault c =
    let stop : c.from_residual.result ≡ Err c.in_err-item.field-0.0 = search rules in
    let utf8 : IsUtf8 c.args.bytes.now = search rules in
    let bad = part_fails c.args.json (full_lines c.loop-at.number c.loop-at.rest.now) (line c.in-Some.at c.in-Some.line.now) (full_lines (c.in-Some.at + 1) c.in-Some.after.now) (full_lines c.part_end-next.result.0 c.part_end-next.result.1.now) c.in-Some.ensures.first c.part_end-next.ensures.behind
    (map seen c.loop-at.items.items) (whole c.args.json c.args.bytes.now) c.loop-at.invariant.reads c.in_err-item.field-0.0 c.in_err-item.ensures in
    rw stop (λ other. (text_read c.args.json c.args.bytes.now).has c.in_err-item.field-0.0 utf8 (stopped c.args.json c.args.bytes.now c.in_err-item.field-0.0 bad other))

pub returns-in_err-item-clause-only_fault : goal.returns-in_err-item-clause-only_fault
returns-in_err-item-clause-only_fault c = λ first is.
    let stop : c.from_residual.result ≡ Err c.in_err-item.field-0.0 = search rules in
    let utf8 : IsUtf8 c.args.bytes.now = search rules in
    let bad = part_fails c.args.json (full_lines c.loop-at.number c.loop-at.rest.now) (line c.in-Some.at c.in-Some.line.now) (full_lines (c.in-Some.at + 1) c.in-Some.after.now) (full_lines c.part_end-next.result.0 c.part_end-next.result.1.now) c.in-Some.ensures.first c.part_end-next.ensures.behind
    (map seen c.loop-at.items.items) (whole c.args.json c.args.bytes.now) c.loop-at.invariant.reads c.in_err-item.field-0.0 c.in_err-item.ensures in
    rw stop (λ other. stop_is_first (text_read c.args.json c.args.bytes.now) c.in_err-item.field-0.0 first utf8 (stopped c.args.json c.args.bytes.now c.in_err-item.field-0.0 bad other) is)

pub loop-at-preserved : goal.loop-at-preserved
loop-at-preserved c =
    let pushed : c.push.new.self.items ≡ c.loop-at.items.items ++ c.in_ok-item.item ∷ [] = grind (arith, common_steps) in
    record {
      reads = ap (λ (l : List Said). mapped (behind_items l) (reading c.args.json (parts (full_lines c.part_end-next.result.0 c.part_end-next.result.1.now)))) (ap (λ (l : List Item). map seen l) pushed ∙ map_push seen c.loop-at.items.items c.in_ok-item.item)
          ∙ part_read c.args.json (full_lines c.loop-at.number c.loop-at.rest.now) (line c.in-Some.at c.in-Some.line.now) (full_lines (c.in-Some.at + 1) c.in-Some.after.now) (full_lines c.part_end-next.result.0 c.part_end-next.result.1.now) c.in-Some.ensures.first c.part_end-next.ensures.behind
          (map seen c.loop-at.items.items) (whole c.args.json c.args.bytes.now) c.loop-at.invariant.reads (seen c.in_ok-item.item) c.in_ok-item.ensures;
      within = omega (arith, c.in-Some.ensures.within, c.part_end-next.ensures.within);
      utf8 = search rules;
    }

pub returns-clause-found : goal.returns-clause-found
returns-clause-found c =
    let utf8 : IsUtf8 c.args.bytes.now = search rules in
    let all = parts_end c.args.json (full_lines c.loop-at.number c.loop-at.rest.now) (map seen c.loop-at.items.items) (whole c.args.json c.args.bytes.now) c.in_default-next_full_line.ensures.none c.loop-at.invariant.reads in
    (text_read c.args.json c.args.bytes.now).says (map seen c.from_vec.result) utf8 (all ∙ ap (λ (l : List Item). Ok (map seen l)) (sym c.from_vec.ensures))

pub returns-clause-only : goal.returns-clause-only
returns-clause-only c = λ items is.
    let all = parts_end c.args.json (full_lines c.loop-at.number c.loop-at.rest.now) (map seen c.loop-at.items.items) (whole c.args.json c.args.bytes.now) c.in_default-next_full_line.ensures.none c.loop-at.invariant.reads in
    end_is_value (text_read c.args.json c.args.bytes.now) (map seen c.from_vec.result) items (all ∙ ap (λ (l : List Item). Ok (map seen l)) (sym c.from_vec.ensures)) is

pub returns-clause-only_fault : goal.returns-clause-only_fault
returns-clause-only_fault c = λ first is.
    let utf8 : IsUtf8 c.args.bytes.now = search rules in
    let all = parts_end c.args.json (full_lines c.loop-at.number c.loop-at.rest.now) (map seen c.loop-at.items.items) (whole c.args.json c.args.bytes.now) c.in_default-next_full_line.ensures.none c.loop-at.invariant.reads in
    no_fault (text_read c.args.json c.args.bytes.now) (map seen c.from_vec.result) first utf8 (all ∙ ap (λ (l : List Item). Ok (map seen l)) (sym c.from_vec.ensures)) is
