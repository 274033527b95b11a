use Rattle.std.proofs.Common.{◌≡◌, ◌+◌, ◌∷◌, [], ◌++◌, List, Err, refl, arith, rules}
use Rattle.std.specs.Str.{IsUtf8}
use Rattle.script_read.proofs.ScriptLemmas.{part_fails, part_read, parts_begin, parts_end, stopped, text_read, whole}
use Rattle.script_read.proofs.WalkLemmas.{asked_past}
use Rattle.text_parts.specs.Full.{full_lines}
use Rattle.text_parts.specs.Numbered.{Line, line}
use Rattle.script_read.proofs.walk.check_script.Goals as goal

pub loop-at-init : goal.loop-at-init
loop-at-init c = record { reads = ([], parts_begin c.args.json c.args.text.now c.args.text.now refl); within = search rules; utf8 = search rules }

pub returns-in_err-check_part-clause-fault : goal.returns-in_err-check_part-clause-fault
returns-in_err-check_part-clause-fault c =
    let stop : c.from_residual.result ≡ Err c.in_err-check_part.field-0.0 = search rules in
    let utf8 : IsUtf8 c.args.text.now = search rules in
    let others : List Line = full_lines (c.in-Some.at + 1) c.in-Some.after.now in
    let first : Line = line c.in-Some.at c.in-Some.line.now in
    let so = asked_past c.args.json (full_lines c.loop-at.number c.loop-at.rest.now) (first ∷ others) (whole c.args.json c.args.text.now) c.in-Some.ensures.first c.loop-at.invariant.reads in
    let bad = part_fails c.args.json (first ∷ others) first others (full_lines c.part_end-next.result.0 c.part_end-next.result.1.now) refl c.part_end-next.ensures.behind
    so.0 (whole c.args.json c.args.text.now) so.1 c.in_err-check_part.field-0.0 c.in_err-check_part.ensures in
    rw stop (λ other. (text_read c.args.json c.args.text.now).has c.in_err-check_part.field-0.0 utf8 (stopped c.args.json c.args.text.now c.in_err-check_part.field-0.0 bad other))

pub loop-at-preserved : goal.loop-at-preserved
loop-at-preserved c =
    let others : List Line = full_lines (c.in-Some.at + 1) c.in-Some.after.now in
    let first : Line = line c.in-Some.at c.in-Some.line.now in
    let so = asked_past c.args.json (full_lines c.loop-at.number c.loop-at.rest.now) (first ∷ others) (whole c.args.json c.args.text.now) c.in-Some.ensures.first c.loop-at.invariant.reads in
    let item = c.in_ok-check_part.ensures in
    record {
      reads = (
        so.0 ++ item.0 ∷ [],
        part_read c.args.json (first ∷ others) first others (full_lines c.part_end-next.result.0 c.part_end-next.result.1.now) refl c.part_end-next.ensures.behind so.0 (whole c.args.json c.args.text.now) so.1 item.0 item.1,
      );
      within = omega (arith, c.in-Some.ensures.within, c.part_end-next.ensures.within);
      utf8 = search rules;
    }

pub returns-clause-found : goal.returns-clause-found
returns-clause-found c =
    let utf8 : IsUtf8 c.args.text.now = search rules in
    let so = asked_past c.args.json (full_lines c.loop-at.number c.loop-at.rest.now) [] (whole c.args.json c.args.text.now) c.in_default.ensures.none c.loop-at.invariant.reads in
    (so.0, (text_read c.args.json c.args.text.now).says so.0 utf8 (parts_end c.args.json [] so.0 (whole c.args.json c.args.text.now) refl so.1))
