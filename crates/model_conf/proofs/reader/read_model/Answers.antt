use Rattle.std.proofs.Common.{◌≡◌, sym, ap, ◌∙◌, subst, Err, arith}
use Rattle.std.proofs.lemmas.Result.{err_from_is_err_and}
use Rattle.model_conf.specs.Faults.{too_long, not_utf8}
use Rattle.model_conf.specs.Helps.Outlines.{HasTextOfMatcher}
use Rattle.model_conf.specs.Helps.Seen.{entries_seen}
use Rattle.model_conf.proofs.EndLemmas.{Ends, ends_at_line, ends_by_entries, ends_only, ends_only_fault, settled_no_utf8}
use Rattle.model_conf.proofs.LawLemmas.{IsModelFault-once}
use Rattle.model_conf.proofs.ReadLemmas.{read_text, stopped_text}
use Rattle.model_conf.proofs.TextLemmas.{HasTextOfMatcher-read}
use Rattle.model_conf.proofs.reader.read_model.Goals as goal
use Rattle.model_conf.proofs.reader.read_model.Goals.{After-drop-entries}

pub returns-then-bytes-gt-MOST_BYTES-clause-fault : goal.returns-then-bytes-gt-MOST_BYTES-clause-fault
returns-then-bytes-gt-MOST_BYTES-clause-fault c = λ other. too_long (omega arith)

pub returns-in_default-clause-fault : goal.returns-in_default-clause-fault
returns-in_default-clause-fault c = λ other. not_utf8 (omega arith) c.in_default.ensures.cases.0

pub returns-in_default-clause-only_fault : goal.returns-in_default-clause-only_fault
returns-in_default-clause-only_fault c = λ first is other. IsModelFault-once c.args.bytes.now (settled_no_utf8 c.args.bytes.now c.in_default.ensures.cases.0) _ first (not_utf8 (omega arith) c.in_default.ensures.cases.0) is

pub returns-in_err-entries-clause-only : goal.returns-in_err-entries-clause-only
returns-in_err-entries-clause-only c = λ m is.
    let p = err_from_is_err_and c.from_residual.result c.from_residual.ensures.1 in
    let ends = ends_at_line c.args.bytes.now c.in_err-entries.field-0.0 (omega arith) c.in-Ok.ensures.cases.1 (stopped_text c.in_err-entries.field-0.0 c.in-Ok.ensures.cases.0 c.in_err-entries.ensures) in
    rw (p.1, p.2) (ends_only c.args.bytes.now (Err c.in_err-entries.field-0.0) ends m is)

pub returns-in_err-entries-clause-fault : goal.returns-in_err-entries-clause-fault
returns-in_err-entries-clause-fault c =
    let p = err_from_is_err_and c.from_residual.result c.from_residual.ensures.1 in
    let ends = ends_at_line c.args.bytes.now c.in_err-entries.field-0.0 (omega arith) c.in-Ok.ensures.cases.1 (stopped_text c.in_err-entries.field-0.0 c.in-Ok.ensures.cases.0 c.in_err-entries.ensures) in
    rw (p.1, p.2) ends.stops

pub returns-in_err-entries-clause-only_fault : goal.returns-in_err-entries-clause-only_fault
returns-in_err-entries-clause-only_fault c = λ first is.
    let p = err_from_is_err_and c.from_residual.result c.from_residual.ensures.1 in
    let ends = ends_at_line c.args.bytes.now c.in_err-entries.field-0.0 (omega arith) c.in-Ok.ensures.cases.1 (stopped_text c.in_err-entries.field-0.0 c.in-Ok.ensures.cases.0 c.in_err-entries.ensures) in
    rw (p.1, p.2) (ends_only_fault c.args.bytes.now (Err c.in_err-entries.field-0.0) ends first is)

pub model_of-requires : goal.model_of-requires
model_of-requires c =
    let e = read_text c.in_ok-entries.entries c.in-Ok.ensures.cases.0 c.in_ok-entries.ensures in
    let seen : entries_seen c.deref.result.now ≡ _ = ap entries_seen c.deref.ensures.value ∙ e.3 in
    subst HasTextOfMatcher (sym seen) (HasTextOfMatcher-read c.args.bytes.now e.0 e.1)

ends : (c : After-drop-entries) → Ends c.args.bytes.now c.model_of.result
ends c =
    let e = read_text c.in_ok-entries.entries c.in-Ok.ensures.cases.0 c.in_ok-entries.ensures in
    ends_by_entries c.args.bytes.now e.0 (entries_seen c.deref.result.now) c.model_of.result (record { few = omega arith; utf8 = c.in-Ok.ensures.cases.1; said = e.1 }) e.2 (ap entries_seen c.deref.ensures.value ∙ e.3)
    c.model_of.ensures.found c.model_of.ensures.fault c.model_of.ensures.settled

pub returns-clause-only : goal.returns-clause-only
returns-clause-only c = ends_only c.args.bytes.now c.model_of.result (ends c)

pub returns-clause-fault : goal.returns-clause-fault
returns-clause-fault c = (ends c).stops

pub returns-clause-only_fault : goal.returns-clause-only_fault
returns-clause-only_fault c = ends_only_fault c.args.bytes.now c.model_of.result (ends c)
