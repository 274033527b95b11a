use Rattle.std.proofs.Common.{◌≡◌, ◌++◌, ◌∙◌, ◌∷◌, [], Err, ap, append_assoc, map, rules, subst, sym}
use Rattle.rbac_query.specs.Helps.Entries.{IsEntry, StopsEntries, entry_text, subject_in}
use Rattle.rbac_query.specs.Helps.Subjects.{shown}
use Rattle.rbac_query.proofs.EntryLemmas.{adds_none}
use Rattle.rbac_query.proofs.ReportLemmas.{entries_more, entries_stop}
use Rattle.rbac_query.proofs.SubjectLemmas.{Keys}
use Rattle.rbac_query.proofs.reports.push_entries.Goals as goal

pub loop-subject-init : goal.loop-subject-init
loop-subject-init c =
    let section = c.args.section.now in
    ([], search rules, λ rows of. adds_none subject_in (IsEntry section.shape rows section.limit) entry_text c.args.text.now.items, c.requires)

pub loop-subject-preserved : goal.loop-subject-preserved
loop-subject-preserved c =
    let section = c.args.section.now in
    let before = c.loop-subject.invariant in
    let key = c.in-Some.subject.now in
    let left = c.next.new.self in
    let parts : c.args.subjects.now.keys ≡ before.0 ++ key ∷ left = before.1 ∙ ap (λ (l : Keys). before.0 ++ l) c.in-Some.ensures.steps in (
      before.0 ++ key ∷ [],
      parts ∙ sym (append_assoc before.0 (key ∷ []) left),
      λ rows of. entries_more section.shape rows section.limit c.args.text.now.items before.0 key c.loop-subject.text.items (before.2 rows of) c.push_subject.new.text.items (c.in_ok-push_subject.ensures.took rows of),
      c.in_ok-push_subject.ensures.within,
    )

pub returns-in_err-push_subject-clause-stop : goal.returns-in_err-push_subject-clause-stop
returns-in_err-push_subject-clause-stop c =
    let section = c.args.section.now in
    let before = c.loop-subject.invariant in
    let key = c.in-Some.subject.now in
    let left = c.next.new.self in
    let fault = c.in_err-push_subject.field-0.0 in
    let parts : c.args.subjects.now.keys ≡ before.0 ++ key ∷ left = before.1 ∙ ap (λ (l : Keys). before.0 ++ l) c.in-Some.ensures.steps in
    let stop : c.from_residual.result ≡ Err fault = search rules in
    rw stop
    (λ rows of. subst (λ (keys : Keys). StopsEntries section.shape rows section.limit c.args.most c.args.text.now.items (map shown keys) fault) (sym parts)
    (entries_stop section.shape rows section.limit c.args.text.now.items before.0 key c.loop-subject.text.items (before.2 rows of) c.args.most fault left (c.in_err-push_subject.ensures.stop rows of)))
