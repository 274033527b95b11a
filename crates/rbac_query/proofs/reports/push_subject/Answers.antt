use Rattle.std.proofs.Common.{◌≡◌, ◌∙◌, ℕ, List, ap, subst, sym}
use Rattle.std.specs.Option.{option_copied}
use Rattle.perm_base.specs.declared.shapes.RoleShape.{RoleShape}
use Rattle.policy_table.specs.Tables.{Fields}
use Rattle.role_domain.specs.Sections.{IsSectionOf}
use Rattle.role_meaning.specs.Implied.{AreImplied}
use Rattle.rbac_query.specs.Helps.Entries.{AddsRoles, AddsSubject, StopsRoles, StopsSubject, user_in}
use Rattle.rbac_query.specs.Helps.Runs.{AreInOrder}
use Rattle.rbac_query.specs.Report.{asked}
use Rattle.rbac_query.proofs.EntryLemmas.{if_err, on_ok}
use Rattle.rbac_query.proofs.ReportLemmas.{subject_adds, subject_stops}
use Rattle.rbac_query.proofs.RunLemmas.{in_order}
use Rattle.rbac_query.proofs.reports.push_subject.Goals as goal

pub returns-clause-took : goal.returns-clause-took
returns-clause-took c =
    let section = c.args.section.now in
    let subject = user_in c.args.user.now c.args.domain.now in
    let domain = option_copied c.asked-asked.result in
    let names = c.fields.result.now in
    let old = c.args.text.now.items in
    let new = c.push_roles.new.text.items in
    let asked_is : domain ≡ asked section.shape c.args.domain.now = c.asked-asked.ensures.domain ∙ ap (λ (s : RoleShape). asked s c.args.domain.now) c.shape.ensures in
    let listed : (rows : List Fields) → IsSectionOf section rows → AreImplied section.shape rows section.limit domain c.args.user.now names =
    λ rows of. subst (AreImplied section.shape rows section.limit domain c.args.user.now) (sym c.fields.ensures.value)
    (subst (λ (u : List ℕ). AreImplied section.shape rows section.limit domain u c.in_ok-names.names) c.as_bytes.ensures.value (c.in_ok-names.ensures rows of)) in
    on_ok c.push_roles.result ((rows : List Fields) → IsSectionOf section rows → AreInOrder section.shape rows subject names → AddsRoles section.shape rows subject old names new)
    ((rows : List Fields) → IsSectionOf section rows → AddsSubject section.shape rows section.limit subject old new)
    (λ adds rows of. subject_adds section.shape rows section.limit subject domain names asked_is (listed rows of) old new (adds rows of (in_order section.shape rows section.limit subject domain names asked_is (listed rows of)))) c.push_roles.ensures.took

pub returns-clause-stop : goal.returns-clause-stop
returns-clause-stop c =
    let section = c.args.section.now in
    let subject = user_in c.args.user.now c.args.domain.now in
    let domain = option_copied c.asked-asked.result in
    let names = c.fields.result.now in
    let old = c.args.text.now.items in
    let asked_is : domain ≡ asked section.shape c.args.domain.now = c.asked-asked.ensures.domain ∙ ap (λ (s : RoleShape). asked s c.args.domain.now) c.shape.ensures in
    let listed : (rows : List Fields) → IsSectionOf section rows → AreImplied section.shape rows section.limit domain c.args.user.now names =
    λ rows of. subst (AreImplied section.shape rows section.limit domain c.args.user.now) (sym c.fields.ensures.value)
    (subst (λ (u : List ℕ). AreImplied section.shape rows section.limit domain u c.in_ok-names.names) c.as_bytes.ensures.value (c.in_ok-names.ensures rows of)) in
    if_err c.push_roles.result (λ stop. (rows : List Fields) → IsSectionOf section rows → AreInOrder section.shape rows subject names → StopsRoles section.shape rows subject c.args.most old names stop)
    (λ stop. (rows : List Fields) → IsSectionOf section rows → StopsSubject section.shape rows section.limit subject c.args.most old stop)
    (λ stop stops rows of. subject_stops section.shape rows section.limit subject domain names asked_is (listed rows of) c.args.most old stop (stops rows of (in_order section.shape rows section.limit subject domain names asked_is (listed rows of)))) c.push_roles.ensures.stop
