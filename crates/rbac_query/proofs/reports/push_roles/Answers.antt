use Rattle.std.proofs.Common.{◌≡◌, ◌++◌, ◌<◌, ◌≤◌, Err, ℕ, List, get_or, length, rules, subst}
use Rattle.csv.specs.Writing.{default_writer, row_text}
use Rattle.policy_table.specs.Tables.{Fields}
use Rattle.role_domain.specs.Sections.{IsSectionOf}
use Rattle.role_meaning.specs.Distances.{IsFar}
use Rattle.rbac_query.specs.Helps.Entries.{IsRoleOf, role_name, role_record, role_text, user_in}
use Rattle.rbac_query.specs.Helps.Runs.{AreInOrder}
use Rattle.rbac_query.specs.Helps.Stops.{IsStop}
use Rattle.rbac_query.specs.Report.{asked}
use Rattle.rbac_query.proofs.EntryLemmas.{adds_none}
use Rattle.rbac_query.proofs.ReportLemmas.{roles_all, roles_more, roles_stop}
use Rattle.rbac_query.proofs.RunLemmas.{as_far_behind, as_far_here, as_far_none}
use Rattle.rbac_query.proofs.reports.push_roles.Goals as goal

pub loop-at-init : goal.loop-at-init
loop-at-init c =
    let shape = c.args.section.now.shape in
    let subject = user_in c.args.user.now c.args.domain.now in
    record {
      adds = λ rows of ordered. adds_none role_name (IsRoleOf shape rows subject) (role_text subject) c.args.text.now.items;
      within = c.requires;
      known = λ rows of ordered. as_far_none shape rows subject c.args.names.now 0 0;
    }

pub returns-in_err-push_role-clause-stop : goal.returns-in_err-push_role-clause-stop
returns-in_err-push_role-clause-stop c =
    let shape = c.args.section.now.shape in
    let user = c.args.user.now in
    let domain = c.args.domain.now in
    let subject = user_in user domain in
    let names = c.args.names.now in
    let text = c.loop-at.text.items in
    let run = c.run_at-run.result in
    let fault = c.in_err-push_role.field-0.0 in
    let within : c.loop-at.at < length names = search rules in
    let read : c.index-names-at.result ≡ get_or names c.loop-at.at c.index-names-at.result = search rules in
    let is : (rows : List Fields) → IsSectionOf c.args.section.now rows → AreInOrder shape rows subject names → IsFar shape rows (asked shape domain) user c.index-names-at.result run.links
    = λ rows of ordered. as_far_here shape rows subject names c.loop-at.at run.end run.links c.index-names-at.result (c.run_at-run.ensures.far rows of ordered (c.loop-at.invariant.known rows of ordered)) c.run_at-run.ensures.end within read in
    let stop : c.from_residual.result ≡ Err fault = search rules in
    rw stop
    (λ rows of ordered. roles_stop shape rows subject names c.loop-at.at c.index-names-at.result run.links within read (is rows of ordered) c.args.text.now.items text (c.loop-at.invariant.adds rows of ordered) c.args.most fault
    (subst (λ (n : List ℕ). IsStop c.args.most (text ++ row_text default_writer (role_record user domain n run.links)) fault) c.as_str.ensures c.in_err-push_role.ensures.stop))

pub loop-at-preserved : goal.loop-at-preserved
loop-at-preserved c =
    let shape = c.args.section.now.shape in
    let user = c.args.user.now in
    let domain = c.args.domain.now in
    let subject = user_in user domain in
    let names = c.args.names.now in
    let text = c.loop-at.text.items in
    let run = c.run_at-run.result in
    let within : c.loop-at.at < length names = search rules in
    let read : c.index-names-at.result ≡ get_or names c.loop-at.at c.index-names-at.result = search rules in
    let is : (rows : List Fields) → IsSectionOf c.args.section.now rows → AreInOrder shape rows subject names → IsFar shape rows (asked shape domain) user c.index-names-at.result run.links
    = λ rows of ordered. as_far_here shape rows subject names c.loop-at.at run.end run.links c.index-names-at.result (c.run_at-run.ensures.far rows of ordered (c.loop-at.invariant.known rows of ordered)) c.run_at-run.ensures.end within read in
    record {
      adds = λ rows of ordered. roles_more shape rows subject names c.loop-at.at c.index-names-at.result run.links within read (is rows of ordered) c.args.text.now.items text (c.loop-at.invariant.adds rows of ordered) c.push_role.new.text.items
          (subst (λ (n : List ℕ). c.push_role.new.text.items ≡ text ++ row_text default_writer (role_record user domain n run.links)) c.as_str.ensures c.in_ok-push_role.ensures.took);
      within = c.in_ok-push_role.ensures.within;
      known = λ rows of ordered. as_far_behind shape rows subject names c.loop-at.at run.end run.links (c.run_at-run.ensures.far rows of ordered (c.loop-at.invariant.known rows of ordered));
    }

pub returns-clause-took : goal.returns-clause-took
returns-clause-took c =
    let past : length c.args.names.now ≤ c.loop-at.at = search rules in
    λ rows of ordered. roles_all c.args.section.now.shape rows (user_in c.args.user.now c.args.domain.now) c.args.names.now c.loop-at.at c.args.text.now.items c.loop-at.text.items past (c.loop-at.invariant.adds rows of ordered)
