use Rattle.rbac_query.proofs.ReportLemmas.{report_one, report_there}
use Rattle.rbac_query.proofs.laws.relation_has_one_report.Goals as goal

pub returns-clause-there : goal.returns-clause-there
returns-clause-there c = report_there c.distance_is_one.ensures.there c.links_are_decided.ensures.reaches

pub returns-clause-unique : goal.returns-clause-unique
returns-clause-unique c = report_one
