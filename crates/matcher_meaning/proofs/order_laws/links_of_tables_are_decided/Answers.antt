use Rattle.matcher_meaning.proofs.CaseCallLemmas.{absent_links_nothing, link_is_decided, otherwise_links_nothing}
use Rattle.matcher_meaning.proofs.order_laws.links_of_tables_are_decided.Goals as goal

pub returns-clause-decided : goal.returns-clause-decided
returns-clause-decided c = link_is_decided c.links_are_decided.ensures.reaches

pub returns-clause-absent : goal.returns-clause-absent
returns-clause-absent c = absent_links_nothing

pub returns-clause-otherwise : goal.returns-clause-otherwise
returns-clause-otherwise c = otherwise_links_nothing
