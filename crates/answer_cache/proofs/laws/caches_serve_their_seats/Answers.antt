use Rattle.answer_cache.proofs.SeatLemmas.{same_edits, same_tables, serves_later}
use Rattle.answer_cache.proofs.laws.caches_serve_their_seats.Goals as goal

pub returns-clause-edits : goal.returns-clause-edits
returns-clause-edits c = same_edits

pub returns-clause-tables : goal.returns-clause-tables
returns-clause-tables c = same_tables

pub returns-clause-serves : goal.returns-clause-serves
returns-clause-serves c = serves_later
