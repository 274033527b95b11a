use Rattle.script_read.proofs.ReadLemmas.{same_fields, same_request, the_reader}
use Rattle.script_read.proofs.laws.texts_are_read_in_one_way.Goals as goal

pub returns : goal.returns
returns c = record { always = the_reader; fields = same_fields; request = same_request }
