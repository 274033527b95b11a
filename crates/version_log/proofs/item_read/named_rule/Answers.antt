use Rattle.std.proofs.Common.{arith, rules}
use Rattle.version_log.proofs.SpellingLemmas.{rest_whole}
use Rattle.version_log.proofs.item_read.named_rule.Goals as goal

pub from_vec-requires : goal.from_vec-requires
from_vec-requires c = record {
  few = search (rules, arith);
  whole_lines = rest_whole c.args.fields.items c.remove-name.new.self.items c.remove-name.ensures.items c.requires.fields.whole_lines;
}
