use Rattle.std.proofs.Common.{sym, ◌∙◌}
use Rattle.regex_keep.proofs.KeptLemmas.{kept_tried}
use Rattle.regex_keep.proofs.kept_searches.KeptSearches.keep.Goals as goal

pub invariant_of-self : goal.invariant_of-self
invariant_of-self c = record {
  are_kept = kept_tried c.args.self.now.searches c.put.new.self c.in-Ok.key c.args.search c.put.result c.args.self.now.are_kept (c.requires ∙ sym c.in-Ok.ensures.items) c.put.ensures.entries c.put.ensures.err;
}
