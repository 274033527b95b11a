use Rattle.item_stream.proofs.CutLemmas.{all_begin, whole_begin}
use Rattle.item_stream.proofs.laws.front_is_cut_first.Goals as goal

pub returns : goal.returns
returns c = record { all = all_begin; whole = whole_begin }
