use Rattle.std.proofs.Common.{rules}
use Rattle.std.proofs.lemmas.List.Sorted.{answers_always}
use Rattle.role_graph.specs.Helps.Names.{is_before}
use Rattle.role_graph.proofs.GatherLemmas.{bytes_order}
use Rattle.role_graph.proofs.implied.sort.Goals as goal

pub returns-clause-rising : goal.returns-clause-rising
returns-clause-rising c = c.in_ok-sort_by.ensures.sorted is_before bytes_order (answers_always _ _ _ (λ f a r g h. search rules))
