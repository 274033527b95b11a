use Rattle.std.proofs.Common.{◌++◌, ap, ◌∙◌}
use Rattle.matcher_read.specs.Expression.{expression}
use Rattle.file_lint.specs.Nodes.{nodes_of}
use Rattle.file_lint.specs.Helps.Trees.{seen}
use Rattle.file_lint.proofs.nodes.nodes_of.Goals as goal

pub returns : goal.returns
returns c = c.in_ok-push_nodes.ensures ∙ ap (λ nodes. seen nodes ++ nodes_of (expression c.args.tree.now)) c.new-nodes.ensures.items
