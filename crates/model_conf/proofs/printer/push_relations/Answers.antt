use Rattle.std.proofs.Common.{sym, ◌∙◌, arith}
use Rattle.std.specs.Prelude.{string_bytes}
use Rattle.model_conf.proofs.PrintLemmas.{roles_whole}
use Rattle.model_conf.proofs.printer.push_relations.Goals as goal

pub returns : goal.returns
returns c = roles_whole (string_bytes c.loop-shape.text) (string_bytes c.args.text.now) _ c.args.relations.now c.loop-shape.shape-index c.in_ok-push_str.ensures.bytes c.loop-shape.invariant (omega arith) (sym c.is_empty.ensures ∙ c.if-is_empty.false)
