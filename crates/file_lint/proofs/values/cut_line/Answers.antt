use Rattle.std.proofs.Common.{◌∙◌, arith}
use Rattle.file_lint.proofs.CutLemmas.{front_here, front_past, rest_here, rest_past}
use Rattle.file_lint.proofs.values.cut_line.Goals as goal

pub returns-then-before-bytes-clause-front : goal.returns-then-before-bytes-clause-front
returns-then-before-bytes-clause-front c =
    front_past c.as_bytes-bytes.result.now _ c.bytes_before-before.result _ (c.as_bytes-bytes.ensures.value ∙ c.line_at.ensures) c.bytes_before-before.ensures (omega arith)

pub returns-then-before-bytes-clause-rest : goal.returns-then-before-bytes-clause-rest
returns-then-before-bytes-clause-rest c =
    rest_past c.as_bytes-bytes.result.now _ c.bytes_before-before.result _ (c.as_bytes-bytes.ensures.value ∙ c.line_at.ensures) c.bytes_before-before.ensures (omega arith)

pub returns-clause-front : goal.returns-clause-front
returns-clause-front c = front_here c.as_bytes-bytes.result.now _ c.bytes_before-before.result _ (c.as_bytes-bytes.ensures.value ∙ c.line_at.ensures) c.bytes_before-before.ensures

pub returns-clause-rest : goal.returns-clause-rest
returns-clause-rest c = rest_here c.as_bytes-bytes.result.now _ c.bytes_before-before.result _ (c.as_bytes-bytes.ensures.value ∙ c.line_at.ensures) c.bytes_before-before.ensures
