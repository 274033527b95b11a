use Rattle.std.proofs.Common.{rules}
use Rattle.file_lint.proofs.RowLemmas.{block_told}
use Rattle.file_lint.proofs.rows.is_block.Goals as goal

pub returns : goal.returns
returns c = block_told c.args.text.now c.as_bytes.result.now c.read_block.result c.is_some.result c.as_bytes.ensures.value (search rules) c.read_block.ensures.found c.read_block.ensures.only
