use Rattle.file_lint.proofs.RoundLemmas.{errors_begin}
use Rattle.file_lint.proofs.laws.errors_begin_with_the_fault.Goals as goal

pub returns : goal.returns
returns c = λ bytes first errors has. errors_begin 999 bytes first errors has
