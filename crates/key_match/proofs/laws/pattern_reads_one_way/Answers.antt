use Rattle.key_match.proofs.SyntaxLemmas.{brace_reads, colon_reads, glob_reads, key_pattern-is, reads_as-is}
use Rattle.key_match.proofs.laws.pattern_reads_one_way.Goals as goal

pub returns-clause-colon : goal.returns-clause-colon
returns-clause-colon c = key_pattern-is colon_reads

pub returns-clause-brace : goal.returns-clause-brace
returns-clause-brace c = key_pattern-is brace_reads

pub returns-clause-glob : goal.returns-clause-glob
returns-clause-glob c = reads_as-is glob_reads 0
