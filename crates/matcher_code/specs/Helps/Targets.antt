-- How the targets of members become known; only private clauses cite this.
use Rattle.std.specs.Prelude.{ℕ, zero}
use Rattle.matcher_code.specs.Compiled.{op_at}
use Rattle.matcher_code.specs.declared.op.Op.{Op}
use Rattle.matcher_code.specs.declared.op.Instruction.{Instruction}
use Rattle.matcher_code.specs.declared.op.Instruction.TheVariants as i

-- a member that goes on nowhere yet, since a target lies behind, goes on at this place
abbrev pub landing : ℕ → Instruction → Instruction
landing to (i.Member zero) = i.Member to
landing to other = other

abbrev pub landed : ℕ → Op → Op
landed to op = op_at op.at (landing to op.instruction)
