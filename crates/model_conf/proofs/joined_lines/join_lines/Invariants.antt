use denote.Shadow.{shadow}
use denote.Text.{Utf8}
use Rattle.std.proofs.Common.{ℕ, ◌+◌, ◌≤◌, List, length}
use Rattle.std.specs.Prelude.{string_bytes}
use Rattle.text_parts.specs.Numbered.{Line, numbered, text_lines}
use Rattle.model_conf.specs.Logical.{IsWhole}
use Rattle.model_conf.proofs.joined_lines.join_lines.Given as goal

abbrev pub invariant-loop-rest : goal.invariant-loop-rest
invariant-loop-rest l = record {
  utf8 : shadow (Utf8 l.rest);
  joins : (whole : List ℕ) (left : List Line) → IsWhole (string_bytes l.text) (numbered l.next (text_lines l.rest)) whole left → IsWhole (string_bytes l.fn.text) (numbered l.number (text_lines l.lines)) whole left;
  fewer : l.next + length l.rest ≤ l.number + length l.lines;
  shorter : length l.rest ≤ length l.lines;
}

abbrev pub decreases-loop-rest : goal.decreases-loop-rest
decreases-loop-rest l = length l.rest
