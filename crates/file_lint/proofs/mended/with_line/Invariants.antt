use Rattle.std.proofs.Common.{◌≡◌, ◌+◌, ◌++◌, ◌≤◌, length}
use Rattle.std.specs.Prelude.{string_bytes}
use Rattle.std.specs.Str.{IsUtf8}
use Rattle.text_parts.specs.Lines.{with_ends}
use Rattle.text_parts.specs.Numbered.{numbered, text_lines}
use Rattle.file_lint.specs.Mended.{replaced, with_line}
use Rattle.file_lint.proofs.mended.with_line.Given as goal

abbrev pub invariant-loop-line : goal.invariant-loop-line
invariant-loop-line l = record {
  left : string_bytes l.made ++ with_ends (replaced l.extent l.at l.by l.reach (numbered l.number (text_lines l.rest))) ≡ with_line l.extent l.at l.by l.text;
  within : l.number + length l.rest ≤ 1 + length l.text;
  utf8 : IsUtf8 l.rest;
}

abbrev pub decreases-loop-line : goal.decreases-loop-line
decreases-loop-line l = length l.rest
