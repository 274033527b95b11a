use Rattle.std.proofs.Common.{length}
use Rattle.std.specs.Prelude.{string_bytes}
use Rattle.std.specs.Str.{IsUtf8}
use Rattle.script_read.specs.Lines.{requests_of}
use Rattle.script_read.specs.Reads.{Reader}
use Rattle.loaded_work.proofs.PrintLemmas.{IsPrinted, run_over, seen_between}
use Rattle.loaded_work.proofs.court.print_answers.Given as goal

abbrev pub invariant-loop-line : goal.invariant-loop-line
invariant-loop-line g l = record {
  printed : (reader : Reader l.court.json) → IsPrinted (run_over l.court.program.now l.court.state.now reader (requests_of l.input)) (requests_of l.rest) l.number (string_bytes l.text)
      (seen_between (g.K.Sink.taken l.initial.out) (g.K.Sink.taken l.out) (g.K.Sink.faults l.initial.out) (g.K.Sink.faults l.out) (g.P.Finder.refusals l.initial.finder) (g.P.Finder.refusals l.finder));
  utf8 : IsUtf8 l.rest;
}

abbrev pub decreases-loop-line : goal.decreases-loop-line
decreases-loop-line g l = length l.rest
