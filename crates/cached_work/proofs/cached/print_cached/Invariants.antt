use Rattle.std.proofs.Common.{◌+◌, ◌≤◌, length}
use Rattle.std.specs.Prelude.{string_bytes}
use Rattle.std.specs.Str.{IsUtf8}
use Rattle.script_read.specs.Lines.{requests_of}
use Rattle.script_read.specs.Reads.{Reader}
use Rattle.cached_work.specs.Helps.CacheSteps.{IsGoodCache}
use Rattle.cached_work.proofs.CachedLemmas.{IsCached}
use Rattle.loaded_work.proofs.CallerLemmas.{run_over, seen_between}
use Rattle.cached_work.proofs.cached.print_cached.Given as goal

abbrev pub invariant-loop-line : goal.invariant-loop-line
invariant-loop-line g l = record {
  printed : (reader : Reader l.court.json) → IsCached (run_over l.court.program.now l.court.state.now reader (requests_of l.input)) l.initial.cache.capacity (requests_of l.rest) l.number (string_bytes l.text)
      (seen_between (g.K.Sink.taken l.initial.out) (g.K.Sink.taken l.out) (g.K.Sink.faults l.initial.out) (g.K.Sink.faults l.out) (g.P.Finder.refusals l.initial.finder) (g.P.Finder.refusals l.finder)) l.cache l.hits;
  good : IsGoodCache l.court.program.now l.court.state.now l.cache;
  few : l.hits + length l.rest ≤ length l.input;
  utf8 : IsUtf8 l.rest;
}

abbrev pub decreases-loop-line : goal.decreases-loop-line
decreases-loop-line g l = length l.rest
