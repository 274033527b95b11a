-- What callers cite: stages that follow one another, where a stream stops, and its sections line by line.
pub use Rattle.item_stream.proofs.CutLemmas.{goes_all, goes_first, goes_further, goes_nowhere, goes_then, goes_whole}
pub use Rattle.item_stream.proofs.KeepLemmas.{kept_short}
pub use Rattle.item_stream.proofs.KindLemmas.{kind_read}
pub use Rattle.item_stream.proofs.LineLemmas.{AllShort, AreTextLines, lines_are_text, long_is_told, sections_are, sections_on}
