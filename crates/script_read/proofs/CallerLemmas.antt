-- What a caller cites of how texts are read: there is a reader, and all of them read the same request.
pub use Rattle.script_read.proofs.ReadLemmas.{same_request, the_reader}
