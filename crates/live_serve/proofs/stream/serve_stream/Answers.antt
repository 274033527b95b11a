use Rattle.std.proofs.Common.{ap, ◌∙◌}
use Rattle.item_stream.specs.Sections.{first_stage}
use Rattle.live_serve.proofs.stream.serve_stream.Goals as goal

pub serve_pieces-requires-clause-no_byte : goal.serve_pieces-requires-clause-no_byte
serve_pieces-requires-clause-no_byte g c = λ lifetimes outlive. c.new-sections.ensures ∙ ap first_stage c.takes_packets.ensures
