-- The pieces that a message is pushed in.
use Rattle.std.specs.Prelude.{ℕ, List, ◌++◌, Option, Some, None, decimal}
use Rattle.run_status.specs.declared.message.Message.{Message}
use Rattle.run_status.specs.declared.message.Piece.{Piece}

-- a text, and the number behind it where there is one
abbrev pub with_number : List ℕ → Option ℕ → List ℕ
with_number text None = text
with_number text (Some number) = text ++ decimal number

abbrev pub piece_text : Piece → List ℕ
piece_text piece = with_number piece.text.now piece.number

-- the whole message
abbrev pub text_of : Message → List ℕ
text_of message = piece_text message.first ++ piece_text message.second ++ piece_text message.third
