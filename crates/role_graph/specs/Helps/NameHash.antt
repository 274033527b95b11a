-- How a name is hashed: it is fed as its length and then its bytes, one after the other.
use Rattle.std.specs.Prelude.{ℕ, ◌*◌, ◌%◌, ◌^◌, List, bit_xor, slice_get, unwrap_or}
use Rattle.role_graph.specs.declared.name_hash.NameHasher.{NameHasher}

abbrev pub initial : NameHasher
initial = record { state = 0x243f_6a88_85a3_08d3 }

-- the state behind a byte
abbrev pub mixed : ℕ → ℕ → ℕ
mixed state byte = (bit_xor state byte * 0x9e37_79b9_7f4a_7c15) % 2 ^ 64

-- the state behind a piece, of which the first byte counts
abbrev pub written : NameHasher → List ℕ → NameHasher
written hasher bytes = record { state = mixed hasher.state (unwrap_or (slice_get bytes 0) 0) }

abbrev pub finished : NameHasher → ℕ
finished hasher = hasher.state
