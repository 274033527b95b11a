use Rattle.std.proofs.Common.{◌≡◌, ◌++◌, drop}
use Rattle.std.specs.Prelude.{string_bytes}
use Rattle.near_miss.specs.Written.{path_words}
use Rattle.near_miss.proofs.words.push_path.Given as goal

abbrev pub invariant-loop-name : goal.invariant-loop-name
invariant-loop-name l = string_bytes l.text ++ path_words (drop l.name-index l.path) ≡ string_bytes l.fn.text ++ path_words l.path
