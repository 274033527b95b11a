-- What private clauses see of lists that are cut.
use Rattle.std.specs.Prelude.{ℕ, List, [], Option, Some, None}
use Rattle.std.specs.Borrow.{Bor}
use Rattle.std.specs.List.{slice_split}
use Rattle.command_words.specs.Values.{is_comma}

-- the entries of a list that is left, between its commas
abbrev pub entries_of : Option (Bor (List ℕ)) → List (List ℕ)
entries_of None = []
entries_of (Some list) = slice_split is_comma list.now
