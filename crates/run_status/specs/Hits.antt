-- The line that tells on standard error how many requests were answered from a cache.
use Rattle.std.specs.Prelude.{ℕ, List, ◌++◌, codes, decimal}

abbrev pub hits_line : ℕ → List ℕ
hits_line hits = codes "cache: hits " ++ decimal hits ++ codes "\n"
