-- The texts of words that were made.
use Rattle.std.specs.Prelude.{ℕ, List, String}
use Rattle.std.specs.Global.{Vec}
use Rattle.std.specs.declared.alloc.Global.{Global}
use Rattle.command_words.specs.Items.{texts}

abbrev pub all_texts : Vec (String Global) → List (List ℕ)
all_texts words = texts words.items
