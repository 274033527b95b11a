-- Words as they are read.
use Rattle.std.specs.Prelude.{ℕ, ⊤, List, String}
use Rattle.std.specs.Global.{Vec}
use Rattle.std.specs.declared.alloc.Global.{Global}
use Rattle.command_words.specs.Items.{texts}
use Rattle.command_words.specs.declared.command.Options.{Options}
use Rattle.run_status.specs.declared.stop.Stop.{Stop}
use Rattle.run_status.specs.declared.stop.Stop.TheVariants.{Words, NoMemory}
use Rattle.enforce_core.specs.Opened.{SaysOptions}

-- the texts of words that were made
abbrev pub all_texts : Vec (String Global) → List (List ℕ)
all_texts words = texts words.items

-- why a text says no options
abbrev pub OptionStops : List ℕ → Stop → Type 0
OptionStops text Words = (options : Options) → SaysOptions text options → ⊥
OptionStops text NoMemory = ⊤
OptionStops text _ = ⊥
