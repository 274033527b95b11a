-- Entries in memory, seen as keys and values; only private functions cite this.
use Rattle.std.specs.Prelude.{◌≡◌, ◌≢◌, ℕ, List, [], map, Some, None, option_map, Result, Ok, Err, string_bytes}
use Rattle.std.specs.Borrow.{Bor}
use Rattle.text_parts.specs.Numbered.{Line, numbered, text_lines}
use Rattle.model_conf.specs.Logical.{IsWhole}
use Rattle.model_conf.specs.Sections.{Entry, entry, entries_of, said_fault, first_fault}
use Rattle.model_conf.specs.Statements.{LineContent, Statement, LineSays, HasStatements}
use Rattle.model_conf.specs.Helps.Steps.{Standing, standing, behind, section_text}
use Rattle.model_conf.specs.declared.fault.ModelFault.{ModelFault}
use Rattle.model_conf.specs.declared.fault.ModelFault.TheVariants as fault
use Rattle.model_conf.specs.declared.entries.Entry.{Entry as Kept}
use Rattle.model_conf.specs.declared.entries.Entries.{Entries}

abbrev pub entry_seen : Kept → Entry
entry_seen kept = entry kept.key.now (string_bytes kept.value)

abbrev pub entries_seen : List Kept → List Entry
entries_seen kept = map entry_seen kept

abbrev pub standing_seen : Entries → Standing
standing_seen kept = standing (option_map section_text kept.section) (entries_seen kept.entries.items)

-- a logical line that begins with this line was taken with those that continue it, or its fault was told
abbrev pub TakesLines : ℕ → List ℕ → List Line → Standing → Standing → Result (Bor (List ℕ) × ℕ) ModelFault → Type 0
TakesLines number text lines before after (Ok left) = (whole : List ℕ) × (said : LineContent) × IsWhole text lines whole (numbered left.1 (text_lines left.0.now)) × LineSays whole said
    × (said_fault before.entries before.section number said ≡ None) × (after ≡ behind before said)
TakesLines number text lines before after (Err stop) = stop ≢ fault.NoMemory → (whole : List ℕ) × (left : List Line) × (said : LineContent) × IsWhole text lines whole left × LineSays whole said
    × (said_fault before.entries before.section number said ≡ Some stop)

-- the entries of a text, or the fault of its first line that has one
abbrev pub ReadsEntries : List ℕ → Result Entries ModelFault → Type 0
ReadsEntries bytes (Ok kept) = (statements : List Statement) × HasStatements bytes statements × (first_fault [] statements ≡ None) × (entries_seen kept.entries.items ≡ entries_of statements)
ReadsEntries bytes (Err stop) = stop ≢ fault.NoMemory → (statements : List Statement) × HasStatements bytes statements × (first_fault [] statements ≡ Some stop)
