-- What the steps of reading give; only private functions cite this.
use Rattle.std.specs.Prelude.{◌≡◌, ◌≢◌, ℕ, ◌==◌, ◌||◌, if◌then◌else◌, List, [], ◌∷◌, ◌++◌, codes, Option, Some, None, Result, Ok, Err}
use Rattle.model_conf.specs.Sections.{Entry, entry, said_fault}
use Rattle.model_conf.specs.Statements.{LineContent, header, pair, nothing}
use Rattle.model_conf.specs.declared.fault.ModelFault.{ModelFault}
use Rattle.model_conf.specs.declared.fault.ModelFault.TheVariants as fault
use Rattle.model_conf.specs.declared.line_content.LineContent.{LineContent as ContentBytes}
use Rattle.model_conf.specs.declared.line_content.LineContent.TheVariants as said
use Rattle.model_conf.specs.declared.sections.Section.{Section}
use Rattle.model_conf.specs.declared.sections.Section.TheVariants as section

-- what a line says, seen as bytes
abbrev pub said_by : ContentBytes → LineContent
said_by (said.Header name) = header name.now
said_by (said.Pair key value) = pair key.now value.now
said_by said.Nothing = nothing

-- the sign of the quoted text that is open behind one byte more
abbrev pub quote_after : Option ℕ → ℕ → Option ℕ
quote_after None byte = if (byte == 34 || byte == 39) then Some byte else None
quote_after (Some sign) byte = if sign == byte then None else Some sign

-- how a section is written
abbrev pub section_text : Section → List ℕ
section_text section.Request = codes "request_definition"
section_text section.Policy = codes "policy_definition"
section_text section.Roles = codes "role_definition"
section_text section.Effect = codes "policy_effect"
section_text section.Matchers = codes "matchers"

-- what stands behind some lines: the section of the last header, and the key lines
pub record Standing : Type 0 where
  pub section : Option (List ℕ)
  pub entries : List Entry

abbrev pub standing : Option (List ℕ) → List Entry → Standing
standing section entries = record { section = section; entries = entries }

-- behind one line more
abbrev pub behind : Standing → LineContent → Standing
behind s (header name) = standing (Some name) s.entries
behind s (pair key value) = standing s.section (s.entries ++ entry key value ∷ [])
behind s nothing = s

-- the fault of a line, if it has one, and what stands behind it otherwise
abbrev pub Takes : Standing → Standing → ℕ → LineContent → Result (Unit {0}) ModelFault → Type 0
Takes before after number said (Ok done) = (said_fault before.entries before.section number said ≡ None) × (after ≡ behind before said)
Takes before after number said (Err stop) = stop ≢ fault.NoMemory → said_fault before.entries before.section number said ≡ Some stop
