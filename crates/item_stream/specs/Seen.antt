-- What is seen of sections and of what is held.
use Rattle.std.specs.Prelude.{Option, Some, None, option_map}
use Rattle.item_stream.specs.Sections.{Held}
use Rattle.item_stream.specs.Sections as sections
use Rattle.item_stream.specs.declared.held.Held as declared
use Rattle.item_stream.specs.declared.held.Held.TheVariants as held
use Rattle.item_stream.specs.declared.section.Section.{Section}
use Rattle.item_stream.specs.declared.section.Section.TheVariants.{TooLong, Lines}

abbrev pub seen : Section → sections.Section
seen TooLong = None
seen (Lines text) = Some text.items

-- a section that may be there
abbrev pub seen_option : Option Section → Option sections.Section
seen_option section = option_map seen section

abbrev pub seen_held : declared.Held → Held
seen_held held.Nothing = None
seen_held held.TooLong = Some None
seen_held (held.Lines count text) = Some (Some (count, text.items))
