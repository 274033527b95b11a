-- The lines of a stream: what is kept of each, and what it is to the lines before and behind it. A follower's stream has packets too.
use Rattle.std.specs.Prelude.{ℕ, ◌||◌, nat_eq, Bool, false, List, codes, take, if◌then◌else◌}
use Rattle.std.specs.List.{starts_with}
use Rattle.std.specs.Str.{bytes_eq, is_utf8}
use Rattle.text_parts.specs.Lines.{without_cr}
use Rattle.text_parts.specs.Passed.{is_passed}
use Rattle.script_read.specs.Lines.{begins_block, ends_block}
use Rattle.item_stream.specs.declared.kind.Kind.{Kind}

-- what is kept of a line: its first bytes, one more than a line may have
unfoldable pub kept : List ℕ → List ℕ
kept line = take 65537 line

-- the line begins with `edit` and a blank; it is `.`
abbrev pub begins_packet : List ℕ → Bool
begins_packet line = starts_with nat_eq line (codes "edit ")

abbrev pub ends_packet : List ℕ → Bool
ends_packet line = bytes_eq line (codes ".")

-- what a text is as a line: whether it is blank or a comment, has the word `begin`, is `end` alone; in a follower's stream also whether
-- it begins a packet, or ends one
abbrev pub kind_of_text : Bool → List ℕ → Kind
kind_of_text follow line = record {
  passed = is_passed line;
  begins = if follow then begins_block line || begins_packet line else begins_block line;
  ends = if follow then ends_block line || ends_packet line else ends_block line;
}

abbrev pub other_kind : Kind
other_kind = record { passed = false; begins = false; ends = false }

-- the same of bytes, of which a CR at the end is no part; what is not UTF-8 is none of these
unfoldable pub kind_of : Bool → List ℕ → Kind
kind_of follow line = if is_utf8 line then kind_of_text follow (without_cr line) else other_kind
