-- The items of a text, and its first fault.
use Rattle.std.specs.Prelude.{◌≡◌, ℕ, Bool, List, ◌∷◌, ◌++◌, map, Ok, Err, IsUtf8}
use Rattle.std.specs.List.{AllZip}
use Rattle.script_read.specs.Blocks.{Part, part_item, parts}
use Rattle.script_read.specs.Lines.{requests_of, script_lines}
use Rattle.script_read.specs.Reads.{Reader}
use Rattle.script_read.specs.Said.{Said, asks}
use Rattle.script_read.specs.declared.fault.ScriptFault.{ScriptFault}
use Rattle.script_read.specs.declared.fault.ScriptFault.TheVariants.{NotUtf8}
use Rattle.text_parts.specs.Full.{full_lines}

-- the parts say these items, one each
abbrev pub SayItems : {json : Bool} → Reader json → List Part → List Said → Type 0
SayItems reader texts items = AllZip (λ (part : Part) (item : Said). part_item reader.fields reader.request part ≡ Ok item) texts items

-- the bytes are UTF-8, and each part says an item
pub record IsScript (json : Bool) (bytes : List ℕ) (items : List Said) : Type 0 where
  pub utf8 : IsUtf8 bytes
  pub reader : Reader json
  pub says : SayItems reader (parts (script_lines bytes)) items

-- the lines of a text, numbered from here on, say these items
pub record SaysFrom (json : Bool) (number : ℕ) (text : List ℕ) (items : List Said) : Type 0 where
  pub reader : Reader json
  pub says : SayItems reader (parts (full_lines number text)) items

-- behind parts that say items stands a part with this fault
pub record IsFaultInPart (json : Bool) (bytes : List ℕ) (fault : ScriptFault) : Type 0 where
  pub reader : Reader json
  pub front : List Part
  pub part : Part
  pub behind : List Part
  pub items : List Said
  pub are_parts : parts (script_lines bytes) ≡ front ++ part ∷ behind
  pub says : SayItems reader front items
  pub bad : part_item reader.fields reader.request part ≡ Err fault

-- the first fault of the bytes
pub data IsScriptFault (json : Bool) (bytes : List ℕ) (fault : ScriptFault) : Type 0 where
  not_utf8 : ¬ (IsUtf8 bytes) → fault ≡ NotUtf8 → IsScriptFault json bytes fault
  in_part : IsUtf8 bytes → IsFaultInPart json bytes fault → IsScriptFault json bytes fault

-- the bytes are UTF-8, and each line that is not passed over is a request, or is at fault as one
pub record IsRequests (json : Bool) (bytes : List ℕ) (items : List Said) : Type 0 where
  pub utf8 : IsUtf8 bytes
  pub reader : Reader json
  pub asked : items ≡ map (λ (line : List ℕ). asks (reader.request line)) (requests_of bytes)
