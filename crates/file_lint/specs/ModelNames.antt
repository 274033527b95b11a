-- Names in a model: of a section, of a key that is written in upper case, and the key in front of a column; and the byte-order mark.
use Rattle.std.specs.Prelude.{ℕ, ◌==◌, List, [], ◌∷◌, codes, Option, Some, None, if◌then◌else◌}
use Rattle.std.specs.List.{after_first, before_first}
use Rattle.std.specs.Str.{bytes_eq}
use Rattle.model_conf.specs.declared.key.Key.{Key}
use Rattle.model_conf.specs.declared.key.Key.TheVariants as k
use Rattle.text_parts.specs.Blanks.{trimmed}

-- the byte-order mark of UTF-8 (RFC 3629, 6)
abbrev pub order_mark : List ℕ
order_mark = 239 ∷ 187 ∷ 191 ∷ []

-- the name between `[` and `]`
abbrev pub header_in : List ℕ → List ℕ
header_in line = trimmed (before_first (λ (byte : ℕ). byte == 93) (after_first (λ (byte : ℕ). byte == 91) line))

-- keys that are written in upper case
abbrev pub lower_of : List ℕ → Option (List ℕ)
lower_of key =
    if bytes_eq key (codes "R") then Some (codes "r")
    else if bytes_eq key (codes "P") then Some (codes "p")
    else if bytes_eq key (codes "E") then Some (codes "e")
    else if bytes_eq key (codes "M") then Some (codes "m")
    else if bytes_eq key (codes "G") then Some (codes "g")
    else None

-- the section of a key
abbrev pub section_of : Key → List ℕ
section_of k.R = codes "request_definition"
section_of k.P = codes "policy_definition"
section_of k.E = codes "policy_effect"
section_of k.M = codes "matchers"

-- the key that a column stands behind, `r` or `p`, and what stands behind the `.`
abbrev pub key_of : ℕ → List ℕ → Option (Key × List ℕ)
key_of byte rest = if byte == 114 then Some (k.R, rest) else if byte == 112 then Some (k.P, rest) else None

abbrev pub key_behind : ℕ → List ℕ → Option (Key × List ℕ)
key_behind byte [] = None
key_behind byte (dot ∷ rest) = if dot == 46 then key_of byte rest else None

abbrev pub key_and_rest : List ℕ → Option (Key × List ℕ)
key_and_rest [] = None
key_and_rest (byte ∷ behind) = key_behind byte behind
