-- The files of a shelf, where it tells them: a map from names to bytes.
use Rattle.std.specs.Prelude.{◌≡◌, List, [], ◌∷◌, ℕ, Option, Some, None, if◌then◌else◌, bytes_eq, ⊤}

-- bytes by name; None where no file has the name
abbrev pub Files : Type 0
Files = List ℕ → Option (List ℕ)

-- the told files lack the name
abbrev pub Lacks : Option Files → List ℕ → Type 0
Lacks None name = ⊥
Lacks (Some files) name = files name ≡ None

-- the file of that name, where files are told, is these bytes
abbrev pub Holds : Option Files → List ℕ → List ℕ → Type 0
Holds None name bytes = ⊤
Holds (Some files) name bytes = files name ≡ Some bytes

-- the fact holds of the bytes of that name, where files are told
abbrev pub OfFile : Option Files → List ℕ → (List ℕ → Type 0) → Type 0
OfFile None name fact = ⊤
OfFile (Some files) name fact = (bytes : List ℕ) × (files name ≡ Some bytes) × fact bytes

-- the bytes of the first entry with the name
abbrev pub file_of : List (List ℕ × List ℕ) → Files
file_of [] name = None
file_of (entry ∷ entries) name = if bytes_eq entry.0 name then Some entry.1 else file_of entries name

-- after a file was put under the name, each other name has what it had
abbrev pub Puts : List ℕ → List ℕ → Files → Files → Type 0
Puts name bytes before after = (other : List ℕ) → after other ≡ (if bytes_eq name other then Some bytes else before other)
