-- Maps by names: what is found at a text, and after a change.
pub use Rattle.role_graph.proofs.CallerLemmas.{found_other, found_there, same_text, seen_after, seen_at, text_itself, text_there}
use Rattle.std.proofs.Common.{◌≡◌, ◌∙◌, ℕ, List, Option, ap}
use Rattle.std.specs.Map.{lookup}
use Rattle.std.specs.Str.{bytes_eq}
use Rattle.role_graph.specs.Keyed.{found}

-- what a map answers at bytes that are a text
pub seen_by : {X : Type 0} (text key : List ℕ) (entries seen : List (List ℕ × X)) (there : Option X) → key ≡ text → entries ≡ seen → there ≡ lookup (bytes_eq key) entries → there ≡ found seen text
seen_by {X} text key entries seen there same view is = seen_at key entries seen there view is ∙ ap (found seen) same
