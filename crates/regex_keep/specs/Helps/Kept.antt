-- The searches that are kept, each seen as the pattern that it is for.
use Rattle.std.specs.Prelude.{◌≡◌, ℕ, List, All}
use Rattle.std.specs.Global.{Vec}
use Rattle.lru.specs.LruCache.{LruCache}

-- how many patterns are kept
abbrev pub most_patterns : ℕ
most_patterns = 256

-- each stands under its pattern, and there is no room for more
pub record AreKept (searches : LruCache (Vec ℕ) (List ℕ)) : Type 0 where
  pub under : All (λ (entry : Vec ℕ × List ℕ). entry.1 ≡ entry.0.items) searches.entries
  pub most : searches.cap ≡ most_patterns
