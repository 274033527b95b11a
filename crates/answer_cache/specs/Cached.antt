-- What contracts see of a cache: verdicts on requests over one version of a policy (Casbin, the cached enforcer).
use Rattle.std.specs.Prelude.{ℕ, ◌==◌, List, [], map, Contains, if◌then◌else◌}
use Rattle.effect_fold.specs.declared.verdict.Verdict.{Verdict}
use Rattle.perm_value.specs.Datum.{Datum}
use Rattle.perm_value.specs.Seen.{datum}
use Rattle.perm_value.specs.declared.value.Value.{Value}

-- the version of the policy, how many entries there are at most, and the entries, the most recent first: each a request and its verdict
pub record Cached : Type 0 where
  pub version : ℕ
  pub capacity : ℕ
  pub entries : List (List Value × Verdict)

-- an entry as it is compared: the data of its request, and its verdict
abbrev pub Entry : Type 0
Entry = List Datum × Verdict

-- the entries of a cache, as they are compared
abbrev pub entries_of : Cached → List Entry
entries_of cache = map (λ entry. (map datum entry.0, entry.1)) cache.entries

-- one of the entries is of this request
abbrev pub Stands : List Datum → List Entry → Type 0
Stands request entries = (verdict : Verdict) × Contains entries (request, verdict)

-- the cache at a version of the policy: where it is another than its own, no entry is left
abbrev pub at_version : ℕ → Cached → Cached
at_version version cache = if cache.version == version then cache else record { version = version; capacity = cache.capacity; entries = [] }
